-- Code 18 of the four calls that judge a network, of their contracts alone: where none of codes 1 to 8 applies, it is given exactly if two arcs repeat one
-- another, at the second arc of the first pair. Assumes nothing.
use mathlib.Core.Path.{◌≡◌, refl, sym, ap, ◌∙◌}
use mathlib.Core.List.{List, ◌++◌}
use Prim.Native.Nat.{ℕ}
use native.Mathlib.Omega.{arith}
use lib.IntN.{ℤ}
use lib.ListN.{length}
use Rattle.network.specs.declared.Answer.{Answer}
use Rattle.network.specs.Network.{Network, arcs}
use Rattle.network.specs.PublicRule.{cost_of}
use Rattle.network.specs.Refusals.{Refusal, answer, answer_of}
use Rattle.network.specs.Table.{FirstPair, OnlyRepeats, refusals_with}
use Rattle.network.specs.Rows.{ArcRows}
use Rattle.network.proofs.Refusing.{stops, listed}
use Rattle.network.proofs.Repeats.{pair_said, pair_refused}
use Rattle.timetable.specs.Check.{check_refusals, check_of, Checked}
use Rattle.timetable.specs.Measure.{measure_refusals, measure_of, Measured}
use Rattle.timetable.specs.Solve.{solve_refusals, solve_judged, Solved}
use Rattle.timetable.specs.Solve.Found.{infeasible, solved}
use Rattle.timetable.specs.Solve.Solved.{refused, searched}
use Rattle.timetable.specs.Rebuild.{rebuild_refusals, rebuild_judged, Rebuilt}
use Rattle.timetable.specs.Rebuild.Restored.{impossible, restored}
use Rattle.timetable.specs.Rebuild.Rebuilt.{refused as not-judged, judged}

-- an answer with another code
other : {r : Answer} {c p x : ℕ} → r ≡ answer c p x → (c ≡ 18 → ⊥) → r.code ≡ 18 → ⊥
other a n e = n (sym (ap (λ (o : Answer). o.code) a) ∙ e)

pub check_repeat : {N : Network} {t : List ℕ} {r : Answer} → Checked N t r → r.code ≡ 18 → FirstPair N r.place
unfolding listed check_refusals check_of
check_repeat {N} {t} p e = pair_said (arcs N) (check_refusals N t) (cost_of N t) refl p.answer e

pub measure_repeat : {N : Network} {t : List ℕ} {was is : ArcRows} {r : Answer} → Measured N t was is r → r.code ≡ 18 → FirstPair N r.place
unfolding listed measure_refusals measure_of
measure_repeat {N} {t} {was} p e = pair_said (arcs N) (measure_refusals N t was) (cost_of N t) refl p.answer e

pub solve_repeat : {N : Network} {times times' : List ℕ} {rows rows' : ArcRows} {r : Answer}
    → Solved N times rows times' rows' r → r.code ≡ 18 → FirstPair N r.place
unfolding listed solve_refusals solve_judged
solve_repeat {N} {times} {rows = rows} (refused n q _ _) e = pair_said (arcs N) (solve_refusals N times rows) 0 refl q e
solve_repeat (searched z (infeasible n _ _ a)) e = absurd (other a (λ k. omega arith) e)
solve_repeat (searched z (solved t s _ _ a)) e = absurd (other a (λ k. omega arith) e)

pub rebuild_repeat : {N : Network} {x : List ℤ} {times times' : List ℕ} {r : Answer} → Rebuilt N x times times' r → r.code ≡ 18 → FirstPair N r.place
unfolding listed rebuild_refusals rebuild_judged
rebuild_repeat {N} {x} {times} (not-judged n q _) e = pair_said (length x) (rebuild_refusals N x times) 0 refl q e
rebuild_repeat (judged z (impossible k h c n _ a)) e = absurd (other a (λ k. omega arith) e)
rebuild_repeat (judged z (restored t s _ a)) e = absurd (other a (λ k. omega arith) e)

-- ---- and the other way round

coded_18 : {r : Answer} {b : ℕ} → r ≡ answer 18 b 0 → r.code ≡ 0 → ⊥
coded_18 a z =
    let k : ◌≡◌ {A = ℕ} 18 0 = sym (ap (λ (o : Answer). o.code) a) ∙ z in
    omega arith

pair : {N : Network} {b : ℕ} {r : Answer} (further : ℕ) (rs : List Refusal) (x : ℕ) → OnlyRepeats N further → FirstPair N b
    → r ≡ answer_of (refusals_with N further ++ rs) x → r ≡ answer 18 b 0
pair {N} further rs x c p q =
    let e = pair_refused further c p in
    q ∙ stops (refusals_with N further) rs x (coded_18 e) ∙ e

pub check_pair : {N : Network} {t : List ℕ} {b : ℕ} {r : Answer} → Checked N t r → OnlyRepeats N (arcs N) → FirstPair N b → r ≡ answer 18 b 0
unfolding check_of
check_pair {N} {t} p c k = pair (arcs N) (check_refusals N t) (cost_of N t) c k p.answer

pub measure_pair : {N : Network} {t : List ℕ} {was is : ArcRows} {b : ℕ} {r : Answer}
    → Measured N t was is r → OnlyRepeats N (arcs N) → FirstPair N b → r ≡ answer 18 b 0
unfolding measure_of
measure_pair {N} {t} {was} p c k = pair (arcs N) (measure_refusals N t was) (cost_of N t) c k p.answer

pub solve_pair : {N : Network} {times times' : List ℕ} {rows rows' : ArcRows} {b : ℕ} {r : Answer}
    → Solved N times rows times' rows' r → OnlyRepeats N (arcs N) → FirstPair N b → r ≡ answer 18 b 0
unfolding solve_judged
solve_pair {N} {times} {rows = rows} (refused n q _ _) c k = pair (arcs N) (solve_refusals N times rows) 0 c k q
solve_pair {N} {times} {rows = rows} (searched z _) c k = absurd (coded_18 (pair (arcs N) (solve_refusals N times rows) 0 c k refl) z)

pub rebuild_pair : {N : Network} {x : List ℤ} {times times' : List ℕ} {b : ℕ} {r : Answer}
    → Rebuilt N x times times' r → OnlyRepeats N (length x) → FirstPair N b → r ≡ answer 18 b 0
unfolding rebuild_judged
rebuild_pair {N} {x} {times} (not-judged n q _) c k = pair (length x) (rebuild_refusals N x times) 0 c k q
rebuild_pair {N} {x} {times} (judged z _) c k = absurd (coded_18 (pair (length x) (rebuild_refusals N x times) 0 c k refl) z)
