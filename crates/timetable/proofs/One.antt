-- Any two answers, and any two rows, that a contract allows are equal. Assumes nothing.
use mathlib.Core.Path.{◌≡◌, sym, ap, ◌∙◌}
use mathlib.Core.List.{List}
use Prim.Native.Nat.{ℕ, ◌+◌}
use native.Mathlib.Omega.{arith}
use lib.IntN.{ℤ}
use Rattle.network.specs.declared.Answer.{Answer}
use Rattle.network.specs.declared.Filled.{Filled}
use Rattle.network.specs.Network.{Network, net, events}
use Rattle.numbers.specs.Row.{at}
use Rattle.network.specs.PublicRule.{cost_of}
use Rattle.network.specs.Refusals.{answer, after}
use Rattle.network.specs.Rows.{written, ArcRows, noted}
use Rattle.search.proofs.Agreeing.{smallest_one}
use Rattle.timetable.specs.Check.{Checked}
use Rattle.timetable.specs.Measure.{Measured}
use Rattle.timetable.specs.PrintText.{Printed}
use Rattle.timetable.specs.ReadText.{Read}
use Rattle.timetable.specs.Rebuild.{Sheet, Restored, Rebuilt}
use Rattle.timetable.specs.Rebuild.Restored.{impossible, restored}
use Rattle.timetable.specs.Rebuild.Rebuilt.{refused as not-judged, judged}
use Rattle.timetable.specs.Solve.{Found, Solved}
use Rattle.timetable.specs.Solve.Found.{infeasible, solved}
use Rattle.timetable.specs.Solve.Solved.{refused, searched}
use Rattle.timetable.proofs.Sheets.{first_one, stands_allowed, stands_one}
use Rattle.timetable.proofs.Rebuilds.{sheet_judged}

pub check_one : {N : Network} {t : List ℕ} {r s : Answer} → Checked N t r → Checked N t s → r ≡ s
check_one p q = p.answer ∙ sym q.answer

pub measure_one : {N : Network} {t : List ℕ} {was is also : ArcRows} {r s : Answer} → Measured N t was is r → Measured N t was also s → (is ≡ also) × (r ≡ s)
measure_one {N} {t} {was} p q =
    let e = p.answer ∙ sym q.answer in
    (p.rows ∙ ap (λ (o : Answer). after o (noted N t was) was) e ∙ sym q.rows, e)

found_one : {N : Network} {times times' also : List ℕ} {rows rows' too : ArcRows} {r s : Answer}
    → Found N times rows times' rows' r → Found N times rows also too s → (times' ≡ also) × (rows' ≡ too) × (r ≡ s)
found_one (infeasible n e f a) (infeasible m e' f' b) = (e ∙ sym e', f ∙ sym f', a ∙ sym b)
found_one (infeasible n e f a) (solved t p e' f' b) = absurd (n t p.feasible)
found_one (solved t p e f a) (infeasible n e' f' b) = absurd (n t p.feasible)
found_one {N} {times} {rows = rows} (solved t p e f a) (solved u q e' f' b) =
    let o = smallest_one p q in (
      e ∙ ap (λ (l : List ℕ). written (at l) (events N) times) o ∙ sym e',
      f ∙ ap (λ (l : List ℕ). noted N l rows) o ∙ sym f',
      a ∙ ap (λ (l : List ℕ). answer 0 0 (cost_of N l)) o ∙ sym b,
    )

pub solve_one : {N : Network} {times times' also : List ℕ} {rows rows' too : ArcRows} {r s : Answer}
    → Solved N times rows times' rows' r → Solved N times rows also too s → (times' ≡ also) × (rows' ≡ too) × (r ≡ s)
solve_one (refused n a e f) (refused m b e' f') = (e ∙ sym e', f ∙ sym f', a ∙ sym b)
solve_one (refused n a e f) (searched z q) = absurd (n (ap (λ (o : Answer). o.code) a ∙ z))
solve_one (searched z p) (refused n a e f) = absurd (n (ap (λ (o : Answer). o.code) a ∙ z))
solve_one (searched z p) (searched y q) = found_one p q

restored_one : {N : Network} {x : List ℤ} {times times' also : List ℕ} {r s : Answer} → Sheet N x
    → Restored N x times times' r → Restored N x times also s → (times' ≡ also) × (r ≡ s)
restored_one {N} {x} S (impossible k h c n e a) (impossible l i d m e' b) = (e ∙ sym e', a ∙ ap (λ (j : ℕ). answer 13 j 0) (first_one N x c n d m) ∙ sym b)
restored_one S (impossible k h c n e a) (restored t p e' b) = absurd (n (stands_allowed S p (k + 1) (omega arith)))
restored_one S (restored t p e a) (impossible k h c n e' b) = absurd (n (stands_allowed S p (k + 1) (omega arith)))
restored_one {N} {times = times} S (restored t p e a) (restored u q e' b) =
    let o = stands_one S p q in (
      e ∙ ap (λ (l : List ℕ). written (at l) (events N) times) o ∙ sym e',
      a ∙ ap (λ (l : List ℕ). answer 0 0 (cost_of N l)) o ∙ sym b,
    )

pub rebuild_one : {N : Network} {x : List ℤ} {times times' also : List ℕ} {r s : Answer}
    → Rebuilt N x times times' r → Rebuilt N x times also s → (times' ≡ also) × (r ≡ s)
rebuild_one (not-judged n a e) (not-judged m b e') = (e ∙ sym e', a ∙ sym b)
rebuild_one (not-judged n a e) (judged z q) = absurd (n (ap (λ (o : Answer). o.code) a ∙ z))
rebuild_one (judged z p) (not-judged n a e) = absurd (n (ap (λ (o : Answer). o.code) a ∙ z))
rebuild_one {N} {x} {times} (judged z p) (judged y q) = restored_one (sheet_judged N x times z) p q

pub read_one : {E A : List ℕ} {N N' also : Network} {r s : Filled} → Read E A N N' r → Read E A N also s → (N' ≡ also) × (r ≡ s)
read_one p q = (
  λ i. net ((p.periods ∙ sym q.periods) i) ((p.tails ∙ sym q.tails) i) ((p.heads ∙ sym q.heads) i)
      ((p.lowers ∙ sym q.lowers) i) ((p.uppers ∙ sym q.uppers) i) ((p.weights ∙ sym q.weights) i),
  p.answer ∙ sym q.answer,
)

pub print_one : {N : Network} {E A E' A' also too : List ℕ} {r s : Filled} → Printed N E A E' A' r → Printed N E A also too s → (E' ≡ also) × (A' ≡ too) × (r ≡ s)
print_one p q = (p.events ∙ sym q.events, p.arcs ∙ sym q.arcs, p.answer ∙ sym q.answer)
