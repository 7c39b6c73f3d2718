-- The cost is below 2^34, of the contracts of the four calls that work one out. Assumes nothing.
use mathlib.Core.Path.{◌≡◌, sym, ap, ◌∙◌}
use mathlib.Core.Logic.{inl, inr}
use mathlib.Core.List.{List, ◌++◌}
use Prim.Native.Nat.{ℕ, ◌<◌}
use native.Mathlib.Omega.{arith}
use lib.IntN.{ℤ}
use lib.ListN.{length}
use Rattle.network.specs.declared.Answer.{Answer}
use Rattle.network.specs.Network.{Network}
use Rattle.network.specs.PublicRule.{cost_of, Timetable}
use Rattle.network.specs.Refusals.{Refusal, answer, answer_of}
use Rattle.network.specs.Table.{refusals, refusals_with, WellFormed}
use Rattle.network.specs.Rows.{ArcRows}
use Rattle.network.proofs.Refusing.{Costs, costs}
use Rattle.network.proofs.Arcs.{cost_below}
use Rattle.timetable.specs.Check.{check_refusals, check_of, Checked}
use Rattle.timetable.specs.Measure.{measure_refusals, measure_of, Measured}
use Rattle.timetable.specs.Rebuild.{rebuild_refusals, rebuild_judged, Rebuilt}
use Rattle.timetable.specs.Rebuild.Restored.{impossible, restored}
use Rattle.timetable.specs.Rebuild.Rebuilt.{refused as not-judged, judged}
use Rattle.timetable.specs.Solve.{solve_refusals, solve_judged, Solved}
use Rattle.timetable.specs.Solve.Found.{infeasible, solved}
use Rattle.timetable.specs.Solve.Solved.{refused, searched}
use Rattle.timetable.specs.Demands.{SmallCost}
use Rattle.timetable.proofs.Accepts.{accepted}
use Rattle.timetable.proofs.Measures.{measure_room}
use Rattle.timetable.proofs.Rebuilds.{sheet_judged}
use Rattle.timetable.proofs.Solves.{solve_well}

-- a row of times that fits a well-formed network
timed : {N : Network} {t : List ℕ} → WellFormed N → Timetable N t → cost_of N t < 17179869184
timed w p = cost_below (record { well = w; long = p.long })

-- an answer with that cost
small : {r : Answer} {c p x : ℕ} → r ≡ answer c p x → x < 17179869184 → SmallCost r
small e h = record { below = omega (arith, ap (λ (o : Answer). o.cost) e, h) }

-- an answer off a table, whose cost is worked out where the code is 0
off_table : {r : Answer} (rs : List Refusal) (x : ℕ) → r ≡ answer_of rs x → (r.code ≡ 0 → x < 17179869184) → SmallCost r
off_table {r} rs x e h = go (costs rs x)
  where
    is : r.cost ≡ (answer_of rs x).cost
    is = ap (λ (o : Answer). o.cost) e

    go : Costs x (answer_of rs x) → SmallCost r
    go (inl z) = record { below = omega (arith, is, z) }
    go (inr (z, q)) = record { below = omega (arith, is, q, h (ap (λ (o : Answer). o.code) e ∙ z)) }

pub check_cost : {N : Network} {t : List ℕ} {r : Answer} → Checked N t r → SmallCost r
unfolding check_of
check_cost {N} {t} p = off_table (refusals N ++ check_refusals N t) (cost_of N t) p.answer (λ z. let a = accepted N t p z in timed a.0 a.1.timetable)

pub measure_cost : {N : Network} {t : List ℕ} {was is : ArcRows} {r : Answer} → Measured N t was is r → SmallCost r
unfolding measure_of
measure_cost {N} {t} {was} p =
    off_table (refusals N ++ measure_refusals N t was) (cost_of N t) p.answer
    (λ z. let m = measure_room N t was (sym (ap (λ (o : Answer). o.code) p.answer) ∙ z) in timed m.well m.timetable)

pub solve_cost : {N : Network} {times times' : List ℕ} {rows rows' : ArcRows} {r : Answer} → Solved N times rows times' rows' r → SmallCost r
unfolding solve_judged
solve_cost {N} {times} {rows = rows} (refused n a e f) = off_table (refusals N ++ solve_refusals N times rows) 0 a (λ z. omega arith)
solve_cost (searched z (infeasible n e f a)) = small a (omega arith)
solve_cost {N} {times} {rows = rows} (searched z (solved t p e f a)) = small a (timed (solve_well N times rows z) p.feasible.timetable)

pub rebuild_cost : {N : Network} {x : List ℤ} {times times' : List ℕ} {r : Answer} → Rebuilt N x times times' r → SmallCost r
unfolding rebuild_judged
rebuild_cost {N} {x} {times} (not-judged n a e) = off_table (refusals_with N (length x) ++ rebuild_refusals N x times) 0 a (λ z. omega arith)
rebuild_cost (judged z (impossible k h c n e a)) = small a (omega arith)
rebuild_cost {N} {x} {times} (judged z (restored t p e a)) = small a (timed (sheet_judged N x times z).well p.timetable)
