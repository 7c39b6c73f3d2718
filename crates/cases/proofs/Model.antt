-- Measure, solve and rebuild as antt computes them. Definitions alone.
use mathlib.Core.List.{List}
use mathlib.Core.Option.{Option, some, none}
use mathlib.Core.Bool.{cond}
use Prim.Native.Nat.{ℕ}
use lib.IntN.{ℤ}
use lib.Dec.{eqb}
use Rattle.numbers.specs.Row.{at}
use Rattle.network.specs.Network.{Network, events, period}
use Rattle.network.specs.PublicRule.{cost_of}
use Rattle.network.specs.Refusals.{answer, after}
use Rattle.network.specs.Rows.{written, ArcRows, noted}
use Rattle.search.proofs.Model.{smallest_of}
use Rattle.walks.proofs.Model.{Out, timetable, refused, answer_for}
use Rattle.timetable.specs.Measure.{measure_of}
use Rattle.timetable.specs.Solve.{solve_judged}
use Rattle.timetable.specs.Rebuild.{rebuild_judged}
use Rattle.cases.specs.Calls.{Outcome, outcome, listed, Call, measure, solve, rebuild}

-- measure: the answer, and the rows that follow from it
unfoldable pub measure_model : Network → List ℕ → ArcRows → Outcome
measure_model N t rows = let r = measure_of N t rows in outcome t (after r (noted N t rows) rows) r

-- what solve leaves, by what the search found
abbrev pub settle_by : Network → List ℕ → ArcRows → Option (List ℕ) → Outcome
settle_by N times rows (some t) = outcome (written (at t) (events N) times) (noted N t rows) (answer 0 0 (cost_of N t))
settle_by N times rows none = outcome times rows (answer 10 0 0)

-- solve: the first refusal and the rows as they were, or by the search
unfoldable pub solve_model : Network → List ℕ → ArcRows → Outcome
solve_model N times rows =
    let r = solve_judged N times rows in
    cond {A = Outcome} (eqb r.code 0) (settle_by N times rows (smallest_of N)) (outcome times rows r)

-- what rebuild leaves, by what the walks found
abbrev pub restore_by : Network → List ℤ → List ℕ → Out → Outcome
restore_by N x times (timetable t) = outcome (written (at t) (events N) times) (listed x) (answer 0 0 (cost_of N t))
restore_by N x times (refused k) = outcome times (listed x) (answer 13 k 0)

-- rebuild: the first refusal and the rows as they were, or by the walks
unfoldable pub rebuild_model : Network → List ℤ → List ℕ → Outcome
rebuild_model N x times =
    let r = rebuild_judged N x times in
    cond {A = Outcome} (eqb r.code 0) (restore_by N x times (answer_for N.tails N.heads x (period N 0) (events N))) (outcome times (listed x) r)

-- what antt computes of a call
abbrev pub computed : Call → Outcome
computed (measure N t rows) = measure_model N t rows
computed (solve N times rows) = solve_model N times rows
computed (rebuild N x times) = rebuild_model N x times
