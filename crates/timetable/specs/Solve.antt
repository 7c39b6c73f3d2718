-- What solve answers and writes. Definitions alone.
use Rattle.std.specs.Prelude.{◌≡◌, List, [], ◌∷◌, ◌++◌, ◌||◌, ℕ, length, ltb}
use Rattle.network.specs.declared.Answer.{Answer}
use Rattle.network.specs.Network.{Network, events}
use Rattle.numbers.specs.Row.{at}
use Rattle.network.specs.PublicRule.{cost_of, Feasible, Smallest}
use Rattle.network.specs.Refusals.{Refusal, answer, once, answer_of}
use Rattle.network.specs.Table.{refusals}
use Rattle.network.specs.Rows.{written, ArcRows, short_for, noted}

-- after the network's own and before any search: a row to be written is too short
unfoldable pub solve_refusals : Network → List ℕ → ArcRows → List Refusal
solve_refusals N times rows = once 9 (ltb (length times) (events N) || short_for N rows) ∷ []

-- the first refusal; code 0 where there is none
unfoldable pub solve_judged : Network → List ℕ → ArcRows → Answer
solve_judged N times rows = answer_of (refusals N ++ solve_refusals N times rows) 0

-- then, of the rows at entry and at exit and the answer: no timetable is feasible, or the smallest is written
pub data Found (N : Network) (times : List ℕ) (rows : ArcRows) (times' : List ℕ) (rows' : ArcRows) (r : Answer) : Type 0 where
  infeasible : ((t : List ℕ) → Feasible N t → ⊥) → times' ≡ times → rows' ≡ rows → r ≡ answer 10 0 0 → Found N times rows times' rows' r
  solved : (t : List ℕ) → Smallest N t → times' ≡ written (at t) (events N) times → rows' ≡ noted N t rows
      → r ≡ answer 0 0 (cost_of N t) → Found N times rows times' rows' r

pub data Solved (N : Network) (times : List ℕ) (rows : ArcRows) (times' : List ℕ) (rows' : ArcRows) (r : Answer) : Type 0 where
  refused : (r.code ≡ 0 → ⊥) → r ≡ solve_judged N times rows → times' ≡ times → rows' ≡ rows → Solved N times rows times' rows' r
  searched : (solve_judged N times rows).code ≡ 0 → Found N times rows times' rows' r → Solved N times rows times' rows' r
