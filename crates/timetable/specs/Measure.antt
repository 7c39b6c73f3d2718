-- What measure answers and writes. Definitions alone.
use Rattle.std.specs.Prelude.{◌≡◌, List, [], ◌∷◌, ◌++◌, ◌||◌, ℕ, length}
use Rattle.network.specs.declared.Answer.{Answer}
use Rattle.network.specs.Network.{Network, events}
use Rattle.network.specs.PublicRule.{cost_of}
use Rattle.network.specs.Refusals.{Refusal, once, each, answer_of, after}
use Rattle.network.specs.Table.{differ, refusals}
use Rattle.network.specs.Rows.{late, ArcRows, short_for, noted}

-- after the network's own: times that are not exactly n or a row to be written too short, a time not below its period
unfoldable pub measure_refusals : Network → List ℕ → ArcRows → List Refusal
measure_refusals N t rows =
    once 9 (differ (length t) (events N) || short_for N rows)
    ∷ each 14 (events N) (late N.periods t)
    ∷ []

-- the first refusal, or code 0 and the cost
unfoldable pub measure_of : Network → List ℕ → ArcRows → Answer
measure_of N t rows = answer_of (refusals N ++ measure_refusals N t rows) (cost_of N t)

-- of a network, a row of times, the rows of tensions and turns at entry and at exit, and the answer
pub record Measured (N : Network) (t : List ℕ) (was is : ArcRows) (r : Answer) : Type 0 where
  pub answer : r ≡ measure_of N t was
  pub rows : is ≡ after r (noted N t was) was
