-- What check answers. Definitions alone.
use Rattle.std.specs.Prelude.{◌≡◌, List, [], ◌∷◌, ◌++◌, ℕ, length}
use Rattle.network.specs.declared.Answer.{Answer}
use Rattle.network.specs.Network.{Network, events, arcs}
use Rattle.network.specs.PublicRule.{cost_of}
use Rattle.network.specs.Refusals.{Refusal, once, each, answer_of}
use Rattle.network.specs.Table.{differ, refusals}
use Rattle.network.specs.Rows.{late, unmet}

-- after the network's own: times that are not exactly n, a time not below its period, an arc that is not met
unfoldable pub check_refusals : Network → List ℕ → List Refusal
check_refusals N t =
    once 9 (differ (length t) (events N))
    ∷ each 14 (events N) (late N.periods t)
    ∷ each 15 (arcs N) (unmet N t)
    ∷ []

-- the first refusal, or code 0 and the cost
unfoldable pub check_of : Network → List ℕ → Answer
check_of N t = answer_of (refusals N ++ check_refusals N t) (cost_of N t)

-- of a network, a row of times and the answer
pub record Checked (N : Network) (t : List ℕ) (r : Answer) : Type 0 where
  pub answer : r ≡ check_of N t
