-- What printing a network as the office's texts answers and writes. Definitions alone.
use Rattle.std.specs.Prelude.{◌≡◌, ◌||◌, List, [], ◌∷◌, ℕ, length, ltb}
use Rattle.network.specs.declared.Answer.{Answer}
use Rattle.network.specs.declared.Filled.{Filled}
use Rattle.network.specs.Network.{Network, arcs}
use Rattle.network.specs.Refusals.{Refusal, once, answer_of, after, filled_as}
use Rattle.text.specs.Text.{arcs_of, event_layout, arc_layout, printed}
use Rattle.text.specs.Fill.{onto}
use Rattle.network.specs.Table.{line}

-- the two texts of a network
abbrev pub events_text : Network → List ℕ
events_text N = printed event_layout N.periods

abbrev pub arcs_text : Network → List ℕ
arcs_text N = printed arc_layout (arcs_of N.tails N.heads N.lowers N.uppers N.weights)

-- the network's own lines of codes 1 and 3, then a row of bytes too short
unfoldable pub print_refusals : Network → List ℕ → List ℕ → List Refusal
print_refusals N E A =
    line N (arcs N) 1
    ∷ line N (arcs N) 3
    ∷ once 9 (ltb (length E) (length (events_text N)) || ltb (length A) (length (arcs_text N)))
    ∷ []

unfoldable pub print_of : Network → List ℕ → List ℕ → Answer
print_of N E A = answer_of (print_refusals N E A) 0

-- of a network, the two rows of bytes at entry and at exit, and the answer
pub record Printed (N : Network) (E A E' A' : List ℕ) (r : Filled) : Type 0 where
  pub answer : r ≡ filled_as (print_of N E A) (length (events_text N)) (length (arcs_text N))
  pub events : E' ≡ after (print_of N E A) (onto (events_text N) E) E
  pub arcs : A' ≡ after (print_of N E A) (onto (arcs_text N) A) A
