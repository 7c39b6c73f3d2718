-- What reading the office's texts answers and writes. Definitions alone.
use Rattle.std.specs.Prelude.{◌≡◌, Result, Ok, Err, Bool, cond, ◌||◌, List, ℕ, length, ltb, eqb}
use Rattle.network.specs.declared.Answer.{Answer}
use Rattle.network.specs.declared.Filled.{Filled}
use Rattle.network.specs.Network.{Network}
use Rattle.network.specs.Refusals.{answer, after, filled_as}
use Rattle.text.specs.declared.Fault.{Fault}
use Rattle.text.specs.declared.Fault.TheVariants.{Header, Record}
use Rattle.text.specs.declared.Arc.{Arc}
use Rattle.text.specs.Text.{event_layout, arc_layout, told}
use Rattle.text.specs.Judge.{tally}
use Rattle.text.specs.Fill.{rows_of, onto, tails_of, heads_of, lowers_of, uppers_of, weights_of}

-- the period row is below 64 entries, or an arc row below 256
unfoldable pub cramped : ℕ → ℕ → ℕ → ℕ → ℕ → ℕ → Bool
cramped periods tails heads lowers uppers weights =
    ltb periods 64 || (ltb tails 256 || (ltb heads 256 || (ltb lowers 256 || (ltb uppers 256 || ltb weights 256))))

abbrev pub cramped_in : Network → Bool
cramped_in N = cramped (length N.periods) (length N.tails) (length N.heads) (length N.lowers) (length N.uppers) (length N.weights)

-- the fault of text 0 or 1: code 16 at the text, or code 17 at the record; code 0 where the text is accepted
abbrev pub fault_of : ℕ → Result ℕ Fault → Answer
fault_of text (Ok records) = answer 0 0 0
fault_of text (Err Header) = answer 16 text 0
fault_of text (Err (Record k)) = answer 17 k 0

-- the first of two answers that refuses
unfoldable pub or_else : Answer → Answer → Answer
or_else r s = cond (eqb r.code 0) s r

-- 9, then the events text, then the arcs text
unfoldable pub read_of : List ℕ → List ℕ → Network → Answer
read_of E A N = cond (cramped_in N) (answer 9 0 0) (or_else (fault_of 0 (tally (told event_layout E))) (fault_of 1 (tally (told arc_layout A))))

-- the periods, and the arcs, that a text tells
abbrev pub periods_in : List ℕ → List ℕ
periods_in E = rows_of (told event_layout E)

abbrev pub arcs_in : List ℕ → List Arc
arcs_in A = rows_of (told arc_layout A)

-- of the events text and the arcs text, the six rows at entry and at exit, and the answer
pub record Read (E A : List ℕ) (N N' : Network) (r : Filled) : Type 0 where
  pub answer : r ≡ filled_as (read_of E A N) (length (periods_in E)) (length (arcs_in A))
  pub periods : N'.periods ≡ after (read_of E A N) (onto (periods_in E) N.periods) N.periods
  pub tails : N'.tails ≡ after (read_of E A N) (onto (tails_of (arcs_in A)) N.tails) N.tails
  pub heads : N'.heads ≡ after (read_of E A N) (onto (heads_of (arcs_in A)) N.heads) N.heads
  pub lowers : N'.lowers ≡ after (read_of E A N) (onto (lowers_of (arcs_in A)) N.lowers) N.lowers
  pub uppers : N'.uppers ≡ after (read_of E A N) (onto (uppers_of (arcs_in A)) N.uppers) N.uppers
  pub weights : N'.weights ≡ after (read_of E A N) (onto (weights_of (arcs_in A)) N.weights) N.weights
