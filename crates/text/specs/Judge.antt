-- A text judged without its rows, for both texts by one rule. Definitions alone.
use Rattle.std.specs.Prelude.{ℕ, length, Result, Ok, Err}
use Rattle.text.specs.Text.{Told, rows, wrong_header, bad_record}
use Rattle.text.specs.declared.Fault.{Fault}

-- what a text tells, without its rows: how many there are, or the first fault
unfoldable pub tally : {R : Type 0} → Told R → Result ℕ Fault
tally (rows rs) = Ok (length rs)
tally wrong_header = Err Fault.Header
tally (bad_record k) = Err (Fault.Record k)
