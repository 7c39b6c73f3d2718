-- Before record k stand the first k rows.
use Rattle.std.proofs.Common.{◌≡◌, List, ℕ}
use lib.Seq.{paste}
use Rattle.text.specs.Text.{event_of, event_layout, told}
use Rattle.text.specs.Cursor.{lines_left}
use Rattle.text.specs.Fill.{rows_of}
use Rattle.text.proofs.Fills.{Filling}
use Rattle.text.proofs.fill.fill_events.Given as goal

abbrev pub invariant-loop-k : goal.invariant-loop-k
invariant-loop-k l =
    let rows : List ℕ = rows_of (told event_layout l.text) in
    Filling event_of 64 rows (lines_left l.k-iterator.iter) l.k-iterator.count × (l.periods ≡ paste l.initial.periods 0 rows l.k-iterator.count)
