-- Before record k stand the first k arcs.
use Rattle.std.proofs.Common.{List}
use Rattle.text.specs.Text.{Arc, arc_of, arc_layout, told}
use Rattle.text.specs.Cursor.{lines_left}
use Rattle.text.specs.Fill.{rows_of}
use Rattle.text.proofs.Fills.{Filling, ArcsAt}
use Rattle.text.proofs.fill.fill_arcs.Given as goal

abbrev pub invariant-loop-k : goal.invariant-loop-k
invariant-loop-k l =
    let arcs : List Arc = rows_of (told arc_layout l.text) in
    let s = l.initial in
    Filling arc_of 256 arcs (lines_left l.k-iterator.iter) l.k-iterator.count
    × ArcsAt arcs s.tail s.head s.lower s.upper s.weight l.tail l.head l.lower l.upper l.weight l.k-iterator.count
