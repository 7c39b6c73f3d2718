-- The header and the lines of the first k arcs are put.
use Rattle.text.specs.Text.{arc_layout}
use Rattle.text.specs.Put.{longest_arc}
use Rattle.text.specs.ArcRows.{arcs_in}
use Rattle.text.proofs.Puts.{SoFar}
use Rattle.text.proofs.print.print_arcs.Given as goal

abbrev pub invariant-loop-k : goal.invariant-loop-k
invariant-loop-k g l = SoFar arc_layout (arcs_in l.arcs) longest_arc g.S.Sink.took l.k l.fn.sink l.sink
