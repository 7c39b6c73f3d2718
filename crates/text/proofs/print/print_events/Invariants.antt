-- The header and the lines of the first k events are put.
use Rattle.text.specs.Text.{event_layout}
use Rattle.text.specs.Put.{longest_event}
use Rattle.text.proofs.Puts.{SoFar}
use Rattle.text.proofs.print.print_events.Given as goal

abbrev pub invariant-loop-k : goal.invariant-loop-k
invariant-loop-k g l = SoFar event_layout l.periods longest_event g.S.Sink.took l.k l.fn.sink l.sink
