-- The events passed are parts of their own, at 0.
use Rattle.walks.specs.Place.{Begun}
use Rattle.walks.proofs.Parts.new.Given as goal

abbrev pub invariant-loop-event : goal.invariant-loop-event
invariant-loop-event l = Begun l.event l.initial.marks l.marks
