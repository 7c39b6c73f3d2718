-- Of the events passed those of both rows are blamed.
use Rattle.search.specs.Marks.{Joining}
use Rattle.search.proofs.blame.join.Given as goal

abbrev pub invariant-loop-event : goal.invariant-loop-event
invariant-loop-event l = Joining l.initial.blame l.other l.blame l.event
