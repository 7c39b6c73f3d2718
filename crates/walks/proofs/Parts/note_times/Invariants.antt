-- The times of the events passed are written.
use Rattle.walks.specs.Place.{Noted}
use Rattle.walks.proofs.Parts.note_times.Given as goal

abbrev pub invariant-loop-event : goal.invariant-loop-event
invariant-loop-event l = Noted l.event l.self.marks.now l.times
