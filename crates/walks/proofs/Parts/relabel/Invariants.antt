-- Of the events passed, those labelled `from` are moved.
use Rattle.walks.specs.Place.{Moved}
use Rattle.walks.proofs.Parts.relabel.Given as goal

abbrev pub invariant-loop-mark : goal.invariant-loop-mark
invariant-loop-mark l = Moved l.mark-index l.from l.to l.shift l.fn.self.period l.initial.mark-items l.mark-items
