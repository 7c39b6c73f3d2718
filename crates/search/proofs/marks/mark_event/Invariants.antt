-- The arcs passed have marked their times.
use Rattle.std.proofs.Common.{◌-◌}
use Rattle.search.specs.Lent.{lent}
use Rattle.search.specs.Reduced.{arcs_in}
use Rattle.search.specs.Marks.{passed, EventTurn}
use Rattle.search.proofs.marks.mark_event.Given as goal

abbrev pub invariant-loop-next : goal.invariant-loop-next
invariant-loop-next l = EventTurn (lent l.threads.network) l.times l.k l.initial.row l.row l.blame l.next

abbrev pub decreases-loop-next : goal.decreases-loop-next
decreases-loop-next l = arcs_in (lent l.threads.network) - passed (lent l.threads.network) l.next
