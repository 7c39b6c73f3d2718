-- None of the arcs passed is repeated.
use Rattle.network.specs.Pairs.{Down}
use Rattle.network.proofs.repeat.matched.Given as goal

abbrev pub invariant-loop-next : goal.invariant-loop-next
invariant-loop-next l = Down l.network l.arc l.next

abbrev pub decreases-loop-next : goal.decreases-loop-next
decreases-loop-next l = l.next
