-- The sum so far is the cost of the arcs passed.
use Rattle.network.proofs.Arcs.{Summed}
use Rattle.network.proofs.timed.Timed.cost.Given as goal

abbrev pub invariant-loop-arc : goal.invariant-loop-arc
invariant-loop-arc l = Summed l.self.network.rows l.self.times.now l.arc l.sum
