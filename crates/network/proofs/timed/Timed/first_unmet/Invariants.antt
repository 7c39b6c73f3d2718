-- Each arc passed is met.
use Rattle.network.proofs.Scans.{Passed}
use Rattle.network.specs.Rows.{unmet}
use Rattle.network.proofs.timed.Timed.first_unmet.Given as goal

abbrev pub invariant-loop-arc : goal.invariant-loop-arc
invariant-loop-arc l = Passed (unmet l.self.network.rows l.self.times.now) l.arc
