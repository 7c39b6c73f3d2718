-- Each tension passed is within its working bounds.
use Rattle.network.specs.Rows.{astray}
use Rattle.network.proofs.Scans.{Passed}
use Rattle.network.proofs.well_formed.WellFormed.first_astray.Given as goal

abbrev pub invariant-loop-arc : goal.invariant-loop-arc
invariant-loop-arc l = Passed (astray l.self.rows l.tensions) l.arc
