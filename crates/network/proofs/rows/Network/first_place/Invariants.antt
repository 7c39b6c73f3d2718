-- The line applies at no place passed.
use Rattle.network.specs.Refusals.{number}
use Rattle.network.specs.Table.{line}
use Rattle.network.proofs.Scans.{Passed}
use Rattle.network.proofs.rows.Network.first_place.Given as goal

abbrev pub invariant-loop-i : goal.invariant-loop-i
invariant-loop-i l = Passed (line l.self l.further (number l.code)).applies l.i
