-- The arcs passed are linked, and none of them repeats.
use Rattle.network.specs.Table.{repeated}
use Rattle.network.specs.Pairs.{Chained}
use Rattle.network.proofs.Scans.{Passed}
use Rattle.network.proofs.repeat.scan.Given as goal

abbrev pub invariant-loop-arc : goal.invariant-loop-arc
invariant-loop-arc l = record { chained : Chained l.network l.lasts l.befores l.arc; passed : Passed (repeated l.network) l.arc }
