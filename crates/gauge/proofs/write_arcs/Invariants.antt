-- The arcs before this one stand in the row.
use Rattle.std.proofs.Common.{◌≡◌, ◌*◌, ◌++◌, drop, take}
use Rattle.gauge.specs.Gauge.{numbers}
use Rattle.gauge.proofs.write_arcs.Given as goal

abbrev pub invariant-loop-arc : goal.invariant-loop-arc
invariant-loop-arc l = l.row ≡ numbers (take l.arc l.bars) ++ drop (5 * l.arc) l.fn.row
