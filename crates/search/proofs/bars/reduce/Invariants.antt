-- The arcs passed are written.
use Rattle.std.proofs.Common.{◌≡◌}
use Rattle.network.specs.Rows.{written}
use Rattle.search.specs.Reduced.{bar_of}
use Rattle.search.proofs.bars.reduce.Given as goal

abbrev pub invariant-loop-arc : goal.invariant-loop-arc
invariant-loop-arc l = l.bars ≡ written (bar_of l.network.rows) l.arc l.initial.bars
