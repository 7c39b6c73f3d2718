-- Of the events passed, all spans and all arcs of the network stand there, and these are counted.
use mathlib.Core.Path.{◌≡◌}
use lib.ListN.{length}
use Rattle.search.specs.Lent.{lent}
use Rattle.closure.specs.Longer.{Grows, below}
use Rattle.closure.proofs.longer.append_all.Given as goal

abbrev pub invariant-loop-i : goal.invariant-loop-i
invariant-loop-i l =
    let bars = l.table.network.bars.now in
    (l.own ≡ below bars l.i (length bars)) × Grows (lent l.table.network) l.longer l.i l.own l.count
