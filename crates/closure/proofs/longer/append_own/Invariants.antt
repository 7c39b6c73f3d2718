-- The arcs passed stand there if their earlier end is i, and they are counted.
use mathlib.Core.Path.{◌≡◌}
use Prim.Native.Nat.{◌+◌}
use Rattle.search.specs.Lent.{lent}
use Rattle.closure.specs.Longer.{Grown, below}
use Rattle.closure.proofs.longer.append_own.Given as goal

abbrev pub invariant-loop-bar : goal.invariant-loop-bar
invariant-loop-bar l =
    let bars = l.network.bars.now in
    (l.count + below bars l.i l.bar-index ≡ l.first + below bars (l.i + 1) l.bar-index) × Grown (lent l.network) l.longer l.i l.bar-index l.count
