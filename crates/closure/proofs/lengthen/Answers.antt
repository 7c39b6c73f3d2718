-- It lends rows of its own, one with an entry for each arc.
use mathlib.Core.Path.{sym, ◌∙◌}
use Prim.Native.Nat.{◌≤◌}
use native.Mathlib.Omega.{arith}
use lib.Seq.{length-take-le}
use Rattle.network.specs.Network.{Network, arcs}
use Rattle.network.specs.Table.{WellFormed}
use Rattle.network.proofs.Sound.{sound}
use Rattle.closure.proofs.lengthen.Goals as goal

-- a row of its own has an entry for each arc
few : {N : Network} → WellFormed N → arcs N ≤ 256
few {N} w = (sound N w).even.few_arcs

pub slice_bounds-bars-end : goal.slice_bounds-bars-end
slice_bounds-bars-end c = omega (arith, c.arcs-arcs.ensures, few c.args.network.now.well)

pub slice_bounds-extend-end : goal.slice_bounds-extend-end
slice_bounds-extend-end c = sym (length-take-le _ _ (omega (arith, c.arcs-arcs.ensures, few c.args.network.now.well)))

pub extend-requires-clause-bars_long : goal.extend-requires-clause-bars_long
extend-requires-clause-bars_long c =
    length-take-le _ _ (omega (arith, c.arcs-arcs.ensures, few c.args.network.now.well)) ∙ c.arcs-arcs.ensures
