-- The arcs passed stand there if their earlier end is i, and they are counted.
use Prim.Native.Nat.{◌+◌}
use native.Mathlib.Omega.{arith}
use Rattle.closure.proofs.Longers.{grown_passed, grown_taken, below_none, row_yes, row_no, own_room}
use Rattle.closure.proofs.longer.append_own.Goals as goal
use Rattle.closure.proofs.longer.append_own.Goals.{then-bar-i, else-bar-i}

pub loop-bar-init : goal.loop-bar-init
loop-bar-init c =
    let bars = c.args.network.now.bars.now in
    (omega (arith, below_none bars c.args.i, below_none bars (c.args.i + 1)), c.requires.grown)

pub offset_bounds-longer-count : goal.offset_bounds-longer-count
offset_bounds-longer-count c = omega (arith, own_room c.requires c.loop-bar-test.true c.loop-bar.invariant.0 c.if-bar-i.true)

pub bounds-longer-count : goal.bounds-longer-count
bounds-longer-count c =
    omega (arith, own_room c.requires c.loop-bar-test.true c.loop-bar.invariant.0 c.if-bar-i.true, c.loop-bar.invariant.1.long)

pub overflow_add-count : goal.overflow_add-count
overflow_add-count c = omega (arith, own_room c.requires c.loop-bar-test.true c.loop-bar.invariant.0 c.if-bar-i.true)

pub loop-bar-preserved : goal.loop-bar-preserved
loop-bar-preserved c =
    let bars = c.args.network.now.bars.now in
    let i = c.loop-bar.invariant in
    elim c.if-bar-i.branch [
      | then-bar-i w ↦
          let e = w.if-bar-i.true in
          let room = own_room c.requires c.loop-bar-test.true i.0 e in
          rw (w.longer-is, w.count-is)
          (omega (arith, row_yes bars c.args.i c.loop-bar.bar-index e, i.0), grown_taken c.args.network.now.sized c.loop-bar-test.true i.1 room)
      | else-bar-i w ↦
          let n = w.if-bar-i.false in
          rw (w.longer-is, w.count-is) (omega (arith, row_no bars c.args.i c.loop-bar.bar-index n, i.0), grown_passed i.1 n)
    ]
