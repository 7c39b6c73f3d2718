-- Of the events passed, all spans and all arcs of the network stand there, and these are counted.
use mathlib.Core.Path.{◌≡◌, sym}
use mathlib.Core.List.{List}
use Prim.Native.Nat.{ℕ, ◌+◌, ◌-◌, ◌≤◌}
use native.Mathlib.Omega.{arith}
use lib.ListN.{length}
use Rattle.search.specs.declared.Bar.{Bar}
use Rattle.search.specs.Reduced.{Reduced, arcs_in}
use Rattle.closure.specs.Longer.{below, Picked}
use Rattle.closure.proofs.Longers.{grown_none, below-first, below_most, row_more}
use Rattle.closure.proofs.longer.append_all.Goals as goal

-- event i's own arcs are counted with those before
module _ {R : Reduced} {long : List Bar} {i spans count : ℕ} (p : Picked R long i spans count) where
  no_fewer : spans ≤ count
  no_fewer = omega (arith, p.count, row_more R.bars i (arcs_in R))

  counted : {own : ℕ} → own ≡ below R.bars i (arcs_in R) → own + (count - spans) ≡ below R.bars (i + 1) (arcs_in R)
  counted e = omega (arith, e, p.count, row_more R.bars i (arcs_in R))

pub loop-i-init : goal.loop-i-init
loop-i-init c =
    let bars = c.args.table.now.network.bars.now in
    (sym (below-first bars (length bars)), record { grown = grown_none c.requires.long; few = omega arith })

pub append_row-spans-requires : goal.append_row-spans-requires
append_row-spans-requires c =
    let bars = c.args.table.now.network.bars.now in
    record {
      event = c.loop-i-test.true;
      own_few = omega (arith, c.loop-i.invariant.0, below_most bars c.loop-i.i (length bars), c.requires.own_few);
      grows = c.loop-i.invariant.1;
    }

pub append_own-count-requires : goal.append_own-count-requires
append_own-count-requires c =
    let bars = c.args.table.now.network.bars.now in
    record {
      grown = c.append_row-spans.ensures.grown;
      room = omega (arith, c.append_row-spans.ensures.few, c.loop-i.invariant.0, below_most bars (c.loop-i.i + 1) (length bars), c.requires.own_few);
    }

pub overflow_sub-own : goal.overflow_sub-own
overflow_sub-own c = no_fewer c.append_own-count.ensures

pub overflow_add-own : goal.overflow_add-own
overflow_add-own c =
    let bars = c.args.table.now.network.bars.now in
    omega (arith, counted c.append_own-count.ensures c.loop-i.invariant.0, below_most bars (c.loop-i.i + 1) (length bars), c.requires.own_few)

pub loop-i-preserved : goal.loop-i-preserved
loop-i-preserved c =
    let p = c.append_own-count.ensures in
    (counted p c.loop-i.invariant.0, record { grown = p.grown; few = omega (arith, no_fewer p, c.append_row-spans.ensures.few) })

pub returns : goal.returns
returns c =
    let bars = c.args.table.now.network.bars.now in
    let i = c.loop-i.invariant in
    let e : c.loop-i.i ≡ length c.args.table.now.network.periods.now = omega (arith, c.loop-i.auto.i-end, c.loop-i-test.false) in
    record { grown = rw e at i.1.grown; few = omega (arith, i.0, i.1.few, below_most bars c.loop-i.i (length bars)) }
