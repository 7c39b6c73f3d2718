-- One arc more, and all.
use Rattle.gauge.proofs.Numbers.{numbers_written}
use Rattle.gauge.proofs.write_arcs.Goals as goal

pub loop-arc-preserved : goal.loop-arc-preserved
loop-arc-preserved c = numbers_written c.args.bars.now c.args.row.now c.loop-arc.arc c.loop-arc-test.true c.loop-arc.invariant c.copy_from_slice.ensures.after
