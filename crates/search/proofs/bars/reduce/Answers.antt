-- The arcs passed are written.
use Rattle.search.specs.Reduced.{bar_of}
use Rattle.network.proofs.Arcs.{written_none, written_more}
use Rattle.search.proofs.bars.reduce.Goals as goal

pub loop-arc-init : goal.loop-arc-init
loop-arc-init c = written_none _ _

pub loop-arc-preserved : goal.loop-arc-preserved
loop-arc-preserved c = rw (c.bar_of.ensures, c.loop-arc.invariant) (written_more (bar_of c.args.network.now.rows) c.loop-arc.arc c.args.bars.now)
