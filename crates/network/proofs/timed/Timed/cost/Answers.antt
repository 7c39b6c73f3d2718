-- The sum so far is the cost of the arcs passed.
use Rattle.std.proofs.Common.{◌∙◌}
use Rattle.network.proofs.Arcs.{arc_here, summed_none, summed_fits, summed_more}
use Rattle.network.proofs.timed.Timed.cost.Goals as goal

pub loop-arc-init : goal.loop-arc-init
loop-arc-init c = summed_none _ _

pub overflow_add-sum : goal.overflow_add-sum
overflow_add-sum c =
    summed_fits (arc_here c.args.self.now.network.well c.arcs-arc-end.ensures c.loop-arc-test.true) c.loop-arc.invariant
    (c.from-weight.ensures ∙ c.weight.ensures) (c.from.ensures ∙ c.slack.ensures)

pub loop-arc-preserved : goal.loop-arc-preserved
loop-arc-preserved c =
    summed_more (arc_here c.args.self.now.network.well c.arcs-arc-end.ensures c.loop-arc-test.true) c.loop-arc.invariant
    (c.from-weight.ensures ∙ c.weight.ensures) (c.from.ensures ∙ c.slack.ensures)
