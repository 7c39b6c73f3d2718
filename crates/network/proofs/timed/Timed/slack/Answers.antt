-- The slack of the times at the arc's ends.
use mathlib.Core.Path.{ap, ◌∙◌}
use Rattle.numbers.specs.Row.{at}
use Rattle.network.proofs.Arcs.{kept, slack_is}
use Rattle.network.proofs.timed.Timed.slack.Goals as goal

pub returns : goal.returns
returns c =
    let t = c.args.self.now.times.now in
    slack_is
    (record {
      period_is = c.arc_period-period.ensures;
      lower_is = kept c.lower.type_inv ∙ c.lower.ensures;
      from_is = c.time-from.ensures ∙ ap (at t) c.tail.ensures;
      to_is = c.time-to.ensures ∙ ap (at t) c.head.ensures;
    })
    c.slack_by.ensures
