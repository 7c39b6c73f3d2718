-- The greatest common divisor of the two periods, which is only one number.
use Rattle.std.proofs.Common.{◌∙◌}
use Rattle.numbers.specs.Divisor.{gcd}
use Rattle.numbers.proofs.Divisors.{gcd_only}
use Rattle.network.specs.Network.{period}
use Rattle.network.specs.PublicRule.{arc_period}
use Rattle.network.proofs.rows.Network.arc_period.Goals as goal

pub returns : goal.returns
unfolding arc_period
returns c =
    let N = c.args.self.now in
    gcd_only c.gcd.ensures
    ∙ (λ j. gcd ((c.period-from.ensures ∙ (λ i. period N (c.tail.ensures i))) j) ((c.period-to.ensures ∙ (λ i. period N (c.head.ensures i))) j))
