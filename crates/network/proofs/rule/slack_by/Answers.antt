-- There is one remainder, of what the times are beyond lower.
use Rattle.std.proofs.Common.{ap, ◌∙◌, ℤ}
use Rattle.numbers.specs.Remainder.{remainder}
use Rattle.numbers.proofs.Remainders.{remainder_only}
use Rattle.network.proofs.Arcs.{beyond_kept}
use Rattle.network.proofs.rule.slack_by.Goals as goal

pub returns : goal.returns
returns c =
    let a = c.args in
    remainder_only c.remainder.ensures
    ∙ ap (λ (z : ℤ). remainder z a.g) (beyond_kept a.from a.to c.beyond.type_inv c.ranges.low c.beyond.ensures)
