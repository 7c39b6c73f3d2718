-- The machine's quotient of Euclid is the one that the definition computes.
use Rattle.std.proofs.Common.{◌∙◌, w64}
use Rattle.std.specs.Int.{int_div_euclid}
use Rattle.numbers.proofs.Quotients.{quotient_is, euclid-quotient}
use Rattle.numbers.proofs.Bits.{of, kept}
use Rattle.numbers.proofs.quotient.Goals as goal

pub returns : goal.returns
returns c =
    let d = (of {w = w64} c.ranges.d).is in
    let g = kept c.from.type_inv ∙ c.from.ensures in
    quotient_is c.requires (kept c.div_euclid.type_inv ∙ c.div_euclid.ensures ∙ (λ j. int_div_euclid (d j) (g j)) ∙ euclid-quotient c.args.d c.args.g)
