-- The machine's remainder of Euclid is the one that the definition computes.
use Rattle.std.proofs.Common.{ap, ◌∙◌, w64}
use Rattle.std.specs.Int.{int_rem_euclid}
use lib.IntN.{nat_abs}
use Rattle.numbers.proofs.Remainders.{remainder_is, euclid-remainder}
use Rattle.numbers.proofs.Bits.{of, kept}
use Rattle.numbers.proofs.remainder.Goals as goal

pub returns : goal.returns
returns c =
    let d = (of {w = w64} c.ranges.d).is in
    let g = kept c.from.type_inv ∙ c.from.ensures in
    remainder_is c.requires (ap nat_abs (kept c.rem_euclid.type_inv ∙ c.rem_euclid.ensures.value ∙ (λ j. int_rem_euclid (d j) (g j)) ∙ euclid-remainder c.args.d c.args.g))
