-- The quotient with the other sign, which is small.
use Rattle.std.proofs.Common.{ℕ, ◌^◌, ◌<◌, ◌≡◌, ap, ◌∙◌, arith, ℤ, pos, ◌-ℤ◌, w32, w64}
use lib.Signed.{mag}
use mir.Syntax.{Width}
use mir.Val.{SFits, to_z, of_z, hbits}
use Rattle.numbers.specs.Remainder.{IsQuotient, quotient}
use Rattle.numbers.proofs.Integers.{sfits_ℤ, of_abs}
use Rattle.numbers.proofs.Quotients.{quotient_only}
use Rattle.numbers.proofs.Bits.{Bits, of, of_pos, by, sub_bits, cast, cast_bits}
use Rattle.network.specs.Inner.{Turning}
use Rattle.network.proofs.Arcs.{beyond_kept}
use Rattle.network.proofs.Turns.{turns, turn_by_is, turns_small}
use Rattle.network.proofs.rule.turn_by.Goals as goal

-- the turn fits any signed type of 16 bits or more
small : (w : Width) {g : ℕ} {low : ℤ} {from to : ℕ} → Turning g low from to → 10799 < 2 ^ hbits w → SFits w (turns g low from to)
small w {g} {low} {from} {to} p h =
    let z : ℤ = turns g low from to in
    let a = turns_small g low from to p in
    sfits_ℤ w z (omega (arith, a, of_abs z)) (omega (arith, a, of_abs z))

-- of a difference b and its quotient q, as calls handed them on
module _ {g : ℕ} {low b q : ℤ} (from to : ℕ) (p : Turning g low from to) (l : SFits w32 low) (d : mag b < 9223372036854775808) (f : mag q < 9223372036854775808)
    (e : b ≡ (pos to -ℤ pos from) -ℤ to_z w32 (of_z w32 low)) (k : IsQuotient (to_z w64 (of_z w64 b)) g q) where
  q_bits : Bits w64 (of_z w64 q) (quotient ((pos to -ℤ pos from) -ℤ low) g)
  q_bits = by (of (record { sfits = f })) (quotient_only k ∙ ap (λ (y : ℤ). quotient y g) (beyond_kept from to d l e))

  z_bits : Bits w64 (of_z w64 (pos 0 -ℤ to_z w64 (of_z w64 q))) (turns g low from to)
  z_bits = sub_bits (of_pos {n = 0} (omega arith)) q_bits (small w64 p (omega arith))

pub overflow_cast-result : goal.overflow_cast-result
overflow_cast-result c =
    let a = c.args in
    let z = z_bits a.from a.to c.requires c.ranges.low c.beyond.type_inv c.quotient-quotient.type_inv c.beyond.ensures c.quotient-quotient.ensures in
    cast z (small w32 c.requires (omega arith))

pub returns : goal.returns
returns c =
    let a = c.args in
    let z = z_bits a.from a.to c.requires c.ranges.low c.beyond.type_inv c.quotient-quotient.type_inv c.beyond.ensures c.quotient-quotient.ensures in
    (cast_bits z (small w32 c.requires (omega arith))).is ∙ turn_by_is a.g a.low a.from a.to c.requires.some
