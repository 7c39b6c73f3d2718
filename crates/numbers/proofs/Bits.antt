-- A signed local holds bits, and each operation reads them. `Bits w n z` says that the bits n stand for z, and each law carries it through one operation:
-- `NAME` is what the operation's need asks (that the result fits), `NAME-bits` what the result stands for.
-- Assumes nothing.
use mathlib.Core.Path.{◌≡◌, sym, ◌∙◌, subst}
use mathlib.Core.Bool.{true, false}
use Prim.Native.Nat.{ℕ, ◌^◌, ◌<◌}
use lib.IntN.{ℤ, pos, ◌-ℤ◌}
use lib.Signed.{mag, lt_z, ◌≤ℤ◌, ◌<ℤ◌}
use mir.Syntax.{Width, w64}
use mir.Val.{SFits, to_z, of_z, hbits}
use mir.ValLaws.{to_z-of_z, to_z_pos}
use Rattle.numbers.proofs.Integers.{le_ℤ, lt_ℤ, lt_z_true, lt_z_false}

pub record Bits (w : Width) (n : ℕ) (z : ℤ) : Type 0 where
  pub is : to_z w n ≡ z

-- a parameter, a call's result, an element: the bits of a number that fits
pub of : {w : Width} {z : ℤ} → SFits w z → Bits w (of_z w z) z
of {w} {z} f = record { is = to_z-of_z w z f }

-- such a result of 64 bits, passed on as it is
pub kept : {z : ℤ} → mag z < 9223372036854775808 → to_z w64 (of_z w64 z) ≡ z
kept {z} h = (of {w = w64} {z = z} (record { sfits = h })).is

-- an unsigned number below half the range
pub of_pos : {w : Width} {n : ℕ} → n < 2 ^ hbits w → Bits w n (pos n)
of_pos {w} {n} h = record { is = to_z_pos w n h }

-- the same number by another name
pub by : {w : Width} {n : ℕ} {y z : ℤ} → Bits w n y → y ≡ z → Bits w n z
by p e = record { is = p.is ∙ e }

pub sub : {w : Width} {m n : ℕ} {y z : ℤ} → Bits w m y → Bits w n z → SFits w (y -ℤ z) → SFits w (to_z w m -ℤ to_z w n)
sub {w} p q f = subst (SFits w) (λ i. sym p.is i -ℤ sym q.is i) f

pub sub_bits : {w : Width} {m n : ℕ} {y z : ℤ} → Bits w m y → Bits w n z → SFits w (y -ℤ z) → Bits w (of_z w (to_z w m -ℤ to_z w n)) (y -ℤ z)
sub_bits p q f = by (of (sub p q f)) (λ i. p.is i -ℤ q.is i)

-- a cast to another signed type
pub cast : {w w' : Width} {n : ℕ} {z : ℤ} → Bits w n z → SFits w' z → SFits w' (to_z w n)
cast {w} {w'} p f = subst (SFits w') (sym p.is) f

pub cast_bits : {w w' : Width} {n : ℕ} {z : ℤ} → Bits w n z → SFits w' z → Bits w' (of_z w' (to_z w n)) z
cast_bits p f = by (of (cast p f)) p.is
