-- The public rule gives an arc a listed tension within its bounds exactly if the times are that far apart by the period. Assumes nothing.
use mathlib.Core.Path.{◌≡◌, sym}
use mathlib.Core.Logic.{◌↔◌}
use Prim.Native.Nat.{ℕ, ◌-◌, ◌<◌}
use native.Mathlib.Omega.{arith}
use lib.IntN.{ℤ, pos, ◌+ℤ◌, ◌-ℤ◌}
use lib.Signed.{◌≤ℤ◌, ◌<ℤ◌}
use Rattle.numbers.specs.Remainder.{Cong, remainder}
use Rattle.numbers.proofs.Integers.{up, dn, zed, of_sum, of_sub, sub-add}
use Rattle.numbers.proofs.Congruence.{cong_eq, cong_refl, cong_sym, cong_trans, cong_add, cong_sub}
use Rattle.numbers.proofs.Remainders.{remainder-below, remainder_cong, below-same}

-- both from `lower` up, and less than the period above it
same_above : {T : ℕ} {lower y z : ℤ} → lower ≤ℤ y → (y -ℤ lower) <ℤ pos T → lower ≤ℤ z → (z -ℤ lower) <ℤ pos T → Cong T y z → y ≡ z
same_above {T} {lower} {y} {z} a b c d p =
    let r : ℕ = up (y -ℤ lower) - dn (y -ℤ lower) in
    let s : ℕ = up (z -ℤ lower) - dn (z -ℤ lower) in
    let y-is : pos r ≡ y -ℤ lower = omega (arith, zed, of_sub y lower) in
    let z-is : z -ℤ lower ≡ pos s = omega (arith, zed, of_sub z lower) in
    let e : r ≡ s = below-same (omega (arith, zed)) (omega (arith, zed)) (cong_trans (cong_eq T y-is) (cong_trans (cong_sub p (cong_refl T lower)) (cong_eq T z-is))) in
    omega (arith, zed, e, of_sub y lower, of_sub z lower)

pub tension_is : {T : ℕ} {lower upper x : ℤ} (from to : ℕ) → 0 < T → (upper -ℤ lower) <ℤ pos T → lower ≤ℤ x → x ≤ℤ upper
    → (lower +ℤ pos (remainder ((pos to -ℤ pos from) -ℤ lower) T) ≡ x) ↔ Cong T x (pos to -ℤ pos from)
tension_is {T} {lower} {upper} {x} from to h w a b = (
  λ e. cong_trans (cong_eq T (sym e)) rule,
  λ p.
      same_above (omega (arith, zed, of_sum lower (pos r)))
      (omega (arith, zed, of_sum lower (pos r), of_sub (lower +ℤ pos r) lower, remainder-below (d -ℤ lower) T h))
      a
      (omega (arith, zed, of_sub x lower, of_sub upper lower))
      (cong_trans rule (cong_sym p)),
)
  where
    d : ℤ
    d = pos to -ℤ pos from

    r : ℕ
    r = remainder (d -ℤ lower) T

    rule : Cong T (lower +ℤ pos r) d
    rule = cong_trans (cong_add (cong_refl T lower) (cong_sym (remainder_cong (d -ℤ lower) T h))) (cong_eq T (sub-add d lower))
