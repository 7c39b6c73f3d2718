-- The remainder is the only number below the period that is congruent, and the machine's by Euclid. Assumes nothing.
use mathlib.Core.Path.{◌≡◌, refl, sym, ap, ◌∙◌}
use Prim.Native.Nat.{ℕ, ◌+◌, ◌*◌, ◌/◌, ◌%◌, ◌<◌}
use native.Mathlib.Omega.{arith}
use native.Mathlib.Nat.{mod-lt, mod-eq_of_lt, add-mul-mod_self_right, div-add-mod'}
use lib.IntN.{ℤ, pos, negsuc}
use Rattle.std.specs.Int.{int_rem_euclid}
use Rattle.numbers.specs.Remainder.{Cong, IsRemainder, remainder}
use Rattle.numbers.proofs.Integers.{up, dn}
use Rattle.numbers.proofs.Congruence.{cong, parts, cong_eq, cong_sym, cong_trans}

-- ---- one number, and `remainder` computes it

pub remainder-below : (z : ℤ) (g : ℕ) → 0 < g → remainder z g < g
unfolding remainder
remainder-below (pos n) g h = mod-lt n h
remainder-below (negsuc n) g h = omega arith

pub remainder_cong : (z : ℤ) (g : ℕ) → 0 < g → Cong g z (pos (remainder z g))
unfolding remainder
remainder_cong (pos n) g h = cong 0 (n / g) (omega (arith, div-add-mod' n g))
remainder_cong (negsuc n) g h = cong (n / g + 1) 0 (omega (arith, div-add-mod' n g, mod-lt n h))

pub remainder_is : {z : ℤ} {g r : ℕ} → 0 < g → r ≡ remainder z g → IsRemainder z g r
remainder_is {z} {g} h e = rw e (record { below = remainder-below z g h; cong = remainder_cong z g h })

-- two numbers below g that are congruent are the same
pub below-same : {g r s : ℕ} → r < g → s < g → Cong g (pos r) (pos s) → r ≡ s
below-same {g} {r} {s} h k p =
    sym (mod-eq_of_lt h)
    ∙ sym (add-mul-mod_self_right r (dn p.times) g)
    ∙ ap (λ (n : ℕ). n % g) e
    ∙ add-mul-mod_self_right s (up p.times) g
    ∙ mod-eq_of_lt k
  where
    e : r + dn p.times * g ≡ s + up p.times * g
    e = omega (arith, parts p)

pub remainder_one : {z : ℤ} {g r s : ℕ} → IsRemainder z g r → IsRemainder z g s → r ≡ s
remainder_one p q = below-same p.below q.below (cong_trans (cong_sym p.cong) q.cong)

pub remainder_only : {z : ℤ} {g r : ℕ} → IsRemainder z g r → r ≡ remainder z g
remainder_only {z} {g} {r} p = remainder_one p (remainder_is (omega (arith, p.below)) refl)

-- ---- equal remainders exactly if congruent

pub same-remainder : {a b : ℤ} {g : ℕ} → 0 < g → Cong g a b → remainder a g ≡ remainder b g
same-remainder {a} {b} {g} h p =
    remainder_only (record { below = remainder-below a g h; cong = cong_trans (cong_sym p) (remainder_cong a g h) })

pub cong_of_remainders : (a b : ℤ) (g : ℕ) → 0 < g → remainder a g ≡ remainder b g → Cong g a b
cong_of_remainders a b g h e =
    cong_trans (remainder_cong a g h) (cong_trans (cong_eq g (ap pos e)) (cong_sym (remainder_cong b g h)))

pub mod_cong : (n g : ℕ) → 0 < g → Cong g (pos (n % g)) (pos n)
unfolding remainder
mod_cong n g h = cong_sym (remainder_cong (pos n) g h)

-- ---- the machine's remainder, by Euclid

pub euclid-remainder : (z : ℤ) (g : ℕ) → int_rem_euclid z (pos g) ≡ pos (remainder z g)
unfolding remainder
euclid-remainder (pos n) g = refl
euclid-remainder (negsuc n) g = refl
