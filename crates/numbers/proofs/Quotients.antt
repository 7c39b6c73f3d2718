-- The quotient is the only number of periods that leaves a remainder below the period; it is the machine's by Euclid. Assumes nothing.
use mathlib.Core.Path.{◌≡◌, refl, sym, ap, ◌∙◌}
use Prim.Native.Nat.{ℕ, ◌+◌, ◌-◌, ◌/◌, ◌%◌, ◌≤◌, ◌<◌}
use native.Mathlib.Omega.{arith}
use native.Mathlib.Nat.{mod-lt, div-add-mod', div-le_self, eq_of_mul-eq-mul_right}
use lib.IntN.{ℤ, pos, negsuc, nat_abs, ◌+ℤ◌, ◌*ℤ◌}
use Rattle.std.specs.Int.{int_div_euclid}
use Rattle.numbers.specs.Remainder.{remainder, IsQuotient, quotient}
use Rattle.numbers.proofs.Integers.{up, dn, eq_ℤ, of_eq, of_sum, up_times, dn_times}
use Rattle.numbers.proofs.Remainders.{remainder-below, remainder_only}

-- ---- one number, and `quotient` computes it

pub quotient_left : (z : ℤ) (g : ℕ) → 0 < g → z ≡ pos (remainder z g) +ℤ (quotient z g *ℤ pos g)
unfolding remainder quotient
quotient_left (pos n) g h = ap pos (omega (arith, div-add-mod' n g))
quotient_left (negsuc n) g h =
    let r : ℤ = pos ((g - 1) - n % g) in
    let k : ℤ = negsuc (n / g) in
    eq_ℤ (negsuc n) (r +ℤ (k *ℤ pos g)) (omega (arith, div-add-mod' n g, mod-lt n h, of_sum r (k *ℤ pos g), up_times k g, dn_times k g))

-- a multiple of g tells how many
pub times_one : {p q : ℤ} {g : ℕ} → 0 < g → p *ℤ pos g ≡ q *ℤ pos g → p ≡ q
times_one {p} {q} {g} h e =
    eq_ℤ p q
    (eq_of_mul-eq-mul_right g h (up p + dn q) (up q + dn p)
    (omega (arith, of_eq (p *ℤ pos g) (q *ℤ pos g) e, up_times p g, dn_times p g, up_times q g, dn_times q g)))

pub quotient_is : {z q : ℤ} {g : ℕ} → 0 < g → q ≡ quotient z g → IsQuotient z g q
quotient_is {z} {q} {g} h e =
    rw e (record { left = remainder z g; below = remainder-below z g h; apart = quotient_left z g h })

pub quotient_only : {z q : ℤ} {g : ℕ} → IsQuotient z g q → q ≡ quotient z g
quotient_only {z} {q} {g} p =
    let h : 0 < g = omega (arith, p.below) in
    let s : p.left ≡ remainder z g = remainder_only (record { below = p.below; cong = record { times = q; apart = p.apart } }) in
    let k : ℤ = quotient z g in
    times_one h
    (eq_ℤ (q *ℤ pos g) (k *ℤ pos g)
    (omega (arith, s, of_eq _ _ (sym p.apart ∙ quotient_left z g h), of_sum (pos p.left) (q *ℤ pos g), of_sum (pos (remainder z g)) (k *ℤ pos g))))

-- it is not greater than the number that is divided
pub quotient_small : (z : ℤ) (g : ℕ) → nat_abs (quotient z g) ≤ nat_abs z
unfolding quotient
quotient_small (pos n) g = div-le_self n g
quotient_small (negsuc n) g = omega (arith, div-le_self n g)

-- ---- the machine's quotient, by Euclid

pub euclid-quotient : (z : ℤ) (g : ℕ) → int_div_euclid z (pos g) ≡ quotient z g
unfolding quotient
euclid-quotient (pos n) g = refl
euclid-quotient (negsuc n) g = refl
