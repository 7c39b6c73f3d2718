-- The laws of congruence: an equivalence, additive, kept by a divisor of the period. Assumes nothing.
use mathlib.Core.Path.{◌≡◌, refl, sym, ap, ◌∙◌}
use Prim.Native.Nat.{ℕ, ◌+◌, ◌*◌, ◌/◌, ◌∣◌}
use native.Mathlib.Omega.{arith}
use native.Mathlib.Nat.{div-mul_cancel, mul_assoc}
use lib.IntN.{ℤ, pos, neg_ℤ, ◌+ℤ◌, ◌-ℤ◌, ◌*ℤ◌}
use Rattle.numbers.specs.Remainder.{Cong}
use Rattle.numbers.proofs.Integers.{up, dn, eq_ℤ, of_eq, of_sum, of_sub, up_neg, dn_neg, up_times, dn_times}

-- ---- for `omega`: a multiple of g on each side, in ℕ

pub cong : {g : ℕ} {a b : ℤ} (more less : ℕ) → up a + dn b + more * g ≡ up b + dn a + less * g → Cong g a b
cong {g} {a} {b} more less e =
    let q : ℤ = pos less -ℤ pos more in
    let m : up q * g + more * g ≡ dn q * g + less * g = times (up q) more (dn q) less (omega (arith, of_sub (pos less) (pos more))) in
    record { times = q; apart = eq_ℤ a (b +ℤ (q *ℤ pos g)) (omega (arith, e, m, of_sum b (q *ℤ pos g), up_times q g, dn_times q g)) }
  where
    times : (a b c d : ℕ) → a + b ≡ c + d → a * g + b * g ≡ c * g + d * g
    times a b c d e = omega (arith, ap (λ (n : ℕ). n * g) e)

pub parts : {g : ℕ} {a b : ℤ} (p : Cong g a b) → up a + dn b + dn p.times * g ≡ up b + dn a + up p.times * g
parts {g} {a} {b} p =
    let q : ℤ = p.times in
    omega (arith, of_eq a (b +ℤ (q *ℤ pos g)) p.apart, of_sum b (q *ℤ pos g), up_times q g, dn_times q g)

-- ---- an equivalence

pub cong_eq : (g : ℕ) {a b : ℤ} → a ≡ b → Cong g a b
cong_eq g {a} {b} e = cong 0 0 (omega (arith, of_eq a b e))

pub cong_refl : (g : ℕ) (a : ℤ) → Cong g a a
cong_refl g a = cong_eq g refl

pub cong_sym : {g : ℕ} {a b : ℤ} → Cong g a b → Cong g b a
cong_sym p = cong (up p.times) (dn p.times) (sym (parts p))

pub cong_trans : {g : ℕ} {a b c : ℤ} → Cong g a b → Cong g b c → Cong g a c
cong_trans p q = cong (dn p.times + dn q.times) (up p.times + up q.times) (omega (arith, parts p, parts q))

-- ---- additive

pub cong_add : {g : ℕ} {a b c d : ℤ} → Cong g a b → Cong g c d → Cong g (a +ℤ c) (b +ℤ d)
cong_add {a = a} {b = b} {c = c} {d = d} p q =
    cong (dn p.times + dn q.times) (up p.times + up q.times) (omega (arith, parts p, parts q, of_sum a c, of_sum b d))

pub cong_neg : {g : ℕ} {a b : ℤ} → Cong g a b → Cong g (neg_ℤ a) (neg_ℤ b)
cong_neg {a = a} {b = b} p =
    cong (up p.times) (dn p.times) (omega (arith, parts p, up_neg a, dn_neg a, up_neg b, dn_neg b))

pub cong_sub : {g : ℕ} {a b c d : ℤ} → Cong g a b → Cong g c d → Cong g (a -ℤ c) (b -ℤ d)
cong_sub p q = cong_add p (cong_neg q)

-- ---- by a divisor of the period

pub cong_dvd : {d g : ℕ} {a b : ℤ} → d ∣ g → Cong g a b → Cong d a b
cong_dvd {d} {g} {a} {b} h p =
    cong (dn p.times * (g / d)) (up p.times * (g / d)) (omega (arith, parts p, over (dn p.times), over (up p.times)))
  where
    over : (n : ℕ) → n * g ≡ n * (g / d) * d
    over n = ap (λ (k : ℕ). n * k) (sym (div-mul_cancel d h)) ∙ sym (mul_assoc n (g / d) d)
