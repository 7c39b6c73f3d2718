-- ℤ for `omega`: each integer z is the difference of two naturals, `up z` less `dn z`, one of which is 0.
-- A sum, a difference and a multiple have their two parts by a linear equation in ℕ, and an order or an equation in ℤ is one in ℕ.
-- `omega (arith, zed, of_sum a b, of_sub c d)` reads and proves linear facts, with an `of_sum` or `of_sub` for each sum in them.
-- Assumes nothing.
use mathlib.Core.Path.{◌≡◌, refl, sym, ap, ◌∙◌, subst}
use mathlib.Core.Bool.{Bool, true, false, cond}
use Prim.Native.Nat.{ℕ, zero, suc, ◌+◌, ◌*◌, ◌-◌, ◌^◌, ◌≤◌, ◌<◌}
use native.Mathlib.Omega.{arith}
use native.Mathlib.Nat.{zero-mul}
use lib.IntN.{ℤ, pos, negsuc, nat_abs, neg_ℤ, sub_ℕ, ◌+ℤ◌, ◌-ℤ◌, ◌*ℤ◌}
use lib.Dec.{T, ltb, ltb→lt, leb→le, le→leb, lt→ltb}
use lib.Signed.{lt_z, le_z, ◌≤ℤ◌, ◌<ℤ◌}
use borrow.Author.Tests.{ltb-true, ltb-false, leb-false}
use mir.Syntax.{Width}
use mir.Val.{SFits, hbits}

abbrev pub up : ℤ → ℕ
up (pos n) = n
up (negsuc n) = 0

abbrev pub dn : ℤ → ℕ
dn (pos n) = 0
dn (negsuc n) = suc n

-- ---- equations

pub eq_ℤ : (a b : ℤ) → up a + dn b ≡ up b + dn a → a ≡ b
eq_ℤ (pos a) (pos b) h = ap pos (omega arith)
eq_ℤ (pos a) (negsuc b) h = absurd (omega arith)
eq_ℤ (negsuc a) (pos b) h = absurd (omega arith)
eq_ℤ (negsuc a) (negsuc b) h = ap negsuc (omega arith)

pub of_eq : (a b : ℤ) → a ≡ b → up a + dn b ≡ up b + dn a
of_eq a b e = ap (λ (z : ℤ). up a + dn z) (sym e) ∙ ap (λ (z : ℤ). up z + dn a) e

-- ---- the parts of a result

pub of_diff : (a b : ℕ) → up (sub_ℕ a b) + b ≡ dn (sub_ℕ a b) + a
of_diff a b = go (ltb a b) refl
  where
    go : (t : Bool) → ltb a b ≡ t → up (cond t (negsuc (b - suc a)) (pos (a - b))) + b ≡ dn (cond t (negsuc (b - suc a)) (pos (a - b))) + a
    go true e = omega (arith, ltb-true a b e)
    go false e = omega (arith, ltb-false a b e)

pub of_sum : (a b : ℤ) → up (a +ℤ b) + (dn a + dn b) ≡ dn (a +ℤ b) + (up a + up b)
of_sum (pos a) (pos b) = omega arith
of_sum (pos a) (negsuc b) = omega (arith, of_diff a (suc b))
of_sum (negsuc a) (pos b) = omega (arith, of_diff b (suc a))
of_sum (negsuc a) (negsuc b) = omega arith

pub up_neg : (a : ℤ) → up (neg_ℤ a) ≡ dn a
up_neg (pos zero) = refl
up_neg (pos (suc n)) = refl
up_neg (negsuc n) = refl

pub dn_neg : (a : ℤ) → dn (neg_ℤ a) ≡ up a
dn_neg (pos zero) = refl
dn_neg (pos (suc n)) = refl
dn_neg (negsuc n) = refl

pub of_sub : (a b : ℤ) → up (a -ℤ b) + (dn a + up b) ≡ dn (a -ℤ b) + (up a + dn b)
of_sub a b = omega (arith, of_sum a (neg_ℤ b), up_neg b, dn_neg b)

pub up_times : (q : ℤ) (g : ℕ) → up (q *ℤ pos g) ≡ up q * g
up_times (pos n) g = refl
up_times (negsuc n) g = up_neg (pos (suc n * g)) ∙ sym (zero-mul g)

pub dn_times : (q : ℤ) (g : ℕ) → dn (q *ℤ pos g) ≡ dn q * g
dn_times (pos n) g = sym (zero-mul g)
dn_times (negsuc n) g = dn_neg (pos (suc n * g))

pub of_abs : (a : ℤ) → nat_abs a ≡ up a + dn a
of_abs (pos n) = omega arith
of_abs (negsuc n) = omega arith

pub abs_ℤ : (a : ℤ) {k : ℕ} → (up a ≤ dn a + k) × (dn a ≤ up a + k) → nat_abs a ≤ k
abs_ℤ (pos n) h = omega (arith, h.0)
abs_ℤ (negsuc n) h = omega (arith, h.1)

-- ---- the order, both ways

pub of_le : (a b : ℤ) → a ≤ℤ b → up a + dn b ≤ up b + dn a
of_le (pos a) (pos b) h = omega (arith, leb→le a b h.le)
of_le (pos a) (negsuc b) h = absurd h.le
of_le (negsuc a) (pos b) h = omega arith
of_le (negsuc a) (negsuc b) h = omega (arith, leb→le b a h.le)

pub le_ℤ : (a b : ℤ) → up a + dn b ≤ up b + dn a → a ≤ℤ b
le_ℤ (pos a) (pos b) h = record { le = le→leb a b (omega arith) }
le_ℤ (pos a) (negsuc b) h = absurd (omega arith)
le_ℤ (negsuc a) (pos b) h = record { le = tt }
le_ℤ (negsuc a) (negsuc b) h = record { le = le→leb b a (omega arith) }

pub of_lt : (a b : ℤ) → a <ℤ b → up a + dn b < up b + dn a
of_lt (pos a) (pos b) h = omega (arith, ltb→lt a b h.lt)
of_lt (pos a) (negsuc b) h = absurd h.lt
of_lt (negsuc a) (pos b) h = omega arith
of_lt (negsuc a) (negsuc b) h = omega (arith, ltb→lt b a h.lt)

pub lt_ℤ : (a b : ℤ) → up a + dn b < up b + dn a → a <ℤ b
lt_ℤ (pos a) (pos b) h = record { lt = lt→ltb a b (omega arith) }
lt_ℤ (pos a) (negsuc b) h = absurd (omega arith)
lt_ℤ (negsuc a) (pos b) h = record { lt = tt }
lt_ℤ (negsuc a) (negsuc b) h = record { lt = lt→ltb b a (omega arith) }

-- ---- the code's tests

pub lt_z_true : (a b : ℤ) → lt_z a b ≡ true → up a + dn b < up b + dn a
lt_z_true a b e = of_lt a b (record { lt = subst T (sym e) tt })

pub lt_z_false : (a b : ℤ) → lt_z a b ≡ false → up b + dn a ≤ up a + dn b
lt_z_false (pos a) (pos b) e = omega (arith, ltb-false a b e)
lt_z_false (pos a) (negsuc b) e = omega arith
lt_z_false (negsuc a) (pos b) e = absurd (subst (λ (t : Bool). T t) e tt)
lt_z_false (negsuc a) (negsuc b) e = omega (arith, ltb-false b a e)

pub le_z_true : (a b : ℤ) → le_z a b ≡ true → up a + dn b ≤ up b + dn a
le_z_true a b e = of_le a b (record { le = subst T (sym e) tt })

pub le_z_false : (a b : ℤ) → le_z a b ≡ false → up b + dn a < up a + dn b
le_z_false (pos a) (pos b) e = omega (arith, leb-false a b e)
le_z_false (pos a) (negsuc b) e = omega arith
le_z_false (negsuc a) (pos b) e = absurd (subst (λ (t : Bool). T t) e tt)
le_z_false (negsuc a) (negsuc b) e = omega (arith, leb-false b a e)

-- ---- ranges

pub sfits_ℤ : (w : Width) (z : ℤ) → up z < dn z + 2 ^ hbits w → dn z ≤ up z + 2 ^ hbits w → SFits w z
sfits_ℤ w (pos n) h k = record { sfits = omega arith }
sfits_ℤ w (negsuc n) h k = record { sfits = omega arith }

pub of_sfits : (w : Width) (z : ℤ) → SFits w z → (up z < 2 ^ hbits w) × (dn z ≤ 2 ^ hbits w)
of_sfits w (pos n) f = (f.sfits, omega arith)
of_sfits w (negsuc n) f = (omega (arith, f.sfits), f.sfits)

-- what `omega` takes to read and to prove equations, orders and tests in ℤ
pub ruleset zed = (eq_ℤ, of_eq, le_ℤ, of_le, lt_ℤ, of_lt, lt_z_true, lt_z_false, le_z_true, le_z_false)

pub sub-add : (a b : ℤ) → b +ℤ (a -ℤ b) ≡ a
sub-add a b = omega (arith, zed, of_sum b (a -ℤ b), of_sub a b)
