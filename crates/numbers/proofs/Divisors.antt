-- There is one greatest common divisor, and Euclid's rule computes it. Assumes nothing.
use mathlib.Core.Path.{◌≡◌}
use Prim.Native.Nat.{ℕ, zero, suc, ◌%◌, ◌≤◌, ◌<◌}
use native.Mathlib.Omega.{arith}
use native.Mathlib.Nat.{mod-lt, zero-lt-suc, dvd_refl, dvd-zero, dvd_antisymm, dvd-mod_iff, le_of_dvd, pos_of_dvd_of_pos}
use Rattle.numbers.specs.Divisor.{IsGcd, euclid, gcd}

-- ---- Euclid's rule: a number with 0; b with what a leaves by b

pub gcd_zero : (a : ℕ) → IsGcd a 0 a
gcd_zero a = record { left = dvd_refl a; right = dvd-zero a; greatest = λ d x y. x }

pub gcd_step : {a b g : ℕ} → IsGcd b (a % b) g → IsGcd a b g
gcd_step {a} {b} {g} p = record {
  left = (dvd-mod_iff g p.left).0 p.right;
  right = p.left;
  greatest = λ d x y. p.greatest d y ((dvd-mod_iff d y).1 x);
}

euclid_is : (k a b : ℕ) → b < k → IsGcd a b (euclid k a b)
euclid_is zero a b h = absurd (omega arith)
euclid_is (suc k) a zero h = gcd_zero a
euclid_is (suc k) a (suc b) h = gcd_step (euclid_is k (suc b) (a % suc b) (omega (arith, mod-lt a (zero-lt-suc b))))

pub gcd_is : (a b : ℕ) → IsGcd a b (gcd a b)
unfolding gcd
gcd_is a b = euclid_is (suc b) a b (omega arith)

-- ---- only one

pub gcd_one : {a b g h : ℕ} → IsGcd a b g → IsGcd a b h → g ≡ h
gcd_one {g = g} {h = h} p q = dvd_antisymm (q.greatest g p.left p.right) (p.greatest h q.left q.right)

pub gcd_only : {a b g : ℕ} → IsGcd a b g → g ≡ gcd a b
gcd_only {a} {b} p = gcd_one p (gcd_is a b)

pub gcd-same : (a : ℕ) → gcd a a ≡ a
gcd-same a = gcd_one (gcd_is a a) (record { left = dvd_refl a; right = dvd_refl a; greatest = λ d x y. x })

pub gcd_turned : (a b : ℕ) → gcd a b ≡ gcd b a
gcd_turned a b =
    let p = gcd_is b a in
    gcd_one (gcd_is a b) (record { left = p.right; right = p.left; greatest = λ d x y. p.greatest d y x })

-- ---- its size

pub gcd_pos : (a b : ℕ) → 0 < a → 0 < gcd a b
gcd_pos a b h = pos_of_dvd_of_pos (gcd_is a b).left h

pub gcd_le : (a b : ℕ) → 0 < a → gcd a b ≤ a
gcd_le a b h = le_of_dvd h (gcd_is a b).left
