-- The greatest common divisor of two numbers. Definitions alone.
use Rattle.std.specs.Prelude.{◌≡◌, refl, ℕ, zero, suc, ◌%◌}
use Rattle.std.specs.Int.{◌∣◌}

-- g divides a and b, and each common divisor of a and b divides g
pub record IsGcd (a b g : ℕ) : Type 0 where
  pub left : g ∣ a
  pub right : g ∣ b
  pub greatest : (d : ℕ) → d ∣ a → d ∣ b → d ∣ g

-- Euclid's rule, at most k times
abbrev pub euclid : ℕ → ℕ → ℕ → ℕ
euclid zero a b = a
euclid (suc k) a zero = a
euclid (suc k) a (suc b) = euclid k (suc b) (a % suc b)

-- the one number that `IsGcd` allows, computed
unfoldable pub gcd : ℕ → ℕ → ℕ
gcd a b = euclid (suc b) a b

hourly_and_20 : gcd 60 20 ≡ 20
unfolding gcd
hourly_and_20 = refl
