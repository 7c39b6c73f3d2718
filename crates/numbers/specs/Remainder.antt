-- Congruence, the remainder, from 0 to g less 1 also of a negative number, and the quotient that belongs to it. Definitions alone.
use Rattle.std.specs.Prelude.{◌≡◌, refl, ℕ, ◌-◌, ◌/◌, ◌%◌, ◌<◌, ℤ, pos, negsuc, ◌+ℤ◌, ◌*ℤ◌}

-- a and b differ by a multiple of g
pub record Cong (g : ℕ) (a b : ℤ) : Type 0 where
  pub times : ℤ
  pub apart : a ≡ b +ℤ (times *ℤ pos g)

-- r is below g and differs from z by a multiple of g
pub record IsRemainder (z : ℤ) (g r : ℕ) : Type 0 where
  pub below : r < g
  pub cong : Cong g z (pos r)

-- the one number that `IsRemainder` allows, computed: -(n + 1) leaves what n leaves, counted down from g - 1
unfoldable pub remainder : ℤ → ℕ → ℕ
remainder (pos n) g = n % g
remainder (negsuc n) g = (g - 1) - n % g

minus_35_by_20 : remainder (negsuc 34) 20 ≡ 5
unfolding remainder
minus_35_by_20 = refl

-- q is how often g goes into z: what is left is below g
pub record IsQuotient (z : ℤ) (g : ℕ) (q : ℤ) : Type 0 where
  pub left : ℕ
  pub below : left < g
  pub apart : z ≡ pos left +ℤ (q *ℤ pos g)

-- the one number that `IsQuotient` allows, computed: rounded down
unfoldable pub quotient : ℤ → ℕ → ℤ
quotient (pos n) g = pos (n / g)
quotient (negsuc n) g = negsuc (n / g)

minus_35_over_20 : quotient (negsuc 34) 20 ≡ negsuc 1
unfolding quotient
minus_35_over_20 = refl
