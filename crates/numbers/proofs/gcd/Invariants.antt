-- The common divisors of x and y are those of a and b.
use Rattle.std.proofs.Common.{ℕ}
use Rattle.numbers.specs.Divisor.{IsGcd}
use Rattle.numbers.proofs.gcd.Given as goal

abbrev pub invariant-loop-y : goal.invariant-loop-y
invariant-loop-y l = (g : ℕ) → IsGcd l.x l.y g → IsGcd l.a l.b g

abbrev pub decreases-loop-y : goal.decreases-loop-y
decreases-loop-y l = l.y
