-- Euclid's rule keeps the greatest common divisor, and ends it at 0.
use Rattle.std.proofs.Common.{ℕ, sym, subst}
use Rattle.numbers.specs.Divisor.{IsGcd}
use Rattle.numbers.proofs.Divisors.{gcd_zero, gcd_step}
use Rattle.numbers.proofs.gcd.Goals as goal

pub loop-y-preserved : goal.loop-y-preserved
loop-y-preserved c = λ g p. c.loop-y.invariant g (gcd_step p)

pub returns : goal.returns
returns c =
    let x = c.loop-y.x in
    c.loop-y.invariant x (subst (λ (y : ℕ). IsGcd x y x) (sym c.loop-y-test.false) (gcd_zero x))
