-- Below ten there is one digit; from ten on, one more than without the last.
use Rattle.std.proofs.Common.{sym, ap, length, ◌/◌, arith}
use native.Mathlib.Nat.{div-add-mod'}
use Rattle.text.proofs.Numbers.{decimal_few}
use Rattle.text.proofs.Puts.{ten_digits, decimal_shorter}
use Rattle.text.proofs.print.decimal.+width.Goals as goal

pub overflow_add-result : goal.overflow_add-result
overflow_add-result t c =
    let s = c.args in
    omega (arith, c.width.ensures, ten_digits (s.n / 10) (omega (arith, c.ranges.n.fits, div-add-mod' s.n 10)))

pub returns-then-n-lt-BASE : goal.returns-then-n-lt-BASE
returns-then-n-lt-BASE t c = sym (ap length (decimal_few c.args.n c.if-n-lt-BASE.true))

pub returns-else-n-lt-BASE : goal.returns-else-n-lt-BASE
returns-else-n-lt-BASE t c = omega (arith, c.width.ensures, decimal_shorter c.args.n c.if-n-lt-BASE.false)
