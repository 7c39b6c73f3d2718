-- Below ten one digit is written; from ten on, the last after those before it.
use Rattle.std.proofs.Common.{ap, length, arith}
use native.Mathlib.Nat.{div-add-mod'}
use Rattle.text.specs.Sink.{kept_length}
use Rattle.text.proofs.Numbers.{decimal_few}
use Rattle.text.proofs.Puts.{put_few, put_more, decimal_shorter}
use Rattle.text.proofs.print.decimal.+write_number.Goals as goal

pub bounds-out-at : goal.bounds-out-at
bounds-out-at t c = omega (arith, ap length (decimal_few c.args.n c.if-n-lt-BASE.true))

pub returns-then-n-lt-BASE : goal.returns-then-n-lt-BASE
returns-then-n-lt-BASE t c =
    put_few _ _ _ c.if-n-lt-BASE.true (omega (arith, ap length (decimal_few c.args.n c.if-n-lt-BASE.true)))

pub write_number-last-requires : goal.write_number-last-requires
write_number-last-requires t c =
    (omega (arith, c.decreases, div-add-mod' c.args.n 10), omega (arith, decimal_shorter c.args.n c.if-n-lt-BASE.false))

pub bounds-out-last : goal.bounds-out-last
bounds-out-last t c =
    let more = decimal_shorter c.args.n c.if-n-lt-BASE.false in
    omega (arith, c.write_number-last.ensures.place, kept_length (omega arith) c.write_number-last.ensures)

pub returns : goal.returns
returns t c = put_more c.args.n c.if-n-lt-BASE.false c.requires c.write_number-last.ensures
