-- A minus below zero, and then the digits of its size.
use Rattle.std.proofs.Common.{refl, w32}
use Rattle.std.proofs.lemmas.Int.{to_z-of_z}
use Rattle.text.proofs.Puts.{room_for, room_first, room_rest, moved, first, last, whole, minus_digits, plus_digits}
use Rattle.text.proofs.print.decimal.I32Decimal.print.Goals as goal
use Rattle.text.proofs.print.decimal.I32Decimal.print.Goals.{then-self-lt0, else-self-lt0}

pub put-requires : goal.put-requires
put-requires g c =
    let laws = g.met.S.Sink.laws in
    let same = to_z-of_z w32 c.args.self c.ranges.self in
    room_first laws (room_for laws (minus_digits c.args.self (rw same at c.if-self-lt0.true) refl) c.requires)

pub put_number-requires : goal.put_number-requires
put_number-requires g c =
    let laws = g.met.S.Sink.laws in
    let same = to_z-of_z w32 c.args.self c.ranges.self in
    let size = rw same at c.unsigned_abs.ensures.value in
    elim c.if-self-lt0.branch [
      | then-self-lt0 w ↦
          let all = room_for laws (minus_digits c.args.self (rw same at w.if-self-lt0.true) size) c.requires in
          room_first laws (moved laws w.sink-is (room_rest laws all w.put.ensures))
      | else-self-lt0 w ↦ room_first laws (moved laws w.sink-is (room_for laws (plus_digits c.args.self (rw same at w.if-self-lt0.false) size) c.requires))
    ]

pub returns : goal.returns
returns g c =
    let laws = g.met.S.Sink.laws in
    let same = to_z-of_z w32 c.args.self c.ranges.self in
    let size = rw same at c.unsigned_abs.ensures.value in
    elim c.if-self-lt0.branch [
      | then-self-lt0 w ↦
          let parts = minus_digits c.args.self (rw same at w.if-self-lt0.true) size in
          whole laws parts (first laws (room_for laws parts c.requires) w.put.ensures (last laws (rw w.sink-is at c.put_number.ensures)))
      | else-self-lt0 w ↦ whole laws (plus_digits c.args.self (rw same at w.if-self-lt0.false) size) (last laws (rw w.sink-is at c.put_number.ensures))
    ]
