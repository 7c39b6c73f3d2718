-- Its parts are put one after the other; the two signed ones are passed as bits.
use Rattle.std.proofs.Common.{◌≡◌, refl, ℤ, to_z, of_z, arith, rules, w32}
use mir.Val.{SFits}
use Rattle.std.proofs.lemmas.Int.{to_z-of_z}
use Rattle.numbers.specs.Row.{at_ℤ}
use Rattle.text.specs.ArcRows.{arc_in}
use Rattle.text.proofs.Puts.{room_for, room_first, room_rest, first, last, whole, arc_line, arc_line_short}
use Rattle.text.proofs.print.put_arc.Goals as goal

-- a signed number that is passed is the same
signed : {z : ℤ} → SFits w32 z → to_z w32 (of_z w32 z) ≡ z
signed {z} f = to_z-of_z w32 z f

pub put_field-requires : goal.put_field-requires
put_field-requires g c =
    let laws = g.met.S.Sink.laws in
    room_first laws (room_for laws (arc_line c.args.k (arc_in c.args.arcs.now c.args.k) refl refl) c.requires.room)

pub put_field-requires-2 : goal.put_field-requires-2
put_field-requires-2 g c =
    let laws = g.met.S.Sink.laws in
    let all = room_for laws (arc_line c.args.k (arc_in c.args.arcs.now c.args.k) refl refl) c.requires.room in
    room_first laws (room_rest laws all c.put_field.ensures)

pub put_field-requires-3 : goal.put_field-requires-3
put_field-requires-3 g c =
    let laws = g.met.S.Sink.laws in
    let all = room_for laws (arc_line c.args.k (arc_in c.args.arcs.now c.args.k) refl refl) c.requires.room in
    room_first laws (room_rest laws (room_rest laws all c.put_field.ensures) c.put_field-2.ensures)

pub put_field-requires-4 : goal.put_field-requires-4
put_field-requires-4 g c =
    let laws = g.met.S.Sink.laws in
    let low = signed {z = at_ℤ c.args.arcs.now.lower.now c.args.k} (search rules) in
    let all = room_for laws (arc_line c.args.k (arc_in c.args.arcs.now c.args.k) low refl) c.requires.room in
    let from_head = room_rest laws (room_rest laws all c.put_field.ensures) c.put_field-2.ensures in
    room_first laws (room_rest laws from_head c.put_field-3.ensures)

pub put_field-requires-5 : goal.put_field-requires-5
put_field-requires-5 g c =
    let laws = g.met.S.Sink.laws in
    let low = signed {z = at_ℤ c.args.arcs.now.lower.now c.args.k} (search rules) in
    let high = signed {z = at_ℤ c.args.arcs.now.upper.now c.args.k} (search rules) in
    let all = room_for laws (arc_line c.args.k (arc_in c.args.arcs.now c.args.k) low high) c.requires.room in
    let from_head = room_rest laws (room_rest laws all c.put_field.ensures) c.put_field-2.ensures in
    let from_lower = room_rest laws from_head c.put_field-3.ensures in
    room_first laws (room_rest laws from_lower c.put_field-4.ensures)

pub put_field-requires-6 : goal.put_field-requires-6
put_field-requires-6 g c =
    let laws = g.met.S.Sink.laws in
    let low = signed {z = at_ℤ c.args.arcs.now.lower.now c.args.k} (search rules) in
    let high = signed {z = at_ℤ c.args.arcs.now.upper.now c.args.k} (search rules) in
    let all = room_for laws (arc_line c.args.k (arc_in c.args.arcs.now c.args.k) low high) c.requires.room in
    let from_head = room_rest laws (room_rest laws all c.put_field.ensures) c.put_field-2.ensures in
    let from_lower = room_rest laws from_head c.put_field-3.ensures in
    let from_upper = room_rest laws from_lower c.put_field-4.ensures in
    room_first laws (room_rest laws from_upper c.put_field-5.ensures)

pub returns-clause-took : goal.returns-clause-took
returns-clause-took g c =
    let laws = g.met.S.Sink.laws in
    let low = signed {z = at_ℤ c.args.arcs.now.lower.now c.args.k} (search rules) in
    let high = signed {z = at_ℤ c.args.arcs.now.upper.now c.args.k} (search rules) in
    let line = arc_line c.args.k (arc_in c.args.arcs.now c.args.k) low high in
    let all = room_for laws line c.requires.room in
    let from_tail = room_rest laws all c.put_field.ensures in
    let from_head = room_rest laws from_tail c.put_field-2.ensures in
    let from_lower = room_rest laws from_head c.put_field-3.ensures in
    let from_upper = room_rest laws from_lower c.put_field-4.ensures in
    whole laws line
    (first laws all c.put_field.ensures
    (first laws from_tail c.put_field-2.ensures
    (first laws from_head c.put_field-3.ensures
    (first laws from_lower c.put_field-4.ensures
    (first laws from_upper c.put_field-5.ensures (last laws c.put_field-6.ensures))))))

pub returns-clause-short : goal.returns-clause-short
returns-clause-short g c =
    let arcs = c.args.arcs.now in
    let k = c.args.k in
    arc_line_short k (arc_in arcs k) (omega (arith, arcs.five_rows.few)) (search rules) (search rules) (search rules) (search rules) (search rules)
