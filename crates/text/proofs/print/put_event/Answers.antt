-- Its parts are put one after the other.
use Rattle.text.proofs.Puts.{room_for, room_first, room_rest, first, last, whole, event_line, event_line_short}
use Rattle.text.proofs.print.put_event.Goals as goal

pub put_field-requires : goal.put_field-requires
put_field-requires g c =
    let laws = g.met.S.Sink.laws in
    room_first laws (room_for laws (event_line c.args.k c.args.period) c.requires)

pub put_field-requires-2 : goal.put_field-requires-2
put_field-requires-2 g c =
    let laws = g.met.S.Sink.laws in
    let all = room_for laws (event_line c.args.k c.args.period) c.requires in
    room_first laws (room_rest laws all c.put_field.ensures)

pub returns-clause-took : goal.returns-clause-took
returns-clause-took g c =
    let laws = g.met.S.Sink.laws in
    let line = event_line c.args.k c.args.period in
    whole laws line (first laws (room_for laws line c.requires) c.put_field.ensures (last laws c.put_field-2.ensures))

pub returns-clause-short : goal.returns-clause-short
returns-clause-short g c = event_line_short c.args.k c.args.period c.ranges.k.fits c.ranges.period.fits
