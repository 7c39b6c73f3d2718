-- The header and the lines of the first k events are put.
use Rattle.std.proofs.Common.{refl, arith}
use Rattle.text.specs.Text.{event_layout}
use Rattle.text.specs.Put.{longest_event}
use Rattle.text.proofs.Puts.{header_fits, begun, ended, line_fits, line_put}
use Rattle.text.proofs.print.print_events.Goals as goal

pub put-requires : goal.put-requires
put-requires g c = header_fits event_layout c.args.periods.now longest_event g.met.S.Sink.laws c.requires.room

pub loop-k-init : goal.loop-k-init
loop-k-init g c = begun event_layout c.args.periods.now longest_event g.met.S.Sink.laws c.requires.room (omega arith) c.put.ensures

pub put_event-requires : goal.put_event-requires
put_event-requires g c =
    line_fits event_layout c.args.periods.now longest_event g.met.S.Sink.laws c.requires.room c.loop-k.k 0 (omega arith) refl c.loop-k.invariant

pub loop-k-preserved : goal.loop-k-preserved
loop-k-preserved g c =
    line_put event_layout c.args.periods.now longest_event g.met.S.Sink.laws c.requires.room c.loop-k.k 0 (omega arith) refl c.loop-k.invariant c.put_event.ensures.took
    c.put_event.ensures.short

pub returns : goal.returns
returns g c =
    let all = ended event_layout c.args.periods.now longest_event g.met.S.Sink.laws c.requires.room c.loop-k.k (omega arith) c.loop-k.invariant in
    record { took = all.0; short = omega (arith, all.1) }
