-- One law for each way out.
use mathlib.Core.Path.{sym, ◌∙◌}
use native.Mathlib.Omega.{arith}
use Rattle.network.proofs.Times.{on_time}
use Rattle.timetable.proofs.Judging.{handed_on, few_events}
use Rattle.timetable.proofs.Measures.{measure_network, measure_9_times, measure_9_rows, measure_14, measure_0}
use Rattle.timetable.proofs.measure.measure.Goals as goal

pub returns-in_err-network : goal.returns-in_err-network
returns-in_err-network c =
    rw (handed_on c.from_residual.ensures) (measure_network _ _ _ _ c.arcs.ensures c.in_err-network.ensures)

pub returns-in_err-timed : goal.returns-in_err-timed
returns-in_err-timed c =
    rw (handed_on c.from_residual-in_err-timed.ensures, c.in_err-timed.ensures.0, ← c.in_ok-network.ensures.0)
    (measure_9_times _ _ _ c.in_ok-network.network.well c.in_err-timed.ensures.1)

pub returns-then-short : goal.returns-then-short
returns-then-short c =
    let d = c.in_ok-timed.timed in
    let s = rw c.arcs-2.ensures at (sym c.short.ensures ∙ c.if-short.true) in
    rw (c.at.ensures, ← c.in_ok-network.ensures.0, ← c.in_ok-timed.ensures.0, ← c.in_ok-timed.ensures.1) (measure_9_rows _ _ _ d.network.well d.long s)

pub at-requires-in-Some : goal.at-requires-in-Some
at-requires-in-Some c = omega (arith, c.in-Some.ensures.0, few_events c.in_ok-timed.timed.network.well)

pub returns-in-Some : goal.returns-in-Some
returns-in-Some c =
    let d = c.in_ok-timed.timed in
    let s = rw c.arcs-2.ensures at (sym c.short.ensures ∙ c.if-short.false) in
    rw (c.at-in-Some.ensures, ← c.in_ok-network.ensures.0, ← c.in_ok-timed.ensures.0, ← c.in_ok-timed.ensures.1)
    (measure_14 _ _ _ d.network.well d.long s c.in-Some.ensures)

pub note_arcs-requires-clause-timetable : goal.note_arcs-requires-clause-timetable
note_arcs-requires-clause-timetable c = on_time c.in_ok-timed.timed.long c.in_default.ensures.before

pub returns : goal.returns
returns c =
    let d = c.in_ok-timed.timed in
    let s = rw c.arcs-2.ensures at (sym c.short.ensures ∙ c.if-short.false) in
    rw (← c.in_ok-network.ensures.0, ← c.in_ok-timed.ensures.0, ← c.in_ok-timed.ensures.1)
    (measure_0 _ _ _ d.network.well d.long s c.in_default.ensures c.note_arcs.ensures)
