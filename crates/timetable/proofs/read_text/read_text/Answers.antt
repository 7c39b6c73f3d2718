-- One law for each way out.
use mathlib.Core.Path.{sym, ◌∙◌}
use Rattle.timetable.proofs.Judging.{handed_on}
use Rattle.timetable.proofs.ReadTexts.{read_9, read_events, read_arcs, events_fillable, arcs_fillable, read_0}
use Rattle.timetable.proofs.read_text.read_text.Goals as goal

pub returns-then-cramped : goal.returns-then-cramped
returns-then-cramped c = rw c.at.ensures (read_9 _ _ _ (sym c.cramped.ensures ∙ c.if-cramped.true))

pub returns-in_err-first : goal.returns-in_err-first
returns-in_err-first c =
    rw (handed_on c.from_residual.ensures) (read_events _ _ _ (sym c.cramped.ensures ∙ c.if-cramped.false) _ c.judge_events.ensures c.in_err-first.ensures)

pub returns-in_err-second : goal.returns-in_err-second
returns-in_err-second c =
    rw (handed_on c.from_residual-in_err-second.ensures)
    (read_arcs _ _ _ (sym c.cramped.ensures ∙ c.if-cramped.false) (sym c.in_ok-first.ensures ∙ c.judge_events.ensures) _ c.judge_arcs.ensures
    c.in_err-second.ensures)

pub fill_events-requires : goal.fill_events-requires
fill_events-requires c =
    events_fillable _ c.args.arcs.now _ (sym c.cramped.ensures ∙ c.if-cramped.false) (sym c.in_ok-first.ensures ∙ c.judge_events.ensures)

pub fill_arcs-requires : goal.fill_arcs-requires
fill_arcs-requires c =
    arcs_fillable c.args.events.now _ _ (sym c.cramped.ensures ∙ c.if-cramped.false) (sym c.in_ok-second.ensures ∙ c.judge_arcs.ensures)

pub returns : goal.returns
returns c =
    read_0 _ _ _ (sym c.cramped.ensures ∙ c.if-cramped.false) (sym c.in_ok-first.ensures ∙ c.judge_events.ensures)
    (sym c.in_ok-second.ensures ∙ c.judge_arcs.ensures) c.fill_events.ensures c.fill_arcs.ensures
