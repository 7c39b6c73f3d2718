-- The entries passed are written in both rows, and the sum is their cost.
use mathlib.Core.Path.{ap, ◌∙◌}
use native.Mathlib.Nat.{le_antisymm}
use native.Mathlib.Omega.{arith}
use mir.Syntax.{w32}
use mir.Val.{to_z, of_z}
use Rattle.numbers.specs.Row.{at}
use Rattle.network.specs.Rows.{arc_rows, arc_rows_of, noted}
use Rattle.network.specs.Inner.{Turning}
use Rattle.network.specs.Trial.{ArcOf}
use Rattle.network.proofs.Sound.{sound}
use Rattle.network.proofs.Arcs.{arc_here, kept, lower_kept, slack_kept, Worked, slack_is, tension_is}
use Rattle.network.proofs.Arcs.{summed_none, summed_fits, summed_more, summed_all, room_of, written_none, written_next, written_whole}
use Rattle.network.proofs.Turns.{turning, turning_of, turn_is}
use Rattle.network.proofs.timed.Timed.note_arcs.Goals as goal
use Rattle.network.proofs.timed.Timed.note_arcs.Goals.{After-arc_period-period, After-time-to}

here : (c : goal.After-arc_period-period) → ArcOf c.args.self.now.network.rows c.loop-arc.arc
here c = arc_here c.args.self.now.network.well c.arcs-arc-end.ensures c.loop-arc-test.true

-- what was worked out of the arc
worked : (c : goal.After-time-to)
    → Worked c.args.self.now.network.rows c.args.self.now.times.now c.loop-arc.arc c.arc_period-period.result (to_z w32 (of_z w32 c.lower-low.result))
    c.time-from.result c.time-to.result
worked c = record {
  period_is = c.arc_period-period.ensures;
  lower_is = kept c.lower-low.type_inv ∙ c.lower-low.ensures;
  from_is = c.time-from.ensures ∙ ap (at c.args.self.now.times.now) c.tail.ensures;
  to_is = c.time-to.ensures ∙ ap (at c.args.self.now.times.now) c.head.ensures;
}

fits : (c : goal.After-time-to) → Turning c.arc_period-period.result (to_z w32 (of_z w32 c.lower-low.result)) c.time-from.result c.time-to.result
fits c = turning_of (worked c) (turning (sound _ c.args.self.now.network.well) c.requires.timetable (omega (arith, c.arcs-arc-end.ensures, c.loop-arc-test.true)))

pub loop-arc-init : goal.loop-arc-init
loop-arc-init c = record { cost = summed_none _ _; tensions = written_none _ _; turns = written_none _ _ }

pub raised-requires : goal.raised-requires
raised-requires c =
    let w = worked (goal.at.raised-requires c).After-time-to in
    let h = here (goal.at.raised-requires c).After-arc_period-period in
    (lower_kept h w.lower_is, slack_kept h c.args.self.now.times.now (slack_is w c.slack_by-slack.ensures))

pub bounds-tensions-arc : goal.bounds-tensions-arc
bounds-tensions-arc c =
    let room = room_of c.args.self.now.network.rows (arc_rows_of c.args.tensions c.args.turns) c.requires.room in
    omega (arith, c.loop-arc.auto.tensions, room.0, c.arcs-arc-end.ensures)

pub turn_by-requires : goal.turn_by-requires
turn_by-requires c = fits (goal.at.turn_by-requires c).After-time-to

pub bounds-turns-arc : goal.bounds-turns-arc
bounds-turns-arc c =
    let room = room_of c.args.self.now.network.rows (arc_rows_of c.args.tensions c.args.turns) c.requires.room in
    omega (arith, c.loop-arc.auto.turns, room.1, c.arcs-arc-end.ensures)

pub overflow_add-sum : goal.overflow_add-sum
overflow_add-sum c =
    let s = slack_is (worked (goal.at.overflow_add-sum c).After-time-to) c.slack_by-slack.ensures in
    summed_fits (here (goal.at.overflow_add-sum c).After-arc_period-period) c.loop-arc.invariant.cost (c.from-weight.ensures ∙ c.weight.ensures) (c.from.ensures ∙ s)

pub loop-arc-preserved : goal.loop-arc-preserved
loop-arc-preserved c =
    let w = worked (goal.at.loop-arc-preserved c).After-time-to in
    let s = slack_is w c.slack_by-slack.ensures in
    record {
      cost = summed_more (here (goal.at.loop-arc-preserved c).After-arc_period-period) c.loop-arc.invariant.cost (c.from-weight.ensures ∙ c.weight.ensures)
          (c.from.ensures ∙ s);
      tensions = written_next _ _ _ c.loop-arc.invariant.tensions (kept c.raised.type_inv ∙ tension_is _ _ _ c.raised.ensures w.lower_is s);
      turns = written_next _ _ _ c.loop-arc.invariant.turns (kept c.turn_by.type_inv ∙ turn_is w c.turn_by.ensures);
    }

pub returns : goal.returns
unfolding noted
returns c =
    let e = le_antisymm c.loop-arc.auto.arc-end c.loop-arc-test.false ∙ c.arcs-arc-end.ensures in
    record {
      rows = λ j. arc_rows (written_whole _ _ _ c.loop-arc.invariant.tensions e j) (written_whole _ _ _ c.loop-arc.invariant.turns e j);
      cost = summed_all c.loop-arc.invariant.cost e;
    }
