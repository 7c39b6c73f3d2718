-- One law for each way out.
use mathlib.Core.Path.{sym, ◌∙◌}
use Rattle.network.specs.Network.{net}
use Rattle.network.proofs.Sound.{inside}
use Rattle.timetable.proofs.PrintTexts.{five_rows, print_1, print_3, print_9_events, print_9_arcs, print_0}
use Rattle.timetable.proofs.print_text.print_text.Goals as goal
use Rattle.timetable.proofs.print_text.print_text.Goals.{then-events-events_length-via-then-events-events_length}
use Rattle.timetable.proofs.print_text.print_text.Goals.{then-events-events_length-via-else-events-events_length+then-arcs-arcs_length}

pub returns-then-is_miscounted : goal.returns-then-is_miscounted
returns-then-is_miscounted c = rw c.at.ensures (print_1 _ _ _ (sym c.is_miscounted.ensures ∙ c.if-is_miscounted.true))

pub returns-then-is_uneven : goal.returns-then-is_uneven
returns-then-is_uneven c =
    rw c.at-then-is_uneven.ensures
    (print_3 _ _ _ (sym c.is_miscounted.ensures ∙ c.if-is_miscounted.false) (rw c.arcs.ensures at (sym c.is_uneven.ensures ∙ c.if-is_uneven.true)))

pub events_length-requires : goal.events_length-requires
events_length-requires c = (inside 1 64 _ (rw (← c.network.view_is) at (sym c.is_miscounted.ensures ∙ c.if-is_miscounted.false))).most

pub invariant_of-rows : goal.invariant_of-rows
invariant_of-rows c = record {
  five_rows = five_rows (net c.network.inside.periods.now _ _ _ _ _) (rw (c.arcs.ensures, ← c.network.view_is) at (sym c.is_uneven.ensures ∙ c.if-is_uneven.false));
}

pub returns-then-events-events_length : goal.returns-then-events-events_length
returns-then-events-events_length c =
    let few = rw (← c.network.view_is) at (sym c.is_miscounted.ensures ∙ c.if-is_miscounted.false) in
    let even = rw (c.arcs.ensures, ← c.network.view_is) at (sym c.is_uneven.ensures ∙ c.if-is_uneven.false) in
    rw (c.at-then-events-events_length.ensures, ← c.network.view_is)
    (elim c.then-events-events_length.branch [
      | then-events-events_length-via-then-events-events_length w ↦ print_9_events _ _ _ few even (rw c.events_length.ensures at w.if-events-events_length.true)
      | then-events-events_length-via-else-events-events_length+then-arcs-arcs_length w ↦
          print_9_arcs _ _ _ few even (rw c.events_length.ensures at w.if-events-events_length.false)
          (rw w.arcs_length.ensures at w.if-arcs-arcs_length.true)
    ])

pub put_events-requires : goal.put_events-requires
put_events-requires c = (
  (inside 1 64 _ (rw (← c.network.view_is) at (sym c.is_miscounted.ensures ∙ c.if-is_miscounted.false))).most,
  rw c.events_length.ensures at c.if-events-events_length.false,
)

pub returns : goal.returns
returns c =
    let few = rw (← c.network.view_is) at (sym c.is_miscounted.ensures ∙ c.if-is_miscounted.false) in
    let even = rw (c.arcs.ensures, ← c.network.view_is) at (sym c.is_uneven.ensures ∙ c.if-is_uneven.false) in
    rw (← c.network.view_is)
    (print_0 _ _ _ few even (rw c.events_length.ensures at c.if-events-events_length.false) (rw c.arcs_length.ensures at c.if-arcs-arcs_length.false)
    c.put_events.ensures c.put_arcs.ensures)
