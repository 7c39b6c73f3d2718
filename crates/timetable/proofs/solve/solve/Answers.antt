-- One law for each way out.
use mathlib.Core.Path.{sym, ap, ◌∙◌}
use mathlib.Core.Bool.{not}
use native.Mathlib.Omega.{arith}
use lib.Seq.{length-take-le}
use Rattle.timetable.proofs.Judging.{handed_on, few_events}
use Rattle.timetable.proofs.Solves.{solve_network, solve_9_times, solve_9_rows, solve_10, solve_0}
use Rattle.timetable.proofs.solve.solve.Goals as goal
use Rattle.timetable.proofs.solve.solve.Goals.{then-times-count-via-then-times-count, then-times-count-via-else-times-count+then-short}

pub returns-in_err-network : goal.returns-in_err-network
returns-in_err-network c =
    rw (handed_on c.from_residual.ensures) (solve_network _ _ _ _ c.arcs.ensures c.in_err-network.ensures)

pub returns-then-times-count : goal.returns-then-times-count
returns-then-times-count c =
    let w = c.in_ok-network.network.well in
    rw (c.at.ensures, ← c.in_ok-network.ensures.0)
    (elim c.then-times-count.branch [
      | then-times-count-via-then-times-count b ↦ solve_9_times _ _ _ w (omega (arith, b.if-times-count.true, c.events-count.ensures))
      | then-times-count-via-else-times-count+then-short b ↦
          solve_9_rows _ _ _ w (omega (arith, b.if-times-count.false, c.events-count.ensures))
          (rw b.arcs-else-times-count.ensures at (sym b.short.ensures ∙ b.if-short.true))
    ])

pub slice_bounds-buffer-end : goal.slice_bounds-buffer-end
slice_bounds-buffer-end c = omega (arith, c.events-count.ensures, few_events c.in_ok-network.network.well)

pub slice_bounds-row-end : goal.slice_bounds-row-end
slice_bounds-row-end c = sym (length-take-le _ _ (omega (arith, c.events-count.ensures, few_events c.in_ok-network.network.well)))

pub smallest-requires : goal.smallest-requires
smallest-requires c =
    length-take-le _ _ (omega (arith, c.events-count.ensures, few_events c.in_ok-network.network.well)) ∙ c.events-count.ensures

pub returns-then-not-smallest : goal.returns-then-not-smallest
returns-then-not-smallest c =
    let s = rw c.arcs-else-times-count.ensures at (sym c.short.ensures ∙ c.if-short.false) in
    rw (c.at-then-not-smallest.ensures, ← c.in_ok-network.ensures.0)
    (solve_10 _ _ _ c.in_ok-network.network.well (omega (arith, c.if-times-count.false, c.events-count.ensures)) s c.smallest.ensures
    (ap not c.if-not-smallest.true))

pub returns : goal.returns
returns c =
    let s = rw c.arcs-else-times-count.ensures at (sym c.short.ensures ∙ c.if-short.false) in
    rw (← c.in_ok-network.ensures.0)
    (solve_0 _ _ _ c.in_ok-network.network.well (omega (arith, c.if-times-count.false, c.events-count.ensures)) s c.smallest.ensures
    (ap not c.if-not-smallest.false) c.note_times.ensures c.note_arcs.ensures)
