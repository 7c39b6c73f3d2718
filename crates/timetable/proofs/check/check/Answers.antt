-- One law for each way out.
use native.Mathlib.Omega.{arith}
use Rattle.timetable.proofs.Judging.{handed_on, few_events, few_arcs}
use Rattle.timetable.proofs.Checks.{check_network, check_9, check_14, check_15, check_0}
use Rattle.timetable.proofs.check.check.Goals as goal

pub returns-in_err-network : goal.returns-in_err-network
returns-in_err-network c =
    rw (handed_on c.from_residual.ensures) (check_network _ _ _ c.arcs.ensures c.in_err-network.ensures)

pub returns-in_err-timed : goal.returns-in_err-timed
returns-in_err-timed c =
    rw (handed_on c.from_residual-in_err-timed.ensures, c.in_err-timed.ensures.0, ← c.in_ok-network.ensures.0) (check_9 _ _ c.in_ok-network.network.well c.in_err-timed.ensures.1)

pub at-requires : goal.at-requires
at-requires c = omega (arith, c.in-Some.ensures.0, few_events c.in_ok-timed.timed.network.well)

pub returns-in-Some : goal.returns-in-Some
returns-in-Some c =
    let d = c.in_ok-timed.timed in
    rw (c.at.ensures, ← c.in_ok-network.ensures.0, ← c.in_ok-timed.ensures.0, ← c.in_ok-timed.ensures.1) (check_14 _ _ d.network.well d.long c.in-Some.ensures)

pub at-requires-in-Some-first_unmet : goal.at-requires-in-Some-first_unmet
at-requires-in-Some-first_unmet c = omega (arith, c.in-Some-first_unmet.ensures.0, few_arcs c.in_ok-timed.timed.network.well)

pub returns-in-Some-first_unmet : goal.returns-in-Some-first_unmet
returns-in-Some-first_unmet c =
    let d = c.in_ok-timed.timed in
    rw (c.at-in-Some-first_unmet.ensures, ← c.in_ok-network.ensures.0, ← c.in_ok-timed.ensures.0, ← c.in_ok-timed.ensures.1)
    (check_15 _ _ d.network.well d.long c.in_default.ensures c.in-Some-first_unmet.ensures)

pub returns : goal.returns
returns c =
    let d = c.in_ok-timed.timed in
    rw (← c.in_ok-network.ensures.0, ← c.in_ok-timed.ensures.0, ← c.in_ok-timed.ensures.1)
    (check_0 _ _ d.network.well d.long c.in_default.ensures c.in_default-first_unmet.ensures c.cost.ensures)
