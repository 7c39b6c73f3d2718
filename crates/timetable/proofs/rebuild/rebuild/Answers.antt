-- One law for each way out.
use mathlib.Core.Path.{◌≡◌, ap, subst}
use Prim.Native.Nat.{ℕ}
use native.Mathlib.Omega.{arith}
use Rattle.std.specs.Prelude.{Option, Some, None}
use Rattle.network.specs.First.{FirstOf}
use Rattle.network.specs.Network.{Network, events, arcs}
use Rattle.network.specs.Rows.{other}
use Rattle.network.proofs.Sound.{sound, long_with}
use Rattle.timetable.proofs.Judging.{handed_on, few_events, few_arcs, clear_rows}
use Rattle.timetable.proofs.Rebuilds.{rebuild_network, rebuild_9, rebuild_11, rebuild_12, rebuild_given, rebuild_13, rebuild_0}
use Rattle.timetable.proofs.rebuild.rebuild.Goals as goal

-- a scan over the periods of rows, as one over those of the network that is seen in them
of_rows : {A N : Network} (r : Option ℕ) → A ≡ N → FirstOf (other A.periods) (events A) r → FirstOf (other N.periods) (events N) r
of_rows r e f = subst (λ (N : Network). FirstOf (other N.periods) (events N) r) e f

pub returns-in_err-network : goal.returns-in_err-network
returns-in_err-network c =
    rw (handed_on c.from_residual.ensures) (rebuild_network _ _ _ _ c.in_err-network.ensures)

pub returns-then-times-count : goal.returns-then-times-count
returns-then-times-count c =
    rw (c.at.ensures, ← c.in_ok-network.ensures.0)
    (rebuild_9 _ _ _ (clear_rows _ c.in_ok-network.ensures) (omega (arith, c.if-times-count.true, c.events-count.ensures)))

pub at-requires-in-Some : goal.at-requires-in-Some
at-requires-in-Some c = omega (arith, (of_rows (Some _) c.rows.view_is c.in-Some.ensures).0, few_events c.in_ok-network.network.well)

pub returns-in-Some : goal.returns-in-Some
returns-in-Some c =
    rw (c.at-in-Some.ensures, ← c.in_ok-network.ensures.0)
    (rebuild_11 _ _ _ (clear_rows _ c.in_ok-network.ensures) (omega (arith, c.if-times-count.false, c.events-count.ensures)) (of_rows (Some _) c.rows.view_is c.in-Some.ensures))

pub first_astray-requires : goal.first_astray-requires
first_astray-requires c = long_with _ _ (clear_rows _ c.in_ok-network.ensures)

pub at-requires-in-Some-first_astray : goal.at-requires-in-Some-first_astray
at-requires-in-Some-first_astray c = omega (arith, c.in-Some-first_astray.ensures.0, few_arcs c.in_ok-network.network.well)

pub returns-in-Some-first_astray : goal.returns-in-Some-first_astray
returns-in-Some-first_astray c =
    rw (c.at-in-Some-first_astray.ensures, ← c.in_ok-network.ensures.0)
    (rebuild_12 _ _ _ (clear_rows _ c.in_ok-network.ensures) (omega (arith, c.if-times-count.false, c.events-count.ensures)) (of_rows None c.rows.view_is c.in_default.ensures)
    c.in-Some-first_astray.ensures)

pub period-common-requires : goal.period-common-requires
period-common-requires c = (sound _ c.in_ok-network.network.well).event_count.some

pub place_arcs-requires : goal.place_arcs-requires
place_arcs-requires c =
    rebuild_given _ _ _ (clear_rows _ c.in_ok-network.ensures) (omega (arith, c.if-times-count.false, c.events-count.ensures)) (of_rows None c.rows.view_is c.in_default.ensures)
    c.in_default-first_astray.ensures c.rows.view_is c.period-common.ensures c.events-count.ensures

pub at-requires-in-Err : goal.at-requires-in-Err
at-requires-in-Err c = omega (arith, c.in-Err.ensures.impossible.inside, ap arcs c.rows.view_is, few_arcs c.in_ok-network.network.well)

pub returns-in-Err : goal.returns-in-Err
returns-in-Err c =
    rw (c.at-in-Err.ensures, ← c.in_ok-network.ensures.0)
    (rebuild_13 _ _ _ (clear_rows _ c.in_ok-network.ensures) (omega (arith, c.if-times-count.false, c.events-count.ensures)) (of_rows None c.rows.view_is c.in_default.ensures)
    c.in_default-first_astray.ensures c.rows.view_is c.period-common.ensures c.events-count.ensures c.in-Err.ensures)

pub returns : goal.returns
returns c =
    rw (← c.in_ok-network.ensures.0)
    (rebuild_0 _ _ _ (clear_rows _ c.in_ok-network.ensures) (omega (arith, c.if-times-count.false, c.events-count.ensures)) (of_rows None c.rows.view_is c.in_default.ensures)
    c.in_default-first_astray.ensures c.rows.view_is c.period-common.ensures c.events-count.ensures c.in_default-place_arcs.ensures c.cost.ensures)
