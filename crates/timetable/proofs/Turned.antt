-- The turns that come back, over the contracts of measure and solve alone. Assumes nothing.
use mathlib.Core.Path.{◌≡◌, sym, ap, ◌∙◌}
use mathlib.Core.List.{List}
use Prim.Native.Nat.{ℕ, ◌<◌}
use native.Mathlib.Omega.{arith}
use lib.IntN.{ℤ, pos, nat_abs, ◌+ℤ◌, ◌-ℤ◌, ◌*ℤ◌}
use Rattle.numbers.specs.Row.{at, at_ℤ}
use Rattle.network.specs.declared.Answer.{Answer}
use Rattle.network.specs.Network.{Network, events, arcs, tail, head, lower}
use Rattle.network.specs.PublicRule.{arc_period, tension, turned_by, turn_of}
use Rattle.network.specs.Rows.{ArcRows, noted}
use Rattle.network.specs.Table.{WellFormed}
use Rattle.network.specs.Inner.{Turning, Room}
use Rattle.network.proofs.Refusing.{after-written}
use Rattle.network.proofs.Sound.{sound}
use Rattle.network.proofs.Arcs.{room_of, written_at}
use Rattle.network.proofs.Turns.{turning, turn, turn_only, turn_small}
use Rattle.timetable.specs.Measure.{Measured}
use Rattle.timetable.specs.Solve.{Solved}
use Rattle.timetable.specs.Solve.Found.{infeasible, solved}
use Rattle.timetable.specs.Solve.Solved.{refused, searched}
use Rattle.timetable.specs.Demands.{Turned}
use Rattle.timetable.proofs.Measures.{measure_room}
use Rattle.timetable.proofs.Solves.{solve_well, solve_room}

noted_turned : {N : Network} {t : List ℕ} {was is : ArcRows} {a : ℕ} → Room N t was → is ≡ noted N t was → a < arcs N → Turned N t is a
unfolding noted
noted_turned {N} {t} {was} {is} {a} p e h = record {
  gives = x ∙ (turn N t a s).is ∙ sym (ap (turned_by N t a) y);
  only = λ z q. turn_only N t a s (record { is = sym x ∙ q }) ∙ sym y;
  within = omega (arith, ap nat_abs y, turn_small N t a s);
}
  where
    s : Turning (arc_period N a) (lower N a) (at t (tail N a)) (at t (head N a))
    s = turning (sound N p.well) p.timetable h

    x : at_ℤ is.tensions a ≡ tension N t a
    x = ap (λ (rows : ArcRows). at_ℤ rows.tensions a) e ∙ written_at (pos 0) (tension N t) (arcs N) was.tensions a h (room_of N was p.room).0

    y : at_ℤ is.turns a ≡ turn_of N t a
    y = ap (λ (rows : ArcRows). at_ℤ rows.turns a) e ∙ written_at (pos 0) (turn_of N t) (arcs N) was.turns a h (room_of N was p.room).1

pub measure_turns : {N : Network} {t : List ℕ} {was is : ArcRows} {r : Answer} {a : ℕ} → r.code ≡ 0 → Measured N t was is r → a < arcs N → Turned N t is a
measure_turns {N} {t} {was} {r = r} z p =
    noted_turned (measure_room N t was (sym (ap (λ (o : Answer). o.code) p.answer) ∙ z)) (p.rows ∙ after-written r _ _ z)

pub solve_turns : {N : Network} {times times' : List ℕ} {rows rows' : ArcRows} {r : Answer} {a : ℕ}
    → r.code ≡ 0 → Solved N times rows times' rows' r → a < arcs N → Turned N times' rows' a
solve_turns z (refused n e f g) h = absurd (n z)
solve_turns z (searched y (infeasible n e f q)) h = absurd (omega (arith, z, ap (λ (o : Answer). o.code) q))
solve_turns {N} {times} {times'} {rows} {rows'} {a = a} z (searched y (solved t p e f q)) h =
    record { gives = d.gives ∙ sym (same (at_ℤ rows'.turns a)); only = λ z g. d.only z (g ∙ same z); within = d.within }
  where
    w : WellFormed N
    w = solve_well N times rows y

    d : Turned N t rows' a
    d = noted_turned (record { well = w; timetable = p.feasible.timetable; room = (solve_room N times rows y).1 }) f h

    -- the times that were written are the timetable's
    time : (v : ℕ) → v < events N → at times' v ≡ at t v
    time v i = ap (λ (l : List ℕ). at l v) e ∙ written_at 0 (at t) (events N) times v i (solve_room N times rows y).0

    same : (z : ℤ) → turned_by N times' a z ≡ turned_by N t a z
    same z =
        let n = (sound N w).ends a h in
        λ j. (pos (time (head N a) n.head_in j) -ℤ pos (time (tail N a) n.tail_in j)) +ℤ (z *ℤ pos (arc_period N a))
