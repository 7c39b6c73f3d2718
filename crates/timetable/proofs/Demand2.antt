-- Demand 2, over the contract of solve and the public rule: a well-formed network, lent with room for its answer, is refused as infeasible
-- exactly if no timetable is feasible; otherwise the smallest comes back, with its tensions, turns and cost. Assumes nothing.
use mathlib.Core.Path.{◌≡◌, ap, ◌∙◌}
use mathlib.Core.List.{List}
use mathlib.Core.Bool.{false}
use Prim.Native.Nat.{ℕ, ◌≤◌}
use native.Mathlib.Omega.{arith}
use lib.ListN.{length}
use Rattle.network.specs.declared.Answer.{Answer}
use Rattle.network.specs.Network.{Network, events}
use Rattle.network.specs.Table.{WellFormed}
use Rattle.network.specs.Rows.{ArcRows, short_for}
use Rattle.timetable.specs.Solve.{Found, Solved}
use Rattle.timetable.specs.Solve.Found.{infeasible, solved}
use Rattle.timetable.specs.Solve.Solved.{refused, searched}
use Rattle.timetable.specs.Demands.{Demand2}
use Rattle.timetable.proofs.Solves.{solve_clear}

by_search : {N : Network} {times times' : List ℕ} {rows rows' : ArcRows} {r : Answer} → Found N times rows times' rows' r → Demand2 N times rows times' rows' r
by_search (infeasible n e f a) = record { exactly = (λ z. n, λ m. ap (λ (o : Answer). o.code) a); otherwise = λ m. absurd (m (ap (λ (o : Answer). o.code) a)) }
by_search (solved t p e f a) = record {
  exactly = (λ z. absurd (omega (arith, z, ap (λ (o : Answer). o.code) a)), λ m. absurd (m t p.feasible));
  otherwise = λ m. record { table = t; smallest = p; times_are = e; rows_are = f; answer_is = a };
}

pub demand_2 : {N : Network} {times times' : List ℕ} {rows rows' : ArcRows} {r : Answer}
    → WellFormed N → events N ≤ length times → short_for N rows ≡ false
    → Solved N times rows times' rows' r → Demand2 N times rows times' rows' r
demand_2 {N} {times} {rows = rows} w h k (refused n a e f) =
    absurd (n (ap (λ (o : Answer). o.code) a ∙ solve_clear N times rows w h k))
demand_2 w h k (searched z p) = by_search p
