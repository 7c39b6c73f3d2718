-- Whatever the contracts of measure, solve and rebuild allow is what antt computes. Assumes nothing.
use mathlib.Core.Path.{◌≡◌, refl, sym, ◌∙◌}
use mathlib.Core.List.{List}
use mathlib.Core.Option.{Option, some, none}
use mathlib.Core.Bool.{Bool, true, false, cond}
use Prim.Native.Nat.{ℕ}
use borrow.Author.Tests.{eqb-true, eqb-false}
use lib.IntN.{ℤ}
use lib.Dec.{eqb}
use Rattle.numbers.specs.Row.{at_ℤ}
use Rattle.network.specs.declared.Answer.{Answer}
use Rattle.network.specs.Network.{Network, events, arcs, period}
use Rattle.network.specs.Rows.{ArcRows}
use Rattle.search.proofs.Model.{smallest_of}
use Rattle.search.proofs.Models.{Right as Searched, smallest_right}
use Rattle.walks.proofs.Model.{Out, timetable, refused as stuck, answer_for}
use Rattle.walks.proofs.Walks.{closed}
use Rattle.walks.proofs.Labels.{anchored}
use Rattle.walks.proofs.Models.{Right as Walked, answer_right}
use Rattle.timetable.specs.Solve.{solve_judged}
use Rattle.timetable.specs.Solve.Found.{infeasible, solved}
use Rattle.timetable.specs.Solve.Solved.{refused, searched}
use Rattle.timetable.specs.Rebuild.{rebuild_judged, graph}
use Rattle.timetable.specs.Rebuild.Restored.{impossible, restored}
use Rattle.timetable.specs.Rebuild.Rebuilt.{refused as not-judged, judged}
use Rattle.timetable.proofs.Sheets.{common, between, stands}
use Rattle.timetable.proofs.Solves.{solve_well}
use Rattle.timetable.proofs.Rebuilds.{sheet_judged}
use Rattle.timetable.proofs.One.{measure_one, solve_one, rebuild_one}
use Rattle.cases.specs.Calls.{Outcome, outcome, listed, Call, measure, solve, rebuild, Meets}
use Rattle.cases.proofs.Model.{measure_model, settle_by, solve_model, restore_by, rebuild_model, computed}

measure_meets : (N : Network) (t : List ℕ) (rows : ArcRows) → Meets (measure N t rows) (measure_model N t rows)
unfolding measure_model
measure_meets N t rows = (record { answer = refl; rows = refl }, refl)

solve_meets : (N : Network) (times : List ℕ) (rows : ArcRows) → Meets (solve N times rows) (solve_model N times rows)
unfolding solve_model
solve_meets N times rows = go (eqb r.code 0) refl
  where
    r : Answer
    r = solve_judged N times rows

    found : r.code ≡ 0 → (o : Option (List ℕ)) → Searched N o → Meets (solve N times rows) (settle_by N times rows o)
    found z (some t) p = searched z (solved t p refl refl refl)
    found z none p = searched z (infeasible p refl refl refl)

    go : (b : Bool) → eqb r.code 0 ≡ b → Meets (solve N times rows) (cond {A = Outcome} b (settle_by N times rows (smallest_of N)) (outcome times rows r))
    go true e = let z = eqb-true r.code 0 e in found z (smallest_of N) (smallest_right N (solve_well N times rows z))
    go false e = refused (eqb-false r.code 0 e) refl refl refl

rebuild_meets : (N : Network) (x : List ℤ) (times : List ℕ) → Meets (rebuild N x times) (rebuild_model N x times)
unfolding rebuild_model
rebuild_meets N x times = go (eqb r.code 0) refl
  where
    r : Answer
    r = rebuild_judged N x times

    found : Out
    found = answer_for N.tails N.heads x (period N 0) (events N)

    walked : r.code ≡ 0 → (o : Out) → Walked (graph N) (at_ℤ x) (period N 0) (events N) (arcs N) o → Meets (rebuild N x times) (restore_by N x times o)
    walked z (timetable t) p = (judged z (restored t (stands (sheet_judged N x times z) p.events (anchored p.labelled)) refl refl), refl)
    walked z (stuck k) p = (judged z (impossible k p.inside p.allowed (λ c. p.not_closed (closed c)) refl refl), refl)

    go : (b : Bool) → eqb r.code 0 ≡ b → Meets (rebuild N x times) (cond {A = Outcome} b (restore_by N x times found) (outcome times (listed x) r))
    go true e =
        let z = eqb-true r.code 0 e in
        let s = sheet_judged N x times z in
        walked z found (answer_right (graph N) (at_ℤ x) (period N 0) (events N) (arcs N) (common s).0 (between s))
    go false e = (not-judged (eqb-false r.code 0 e) refl refl, refl)

-- what antt computes of a call meets its contract
pub meets : (c : Call) → Meets c (computed c)
meets (measure N t rows) = measure_meets N t rows
meets (solve N times rows) = solve_meets N times rows
meets (rebuild N x times) = rebuild_meets N x times

-- and is the one outcome that does
pub only : (c : Call) {o : Outcome} → Meets c o → o ≡ computed c
only (measure N t rows) p =
    let q = meets (measure N t rows) in
    let e = measure_one p.0 q.0 in
    λ j. outcome ((p.1 ∙ sym q.1) j) (e.0 j) (e.1 j)
only (solve N times rows) p =
    let e = solve_one p (meets (solve N times rows)) in
    λ j. outcome (e.0 j) (e.1 j) (e.2 j)
only (rebuild N x times) p =
    let q = meets (rebuild N x times) in
    let e = rebuild_one p.0 q.0 in
    λ j. outcome (e.0 j) ((p.1 ∙ sym q.1) j) (e.1 j)
