-- The answers of solve, one law for each way out. Assumes nothing.
use mathlib.Core.Path.{◌≡◌, refl, sym, ap, ◌∙◌}
use mathlib.Core.List.{List}
use mathlib.Core.Bool.{Bool, true, false, not, ◌||◌}
use Prim.Native.Nat.{ℕ, ◌≤◌, ◌<◌}
use native.Mathlib.Omega.{arith}
use borrow.Author.Tests.{lt-ltb, le-ltb, ltb-false}
use lib.ListN.{length}
use lib.Dec.{ltb}
use Rattle.std.specs.Prelude.{Err}
use Rattle.network.specs.declared.Answer.{Answer}
use Rattle.network.specs.declared.Refused.{Refused}
use Rattle.network.specs.Network.{Network, events, arcs}
use Rattle.numbers.specs.Row.{at}
use Rattle.network.specs.Judged.{Judged}
use Rattle.network.specs.Refusals.{answer, answered, named}
use Rattle.network.specs.Table.{refusals, WellFormed}
use Rattle.network.specs.Rows.{written, ArcRows, short_for}
use Rattle.network.specs.Inner.{Noted}
use Rattle.network.proofs.Scans.{true_false}
use Rattle.network.proofs.Refusing.{AllClear, coded, clear, once_refused, once_clear, refuses, succeeds}
use Rattle.network.proofs.Refusing.AllClear.{none, more}
use Rattle.network.proofs.Sound.{neither, all_clear, well_formed, judged_clear}
use Rattle.search.specs.Looked.{Looked}
use Rattle.search.specs.Looked.Looked.{found, nothing}
use Rattle.timetable.specs.Solve.{solve_refusals, solve_judged, Solved}
use Rattle.timetable.specs.Solve.Found.{infeasible, solved}
use Rattle.timetable.specs.Solve.Solved.{refused, searched}
use Rattle.timetable.proofs.Judging.{code_some, network_refused}

pub solve_network : (N : Network) (times : List ℕ) (rows : ArcRows) {f : ℕ} (r : Refused) → f ≡ arcs N → Judged N f (Err r)
    → Solved N times rows times rows (answered (Err r))
unfolding solve_judged
solve_network N times rows r e j = refused (code_some r.code) (network_refused N (solve_refusals N times rows) 0 r e j) refl refl

module _ (N : Network) (times : List ℕ) (rows : ArcRows) where
  -- nothing refuses only where the network is well-formed, and there is room
  module _ (z : (solve_judged N times rows).code ≡ 0) where
    none_applies : AllClear (refusals N) × AllClear (solve_refusals N times rows)
    unfolding solve_judged coded solve_refusals
    none_applies = judged_clear N (arcs N) (solve_refusals N times rows) 0 refl z

    pub solve_well : WellFormed N
    solve_well = well_formed N none_applies.0

    pub solve_room : (events N ≤ length times) × (short_for N rows ≡ false)
    unfolding solve_refusals named
    solve_room =
        let n = neither (ltb (length times) (events N)) (short_for N rows) ((clear 9 none_applies.1).nowhere 0 (omega arith)) in
        (ltb-false _ _ n.0, n.1)

  module _ (w : WellFormed N) where
    pub solve_9_times : length times < events N → Solved N times rows times rows (answer 9 0 0)
    unfolding solve_judged solve_refusals
    solve_9_times s =
        refused (λ z. omega arith)
        (refuses _ 0 (all_clear N w) none (once_refused 9 (ap (λ (b : Bool). b || short_for N rows) (lt-ltb _ _ s))) (omega arith))
        refl refl

    module _ (l : events N ≤ length times) where
      nine : ltb (length times) (events N) || short_for N rows ≡ short_for N rows
      nine = ap (λ (b : Bool). b || short_for N rows) (le-ltb _ _ l)

      pub solve_9_rows : short_for N rows ≡ true → Solved N times rows times rows (answer 9 0 0)
      unfolding solve_judged solve_refusals
      solve_9_rows s = refused (λ z. omega arith) (refuses _ 0 (all_clear N w) none (once_refused 9 (nine ∙ s)) (omega arith)) refl refl

      module _ (s : short_for N rows ≡ false) where
        pub solve_clear : (solve_judged N times rows).code ≡ 0
        unfolding solve_judged solve_refusals
        solve_clear = sym (ap (λ (a : Answer). a.code) (succeeds 0 (all_clear N w) (more (once_clear 9 (nine ∙ s)) none)))

        -- ---- by what the search found

        pub solve_10 : {t : List ℕ} {b : Bool} → Looked N t b → not b ≡ true → Solved N times rows times rows (answer 10 0 0)
        solve_10 (found p) e = absurd (true_false e refl)
        solve_10 (nothing n) e = searched solve_clear (infeasible n refl refl refl)

        pub solve_0 : {t times' : List ℕ} {rows' : ArcRows} {b : Bool} {x : ℕ} → Looked N t b → not b ≡ false
            → times' ≡ written (at t) (length t) times → Noted N t rows rows' x → Solved N times rows times' rows' (answer 0 0 x)
        solve_0 (nothing n) e f g = absurd (true_false refl e)
        solve_0 {t} (found p) e f g =
            let k : length t ≡ events N = p.feasible.timetable.long in
            searched solve_clear (solved t p (f ∙ ap (λ (k : ℕ). written (at t) k times) k) g.rows (ap (answer 0 0) g.cost))
