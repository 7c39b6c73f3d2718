-- The answers of rebuild, one law for each way out. Assumes nothing.
use mathlib.Core.Path.{◌≡◌, refl, sym, ap, ◌∙◌, subst}
use mathlib.Core.List.{List, ◌++◌}
use mathlib.Core.Bool.{not}
use Prim.Native.Nat.{ℕ, ◌≤◌, ◌<◌}
use native.Mathlib.Omega.{arith}
use borrow.Author.Tests.{lt-ltb, le-ltb, ltb-false, eqb-true, eq-eqb, not-false}
use lib.IntN.{ℤ}
use lib.ListN.{length, take, drop}
use lib.Dec.{ltb}
use lib.Seq.{length-take-le, take_at}
use Rattle.std.specs.Prelude.{Some, None, Ok, Err}
use Rattle.std.proofs.lemmas.List.{take-append-drop}
use Rattle.numbers.specs.Row.{at, at_ℤ}
use Rattle.network.specs.declared.Answer.{Answer}
use Rattle.network.specs.declared.Refused.{Refused}
use Rattle.network.specs.Network.{Network, events, arcs, period}
use Rattle.network.specs.PublicRule.{cost_of}
use Rattle.network.specs.First.{FirstOf}
use Rattle.network.specs.Judged.{Judged}
use Rattle.network.specs.Refusals.{answer, answered, once, named}
use Rattle.network.specs.Table.{refusals_with}
use Rattle.network.specs.Rows.{other, astray}
use Rattle.walks.specs.Times.{Anchored}
use Rattle.walks.specs.Place.{Given, Impossible, Placed}
use Rattle.network.proofs.Refusing.{Clear, AllClear, coded, clear, once_refused, once_clear, clear_of, refuses, succeeds}
use Rattle.network.proofs.Refusing.AllClear.{none, more}
use Rattle.network.proofs.Sound.{all_clear, well_with, long_with, judged_clear}
use Rattle.timetable.specs.Rebuild.{rebuild_refusals, rebuild_judged, graph, Sheet, Rebuilt}
use Rattle.timetable.specs.Rebuild.Restored.{impossible, restored}
use Rattle.timetable.specs.Rebuild.Rebuilt.{refused, judged}
use Rattle.timetable.proofs.Judging.{code_some, network_refused}
use Rattle.timetable.proofs.ReadTexts.{onto-written}
use Rattle.timetable.proofs.Sheets.{given, stands}

-- nothing refuses exactly where the rows are a sheet and have room
pub judged_sheet : (N : Network) (x : List ℤ) (times : List ℕ) → Sheet N x → events N ≤ length times → (rebuild_judged N x times).code ≡ 0
unfolding rebuild_judged rebuild_refusals
judged_sheet N x times s l =
    let w = subst (λ (k : ℕ). AllClear (refusals_with N k)) (sym s.long) (all_clear N s.well) in
    sym (ap (λ (o : Answer). o.code)
    (succeeds 0 w
    (more (once_clear 9 (le-ltb _ _ l))
    (more (record { nowhere = λ v h. ap not (eq-eqb _ _ (s.one_period v h)) }) (more (record { nowhere = s.within }) none)))))

pub room_judged : (N : Network) (x : List ℤ) (times : List ℕ) → (rebuild_judged N x times).code ≡ 0 → events N ≤ length times
unfolding rebuild_judged coded rebuild_refusals named
room_judged N x times z =
    let c = (judged_clear N (length x) (rebuild_refusals N x times) 0 refl z).1 in
    ltb-false (length times) (events N) ((clear 9 c).nowhere 0 (omega arith))

pub sheet_judged : (N : Network) (x : List ℤ) (times : List ℕ) → (rebuild_judged N x times).code ≡ 0 → Sheet N x
unfolding rebuild_judged coded rebuild_refusals named
sheet_judged N x times z =
    let c = judged_clear N (length x) (rebuild_refusals N x times) 0 refl z in
    record {
      well = well_with N (length x) c.0;
      long = long_with N (length x) c.0;
      one_period = λ v h. eqb-true (period N v) (period N 0) (not-false _ ((clear 11 c.1).nowhere v h));
      within = λ a h. (clear 12 c.1).nowhere a h;
    }

-- ---- one law for each way out

pub rebuild_network : (N : Network) (x : List ℤ) (times : List ℕ) (r : Refused) → Judged N (length x) (Err r) → Rebuilt N x times times (answered (Err r))
unfolding rebuild_judged
rebuild_network N x times r j = refused (code_some r.code) (network_refused N (rebuild_refusals N x times) 0 r refl j) refl

module _ (N : Network) (x : List ℤ) (times : List ℕ) (w : AllClear (refusals_with N (length x))) where
  pub rebuild_9 : length times < events N → Rebuilt N x times times (answer 9 0 0)
  unfolding rebuild_judged rebuild_refusals
  rebuild_9 s = refused (λ z. omega arith) (refuses _ 0 w none (once_refused 9 (lt-ltb _ _ s)) (omega arith)) refl

  module _ (l : events N ≤ length times) where
    clear_9 : Clear (once 9 (ltb (length times) (events N)))
    clear_9 = once_clear 9 (le-ltb (length times) (events N) l)

    pub rebuild_11 : {p : ℕ} → FirstOf (other N.periods) (events N) (Some p) → Rebuilt N x times times (answer 11 p 0)
    unfolding rebuild_judged rebuild_refusals
    rebuild_11 f = refused (λ z. omega arith) (refuses _ 0 w (more clear_9 none) f.1 f.0) refl

    module _ (f : FirstOf (other N.periods) (events N) None) where
      pub rebuild_12 : {p : ℕ} → FirstOf (astray N x) (arcs N) (Some p) → Rebuilt N x times times (answer 12 p 0)
      unfolding rebuild_judged rebuild_refusals
      rebuild_12 g = refused (λ z. omega arith) (refuses _ 0 w (more clear_9 (more (clear_of f (omega arith)) none)) g.1 g.0) refl

      module _ (g : FirstOf (astray N x) (arcs N) None) where
        sheet : Sheet N x
        sheet = record {
          well = well_with N (length x) w;
          long = long_with N (length x) w;
          one_period = λ v h. eqb-true (period N v) (period N 0) (not-false _ (f.before v h));
          within = g.before;
        }

        -- ---- by what the walks found, of the same rows and numbers

        module _ {M : Network} {p n : ℕ} (e : M ≡ N) (q : p ≡ period N 0) (r : n ≡ events N) where
          pub rebuild_given : Given M.tails M.heads x p (length (take n times))
          rebuild_given = rw (e, q, r) (given sheet (length-take-le (events N) times l))

          pub rebuild_13 : {row : List ℕ} {k : ℕ} → Placed M.tails M.heads x p (take n times) row (Err k) → Rebuilt N x times (row ++ drop n times) (answer 13 k 0)
          rebuild_13 {row} {k} a =
              judged (judged_sheet N x times sheet l)
              (impossible k i.inside i.allowed i.refused (ap (λ (u : List ℕ). u ++ drop n times) a.unwritten ∙ take-append-drop n times) refl)
            where
              i : Impossible (graph N) (at_ℤ x) (period N 0) (arcs N) k
              i = rw (← q, ← e) a.impossible

          pub rebuild_0 : {row : List ℕ} {u : Unit {0}} {c : ℕ} → Placed M.tails M.heads x p (take n times) row (Ok u) → c ≡ cost_of N (take n (row ++ drop n times))
              → Rebuilt N x times (row ++ drop n times) (answer 0 0 c)
          rebuild_0 {row} a f =
              judged (judged_sheet N x times sheet l)
              (restored row (stands sheet long anchored) (rw (r, ← long) (onto-written row times 0 (omega (arith, long, l))))
              (ap (answer 0 0) (f ∙ ap (cost_of N) (take_at row (drop n times) n (long ∙ sym r)))))
            where
              room : length (take n times) ≡ events N
              room = rw r (length-take-le (events N) times l)

              long : length row ≡ events N
              long = a.times_long ∙ room

              anchored : Anchored (graph N) (at_ℤ x) (period N 0) (events N) (arcs N) (at row)
              anchored = rw (← room, ← q, ← e) a.timetable
