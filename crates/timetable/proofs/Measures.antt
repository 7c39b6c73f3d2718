-- The answers of measure, one law for each way out, and its rows with each. Assumes nothing.
use mathlib.Core.Path.{◌≡◌, refl, sym, ap, ◌∙◌}
use mathlib.Core.List.{List}
use mathlib.Core.Bool.{Bool, true, false, not, ◌||◌}
use Prim.Native.Nat.{ℕ}
use native.Mathlib.Omega.{arith}
use borrow.Author.Tests.{eq-eqb, ne_eqb, eqb-true, not-false}
use lib.ListN.{length}
use Rattle.std.specs.Prelude.{Some, None, Err}
use Rattle.network.specs.declared.Answer.{Answer}
use Rattle.network.specs.declared.Refused.{Refused}
use Rattle.network.specs.Network.{Network, events, arcs}
use Rattle.network.specs.PublicRule.{cost_of}
use Rattle.network.specs.First.{FirstOf}
use Rattle.network.specs.Judged.{Judged}
use Rattle.network.specs.Refusals.{answer, answered, named}
use Rattle.network.specs.Table.{differ, WellFormed}
use Rattle.network.specs.Rows.{late, ArcRows, short_for, noted}
use Rattle.network.specs.Inner.{Room, Noted}
use Rattle.network.proofs.Refusing.{coded, clear, after_kept, after-written, once_refused, once_clear, clear_of, refuses, succeeds}
use Rattle.network.proofs.Refusing.AllClear.{none, more}
use Rattle.network.proofs.Sound.{neither, all_clear, well_formed, judged_clear}
use Rattle.network.proofs.Times.{on_time}
use Rattle.timetable.specs.Measure.{measure_refusals, measure_of, Measured}
use Rattle.timetable.proofs.Judging.{code_some, network_refused}

-- ---- the answer and the rows together

module _ {N : Network} {t : List ℕ} {was : ArcRows} {r : Answer} where
  measured_not : (r.code ≡ 0 → ⊥) → r ≡ measure_of N t was → Measured N t was was r
  measured_not n a = record { answer = a; rows = sym (after_kept r _ _ n) }

  measured : {is : ArcRows} → r ≡ answer 0 0 (cost_of N t) → answer 0 0 (cost_of N t) ≡ measure_of N t was
      → is ≡ noted N t was → Measured N t was is r
  measured e a q = record { answer = e ∙ a; rows = q ∙ sym (after-written r _ _ (ap (λ (o : Answer). o.code) e)) }

-- ---- one law for each way out

pub measure_network : (N : Network) (t : List ℕ) (was : ArcRows) {f : ℕ} (r : Refused) → f ≡ arcs N → Judged N f (Err r) → Measured N t was was (answered (Err r))
unfolding measure_of
measure_network N t was r e j = measured_not (code_some r.code) (network_refused N (measure_refusals N t was) (cost_of N t) r e j)

module _ (N : Network) (t : List ℕ) (was : ArcRows) (w : WellFormed N) where
  pub measure_9_times : (length t ≡ events N → ⊥) → Measured N t was was (answer 9 0 0)
  unfolding measure_of measure_refusals
  measure_9_times n =
      measured_not (λ z. omega arith)
      (refuses _ (cost_of N t) (all_clear N w) none (once_refused 9 (ap (λ (b : Bool). not b || short_for N was) (ne_eqb _ _ n))) (omega arith))

  module _ (l : length t ≡ events N) where
    nine : differ (length t) (events N) || short_for N was ≡ short_for N was
    nine = ap (λ (b : Bool). not b || short_for N was) (eq-eqb _ _ l)

    pub measure_9_rows : short_for N was ≡ true → Measured N t was was (answer 9 0 0)
    unfolding measure_of measure_refusals
    measure_9_rows s = measured_not (λ z. omega arith) (refuses _ (cost_of N t) (all_clear N w) none (once_refused 9 (nine ∙ s)) (omega arith))

    module _ (s : short_for N was ≡ false) where
      pub measure_14 : {p : ℕ} → FirstOf (late N.periods t) (events N) (Some p) → Measured N t was was (answer 14 p 0)
      unfolding measure_of measure_refusals
      measure_14 f = measured_not (λ z. omega arith) (refuses _ (cost_of N t) (all_clear N w) (more (once_clear 9 (nine ∙ s)) none) f.1 f.0)

      pub measure_0 : {is : ArcRows} {x : ℕ} → FirstOf (late N.periods t) (events N) None → Noted N t was is x → Measured N t was is (answer 0 0 x)
      unfolding measure_of measure_refusals
      measure_0 f n =
          measured (ap (answer 0 0) n.cost)
          (succeeds (cost_of N t) (all_clear N w) (more (once_clear 9 (nine ∙ s)) (more (clear_of f (omega arith)) none))) n.rows

-- ---- code 0 says what was found: a timetable, and room

pub measure_room : (N : Network) (t : List ℕ) (rows : ArcRows) → (measure_of N t rows).code ≡ 0 → Room N t rows
unfolding measure_of coded measure_refusals named
measure_room N t rows z =
    let c = judged_clear N (arcs N) (measure_refusals N t rows) (cost_of N t) refl z in
    let n = neither (differ (length t) (events N)) (short_for N rows) ((clear 9 c.1).nowhere 0 (omega arith)) in
    record {
      well = well_formed N c.0;
      timetable = on_time (eqb-true (length t) (events N) (not-false _ n.0)) (clear 14 c.1).nowhere;
      room = n.1;
    }
