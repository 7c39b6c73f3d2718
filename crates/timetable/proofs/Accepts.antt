-- Check accepts a timetable exactly if the network is well-formed and the timetable is feasible; measure takes any timetable. Assumes nothing.
use mathlib.Core.Path.{◌≡◌, refl, ap, sym, ◌∙◌}
use mathlib.Core.List.{List}
use mathlib.Core.Bool.{Bool, false, not, ◌||◌}
use Prim.Native.Nat.{ℕ}
use native.Mathlib.Omega.{arith}
use borrow.Author.Tests.{eqb-true, eq-eqb, not-false}
use lib.ListN.{length}
use Rattle.network.specs.declared.Answer.{Answer}
use Rattle.network.specs.Network.{Network, events, arcs}
use Rattle.network.specs.PublicRule.{Timetable, Feasible, cost_of}
use Rattle.network.specs.Refusals.{answer, named}
use Rattle.network.specs.Table.{WellFormed}
use Rattle.network.specs.Rows.{ArcRows, short_for}
use Rattle.network.proofs.Refusing.{coded, once_clear, succeeds, clear, after-written}
use Rattle.network.proofs.Refusing.AllClear.{none, more}
use Rattle.network.proofs.Sound.{all_clear, well_formed, judged_clear}
use Rattle.network.proofs.Times.{on_time, none_late}
use Rattle.timetable.specs.Check.{check_refusals, check_of, Checked}
use Rattle.timetable.specs.Measure.{measure_refusals, measure_of, Measured}
use Rattle.timetable.specs.Demands.{MeasuredBack}

pub accepted : (N : Network) (t : List ℕ) {r : Answer} → Checked N t r → r.code ≡ 0 → WellFormed N × Feasible N t
unfolding check_of coded check_refusals named
accepted N t k z =
    let c = judged_clear N (arcs N) (check_refusals N t) (cost_of N t) refl (sym (ap (λ (a : Answer). a.code) k.answer) ∙ z) in (
      well_formed N c.0,
      record {
        timetable = on_time (eqb-true (length t) (events N) (not-false _ ((clear 9 c.1).nowhere 0 (omega arith)))) (clear 14 c.1).nowhere;
        each-met = λ a h. not-false _ ((clear 15 c.1).nowhere a h);
      },
    )

pub accepts : (N : Network) (t : List ℕ) {r : Answer} → Checked N t r → WellFormed N → Feasible N t → r ≡ answer 0 0 (cost_of N t)
unfolding check_of check_refusals
accepts N t k w f =
    k.answer
    ∙ sym (succeeds (cost_of N t) (all_clear N w)
    (more (once_clear 9 (ap not (eq-eqb _ _ f.timetable.long)))
    (more (record { nowhere = λ v h. none_late f.timetable h })
    (more (record { nowhere = λ a h. ap not (f.each-met a h) }) none))))

-- and measure any timetable, where there is room
pub measures : {N : Network} {t : List ℕ} {was is : ArcRows} {r : Answer}
    → WellFormed N → Timetable N t → short_for N was ≡ false → Measured N t was is r → MeasuredBack N t was is r
unfolding measure_of measure_refusals
measures {N} {t} {was} {r = r} w p s m = record { rows_are = m.rows ∙ after-written r _ _ (ap (λ (o : Answer). o.code) e); answer_is = e }
  where
    e : r ≡ answer 0 0 (cost_of N t)
    e =
        m.answer
        ∙ sym (succeeds (cost_of N t) (all_clear N w)
        (more (once_clear 9 (ap (λ (b : Bool). not b || short_for N was) (eq-eqb _ _ p.long) ∙ s))
        (more (record { nowhere = λ v h. none_late p h }) none)))
