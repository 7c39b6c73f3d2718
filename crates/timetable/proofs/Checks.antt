-- The answers of check, one law for each way out. Assumes nothing.
use mathlib.Core.Path.{◌≡◌, ap, ◌∙◌}
use mathlib.Core.List.{List}
use mathlib.Core.Bool.{not}
use Prim.Native.Nat.{ℕ}
use native.Mathlib.Omega.{arith}
use borrow.Author.Tests.{eq-eqb, ne_eqb}
use lib.ListN.{length}
use Rattle.std.specs.Prelude.{Some, None, Err}
use Rattle.network.specs.declared.Refused.{Refused}
use Rattle.network.specs.Network.{Network, events, arcs}
use Rattle.network.specs.PublicRule.{cost_of}
use Rattle.network.specs.First.{FirstOf}
use Rattle.network.specs.Judged.{Judged}
use Rattle.network.specs.Refusals.{answer, answered, once}
use Rattle.network.specs.Table.{differ, WellFormed}
use Rattle.network.specs.Rows.{late, unmet}
use Rattle.network.proofs.Refusing.{Clear, once_refused, once_clear, clear_of, refuses, succeeds}
use Rattle.network.proofs.Refusing.AllClear.{none, more}
use Rattle.network.proofs.Sound.{all_clear}
use Rattle.timetable.specs.Check.{check_refusals, check_of, Checked}
use Rattle.timetable.proofs.Judging.{network_refused}

pub check_network : (N : Network) (t : List ℕ) {f : ℕ} (r : Refused) → f ≡ arcs N → Judged N f (Err r) → Checked N t (answered (Err r))
unfolding check_of
check_network N t r e j = record { answer = network_refused N (check_refusals N t) (cost_of N t) r e j }

module _ (N : Network) (t : List ℕ) (w : WellFormed N) where
  pub check_9 : (length t ≡ events N → ⊥) → Checked N t (answer 9 0 0)
  unfolding check_of check_refusals
  check_9 n = record { answer = refuses _ (cost_of N t) (all_clear N w) none (once_refused 9 (ap not (ne_eqb _ _ n))) (omega arith) }

  module _ (l : length t ≡ events N) where
    clear_9 : Clear (once 9 (differ (length t) (events N)))
    clear_9 = once_clear 9 (ap not (eq-eqb _ _ l))

    pub check_14 : {p : ℕ} → FirstOf (late N.periods t) (events N) (Some p) → Checked N t (answer 14 p 0)
    unfolding check_of check_refusals
    check_14 f = record { answer = refuses _ (cost_of N t) (all_clear N w) (more clear_9 none) f.1 f.0 }

    module _ (f : FirstOf (late N.periods t) (events N) None) where
      pub check_15 : {p : ℕ} → FirstOf (unmet N t) (arcs N) (Some p) → Checked N t (answer 15 p 0)
      unfolding check_of check_refusals
      check_15 g = record { answer = refuses _ (cost_of N t) (all_clear N w) (more clear_9 (more (clear_of f (omega arith)) none)) g.1 g.0 }

      pub check_0 : {x : ℕ} → FirstOf (unmet N t) (arcs N) None → x ≡ cost_of N t → Checked N t (answer 0 0 x)
      unfolding check_of check_refusals
      check_0 g e = record {
        answer =
            ap (answer 0 0) e
            ∙ succeeds (cost_of N t) (all_clear N w) (more clear_9 (more (clear_of f (omega arith)) (more (clear_of g (omega arith)) none)));
      }
