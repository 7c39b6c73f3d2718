-- What a judged network says to a call that has lines of its own behind the network's. Assumes nothing.
use mathlib.Core.Path.{◌≡◌, refl, sym, ap, ◌∙◌, subst}
use mathlib.Core.List.{List, ◌++◌}
use Prim.Native.Nat.{ℕ, ◌≤◌}
use native.Mathlib.Omega.{arith}
use Rattle.std.specs.Prelude.{Result, Err}
use Rattle.std.specs.Result.{IsErr, IsErrAnd}
use Rattle.std.proofs.lemmas.Result.{err_from_is_err_and}
use Rattle.network.specs.declared.Code.{Code}
use Rattle.network.specs.declared.Code.TheVariants.{EventCount, Period, ArcRows, Ends, Loop, Lower, Upper, Weight, Room, Infeasible, OtherPeriod, Tension}
use Rattle.network.specs.declared.Code.TheVariants.{Walk, Late, Unmet, Header, Record, Repeat}
use Rattle.network.specs.declared.Refused.{Refused}
use Rattle.network.specs.Judged.{Judged}
use Rattle.network.specs.Network.{Network, events, arcs}
use Rattle.network.specs.Refusals.{Refusal, answer, number, answered, answer_of}
use Rattle.network.specs.Table.{refusals_with, refusal_of, WellFormed}
use Rattle.network.proofs.Refusing.{AllClear, stopped}
use Rattle.network.proofs.Sound.{sound, clear_with}

-- no code is 0
pub code_some : (c : Code) → number c ≡ 0 → ⊥
code_some EventCount e = omega arith
code_some Period e = omega arith
code_some ArcRows e = omega arith
code_some Ends e = omega arith
code_some Loop e = omega arith
code_some Lower e = omega arith
code_some Upper e = omega arith
code_some Weight e = omega arith
code_some Room e = omega arith
code_some Infeasible e = omega arith
code_some OtherPeriod e = omega arith
code_some Tension e = omega arith
code_some Walk e = omega arith
code_some Late e = omega arith
code_some Unmet e = omega arith
code_some Header e = omega arith
code_some Record e = omega arith
code_some Repeat e = omega arith

-- a `?` hands an error on as it is
pub handed_on : {A : Type 0} {r : Result A Refused} {e : Refused} → IsErr r × IsErrAnd r (λ d. d ≡ e) → r ≡ Err e
handed_on {r = r} p =
    let q = err_from_is_err_and r p.1 in
    q.1 ∙ ap Err q.2

-- the network's refusal is the call's
pub network_refused : (N : Network) {f g : ℕ} (own : List Refusal) (x : ℕ) (r : Refused) → f ≡ g → Judged N f (Err r)
    → answered (Err r) ≡ answer_of (refusals_with N g ++ own) x
network_refused N own x r e j =
    subst (λ (k : ℕ). answered (Err r) ≡ answer_of (refusals_with N k ++ own) x) e (stopped (refusals_with N _) own x (sym j) (code_some r.code))

-- places of a network fit a byte
pub few_events : {N : Network} → WellFormed N → events N ≤ 64
few_events w = (sound _ w).event_count.most

pub few_arcs : {N : Network} → WellFormed N → arcs N ≤ 256
few_arcs w = (sound _ w).even.few_arcs

-- a network that is judged is clear of the table, with the further row
pub clear_rows : {M N : Network} (f : ℕ) → (M ≡ N) × (refusal_of N f ≡ answer 0 0 0) → AllClear (refusals_with M f)
clear_rows {N = N} f j = subst (λ (K : Network). AllClear (refusals_with K f)) (sym j.0) (clear_with N f (sym j.1) refl)
