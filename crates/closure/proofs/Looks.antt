-- From the network to the longer one and back: the rows as the calls leave them. Assumes nothing.
use mathlib.Core.Path.{◌≡◌, sym, ap, subst}
use mathlib.Core.List.{List}
use mathlib.Core.Bool.{Bool}
use Prim.Native.Nat.{ℕ, ◌≤◌}
use native.Mathlib.Omega.{arith}
use lib.ListN.{length, take}
use Rattle.std.specs.Prelude.{Option, None, IsSome, is_some}
use Rattle.network.specs.Network.{Network, arcs}
use Rattle.network.specs.PublicRule.{Feasible}
use Rattle.network.specs.Rows.{written}
use Rattle.network.specs.declared.well_formed.WellFormed.{WellFormed}
use Rattle.network.proofs.Arcs.{written-length}
use Rattle.network.proofs.Scans.{true_false}
use Rattle.network.proofs.Sound.{sound}
use Rattle.search.specs.declared.Bar.{Bar}
use Rattle.search.specs.Reduced.{Reduced, reduced, arcs_in, bar_of, Fitting}
use Rattle.search.specs.Looked.{Serves, Sought, Looked}
use Rattle.search.proofs.Reducing.{serves, looked}
use Rattle.closure.specs.declared.longer.TheConstants.{ARCS}
use Rattle.closure.specs.declared.table.TheConstants.{PLACES}
use Rattle.closure.specs.declared.span.Span.{Span}
use Rattle.closure.specs.Tables.{OpenAsks}
use Rattle.closure.specs.Longer.{Whole, Longer}
use Rattle.closure.proofs.Longers.{longer_is}

-- what has the same fitting timetables serves too
same_serves : {N : Network} {R R' : Reduced} → Serves N R → Longer R R' → Serves N R'
same_serves s l = record { sized = l.sized; fits = λ u f. l.fits u (s.fits u f); back = λ u f. s.back u (l.back u f) }

-- a network as it is read, and as it is seen
module _ {v w : WellFormed} (seen : v ≡ w) where
  periods_are : v.rows.periods ≡ w.rows.periods
  periods_are = ap (λ (x : WellFormed). x.rows.periods) seen

  pub open_asks : {T : List Span} → length T ≡ PLACES → OpenAsks v.rows.periods T
  open_asks l =
      let has = sound w.rows w.well in
      rw periods_are (record {
        periodic = record { few = has.event_count.most; some = λ v h. (has.periods v h).some; most = λ v h. (has.periods v h).most };
        long = l;
      })

  module _ (bars : List Bar) {bars' : List Bar} (room : length bars ≡ arcs w.rows) (e : bars' ≡ written (bar_of w.rows) (arcs w.rows) bars) where
    pub serves_left : Serves w.rows (reduced v.rows.periods bars')
    serves_left = subst (Serves w.rows) (sym (λ j. reduced (periods_are j) (e j))) (serves w.well bars room)

    own_few : length bars' ≤ ARCS
    own_few = omega (arith, (sound w.rows w.well).even.few_arcs, ap (λ (x : List Bar). length x) e, written-length (bar_of w.rows) (arcs w.rows) bars, room)

    -- a table for the network keeps it
    module _ {R : Reduced} (q : R ≡ reduced v.rows.periods bars') where
      pub few_left : arcs_in R ≤ ARCS
      few_left = rw q own_few

      -- nothing fits
      pub refuted : {A : Type 0} {r : Option A} → ((u : List ℕ) → Fitting R u → IsSome r) → r ≡ None → (u : List ℕ) → Feasible w.rows u → ⊥
      refuted n z u f = true_false (n u (rw q (serves_left.fits u f))) (ap is_some z)

      pub serves_longer : {row : List Bar} {c : ℕ} → Whole R row c → (c ≤ length row) × Serves w.rows (reduced w.rows.periods (take c row))
      serves_longer {row} {c} whole =
          let l : Whole (reduced v.rows.periods bars') row c = subst (λ (r : Reduced). Whole r row c) q whole in (
            omega (arith, own_few, l.few, l.grown.long),
            subst (λ (x : List ℕ). Serves w.rows (reduced x (take c row))) periods_are (same_serves serves_left (longer_is serves_left.sized own_few l)),
          )

  -- what is found of the longer network is found of the network
  pub looked_longer : {t : List ℕ} {bars : List Bar} → Serves w.rows (reduced w.rows.periods bars) → (r : Bool) → Sought (reduced v.rows.periods bars) t r
      → Looked w.rows t r
  looked_longer {t} {bars} s r f = looked s r (subst (λ (x : List ℕ). Sought (reduced x bars) t r) periods_are f)
