-- The search that antt computes is right, by the laws of the compiled one. Assumes nothing.
use mathlib.Core.Path.{◌≡◌, refl, sym, ap, ◌∙◌}
use mathlib.Core.List.{List}
use mathlib.Core.Option.{Option, some, none}
use mathlib.Core.Bool.{Bool, true, false, not, ◌||◌, ◌&&◌}
use Prim.Native.Nat.{ℕ, zero, suc, ◌+◌, ◌<◌, ◌≤◌}
use native.Mathlib.Omega.{arith}
use borrow.Author.Tests.{eqb-true, eqb-false, eq-eqb, not-true, not-false}
use lib.Dec.{eqb}
use lib.ListN.{set, replicate, length-set, length-replicate, get_or-replicate}
use Rattle.network.specs.Network.{Network, events, arcs}
use Rattle.network.specs.PublicRule.{Feasible, Smallest}
use Rattle.network.specs.Table.{WellFormed}
use Rattle.network.specs.First.{first}
use Rattle.network.proofs.Scans.{true_false, first_is}
use Rattle.search.specs.Looked.{Looked, Serves}
use Rattle.search.specs.Looked.Looked.{found, nothing}
use Rattle.search.specs.Reduced.{Reduced, Sized, arcs_in, events_in, period_in, last_in, met_in, bar}
use Rattle.search.specs.Marks.{mark, Joined}
use Rattle.search.specs.Steps.{Agree, AgreeOn, Partial, BlockedOn, Ready, Placed, NoneIn, Turn}
use Rattle.search.proofs.Model.{zeros, reduced_for, hinders, fits, tries, find, smallest_of}
use Rattle.search.proofs.Agreeing.{agree_refl, agree_set}
use Rattle.search.proofs.Steps.{met_local, put_here, fit_all, placed_all, turn_first, turn_last, step_hit, step_missed, start, sought}
use Rattle.search.proofs.Reducing.{serves, looked}

-- ---- it blames every event, so that none is passed over

abbrev everyone : List Bool
everyone = replicate 64 true

blamed : (i : ℕ) → i < 64 → mark everyone i ≡ true
blamed i h = get_or-replicate 64 i true false h

all_joined : Joined everyone everyone everyone
all_joined = record { each = λ i h. blamed i h ∙ sym (ap (λ (z : Bool). z || mark everyone i) (blamed i h)) }

agree_all : {k : ℕ} {t u : List ℕ} → k ≤ 64 → AgreeOn everyone k t u → Agree k t u
agree_all l a = record { each = λ i h. a.each i h (blamed i (omega arith)) }

-- ---- the test of the time at event k

-- whether the first k times and time x at event k fit one another
record Fit (R : Reduced) (t : List ℕ) (k x : ℕ) (r : Bool) : Type 0 where
  yes_fit : r ≡ true → Partial R (set t k x) (k + 1)
  no_fit : r ≡ false → BlockedOn R (set t k x) everyone (k + 1)

module _ {R : Reduced} {t : List ℕ} {k : ℕ} (s : Sized R) (c : Ready R t k) (e : k < events_in R) (x : ℕ) (a : ℕ) (m : a < arcs_in R) where
  passes : hinders R (set t k x) k a ≡ false → last_in R.bars a ≡ k → met_in R.bars (set t k x) a ≡ true
  unfolding hinders
  passes f q = not-false _ (rw (eq-eqb _ _ q) at f)

  unmet_stops : last_in R.bars a ≡ k → met_in R.bars (set t k x) a ≡ false → BlockedOn R (set t k x) everyone (k + 1)
  unmet_stops q n = record {
    never = λ u f g.
        true_false (met_local s a m (omega (arith, q)) (agree_all (omega (arith, s.few)) g) ∙ f.met a m) n;
  }

  stops : hinders R (set t k x) k a ≡ true → BlockedOn R (set t k x) everyone (k + 1)
  unfolding hinders
  stops f = go (eqb (last_in R.bars a) k) refl f
    where
      go : (b : Bool) → eqb (last_in R.bars a) k ≡ b → b && not (met_in R.bars (set t k x) a) ≡ true → BlockedOn R (set t k x) everyone (k + 1)
      go true q g = unmet_stops (eqb-true _ k q) (not-true _ g)
      go false q g = absurd (true_false g refl)

fits_right : {R : Reduced} {t : List ℕ} {k : ℕ} → Sized R → Ready R t k → k < events_in R → (x : ℕ) → x < period_in R k → Fit R t k x (fits R (set t k x) k)
unfolding fits
fits_right {R} {t} {k} s c e x l =
    let p = first (hinders R (set t k x) k) (arcs_in R) in
    let f = first_is (hinders R (set t k x) k) (arcs_in R) in
    record {
      yes_fit = λ q. fit_all s c e x l (λ a m. passes s c e x a m (f.before a (omega (arith, eqb-true p (arcs_in R) q))));
      no_fit = λ q. let h : p < arcs_in R = omega (arith, f.within, eqb-false p (arcs_in R) q) in stops s c e x p h (f.found h);
    }

-- ---- the search at event k

-- what a result says of the row t: the smallest that has its first k times, or that none has
abbrev Says : Reduced → List ℕ → ℕ → Option (List ℕ) → Type 0
Says R t k (some u) = Placed R t k u everyone true
Says R t k none = Placed R t k t everyone false

module _ {R : Reduced} {t : List ℕ} {k : ℕ} (s : Sized R) (c : Ready R t k) (m : k < events_in R) where
  attempt_right : (later : List ℕ → Option (List ℕ)) → ((u : List ℕ) → Ready R u (k + 1) → Says R u (k + 1) (later u)) → (x : ℕ) → x < period_in R k
      → Says R (set t k x) (k + 1) (elim (fits R (set t k x) k) [ true ↦ later (set t k x) | false ↦ none ])
  attempt_right later good x h = go (fits R (set t k x) k) (fits_right s c m x h)
    where
      go : (b : Bool) → Fit R t k x b → Says R (set t k x) (k + 1) (elim b [ true ↦ later (set t k x) | false ↦ none ])
      go true f = good (set t k x) (record { long = length-set t k x ∙ c.long; most = omega (arith, m); before = f.yes_fit refl })
      go false f = record { kept = agree_refl (k + 1) (set t k x); found = λ e. absurd (true_false e refl); none_left = f.no_fit }

  tries_right : (attempt : ℕ → Option (List ℕ)) → ((x : ℕ) → x < period_in R k → Says R (set t k x) (k + 1) (attempt x)) → (n x : ℕ) → x + n ≡ period_in R k
      → NoneIn R t everyone k 0 x
      → Says R t k (tries attempt n x)
  unfolding tries
  tries_right attempt good zero x e none_in = turn_last m (omega arith) (record { long = refl; same = agree_refl k t; none_in = none_in })
  tries_right attempt good (suc n) x e none_in = go (attempt x) (good x (omega arith)) (tries_right attempt good n (x + 1) (omega arith))
    where
      turn : Turn R t k (set t k x) everyone x
      turn = record { long = length-set t k x; same = agree_set t k x; none_in = none_in }

      go : (o : Option (List ℕ)) → Says R (set t k x) (k + 1) o → (NoneIn R t everyone k 0 (x + 1) → Says R t k (tries attempt n (x + 1)))
          → Says R t k (elim o [ some u ↦ some u | none ↦ tries attempt n (x + 1) ])
      go (some u) p r = step_hit turn (put_here s c m x) p refl
      go none p r = r (step_missed turn (put_here s c m x) p (omega (arith, m, s.few)) refl refl all_joined).none_in

find_right : (R : Reduced) → Sized R → (f k : ℕ) (t : List ℕ) → f + k ≡ events_in R → Ready R t k → Says R t k (find R f k t)
unfolding find
find_right R s zero k t e c = placed_all s c (omega arith)
find_right R s (suc f) k t e c =
    let m : k < events_in R = omega arith in
    let attempt = attempt_right s c m (find R f (k + 1)) (λ u r. find_right R s f (k + 1) u (omega arith) r) in
    tries_right s c m _ attempt (period_in R k) 0 (omega arith) (turn_first t everyone k).none_in

-- ---- the whole

-- what a result says of the network
abbrev pub Right : Network → Option (List ℕ) → Type 0
Right N (some t) = Smallest N t
Right N none = (t : List ℕ) → Feasible N t → ⊥

pub smallest_right : (N : Network) → WellFormed N → Right N (smallest_of N)
unfolding smallest_of reduced_for
smallest_right N w =
    go (find (reduced_for N) n 0 (zeros n)) (find_right (reduced_for N) served.sized n 0 (zeros n) (omega arith) (start (length-replicate n 0)))
  where
    n : ℕ
    n = events N

    served : Serves N (reduced_for N)
    served = serves w (replicate (arcs N) (bar 0 0 0 0 0)) (length-replicate (arcs N) (bar 0 0 0 0 0))

    smallest : {t : List ℕ} → Looked N t true → Smallest N t
    smallest (found s) = s

    infeasible : {t : List ℕ} → Looked N t false → (u : List ℕ) → Feasible N u → ⊥
    infeasible (nothing f) = f

    go : (o : Option (List ℕ)) → Says (reduced_for N) (zeros n) 0 o → Right N o
    go (some t) p = smallest (looked served true (sought true p))
    go none p = infeasible (looked served false (sought false p))
