-- The working upper bound of an arc of a well-formed network: from lower up, less than the arc period above it, and the arc is met exactly up to
-- its width of slack. Assumes nothing.
use mathlib.Core.Path.{◌≡◌, refl, sym, ◌∙◌}
use mathlib.Core.List.{List}
use mathlib.Core.Bool.{Bool, true, false, cond}
use Prim.Native.Nat.{ℕ, ◌+◌, ◌≤◌, ◌<◌}
use native.Mathlib.Omega.{arith}
use borrow.Author.Tests.{leb-true, le-leb}
use lib.IntN.{ℤ, pos, negsuc, nat_abs, ◌+ℤ◌, ◌-ℤ◌}
use lib.Signed.{le_z, ◌≤ℤ◌, ◌<ℤ◌}
use lib.Dec.{leb}
use Rattle.numbers.proofs.Integers.{up, dn, zed, of_le, of_sum, of_sub, le_z_true, le_z_false}
use Rattle.numbers.proofs.Remainders.{remainder-below}
use Rattle.numbers.specs.Row.{at}
use Rattle.network.specs.Network.{Network, arcs, tail, head, lower, upper}
use Rattle.network.specs.PublicRule.{arc_period, slack, tension, met, working_by, working, width_of}
use Rattle.network.specs.Trial.{Sound}
use Rattle.network.proofs.Scans.{same_test}
use Rattle.network.proofs.Sound.{arc-period}

-- the width, from bounds that calls handed on
pub width_from : (N : Network) (a : ℕ) {y : ℕ} {low high : ℤ} → low ≡ lower N a → high ≡ working N a → y ≡ nat_abs (high -ℤ low) → y ≡ width_of N a
unfolding width_of
width_from N a l h e = e ∙ (λ j. nat_abs (h j -ℤ l j))

-- ---- of two bounds

-- of a difference that is not below zero
pub size : (z : ℤ) → dn z ≤ up z → up z ≡ nat_abs z + dn z
size (pos n) h = omega arith
size (negsuc n) h = absurd (omega arith)

-- of a bound from l up, and above it by less than g: it is l and the difference
pub apart_is : (l w : ℤ) → l ≤ℤ w → up w + dn l ≡ up l + dn w + nat_abs (w -ℤ l)
apart_is l w h =
    let d = of_sub w l in
    omega (arith, zed, d, size (w -ℤ l) (omega (arith, zed, d, h)))

pub apart_below : (l w : ℤ) {g : ℕ} → l ≤ℤ w → (w -ℤ l) <ℤ pos g → nat_abs (w -ℤ l) < g
apart_below l w h k = omega (arith, zed, apart_is l w h, k, of_sub w l)

yes : (x y : ℤ) → x ≤ℤ y → le_z x y ≡ true
yes x y h = go (le_z x y) refl
  where
    go : (b : Bool) → le_z x y ≡ b → b ≡ true
    go true e = refl
    go false e = absurd (omega (arith, of_le x y h, le_z_false x y e))

within : (l u : ℤ) (s : ℕ) → l ≤ℤ u → le_z (l +ℤ pos s) u ≡ leb s (nat_abs (u -ℤ l))
within l u s h =
    same_test (le_z (l +ℤ pos s) u) (leb s (nat_abs (u -ℤ l)))
    (λ e. le-leb s (nat_abs (u -ℤ l)) (omega (arith, apart_is l u h, le_z_true (l +ℤ pos s) u e, of_sum l (pos s))))
    (λ e. yes (l +ℤ pos s) u (omega (arith, zed, apart_is l u h, leb-true s (nat_abs (u -ℤ l)) e, of_sum l (pos s))))

-- ---- their working upper bound, by cases: upper itself, or the greatest that a slack below g reaches

abbrev most : ℕ → ℤ → ℤ
most g l = (l +ℤ pos g) -ℤ pos 1

module _ {g : ℕ} {l u : ℤ} (p : 0 < g) (o : l ≤ℤ u) where
  by_cases : (P : ℤ → Type 0) → (le_z u (most g l) ≡ true → P u) → (le_z u (most g l) ≡ false → P (most g l)) → P (working_by g l u)
  by_cases P f h = go (le_z u (most g l)) refl
    where
      go : (b : Bool) → le_z u (most g l) ≡ b → P (cond b u (most g l))
      go true e = f e
      go false e = h e

  pub working-from : l ≤ℤ working_by g l u
  working-from = by_cases (λ w. l ≤ℤ w) (λ e. o) (λ e. omega (arith, zed, of_sum l (pos g), of_sub (l +ℤ pos g) (pos 1)))

  pub working-below : (working_by g l u -ℤ l) <ℤ pos g
  working-below =
      by_cases (λ w. (w -ℤ l) <ℤ pos g)
      (λ e. omega (arith, zed, le_z_true u (most g l) e, of_sub u l, of_sum l (pos g), of_sub (l +ℤ pos g) (pos 1)))
      (λ e. omega (arith, zed, of_sub (most g l) l, of_sum l (pos g), of_sub (l +ℤ pos g) (pos 1)))

  -- a slack that reaches beyond it would be g or more
  working_passes : {s : ℕ} → s < g → le_z (l +ℤ pos s) u ≡ le_z (l +ℤ pos s) (working_by g l u)
  working_passes {s} h =
      by_cases (λ w. le_z (l +ℤ pos s) u ≡ le_z (l +ℤ pos s) w)
      (λ e. refl)
      (λ e.
      let x : (l +ℤ pos s) ≤ℤ most g l = omega (arith, zed, of_sum l (pos s), of_sum l (pos g), of_sub (l +ℤ pos g) (pos 1)) in
      yes (l +ℤ pos s) u (omega (arith, zed, x, le_z_false u (most g l) e)) ∙ sym (yes (l +ℤ pos s) (most g l) x))

-- ---- of an arc

-- the working upper bound is not below lower, and above it by less than the arc period
pub record Narrow (N : Network) (a : ℕ) : Type 0 where
  pub ordered : lower N a ≤ℤ working N a
  pub below : (working N a -ℤ lower N a) <ℤ pos (arc_period N a)

pub narrow : (N : Network) (a : ℕ) → Sound N → a < arcs N → Narrow N a
unfolding working
narrow N a s h =
    let p = (arc-period N a s h).some in
    record { ordered = working-from p (s.ordered a h); below = working-below p (s.ordered a h) }

-- it is lower and the width, which is below the arc period
module _ (N : Network) (a : ℕ) (s : Sound N) (h : a < arcs N) where
  pub width_is : up (working N a) + dn (lower N a) ≡ up (lower N a) + dn (working N a) + width_of N a
  unfolding width_of
  width_is = apart_is (lower N a) (working N a) (narrow N a s h).ordered

  pub width_below : width_of N a < arc_period N a
  unfolding width_of
  width_below = apart_below (lower N a) (working N a) (narrow N a s h).ordered (narrow N a s h).below

module _ (N : Network) (t : List ℕ) (a : ℕ) (s : Sound N) (h : a < arcs N) where
  pub slack-below : slack N t a < arc_period N a
  unfolding slack
  slack-below = remainder-below ((pos (at t (head N a)) -ℤ pos (at t (tail N a))) -ℤ lower N a) (arc_period N a) (arc-period N a s h).some

  -- whether an arc is met does not depend on which of its two upper bounds is read
  pub met-working : met N t a ≡ le_z (tension N t a) (working N a)
  unfolding met tension working
  met-working = working_passes (arc-period N a s h).some (s.ordered a h) slack-below

  pub met_width : met N t a ≡ leb (slack N t a) (width_of N a)
  unfolding tension width_of
  met_width = met-working ∙ within (lower N a) (working N a) (slack N t a) (narrow N a s h).ordered

  -- a span as wide as the arc period less 1, or wider, is always met
  pub always_met : ((lower N a +ℤ pos (arc_period N a)) -ℤ pos 1) ≤ℤ upper N a → met N t a ≡ true
  unfolding met tension
  always_met w =
      let l = lower N a in
      let g = arc_period N a in
      let s = slack N t a in
      yes (l +ℤ pos s) (upper N a) (omega (arith, zed, w, slack-below, of_sum l (pos s), of_sum l (pos g), of_sub (l +ℤ pos g) (pos 1)))
