-- What the labels and times say of the arcs so far, and how one arc more leaves them right or shows that no times allow it. Assumes nothing.
use mathlib.Core.Path.{◌≡◌, refl, sym, ◌∙◌, ap}
use mathlib.Core.Logic.{◌↔◌}
use mathlib.Core.List.{List, [], ◌∷◌}
use Prim.Native.Nat.{ℕ, ◌+◌, ◌≤◌, ◌<◌}
use native.Mathlib.Decide.{ℕ_discrete}
use native.Mathlib.Nat.{le_antisymm, lt_of_le_of_lt}
use native.Mathlib.Omega.{arith}
use borrow.Author.Count.{below_none, below_more}
use lib.IntN.{ℤ, pos, ◌+ℤ◌, ◌-ℤ◌}
use Rattle.numbers.specs.Remainder.{Cong}
use Rattle.numbers.proofs.Integers.{up, dn, zed, of_sum, of_sub}
use Rattle.numbers.proofs.Congruence.{cong, parts, cong_eq, cong_refl, cong_sym, cong_trans, cong_add, cong_sub}
use Rattle.walks.specs.Walk.{Graph, Between, Step, ahead, back, arc, start, stop, gain, Goes, Walk, Closed}
use Rattle.walks.specs.Times.{Fits, Consistent, Anchored}
use Rattle.walks.specs.Label.{Reach, Labelled, Shifted}
use Rattle.walks.proofs.Walks.{step_fits, reach_cong, reach_from, reach_more, reach_self, reach_step, reach_join, reach_turn, returns}

-- ---- at first each event is its own part, at 0

pub at_first : (G : Graph) (te : ℕ → ℤ) {T n : ℕ} {label time : ℕ → ℕ} → 0 < T → ((v : ℕ) → v < n → label v ≡ v) → ((v : ℕ) → v < n → time v ≡ 0) → Labelled G te T n 0 label time
at_first G te {T} {n} {label} {time} h own at_zero = record {
  low = λ v l. omega (arith, own v l);
  base = λ v l e. at_zero v l;
  under = λ v l. omega (arith, at_zero v l);
  reach = λ v l. reach_cong (cong_eq T (ap pos (sym (at_zero v l)))) (reach_self G te T 0 (own v l));
  level = below_none (λ (a : ℕ). label (G.tail a) ≡ label (G.head a));
  fits = below_none (λ (a : ℕ). Fits G te T (λ v. pos (time v)) a);
}

-- ---- what the labels say

module _ {G : Graph} {te : ℕ → ℤ} {T n k : ℕ} {label time : ℕ → ℕ} (L : Labelled G te T n k label time) where
  pub consistent : Consistent G te T k
  consistent = record { time = λ v. pos (time v); fits = L.fits }

  -- joined events have one label
  level_steps : (w : List Step) (i j : ℕ) → Goes G k w i j → label i ≡ label j
  level_steps [] i j h = ap label h
  level_steps (ahead a ∷ w) i j h = ap label (sym h.1) ∙ L.level a h.0 ∙ level_steps w (G.head a) j h.2
  level_steps (back a ∷ w) i j h = ap label (sym h.1) ∙ sym (L.level a h.0) ∙ level_steps w (G.tail a) j h.2

  pub level_walk : {i j : ℕ} → Walk G k i j → label i ≡ label j
  level_walk {i} {j} w = level_steps w.steps i j w.goes

  pub anchored : Anchored G te T n k time
  anchored = record {
    under = L.under;
    fits = L.fits;
    anchor = λ v h m. L.base v h (le_antisymm (L.low v h) (m.least (label v) (lt_of_le_of_lt (L.low v h) h) (record { walk = (L.reach v h).walk })));
  }

-- ---- an arc inside one part

-- from x by z to y and back to x is a multiple of the period exactly if y is z after x
pub balanced : {T : ℕ} (x z y : ℤ) → Cong T ((x +ℤ z) -ℤ y) (pos 0) ↔ Cong T z (y -ℤ x)
balanced x z y = (
  λ p. cong (dn p.times) (up p.times) (omega (arith, parts p, of_sub (x +ℤ z) y, of_sum x z, of_sub y x)),
  λ p. cong (dn p.times) (up p.times) (omega (arith, parts p, of_sub (x +ℤ z) y, of_sum x z, of_sub y x)),
)

le_more : (k : ℕ) → k ≤ k + 1
le_more k = omega arith

module _ {G : Graph} {te : ℕ → ℤ} {T n k : ℕ} {label time : ℕ → ℕ} (E : Between G n (k + 1)) (L : Labelled G te T n k label time)
    (one-part : label (G.tail k) ≡ label (G.head k)) where
  -- the closed walk through the arc: from the label to its tail, along it, and back from its head
  around : Reach G te T (k + 1) (label (G.tail k)) (label (G.tail k)) ((pos (time (G.tail k)) +ℤ te k) -ℤ pos (time (G.head k)))
  around =
      let here : k < k + 1 = omega arith in
      let to-tail = L.reach (G.tail k) (E.tail k here) in
      let to-head = reach_from (sym one-part) (L.reach (G.head k) (E.head k here)) in
      reach_join (reach_join (reach_more (k + 1) (le_more k) to-tail) (reach_step G te T (k + 1) (ahead k) here))
      (reach_turn (reach_more (k + 1) (le_more k) to-head))

  pub fits_of_closed : Closed G te T (k + 1) → Fits G te T (λ v. pos (time v)) k
  fits_of_closed c = record { apart = (balanced (pos (time (G.tail k))) (te k) (pos (time (G.head k)))).0 (returns c around) }

  -- accepted: nothing changes
  pub accepted : Fits G te T (λ v. pos (time v)) k → Labelled G te T n (k + 1) label time
  accepted f = record {
    low = L.low;
    base = L.base;
    under = L.under;
    reach = λ v h. reach_more (k + 1) (le_more k) (L.reach v h);
    level = below_more (λ (a : ℕ). label (G.tail a) ≡ label (G.head a)) k L.level one-part;
    fits = below_more (λ (a : ℕ). Fits G te T (λ v. pos (time v)) a) k L.fits f;
  }

-- ---- an arc between two parts, taken from the lower label to the higher: that part moves

start_under : {G : Graph} {n k : ℕ} → Between G n k → (e : Step) → arc e < k → start G e < n
start_under E (ahead a) h = E.tail a h
start_under E (back a) h = E.head a h

stop_under : {G : Graph} {n k : ℕ} → Between G n k → (e : Step) → arc e < k → stop G e < n
stop_under E (ahead a) h = E.head a h
stop_under E (back a) h = E.tail a h

-- the two ends of a step are those of its arc
arc_level : (G : Graph) (label : ℕ → ℕ) (e : Step) → label (start G e) ≡ label (stop G e) → label (G.tail (arc e)) ≡ label (G.head (arc e))
arc_level G label (ahead a) h = h
arc_level G label (back a) h = sym h

module _ {G : Graph} {te : ℕ → ℤ} {T n : ℕ} {label time label' time' : ℕ → ℕ} (e : Step) (s : ℤ) (E : Between G n (arc e + 1)) (L : Labelled G te T n (arc e) label time)
    (lower : label (start G e) < label (stop G e))
    (shift : Cong T s ((pos (time (start G e)) +ℤ gain te te e) -ℤ pos (time (stop G e))))
    (S : Shifted T n (label (stop G e)) (label (start G e)) s label time label' time') where
  this : arc e < arc e + 1
  this = omega arith

  start_in : start G e < n
  start_in = start_under E e this

  stop_in : stop G e < n
  stop_in = stop_under E e this

  start_kept : ¬ (label (start G e) ≡ label (stop G e))
  start_kept q = omega arith

  low' : (v : ℕ) (h : v < n) → Dec (label v ≡ label (stop G e)) → label' v ≤ v
  low' v h (yes q) = omega (arith, S.moved_label v h q, L.low v h)
  low' v h (no q) = omega (arith, S.kept_label v h q, L.low v h)

  base' : (v : ℕ) (h : v < n) → label' v ≡ v → Dec (label v ≡ label (stop G e)) → time' v ≡ 0
  base' v h z (yes q) = omega (arith, S.moved_label v h q, L.low v h)
  base' v h z (no q) = S.kept_time v h q ∙ L.base v h (sym (S.kept_label v h q) ∙ z)

  under' : (v : ℕ) (h : v < n) → Dec (label v ≡ label (stop G e)) → time' v < T
  under' v h (yes q) = S.moved_under v h q
  under' v h (no q) = omega (arith, S.kept_time v h q, L.under v h)

  more : {i j : ℕ} {z : ℤ} → Reach G te T (arc e) i j z → Reach G te T (arc e + 1) i j z
  more r = reach_more (arc e + 1) (le_more (arc e)) r

  -- from the lower label through the new arc to the higher one
  through : Reach G te T (arc e + 1) (label (start G e)) (label (stop G e)) s
  through =
      reach_cong (cong_sym shift)
      (reach_join (reach_join (more (L.reach (start G e) start_in)) (reach_step G te T (arc e + 1) e this)) (reach_turn (more (L.reach (stop G e) stop_in))))

  reach' : (v : ℕ) (h : v < n) → Dec (label v ≡ label (stop G e)) → Reach G te T (arc e + 1) (label' v) v (pos (time' v))
  reach' v h (yes q) =
      let x : ℤ = pos (time v) in
      reach_from (sym (S.moved_label v h q))
      (reach_cong (cong_trans (cong_eq T (omega (arith, zed, of_sum s x, of_sum x s))) (cong_sym (S.moved_time v h q)))
      (reach_join through (reach_from q (more (L.reach v h)))))
  reach' v h (no q) =
      reach_from (sym (S.kept_label v h q)) (reach_cong (cong_eq T (ap pos (sym (S.kept_time v h q)))) (more (L.reach v h)))

  tail_in : (a : ℕ) → a < arc e → G.tail a < n
  tail_in a l = E.tail a (omega arith)

  head_in : (a : ℕ) → a < arc e → G.head a < n
  head_in a l = E.head a (omega arith)

  level' : (a : ℕ) → a < arc e → Dec (label (G.tail a) ≡ label (stop G e)) → label' (G.tail a) ≡ label' (G.head a)
  level' a l (yes q) = S.moved_label (G.tail a) (tail_in a l) q ∙ sym (S.moved_label (G.head a) (head_in a l) (sym (L.level a l) ∙ q))
  level' a l (no q) =
      S.kept_label (G.tail a) (tail_in a l) q ∙ L.level a l ∙ sym (S.kept_label (G.head a) (head_in a l) (λ r. q (L.level a l ∙ r)))

  fits' : (a : ℕ) → a < arc e → Dec (label (G.tail a) ≡ label (stop G e)) → Fits G te T (λ v. pos (time' v)) a
  fits' a l (yes q) =
      let x : ℤ = pos (time (G.tail a)) in
      let y : ℤ = pos (time (G.head a)) in
      record {
        apart = cong_trans (L.fits a l).apart
            (cong_trans (cong_eq T (omega (arith, zed, of_sub y x, of_sum y s, of_sum x s, of_sub (y +ℤ s) (x +ℤ s))))
            (cong_sym
            (cong_sub (S.moved_time (G.head a) (head_in a l) (sym (L.level a l) ∙ q)) (S.moved_time (G.tail a) (tail_in a l) q))));
      }
  fits' a l (no q) =
      let x = S.kept_time (G.tail a) (tail_in a l) q in
      let y = S.kept_time (G.head a) (head_in a l) (λ r. q (L.level a l ∙ r)) in
      record { apart = cong_trans (L.fits a l).apart (cong_eq T (λ i. pos (sym y i) -ℤ pos (sym x i))) }

  level_here : label' (start G e) ≡ label' (stop G e)
  level_here = S.kept_label (start G e) start_in start_kept ∙ sym (S.moved_label (stop G e) stop_in refl)

  fits_here : Cong T (gain te te e) (pos (time' (stop G e)) -ℤ pos (time' (start G e)))
  fits_here =
      let x : ℤ = pos (time (start G e)) in
      let y : ℤ = pos (time (stop G e)) in
      let z : ℤ = gain te te e in
      cong_trans (cong_eq T (omega (arith, zed, of_sub (y +ℤ ((x +ℤ z) -ℤ y)) x, of_sum y ((x +ℤ z) -ℤ y), of_sub (x +ℤ z) y, of_sum x z)))
      (cong_sub (cong_trans (cong_add (cong_refl T y) (cong_sym shift)) (cong_sym (S.moved_time (stop G e) stop_in refl)))
      (cong_eq T (ap pos (sym (S.kept_time (start G e) start_in start_kept)))))

  is_moved : (v : ℕ) → Dec (label v ≡ label (stop G e))
  is_moved v = ℕ_discrete (label v) (label (stop G e))

  pub merged : Labelled G te T n (arc e + 1) label' time'
  merged = record {
    low = λ v h. low' v h (is_moved v);
    base = λ v h z. base' v h z (is_moved v);
    under = λ v h. under' v h (is_moved v);
    reach = λ v h. reach' v h (is_moved v);
    level = below_more (λ (a : ℕ). label' (G.tail a) ≡ label' (G.head a)) (arc e) (λ a l. level' a l (is_moved (G.tail a))) (arc_level G label' e level_here);
    fits = below_more (λ (a : ℕ). Fits G te T (λ v. pos (time' v)) a) (arc e) (λ a l. fits' a l (is_moved (G.tail a))) ((step_fits G te T (λ v. pos (time' v)) e).1 fits_here);
  }
