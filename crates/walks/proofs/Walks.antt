-- Walks are joined and turned round, and their sums with them; along a walk the times rise by its sum. Assumes nothing.
use mathlib.Core.Path.{◌≡◌, refl, sym, ◌∙◌, ap, subst}
use mathlib.Core.List.{List, [], ◌∷◌, ◌++◌}
use mathlib.Core.Logic.{◌↔◌}
use Prim.Native.Nat.{ℕ, ◌≤◌, ◌<◌}
use native.Mathlib.Nat.{lt_of_lt_of_le}
use native.Mathlib.Omega.{arith}
use lib.IntN.{ℤ, pos, neg_ℤ, ◌+ℤ◌, ◌-ℤ◌}
use Rattle.numbers.specs.Remainder.{Cong}
use Rattle.numbers.proofs.Integers.{up, dn, zed, of_sum, of_sub, up_neg, dn_neg}
use Rattle.numbers.proofs.Congruence.{cong, parts, cong_eq, cong_refl, cong_sym, cong_trans, cong_add, cong_neg}
use Rattle.walks.specs.Walk.{Graph, Between, Step, ahead, back, arc, start, stop, gain, Goes, Walk, walk_sum, Closed}
use Rattle.walks.specs.Times.{Fits, Consistent}
use Rattle.walks.specs.Label.{Reach}

-- ---- joined

goes_append : (G : Graph) (k : ℕ) (w v : List Step) (i j l : ℕ) → Goes G k w i j → Goes G k v j l → Goes G k (w ++ v) i l
goes_append G k [] v i j l h g = subst (λ (x : ℕ). Goes G k v x l) (sym h) g
goes_append G k (s ∷ w) v i j l h g = (h.0, h.1, goes_append G k w v (stop G s) j l h.2 g)

pub sum-append : (f b : ℕ → ℤ) (w v : List Step) → walk_sum f b (w ++ v) ≡ walk_sum f b w +ℤ walk_sum f b v
sum-append f b [] v = omega (arith, zed, of_sum (pos 0) (walk_sum f b v))
sum-append f b (s ∷ w) v =
    let x : ℤ = gain f b s in
    let y : ℤ = walk_sum f b w in
    let z : ℤ = walk_sum f b v in
    ap (λ (a : ℤ). x +ℤ a) (sum-append f b w v)
    ∙ omega (arith, zed, of_sum x (y +ℤ z), of_sum y z, of_sum (x +ℤ y) z, of_sum x y)

-- ---- turned round

-- the same arc the other way
turned : Step → Step
turned (ahead a) = back a
turned (back a) = ahead a

-- the same arcs from the last to the first
turn : List Step → List Step
turn [] = []
turn (s ∷ w) = turn w ++ (turned s ∷ [])

goes_turned : (G : Graph) (k : ℕ) (s : Step) (i : ℕ) → arc s < k → start G s ≡ i → Goes G k (turned s ∷ []) (stop G s) i
unfolding turned
goes_turned G k (ahead a) i h e = (h, refl, e)
goes_turned G k (back a) i h e = (h, refl, e)

goes_turn : (G : Graph) (k : ℕ) (w : List Step) (i j : ℕ) → Goes G k w i j → Goes G k (turn w) j i
unfolding turn
goes_turn G k [] i j h = sym h
goes_turn G k (s ∷ w) i j h =
    goes_append G k (turn w) (turned s ∷ []) j (stop G s) i (goes_turn G k w (stop G s) j h.2) (goes_turned G k s i h.0 h.1)

-- what f adds forwards it then takes away, and so with b
gain_turned : (f b : ℕ → ℤ) (s : Step) → gain f b (turned s) ≡ neg_ℤ (gain b f s)
unfolding turned
gain_turned f b (ahead a) = refl
gain_turned f b (back a) = omega (arith, zed, up_neg (neg_ℤ (f a)), dn_neg (neg_ℤ (f a)), up_neg (f a), dn_neg (f a))

sum_turn : (f b : ℕ → ℤ) (w : List Step) → walk_sum f b (turn w) ≡ neg_ℤ (walk_sum b f w)
unfolding turn
sum_turn f b [] = refl
sum_turn f b (s ∷ w) =
    let x : ℤ = gain b f s in
    let y : ℤ = walk_sum b f w in
    sum-append f b (turn w) (turned s ∷ [])
    ∙ (λ i. sum_turn f b w i +ℤ (gain_turned f b s i +ℤ pos 0))
    ∙ omega (arith, zed, of_sum (neg_ℤ y) (neg_ℤ x +ℤ pos 0), of_sum (neg_ℤ x) (pos 0), of_sum x y, up_neg x, dn_neg x, up_neg y, dn_neg y, up_neg (x +ℤ y), dn_neg (x +ℤ y))

-- ---- along more arcs

goes_more : (G : Graph) (k l : ℕ) (w : List Step) (i j : ℕ) → k ≤ l → Goes G k w i j → Goes G l w i j
goes_more G k l [] i j m h = h
goes_more G k l (s ∷ w) i j m h = (lt_of_lt_of_le h.0 m, h.1, goes_more G k l w (stop G s) j m h.2)

pub more_arcs : {G : Graph} {k i j : ℕ} (l : ℕ) → k ≤ l → Walk G k i j → Walk G l i j
more_arcs {G} {k} {i} {j} l m w = record { steps = w.steps; goes = goes_more G k l w.steps i j m w.goes }

-- ---- what holds of more arcs holds of fewer

pub fewer_between : {G : Graph} {n l : ℕ} (k : ℕ) → k ≤ l → Between G n l → Between G n k
fewer_between k m E = record { tail = λ a h. E.tail a (omega arith); head = λ a h. E.head a (omega arith) }

pub fewer_closed : {G : Graph} {te : ℕ → ℤ} {T l : ℕ} (k : ℕ) → k ≤ l → Closed G te T l → Closed G te T k
unfolding more_arcs
fewer_closed {l = l} k m c = record { multiple = λ i w. c.multiple i (more_arcs l m w) }

pub fewer_consistent : {G : Graph} {te : ℕ → ℤ} {T l : ℕ} (k : ℕ) → k ≤ l → Consistent G te T l → Consistent G te T k
fewer_consistent k m c = record { time = c.time; fits = λ a h. c.fits a (omega arith) }

-- ---- walks with their sums by the period

pub reach_cong : {G : Graph} {te : ℕ → ℤ} {T k i j : ℕ} {y z : ℤ} → Cong T y z → Reach G te T k i j y → Reach G te T k i j z
reach_cong e r = record { walk = r.walk; sum = cong_trans r.sum e }

pub reach_from : {G : Graph} {te : ℕ → ℤ} {T k i i' j : ℕ} {z : ℤ} → i ≡ i' → Reach G te T k i j z → Reach G te T k i' j z
reach_from {G} {te} {T} {k} {j = j} {z = z} e r = subst (λ (x : ℕ). Reach G te T k x j z) e r

pub reach_more : {G : Graph} {te : ℕ → ℤ} {T k i j : ℕ} {z : ℤ} (l : ℕ) → k ≤ l → Reach G te T k i j z → Reach G te T l i j z
unfolding more_arcs
reach_more l m r = record { walk = more_arcs l m r.walk; sum = r.sum }

pub reach_self : (G : Graph) (te : ℕ → ℤ) (T k : ℕ) {i j : ℕ} → i ≡ j → Reach G te T k i j (pos 0)
reach_self G te T k e = record { walk = record { steps = []; goes = e }; sum = cong_refl T (pos 0) }

pub reach_step : (G : Graph) (te : ℕ → ℤ) (T k : ℕ) (s : Step) → arc s < k → Reach G te T k (start G s) (stop G s) (gain te te s)
reach_step G te T k s h =
    record { walk = record { steps = s ∷ []; goes = (h, refl, refl) }; sum = cong_eq T (omega (arith, zed, of_sum (gain te te s) (pos 0))) }

pub reach_join : {G : Graph} {te : ℕ → ℤ} {T k i j l : ℕ} {y z : ℤ} → Reach G te T k i j y → Reach G te T k j l z → Reach G te T k i l (y +ℤ z)
reach_join {G} {te} {T} {k} {i} {j} {l} p q = record {
  walk = record { steps = p.walk.steps ++ q.walk.steps; goes = goes_append G k p.walk.steps q.walk.steps i j l p.walk.goes q.walk.goes };
  sum = cong_trans (cong_eq T (sum-append te te p.walk.steps q.walk.steps)) (cong_add p.sum q.sum);
}

pub reach_turn : {G : Graph} {te : ℕ → ℤ} {T k i j : ℕ} {z : ℤ} → Reach G te T k i j z → Reach G te T k j i (neg_ℤ z)
reach_turn {G} {te} {T} {k} {i} {j} p = record {
  walk = record { steps = turn p.walk.steps; goes = goes_turn G k p.walk.steps i j p.walk.goes };
  sum = cong_trans (cong_eq T (sum_turn te te p.walk.steps)) (cong_neg p.sum);
}

-- ---- times along a walk

-- an arc fits exactly if its step, either way, adds what the times rise by
pub step_fits : (G : Graph) (te : ℕ → ℤ) (T : ℕ) (π : ℕ → ℤ) (s : Step) → Fits G te T π (arc s) ↔ Cong T (gain te te s) (π (stop G s) -ℤ π (start G s))
step_fits G te T π (ahead a) = (λ h. h.apart, λ h. record { apart = h })
step_fits G te T π (back a) =
    let x : ℤ = π (G.head a) in
    let y : ℤ = π (G.tail a) in
    let z : ℤ = te a in (
      λ h. cong (up h.apart.times) (dn h.apart.times) (omega (arith, parts h.apart, of_sub x y, of_sub y x, up_neg z, dn_neg z)),
      λ h. record { apart = cong (up h.times) (dn h.times) (omega (arith, parts h, of_sub x y, of_sub y x, up_neg z, dn_neg z)) },
    )

module _ (G : Graph) (te : ℕ → ℤ) (T k : ℕ) (π : ℕ → ℤ) (fits : (a : ℕ) → a < k → Fits G te T π a) where
  steps_rise : (w : List Step) (i j : ℕ) → Goes G k w i j → Cong T (walk_sum te te w) (π j -ℤ π i)
  steps_rise [] i j h = cong_eq T (omega (arith, zed, of_sub (π j) (π i), ap (λ (v : ℕ). up (π v)) h, ap (λ (v : ℕ). dn (π v)) h))
  steps_rise (s ∷ w) i j h =
      let x : ℤ = π (start G s) in
      let y : ℤ = π (stop G s) in
      cong_trans (cong_add ((step_fits G te T π s).0 (fits (arc s) h.0)) (steps_rise w (stop G s) j h.2))
      (cong_eq T
      (omega (arith, zed, of_sum (y -ℤ x) (π j -ℤ y), of_sub y x, of_sub (π j) y, of_sub (π j) (π i), ap (λ (v : ℕ). up (π v)) h.1, ap (λ (v : ℕ). dn (π v)) h.1)))

  pub rises : {i j : ℕ} {z : ℤ} → Reach G te T k i j z → Cong T z (π j -ℤ π i)
  rises {i} {j} r = cong_trans (cong_sym r.sum) (steps_rise r.walk.steps i j r.walk.goes)

-- ---- consistent tensions close

pub closed : {G : Graph} {te : ℕ → ℤ} {T k : ℕ} → Consistent G te T k → Closed G te T k
closed {G} {te} {T} {k} c = record {
  multiple = λ i w.
      cong_trans (rises G te T k c.time c.fits (record { walk = w; sum = cong_refl T (walk_sum te te w.steps) }))
      (cong_eq T (omega (arith, zed, of_sub (c.time i) (c.time i))));
}

-- a walk that returns adds up to a multiple of the period
pub returns : {G : Graph} {te : ℕ → ℤ} {T k i : ℕ} {z : ℤ} → Closed G te T k → Reach G te T k i i z → Cong T z (pos 0)
returns {i = i} c r = cong_trans (cong_sym r.sum) (c.multiple i r.walk)
