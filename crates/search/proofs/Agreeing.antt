-- Rows that agree on the first events, and that there is one smallest timetable. Assumes nothing.
use mathlib.Core.Path.{◌≡◌, refl, sym, ◌∙◌}
use mathlib.Core.Logic.{◌⊎◌, inl, inr}
use mathlib.Core.List.{List}
use mathlib.Core.Bool.{Bool, true}
use Prim.Native.Nat.{ℕ, zero, suc, ◌+◌, ◌<◌, ◌≤◌}
use native.Mathlib.Nat.{eq-or-lt_of_le}
use native.Mathlib.Decide.{dec_lt}
use native.Mathlib.Numerals.{add-one}
use native.Mathlib.Omega.{arith}
use lib.ListN.{set}
use lib.Seq.{get_or-set_other, ext_get_or}
use Rattle.network.specs.Network.{Network, events}
use Rattle.numbers.specs.Row.{at}
use Rattle.network.specs.PublicRule.{Smaller, Smallest}
use Rattle.search.specs.Marks.{mark, Grown}
use Rattle.search.specs.Steps.{Agree, AgreeOn}

pub agree_refl : (k : ℕ) (t : List ℕ) → Agree k t t
agree_refl k t = record { each = λ i h. refl }

pub agree_none : (t u : List ℕ) → Agree 0 t u
agree_none t u = record { each = λ i h. absurd (omega arith) }

pub agree_sym : {k : ℕ} {t u : List ℕ} → Agree k t u → Agree k u t
agree_sym a = record { each = λ i h. sym (a.each i h) }

pub agree_trans : {k : ℕ} {t u v : List ℕ} → Agree k t u → Agree k u v → Agree k t v
agree_trans a b = record { each = λ i h. a.each i h ∙ b.each i h }

pub agree_fewer : {j k : ℕ} {t u : List ℕ} → j ≤ k → Agree k t u → Agree j t u
agree_fewer le a = record { each = λ i h. a.each i (omega arith) }

pub agree_more : {k : ℕ} {t u : List ℕ} → Agree k t u → at t k ≡ at u k → Agree (k + 1) t u
agree_more {k} {t} {u} a e = record { each = λ i h. pick i (eq-or-lt_of_le (omega arith)) }
  where
    pick : (i : ℕ) → (i ≡ k) ⊎ (i < k) → at t i ≡ at u i
    pick i (inl q) = rw q e
    pick i (inr l) = a.each i l

pub agree_set : (t : List ℕ) (k x : ℕ) → Agree k t (set t k x)
agree_set t k x = record { each = λ i h. sym (get_or-set_other t k i x 0 (λ e. omega arith)) }

-- ---- at the blamed ones alone

pub agree_on : (B : List Bool) {k : ℕ} {t u : List ℕ} → Agree k t u → AgreeOn B k t u
agree_on B a = record { each = λ i h e. a.each i h }

pub agree_ungrown : {B B' : List Bool} {k : ℕ} {t u : List ℕ} → k ≤ 64 → Grown B B' → AgreeOn B' k t u → AgreeOn B k t u
agree_ungrown l g a = record { each = λ i h e. a.each i h (g.each i (omega arith) e) }

-- the row s has the first k times of t, and what it has at event k counts only if that is blamed
pub agree_deeper : {B D : List Bool} {k : ℕ} {t s u : List ℕ} → k < 64 → Agree k t s → Grown D B → AgreeOn B k t u → (mark D k ≡ true → at s k ≡ at u k)
    → AgreeOn D (k + 1) s u
agree_deeper {D = D} {k = k} {t = t} {s = s} {u = u} l g o a e = record { each = λ i h b. pick i b (eq-or-lt_of_le (omega arith)) }
  where
    pick : (i : ℕ) → mark D i ≡ true → (i ≡ k) ⊎ (i < k) → at s i ≡ at u i
    pick i b (inl q) = rw q (e (rw q at b))
    pick i b (inr h) = sym (g.each i h) ∙ a.each i h (o.each i (omega arith) b)

-- ---- of two rows that do not agree, one is the smaller

compared : (n : ℕ) (t u : List ℕ) → Agree n t u ⊎ (Smaller t u ⊎ Smaller u t)
compared zero t u = inl (agree_none t u)
compared (suc n) t u = more (compared n t u) (dec_lt (at t n) (at u n)) (dec_lt (at u n) (at t n))
  where
    more : Agree n t u ⊎ (Smaller t u ⊎ Smaller u t) → Dec (at t n < at u n) → Dec (at u n < at t n) → Agree (suc n) t u ⊎ (Smaller t u ⊎ Smaller u t)
    more (inr s) d e = inr s
    more (inl a) (yes l) e = inr (inl (record { event = n; same = a.each; less = l }))
    more (inl a) (no l) (yes m) = inr (inr (record { event = n; same = (agree_sym a).each; less = m }))
    more (inl a) (no l) (no m) = inl (rw (← add-one n) (agree_more a (omega (arith, l, m))))

pub smallest_one : {N : Network} {t u : List ℕ} → Smallest N t → Smallest N u → t ≡ u
smallest_one {N} {t} {u} p q = pick (compared (events N) t u)
  where
    pick : Agree (events N) t u ⊎ (Smaller t u ⊎ Smaller u t) → t ≡ u
    pick (inl a) =
        ext_get_or 0 t u (p.feasible.timetable.long ∙ sym q.feasible.timetable.long) (λ i h. a.each i (omega (arith, p.feasible.timetable.long)))
    pick (inr (inl s)) = absurd (q.least t p.feasible s)
    pick (inr (inr s)) = absurd (p.least u q.feasible s)
