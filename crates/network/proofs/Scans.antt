-- A scan that is left at the first place where a test says yes: its turns, its ways out, and that there is one such place. Assumes nothing.
use mathlib.Core.Path.{◌≡◌, refl, sym}
use mathlib.Core.Logic.{◌⊎◌, inl, inr}
use mathlib.Core.Bool.{Bool, true, false, cond}
use Prim.Native.Nat.{ℕ, zero, suc, ◌+◌, ◌≤◌, ◌<◌}
use native.Mathlib.Nat.{eq-or-lt_of_le, le_antisymm}
use native.Mathlib.Numerals.{add-one}
use native.Mathlib.Omega.{arith}
use borrow.Author.Tests.{ltb-true, ltb-false}
use lib.Dec.{ltb}
use Rattle.network.specs.First.{from, first, First}

-- a scan's start and turn: no place below i says yes
pub record Passed (test : ℕ → Bool) (i : ℕ) : Type 0 where
  pub each : (j : ℕ) → j < i → test j ≡ false

pub passed_none : (test : ℕ → Bool) → Passed test 0
passed_none test = record { each = λ j h. absurd (omega arith) }

pub passed_more : {test : ℕ → Bool} {i : ℕ} → Passed test i → test i ≡ false → Passed test (i + 1)
passed_more {test} {i} p e = record { each = λ j h. go j (eq-or-lt_of_le (omega arith)) }
  where
    go : (j : ℕ) → (j ≡ i) ⊎ (j < i) → test j ≡ false
    go j (inl q) = rw q e
    go j (inr l) = p.each j l

-- its two ways out: at a place that says yes, and past the last
pub first_hit : {test : ℕ → Bool} {n i : ℕ} → Passed test i → i < n → test i ≡ true → First test n i
first_hit p h e = record { within = omega arith; before = p.each; found = λ l. e }

pub first_miss : {test : ℕ → Bool} {n i : ℕ} → Passed test i → i ≡ n → First test n i
first_miss p q = record { within = omega arith; before = p.each; found = λ l. absurd (omega arith) }

pub true_false : {b : Bool} → b ≡ true → b ≡ false → ⊥
true_false e f = let z : ◌≡◌ {A = ℕ} 0 1 = cc in omega arith

-- two tests of which each says yes where the other does
pub same_test : (p q : Bool) → (p ≡ true → q ≡ true) → (q ≡ true → p ≡ true) → p ≡ q
same_test true q f g = sym (f refl)
same_test false true f g = g refl
same_test false false f g = refl

-- there is one such place, and `first` computes it
pub first_one : {test : ℕ → Bool} {n k l : ℕ} → First test n k → First test n l → k ≡ l
first_one {test} {n} {k} {l} p q = le_antisymm (most q p) (most p q)
  where
    most : {k l : ℕ} → First test n k → First test n l → l ≤ k
    most {k} {l} p q = go (ltb k l) refl
      where
        go : (b : Bool) → ltb k l ≡ b → l ≤ k
        go true e =
            let h : k < l = ltb-true k l e in
            absurd (true_false (p.found (omega (arith, q.within))) (q.before k h))
        go false e = ltb-false k l e

from_is : (test : ℕ → Bool) (k i n : ℕ) → i + k ≡ n → Passed test i → First test n (from test k i)
from_is test zero i n e p = first_miss p (omega arith)
from_is test (suc k) i n e p = go (test i) refl (from_is test k (suc i) n (omega arith))
  where
    go : (b : Bool) → test i ≡ b → (Passed test (suc i) → First test n (from test k (suc i))) → First test n (cond b i (from test k (suc i)))
    go true q r = first_hit p (omega arith) q
    go false q r = r (rw (← add-one i) (passed_more p q))

pub first_is : (test : ℕ → Bool) (n : ℕ) → First test n (first test n)
unfolding first
first_is test n = from_is test n 0 n (omega arith) (passed_none test)
