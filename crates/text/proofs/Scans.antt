-- Laws of the scans over bytes: one for each exit and turn of a loop. Assumes nothing.
use mathlib.Core.Path.{◌≡◌, refl, sym, ap, ◌∙◌}
use mathlib.Core.Bool.{false, ◌&&◌}
use mathlib.Core.List.{List, [], ◌∷◌}
use Rattle.std.specs.Prelude.{None, Some}
use Prim.Native.Nat.{ℕ, ◌+◌, ◌*◌, ◌-◌, ◌^◌, ◌≤◌, ◌<◌}
use native.Mathlib.Omega.{arith}
use native.Mathlib.Numerals.{add-one}
use lib.Dec.{eqb}
use lib.ListN.{length, get_or, drop, length-drop, drop_of_length-le}
use lib.Seq.{drop-cons}
use Rattle.text.specs.Line.{is_break}
use Rattle.text.specs.Number.{digits, number, below, plain}
use Rattle.text.proofs.Numbers.{no_digit, digits_more, digits-stop, digits_large, below_some}

-- what stands from i on, where i is inside
at_byte : (s : List ℕ) (i : ℕ) → i < length s → drop i s ≡ get_or s i 0 ∷ drop (i + 1) s
at_byte s i h = drop-cons s i 0 h ∙ ap (λ (k : ℕ). get_or s i 0 ∷ drop k s) (sym (add-one i))

-- ---- a number

-- value is that of the bytes before i
pub record Reading (f : List ℕ) (value i : ℕ) : Type 0 where
  pub within : i ≤ length f
  pub small : value < 2 ^ 32
  pub same : plain f ≡ below (2 ^ 32) (digits value (drop i f))

pub reading_start : (f : List ℕ) → (length f ≡ 0 → ⊥) → Reading f 0 0
unfolding plain number
reading_start [] h = absurd (h refl)
reading_start (b ∷ s) h = record { within = omega arith; small = omega arith; same = refl }

pub no_number : (f : List ℕ) → length f ≡ 0 → plain f ≡ None
unfolding plain number below
no_number [] h = refl
no_number (b ∷ s) h = absurd (omega arith)

module _ (f : List ℕ) (v i : ℕ) (so : Reading f v i) where
  step : i < length f → plain f ≡ below (2 ^ 32) (digits v (get_or f i 0 ∷ drop (i + 1) f))
  step h = so.same ∙ ap (λ (s : List ℕ). below (2 ^ 32) (digits v s)) (at_byte f i h)

  pub reading_stop : i < length f → (48 ≤ get_or f i 0 → 57 < get_or f i 0) → plain f ≡ None
  unfolding below
  reading_stop h d = step h ∙ ap (below (2 ^ 32)) (digits-stop v (get_or f i 0) (drop (i + 1) f) (no_digit (get_or f i 0) d))

  module _ (h : i < length f) (low : 48 ≤ get_or f i 0) (high : get_or f i 0 ≤ 57) where
    on : plain f ≡ below (2 ^ 32) (digits (v * 10 + (get_or f i 0 - 48)) (drop (i + 1) f))
    on = step h ∙ ap (below (2 ^ 32)) (digits_more v (get_or f i 0) (drop (i + 1) f) low high)

    pub reading_large : 2 ^ 32 ≤ v * 10 + (get_or f i 0 - 48) → plain f ≡ None
    reading_large l = on ∙ digits_large (2 ^ 32) (v * 10 + (get_or f i 0 - 48)) (drop (i + 1) f) l

    pub reading_more : v * 10 + (get_or f i 0 - 48) < 2 ^ 32 → Reading f (v * 10 + (get_or f i 0 - 48)) (i + 1)
    reading_more l = record { within = omega arith; small = l; same = on }

  pub reading_end : length f ≤ i → plain f ≡ Some v
  unfolding digits
  reading_end h = so.same ∙ ap (λ (s : List ℕ). below (2 ^ 32) (digits v s)) (drop_of_length-le f {i = i} h) ∙ below_some (2 ^ 32) v so.small

-- ---- a line break

-- the two bytes at k make one
pub is_break-at : (text : List ℕ) (k : ℕ) → k + 2 ≤ length text → is_break (drop k text) ≡ (eqb (get_or text k 0) 13 && eqb (get_or text (k + 1) 0) 10)
unfolding is_break
is_break-at text k h =
    ap is_break (at_byte text k (omega arith) ∙ ap (λ (s : List ℕ). get_or text k 0 ∷ s) (at_byte text (k + 1) (omega arith)))

-- one byte makes none
pub is_break_past : (text : List ℕ) (k : ℕ) → length text < k + 2 → is_break (drop k text) ≡ false
unfolding is_break
is_break_past text k h = by (drop k text) (omega (arith, length-drop k text))
  where
    by : (s : List ℕ) → length s < 2 → is_break s ≡ false
    by [] i = refl
    by (b ∷ []) i = refl
    by (b ∷ c ∷ s) i = absurd (omega arith)
