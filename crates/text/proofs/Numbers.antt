-- Laws of numbers in a text: digits from the left, what is too large stays so, and fewest digits read back. Assumes nothing.
use mathlib.Core.Path.{◌≡◌, refl, sym, ap, ◌∙◌}
use mathlib.Core.Bool.{Bool, true, false, cond, ◌&&◌}
use mathlib.Core.List.{List, [], ◌∷◌, ◌++◌}
use Rattle.std.specs.Prelude.{Option, None, Some}
use Rattle.std.proofs.lemmas.Option.{none-some}
use Prim.Native.Nat.{ℕ, zero, suc, ◌+◌, ◌*◌, ◌-◌, ◌^◌, ◌/◌, ◌%◌, ◌≤◌, ◌<◌}
use native.Mathlib.Omega.{arith}
use native.Mathlib.Nat.{div-add-mod'}
use lib.Dec.{leb, ltb, eqb}
use lib.IntN.{ℤ, pos, negsuc}
use lib.ListN.{length, get_or, length-append}
use borrow.Author.Tests.{leb-true, ltb-true, ltb-false, lt-ltb, le-ltb, le-leb, lt-leb, ne_eqb}
use Rattle.text.specs.Number.{is_digit, digits, number, below, plain, signed, valued, minus, last_digits, decimal, decimal_ℤ}
use Rattle.text.specs.Text.{and_then}
use Rattle.text.proofs.Each.{Each, nil, one, each_append, Above}

-- ---- digits

pub is_digit_within : (b : ℕ) → 48 ≤ b → b ≤ 57 → is_digit b ≡ true
is_digit_within b h k = simp (le-leb 48 b h, le-leb b 57 k)

pub no_digit : (b : ℕ) → (48 ≤ b → 57 < b) → is_digit b ≡ false
no_digit b h = go (leb 48 b) refl
  where
    go : (t : Bool) → leb 48 b ≡ t → (t && leb b 57) ≡ false
    go true e = lt-leb b 57 (h (leb-true 48 b e))
    go false e = refl

pub digits_more : (v b : ℕ) (s : List ℕ) → 48 ≤ b → b ≤ 57 → digits v (b ∷ s) ≡ digits (v * 10 + (b - 48)) s
unfolding digits
digits_more v b s h k = ap (λ (t : Bool). cond t (digits (v * 10 + (b - 48)) s) None) (is_digit_within b h k)

pub digits-stop : (v b : ℕ) (s : List ℕ) → is_digit b ≡ false → digits v (b ∷ s) ≡ None
unfolding digits
digits-stop v b s e = ap (λ (t : Bool). cond t (digits (v * 10 + (b - 48)) s) None) e

digits_append : (v : ℕ) (s t : List ℕ) → digits v (s ++ t) ≡ and_then (digits v s) (λ w. digits w t)
unfolding digits and_then
digits_append v [] t = refl
digits_append v (b ∷ s) t = go (is_digit b) (digits_append (v * 10 + (b - 48)) s t)
  where
    go : (d : Bool) → digits (v * 10 + (b - 48)) (s ++ t) ≡ and_then (digits (v * 10 + (b - 48)) s) (λ w. digits w t)
        → cond d (digits (v * 10 + (b - 48)) (s ++ t)) None ≡ and_then (cond d (digits (v * 10 + (b - 48)) s) None) (λ w. digits w t)
    go true ih = ih
    go false ih = refl

-- what is too large so far stays so
pub digits_large : (m v : ℕ) (s : List ℕ) → m ≤ v → below m (digits v s) ≡ None
unfolding digits below
digits_large m v [] h = ap (λ (t : Bool). cond t (Some v) None) (le-ltb v m h)
digits_large m v (b ∷ s) h = go (is_digit b) (digits_large m (v * 10 + (b - 48)) s (omega arith))
  where
    go : (d : Bool) → below m (digits (v * 10 + (b - 48)) s) ≡ None → below m (cond d (digits (v * 10 + (b - 48)) s) None) ≡ None
    go true ih = ih
    go false ih = refl

pub below_some : (m v : ℕ) → v < m → below m (Some v) ≡ Some v
unfolding below
below_some m v h = ap (λ (t : Bool). cond t (Some v) None) (lt-ltb v m h)

-- ---- fewest digits

last_digits_few : (k n : ℕ) → n < 10 → last_digits (suc k) n ≡ (48 + n) ∷ []
unfolding last_digits
last_digits_few k n h = ap (λ (t : Bool). cond t ((48 + n) ∷ []) (last_digits k (n / 10) ++ ((48 + n % 10) ∷ []))) (lt-ltb n 10 h)

last_digits_more : (k n : ℕ) → 10 ≤ n → last_digits (suc k) n ≡ last_digits k (n / 10) ++ ((48 + n % 10) ∷ [])
unfolding last_digits
last_digits_more k n h = ap (λ (t : Bool). cond t ((48 + n) ∷ []) (last_digits k (n / 10) ++ ((48 + n % 10) ∷ []))) (le-ltb n 10 h)

-- any k above n will do
last_digits_any : (j k n : ℕ) → n < j → n < k → last_digits j n ≡ last_digits k n
last_digits_any zero k n h i = absurd (omega arith)
last_digits_any (suc j) zero n h i = absurd (omega arith)
last_digits_any (suc j) (suc k) n h i = go (ltb n 10) refl (last_digits_any j k (n / 10))
  where
    go : (t : Bool) → ltb n 10 ≡ t → (n / 10 < j → n / 10 < k → last_digits j (n / 10) ≡ last_digits k (n / 10)) → last_digits (suc j) n ≡ last_digits (suc k) n
    go true e ih = last_digits_few j n (ltb-true n 10 e) ∙ sym (last_digits_few k n (ltb-true n 10 e))
    go false e ih =
        let f : 10 ≤ n = ltb-false n 10 e in
        last_digits_more j n f ∙ ap (λ (l : List ℕ). l ++ ((48 + n % 10) ∷ [])) (ih (omega (arith, div-add-mod' n 10)) (omega (arith, div-add-mod' n 10)))
        ∙ sym (last_digits_more k n f)

pub decimal_few : (n : ℕ) → n < 10 → decimal n ≡ (48 + n) ∷ []
unfolding decimal
decimal_few n h = last_digits_few n n h

pub decimal_more : (n : ℕ) → 10 ≤ n → decimal n ≡ decimal (n / 10) ++ ((48 + n % 10) ∷ [])
unfolding decimal
decimal_more n h =
    last_digits_more n n h
    ∙ ap (λ (l : List ℕ). l ++ ((48 + n % 10) ∷ [])) (last_digits_any n (suc (n / 10)) (n / 10) (omega (arith, div-add-mod' n 10)) (omega arith))

-- ---- and they read back

digits_one : (v b : ℕ) → 48 ≤ b → b ≤ 57 → digits v (b ∷ []) ≡ Some (v * 10 + (b - 48))
unfolding digits
digits_one v b h k = digits_more v b [] h k

digits_last : (k n : ℕ) → n < k → digits 0 (last_digits k n) ≡ Some n
unfolding and_then
digits_last zero n h = absurd (omega arith)
digits_last (suc k) n h = go (ltb n 10) refl (digits_last k (n / 10))
  where
    go : (t : Bool) → ltb n 10 ≡ t → (n / 10 < k → digits 0 (last_digits k (n / 10)) ≡ Some (n / 10)) → digits 0 (last_digits (suc k) n) ≡ Some n
    go true e ih =
        let l : n < 10 = ltb-true n 10 e in
        ap (digits 0) (last_digits_few k n l) ∙ digits_one 0 (48 + n) (omega arith) (omega arith) ∙ ap {B = Option ℕ} Some (omega arith)
    go false e ih =
        let l : 10 ≤ n = ltb-false n 10 e in
        ap (digits 0) (last_digits_more k n l) ∙ digits_append 0 (last_digits k (n / 10)) ((48 + n % 10) ∷ [])
        ∙ ap (λ (o : Option ℕ). and_then o (λ w. digits w ((48 + n % 10) ∷ []))) (ih (omega (arith, div-add-mod' n 10)))
        ∙ digits_one (n / 10) (48 + n % 10) (omega arith) (omega (arith, div-add-mod' n 10))
        ∙ ap {B = Option ℕ} Some (omega (arith, div-add-mod' n 10))

-- digits with a value are a number, if there are any
number_some : (s : List ℕ) (n : ℕ) → 0 < length s → digits 0 s ≡ Some n → number s ≡ Some n
unfolding number
number_some [] n h e = absurd (omega arith)
number_some (b ∷ s) n h e = e

last_digits-length : (k n : ℕ) → 0 < length (last_digits (suc k) n)
last_digits-length k n = go (ltb n 10) refl
  where
    go : (t : Bool) → ltb n 10 ≡ t → 0 < length (last_digits (suc k) n)
    go true e = omega (arith, ap length (last_digits_few k n (ltb-true n 10 e)))
    go false e = omega (arith, simp length-append at (ap length (last_digits_more k n (ltb-false n 10 e))))

pub number-decimal : (n : ℕ) → number (decimal n) ≡ Some n
unfolding decimal
number-decimal n = number_some (decimal n) n (last_digits-length n n) (digits_last (suc n) n (omega arith))

last_digits_above : (k n : ℕ) → Each Above (last_digits k n)
unfolding last_digits
last_digits_above zero n = nil
last_digits_above (suc k) n = go (ltb n 10) refl (last_digits_above k (n / 10))
  where
    go : (t : Bool) → ltb n 10 ≡ t → Each Above (last_digits k (n / 10)) → Each Above (cond t ((48 + n) ∷ []) (last_digits k (n / 10) ++ ((48 + n % 10) ∷ [])))
    go true e ih = one {b = 48 + n} (omega arith) nil
    go false e ih = each_append ih (one {b = 48 + n % 10} (omega arith) nil)

pub decimal_above : (n : ℕ) → Each Above (decimal n)
unfolding decimal
decimal_above n = last_digits_above (suc n) n

pub decimal_ℤ_above : (z : ℤ) → Each Above (decimal_ℤ z)
unfolding decimal_ℤ
decimal_ℤ_above (pos n) = decimal_above n
decimal_ℤ_above (negsuc n) = one {b = 45} (omega arith) (decimal_above (suc n))

pub plain-decimal : (n : ℕ) → n < 2 ^ 32 → plain (decimal n) ≡ Some n
unfolding plain
plain-decimal n h = ap (below (2 ^ 32)) (number-decimal n) ∙ below_some (2 ^ 32) n h

-- what a signed 32-bit row holds
pub data Holds32 : ℤ → Type 0 where
  up : {n : ℕ} → n < 2 ^ 31 → Holds32 (pos n)
  down : {n : ℕ} → n < 2 ^ 31 → Holds32 (negsuc n)

-- a number that begins with no minus
signed_above : (s : List ℕ) (n : ℕ) → n < 2 ^ 31 → number s ≡ Some n → (eqb (get_or s 0 0) 45 ≡ false) → signed s ≡ Some (pos n)
unfolding signed number valued
signed_above [] n h e f = absurd (none-some n e)
signed_above (b ∷ s) n h e f =
    ap (λ (t : Bool). cond t (valued minus (below (2 ^ 31 + 1) (number s))) (valued pos (below (2 ^ 31) (number (b ∷ s))))) f
    ∙ ap (λ (o : Option ℕ). valued pos (below (2 ^ 31) o)) e ∙ ap (valued pos) (below_some (2 ^ 31) n h)

-- a printed number begins with a digit
first-append : (s : List ℕ) (b : ℕ) → 45 < get_or s 0 0 → 45 < get_or (s ++ (b ∷ [])) 0 0
first-append [] b h = absurd (omega arith)
first-append (c ∷ s) b h = h

first_last : (k n : ℕ) → n < k → 45 < get_or (last_digits k n) 0 0
unfolding last_digits
first_last zero n h = absurd (omega arith)
first_last (suc k) n h = go (ltb n 10) refl (first_last k (n / 10))
  where
    go : (t : Bool) → ltb n 10 ≡ t → (n / 10 < k → 45 < get_or (last_digits k (n / 10)) 0 0)
        → 45 < get_or (cond t ((48 + n) ∷ []) (last_digits k (n / 10) ++ ((48 + n % 10) ∷ []))) 0 0
    go true e ih = omega arith
    go false e ih = first-append (last_digits k (n / 10)) (48 + n % 10) (ih (omega (arith, div-add-mod' n 10, ltb-false n 10 e)))

pub signed_decimal : (z : ℤ) → Holds32 z → signed (decimal_ℤ z) ≡ Some z
unfolding decimal_ℤ decimal signed valued
signed_decimal (pos n) (up h) =
    signed_above (decimal n) n h (number-decimal n) (ne_eqb (get_or (decimal n) 0 0) 45 (λ e. omega (arith, first_last (suc n) n (omega arith), e)))
signed_decimal (negsuc n) (down h) =
    ap (λ (o : Option ℕ). valued minus (below (2 ^ 31 + 1) o)) (number-decimal (suc n)) ∙ ap (valued minus) (below_some (2 ^ 31 + 1) (suc n) (omega arith))
