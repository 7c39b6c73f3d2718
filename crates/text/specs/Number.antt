-- A number in a text, a byte being a number: how it is read, judged by its value alone, and how it is printed, with the fewest digits. Definitions alone.
use Rattle.std.specs.Prelude.{Bool, cond, ◌&&◌, List, [], ◌∷◌, ◌++◌, ℕ, zero, suc, ◌+◌, ◌*◌, ◌-◌, ◌/◌, ◌%◌, ◌^◌, leb, ltb, eqb, ℤ, pos, negsuc, neg_ℤ, Option, Some, None}
use Rattle.text.specs.Bytes.{minus_sign, zero_digit, nine_digit}

-- ---- read: one or more decimal digits, however many

abbrev pub is_digit : ℕ → Bool
is_digit b = leb zero_digit b && leb b nine_digit

-- the value of digits that follow those of value v; none where a byte is no digit
unfoldable pub digits : ℕ → List ℕ → Option ℕ
digits v [] = Some v
digits v (b ∷ s) = cond (is_digit b) (digits (v * 10 + (b - zero_digit)) s) None

unfoldable pub number : List ℕ → Option ℕ
number [] = None
number (b ∷ s) = digits 0 (b ∷ s)

-- a value that is too large is none
unfoldable pub below : ℕ → Option ℕ → Option ℕ
below m None = None
below m (Some v) = cond (ltb v m) (Some v) None

-- a field of an unsigned 32-bit row
unfoldable pub plain : List ℕ → Option ℕ
plain f = below (2 ^ 32) (number f)

-- with its sign
unfoldable pub valued : (ℕ → ℤ) → Option ℕ → Option ℤ
valued sign None = None
valued sign (Some v) = Some (sign v)

abbrev pub minus : ℕ → ℤ
minus v = neg_ℤ (pos v)

-- a field of a signed 32-bit row: digits, with an optional minus
unfoldable pub signed : List ℕ → Option ℤ
signed [] = None
signed (b ∷ f) = cond (eqb b minus_sign) (valued minus (below (2 ^ 31 + 1) (number f))) (valued pos (below (2 ^ 31) (number (b ∷ f))))

-- ---- printed

-- of n, its last k digits or all that it has
unfoldable pub last_digits : ℕ → ℕ → List ℕ
last_digits zero n = []
last_digits (suc k) n = cond (ltb n 10) ((zero_digit + n) ∷ []) (last_digits k (n / 10) ++ ((zero_digit + n % 10) ∷ []))

-- n has at most n + 1 digits
unfoldable pub decimal : ℕ → List ℕ
decimal n = last_digits (suc n) n

unfoldable pub decimal_ℤ : ℤ → List ℕ
decimal_ℤ (pos n) = decimal n
decimal_ℤ (negsuc n) = minus_sign ∷ decimal (suc n)
