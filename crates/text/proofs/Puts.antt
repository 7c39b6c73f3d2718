-- Laws of printing: bytes that are put one part after the other, numbers, and the lines of a text, record by record. Assumes nothing.
use mathlib.Core.Path.{◌≡◌, refl, sym, ap, ◌∙◌, subst}
use mathlib.Core.Bool.{Bool, true, false}
use mathlib.Core.List.{List, [], ◌∷◌, ◌++◌, append_assoc, append-nil}
use Prim.Native.Nat.{ℕ, zero, suc, ◌+◌, ◌*◌, ◌/◌, ◌%◌, ◌^◌, ◌≤◌, ◌<◌}
use native.Mathlib.Omega.{arith}
use native.Mathlib.Numerals.{add-one}
use native.Mathlib.Nat.{div-add-mod', add-zero, pow-suc}
use lib.Dec.{ltb}
use lib.IntN.{ℤ, pos, negsuc, nat_abs}
use lib.ListN.{length, get_or, take, drop, set, length-append, take-append-drop}
use lib.Seq.{append_snoc, set_split, take_all, length-take-le, take-suc}
use lib.Signed.{lt_z}
use borrow.Author.Tests.{ltb-true, ltb-false}
use mir.Syntax.{w32}
use mir.Val.{SFits}
use Rattle.numbers.proofs.Integers.{of_abs, of_sfits}
use Rattle.text.specs.Bytes.{comma}
use Rattle.text.specs.Number.{decimal, decimal_ℤ}
use Rattle.text.specs.Line.{joined, broken}
use Rattle.text.specs.Text.{Arc, arc, event_fields, arc_fields, Layout, event_layout, arc_layout, record_lines, printed}
use Rattle.text.specs.Fill.{onto}
use Rattle.text.specs.Put.{Put, break_after, record_line, longest_event, longest_arc}
use Rattle.text.specs.Sink.{SinkLaws, kept_length, then_put}
use Rattle.text.proofs.Numbers.{decimal_few, decimal_more}

-- what was put at the beginning stands there
pub put-onto : {s row is : List ℕ} {next : ℕ} → Put s 0 row is next → (is ≡ onto s row) × (next ≡ length s)
put-onto {s} {row} p =
    let z : 0 + length s ≡ length s = omega arith in
    (p.is ∙ ap (λ (k : ℕ). s ++ drop k row) z, p.place ∙ z)

put_same : {s t : List ℕ} {at : ℕ} {x y : List ℕ} {next : ℕ} → s ≡ t → Put t at x y next → Put s at x y next
put_same {at = at} {x = x} {y = y} {next = next} e p = subst (λ (u : List ℕ). Put u at x y next) (sym e) p

-- ---- what a sink took, part by part

-- all parts
abbrev pub run : List (List ℕ) → List ℕ
run [] = []
run (s ∷ ps) = s ++ run ps

-- a text that is put part by part
pub record Parts (s : List ℕ) (ps : List (List ℕ)) : Type 0 where
  pub is : s ≡ run ps

module _ {X : Type 0} (room : ℕ → X → Type 0) where
  -- there is room for all of them
  pub record Room (ps : List (List ℕ)) (x : X) : Type 0 where
    pub fits : room (length (run ps)) x

module _ {X : Type 0} (took : List ℕ → X → X → Type 0) where
  -- all of them went in
  pub record Took (ps : List (List ℕ)) (x y : X) : Type 0 where
    pub all : took (run ps) x y

module _ {X : Type 0} {room : ℕ → X → Type 0} {took : List ℕ → X → X → Type 0} (laws : SinkLaws room took) where
  pub room_for : {s : List ℕ} {ps : List (List ℕ)} {x : X} → Parts s ps → room (length s) x → Room room ps x
  room_for {x = x} e h = record { fits = subst (λ (s : List ℕ). room (length s) x) e.is h }

  -- so for the first, and then for the rest
  pub room_first : {s : List ℕ} {ps : List (List ℕ)} {x : X} → Room room (s ∷ ps) x → room (length s) x
  room_first {s} {ps} r = laws.fewer (length s) (omega (arith, length-append s (run ps))) r.fits

  pub room_rest : {s : List ℕ} {ps : List (List ℕ)} {x y : X} → Room room (s ∷ ps) x → took s x y → Room room ps y
  room_rest {s} {ps} {x} r p = record { fits = laws.rest (length (run ps)) (subst (λ (n : ℕ). room n x) (length-append s (run ps)) r.fits) p }

  pub moved : {ps : List (List ℕ)} {x y : X} → y ≡ x → Room room ps x → Room room ps y
  moved {ps} e r = subst (Room room ps) (sym e) r

  took_same : {s t : List ℕ} {x y : X} → s ≡ t → took t x y → took s x y
  took_same {x = x} {y = y} e p = subst (λ (u : List ℕ). took u x y) (sym e) p

  pub first : {s : List ℕ} {ps : List (List ℕ)} {x y z : X} → Room room (s ∷ ps) x → took s x y → Took took ps y z → Took took (s ∷ ps) x z
  first r p q = record { all = laws.joins r.fits p q.all }

  pub last : {s : List ℕ} {x y : X} → took s x y → Took took (s ∷ []) x y
  last {s} p = record { all = took_same (append-nil s) p }

  pub whole : {s : List ℕ} {ps : List (List ℕ)} {x y : X} → Parts s ps → Took took ps x y → took s x y
  whole e p = took_same e.is p.all

-- ---- digits

pub decimal_shorter : (n : ℕ) → 10 ≤ n → length (decimal n) ≡ length (decimal (n / 10)) + 1
decimal_shorter n h = ap length (decimal_more n h) ∙ length-append (decimal (n / 10)) ((48 + n % 10) ∷ [])

-- a number below ten to the k has at most k digits
decimal-short : (k n : ℕ) → n < 10 ^ suc k → length (decimal n) ≤ suc k
decimal-short zero n h = omega (arith, ap length (decimal_few n (omega arith)))
decimal-short (suc k) n h = by (ltb n 10) refl (decimal-short k (n / 10))
  where
    by : (t : Bool) → ltb n 10 ≡ t → (n / 10 < 10 ^ suc k → length (decimal (n / 10)) ≤ suc k) → length (decimal n) ≤ suc (suc k)
    by true e ih = omega (arith, ap length (decimal_few n (ltb-true n 10 e)))
    by false e ih = omega (arith, decimal_shorter n (ltb-false n 10 e), ih (omega (arith, div-add-mod' n 10, pow-suc 10 (suc k))))

-- of a 32-bit number: ten
pub ten_digits : (n : ℕ) → n < 2 ^ 32 → length (decimal n) ≤ 10
ten_digits n h = decimal-short 9 n (omega arith)

-- one byte
put_byte : (row : List ℕ) (at b : ℕ) → at < length row → Put (b ∷ []) at row (set row at b) (at + 1)
put_byte row at b h = record {
  is = set_split row at b h ∙ sym (append_snoc (take at row) b (drop (suc at) row)) ∙ ap (λ (k : ℕ). take at row ++ (b ∷ []) ++ drop k row) (sym (add-one at));
  place = refl;
}

-- a number below ten is one byte, and any other ends in one
pub put_few : (row : List ℕ) (at n : ℕ) → n < 10 → at < length row → Put (decimal n) at row (set row at (48 + n)) (at + 1)
put_few row at n h i = put_same (decimal_few n h) (put_byte row at (48 + n) i)

pub put_more : {row after : List ℕ} {at next : ℕ} (n : ℕ) → 10 ≤ n → at + length (decimal n) ≤ length row → Put (decimal (n / 10)) at row after next
    → Put (decimal n) at row (set after next (48 + n % 10)) (next + 1)
put_more {after = after} {next = next} n h i p =
    let l = decimal_shorter n h in
    let last = put_byte after next (48 + n % 10) (omega (arith, i, l, p.place, kept_length (omega (arith, i, l)) p)) in
    put_same (decimal_more n h) (then_put (omega (arith, i, ap length (decimal_more n h))) p last)

-- ---- signed numbers

pub minus_digits : {n : ℕ} (z : ℤ) → lt_z z (pos 0) ≡ true → n ≡ nat_abs z → Parts (decimal_ℤ z) ((45 ∷ []) ∷ decimal n ∷ [])
unfolding decimal_ℤ
minus_digits (pos m) e i = absurd (omega (arith, ltb-true m 0 e))
minus_digits {n} (negsuc m) e i = record { is = ap (λ (k : ℕ). 45 ∷ decimal k) (sym i) ∙ ap (λ (s : List ℕ). 45 ∷ s) (sym (append-nil (decimal n))) }

pub plus_digits : {n : ℕ} (z : ℤ) → lt_z z (pos 0) ≡ false → n ≡ nat_abs z → Parts (decimal_ℤ z) (decimal n ∷ [])
unfolding decimal_ℤ
plus_digits {n} (pos m) e i = record { is = ap decimal (sym i) ∙ sym (append-nil (decimal n)) }
plus_digits (negsuc m) e i = cc

size_fits : (z : ℤ) → SFits w32 z → nat_abs z < 2 ^ 32
size_fits z f = omega (arith, of_abs z, of_sfits w32 z f)

eleven_bytes : (z : ℤ) → SFits w32 z → length (decimal_ℤ z) ≤ 11
unfolding decimal_ℤ
eleven_bytes (pos n) f = omega (arith, ten_digits n (size_fits (pos n) f))
eleven_bytes (negsuc n) f = omega (arith, ten_digits (suc n) (size_fits (negsuc n) f))

-- ---- a line's parts: each number with what stands after it

abbrev pub comma_after : List ℕ → List ℕ
comma_after f = f ++ comma ∷ []

abbrev pub event_parts : ℕ → ℕ → List (List ℕ)
event_parts k p = comma_after (decimal k) ∷ break_after (decimal p) ∷ []

abbrev pub arc_parts : ℕ → Arc → List (List ℕ)
arc_parts k a =
    comma_after (decimal k) ∷ comma_after (decimal a.tail) ∷ comma_after (decimal a.head) ∷ comma_after (decimal_ℤ a.lower) ∷ comma_after (decimal_ℤ a.upper)
    ∷ break_after (decimal a.weight) ∷ []

pub event_line : (k p : ℕ) → Parts (record_line event_layout k p) (event_parts k p)
unfolding joined event_fields
event_line k p = record { is = simp (append_assoc, append-nil) }

-- the two signed numbers as they are passed
pub arc_line : (k : ℕ) (a : Arc) {l u : ℤ} → l ≡ a.lower → u ≡ a.upper → Parts (record_line arc_layout k a) (arc_parts k (arc a.tail a.head l u a.weight))
unfolding joined arc_fields
arc_line k a e f =
    let line : record_line arc_layout k a ≡ run (arc_parts k a) = simp (append_assoc, append-nil) in
    record { is = line ∙ (λ i. run (arc_parts k (arc a.tail a.head (sym e i) (sym f i) a.weight))) }

-- and how long it may be
pub event_line_short : (k p : ℕ) → k < 2 ^ 32 → p < 2 ^ 32 → length (record_line event_layout k p) ≤ longest_event
event_line_short k p h i = simp ((event_line k p).is, length-append) (omega (arith, ten_digits k h, ten_digits p i))

pub arc_line_short : (k : ℕ) (a : Arc) → k < 2 ^ 32 → a.tail < 2 ^ 32 → a.head < 2 ^ 32 → SFits w32 a.lower → SFits w32 a.upper → a.weight < 2 ^ 32
    → length (record_line arc_layout k a) ≤ longest_arc
arc_line_short k a h t i l u w =
    simp ((arc_line k a refl refl).is, length-append)
    (omega (arith, ten_digits k h, ten_digits a.tail t, ten_digits a.head i, eleven_bytes a.lower l, eleven_bytes a.upper u, ten_digits a.weight w))

-- ---- the lines of a text, record by record

broken-append : (xs ys : List (List ℕ)) → broken (xs ++ ys) ≡ broken xs ++ broken ys
unfolding broken
broken-append [] ys = refl
broken-append (l ∷ xs) ys = ap (λ (s : List ℕ). l ++ 13 ∷ 10 ∷ s) (broken-append xs ys) ∙ sym (append_assoc l (13 ∷ 10 ∷ broken xs) (broken ys))

lines-append : {R : Type 0} (f : R → List (List ℕ)) (j : ℕ) (xs ys : List R) → record_lines f j (xs ++ ys) ≡ record_lines f j xs ++ record_lines f (j + length xs) ys
unfolding record_lines
lines-append f j [] ys = ap (λ (k : ℕ). record_lines f k ys) (sym (add-zero j))
lines-append f j (r ∷ xs) ys =
    let e : suc j + length xs ≡ j + suc (length xs) = omega arith in
    ap (λ (ls : List (List ℕ)). joined (decimal j ∷ f r) ∷ ls) (lines-append f (suc j) xs ys ∙ ap (λ (k : ℕ). record_lines f (suc j) xs ++ record_lines f k ys) e)

module _ {R : Type 0} (L : Layout R) (rs : List R) where
  split : (k : ℕ) (xs ys : List R) → length xs ≡ k → printed L (xs ++ ys) ≡ printed L xs ++ broken (record_lines L.fields_of k ys)
  unfolding printed
  split k xs ys e =
      let f : R → List (List ℕ) = L.fields_of in
      let z : 0 + length xs ≡ k = omega arith in
      ap (λ (ls : List (List ℕ)). broken (L.header ∷ ls)) (lines-append f 0 xs ys) ∙ broken-append (L.header ∷ record_lines f 0 xs) (record_lines f (0 + length xs) ys)
      ∙ ap (λ (j : ℕ). broken (L.header ∷ record_lines f 0 xs) ++ broken (record_lines f j ys)) z

  -- with no record, the header alone
  header_only : printed L [] ≡ break_after L.header
  unfolding printed record_lines broken
  header_only = refl

  -- one record more, one line more
  next_line : (k : ℕ) (d : R) → k < length rs → printed L (take (k + 1) rs) ≡ printed L (take k rs) ++ record_line L k (get_or rs k d)
  unfolding record_lines broken
  next_line k d h =
      ap (λ (xs : List R). printed L xs) (ap (λ (n : ℕ). take n rs) (add-one k) ∙ take-suc rs k d h)
      ∙ split k (take k rs) (get_or rs k d ∷ []) (length-take-le k rs (omega arith))

  -- the first lines are no longer than all
  part : (k : ℕ) → length (printed L (take k rs)) ≤ length (printed L rs)
  part k =
      let e = ap (λ (xs : List R). length (printed L xs)) (sym (take-append-drop k rs)) ∙ ap length (split (length (take k rs)) (take k rs) (drop k rs) refl) in
      omega (arith, simp length-append at e)

  all_lines : (k : ℕ) → length rs ≤ k → printed L (take k rs) ≡ printed L rs
  all_lines k h = ap (λ (xs : List R). printed L xs) (take_all k rs h)

-- ---- a loop that puts the lines: the header, one line more, and the end

module _ {R : Type 0} (L : Layout R) (rs : List R) (w : ℕ) {X : Type 0} (took : List ℕ → X → X → Type 0) where
  -- the header and the lines of the first k records went in, each of at most w bytes
  pub record SoFar (k : ℕ) (x y : X) : Type 0 where
    pub lines : took (printed L (take k rs)) x y
    pub short : length (printed L (take k rs)) ≤ w * (k + 1)

module _ {R : Type 0} (L : Layout R) (rs : List R) (w : ℕ) {X : Type 0} {room : ℕ → X → Type 0} {took : List ℕ → X → X → Type 0} (laws : SinkLaws room took) {x : X}
    (h : room (length (printed L rs)) x) where
  pub header_fits : room (length (break_after L.header)) x
  header_fits = laws.fewer (length (break_after L.header)) (omega (arith, part L rs 0, ap length (header_only L rs))) h

  pub begun : {y : X} → length (break_after L.header) ≤ w → took (break_after L.header) x y → SoFar L rs w took 0 x y
  begun i p = record { lines = took_same laws (header_only L rs) p; short = omega (arith, i, ap length (header_only L rs)) }

  pub ended : {y : X} (k : ℕ) → length rs ≤ k → SoFar L rs w took k x y → took (printed L rs) x y × (length (printed L rs) ≤ w * (k + 1))
  ended k i p = (took_same laws (sym (all_lines L rs k i)) p.lines, omega (arith, p.short, ap length (all_lines L rs k i)))

  -- the lines before record k, and its line
  module _ (k : ℕ) (d : R) {r : R} (i : k < length rs) (e : get_or rs k d ≡ r) where
    next : Parts (printed L (take (k + 1) rs)) (printed L (take k rs) ∷ record_line L k r ∷ [])
    next = record {
      is = next_line L rs k d i ∙ ap (λ (q : R). printed L (take k rs) ++ record_line L k q) e
          ∙ ap (λ (s : List ℕ). printed L (take k rs) ++ s) (sym (append-nil (record_line L k r)));
    }

    next_room : Room room (printed L (take k rs) ∷ record_line L k r ∷ []) x
    next_room = room_for laws next (laws.fewer (length (printed L (take (k + 1) rs))) (part L rs (k + 1)) h)

    pub line_fits : {y : X} → SoFar L rs w took k x y → room (length (record_line L k r)) y
    line_fits p = room_first laws (room_rest laws next_room p.lines)

    pub line_put : {y z : X} → SoFar L rs w took k x y → took (record_line L k r) y z → length (record_line L k r) ≤ w → SoFar L rs w took (k + 1) x z
    line_put p q j = record {
      lines = whole laws next (first laws next_room p.lines (last laws q));
      short = omega (arith, ap length next.is, length-append (printed L (take k rs)) (record_line L k r ++ []), length-append (record_line L k r) [], p.short, j);
    }
