-- Laws of lines and fields: the first line of a text and what follows it, the first field of a line, and parts that were put together.
-- Assumes nothing.
use mathlib.Core.Path.{◌≡◌, refl, sym, ap, ◌∙◌}
use mathlib.Core.Bool.{Bool, true, false, cond, ◌&&◌}
use mathlib.Core.List.{List, [], ◌∷◌, ◌++◌, nil≢cons}
use Prim.Native.Nat.{ℕ, zero, suc, ◌+◌, ◌≤◌, ◌<◌}
use native.Mathlib.Omega.{arith}
use lib.Dec.{eqb, ltb}
use lib.ListN.{length, get_or, take, drop, drop_of_length-le}
use borrow.Author.Tests.{eq-eqb, eqb-true, ne_eqb, ltb-true, ltb-false}
use Rattle.text.specs.Line.{is_break, on_first, lines, fields, joined, broken}
use Rattle.text.proofs.Scans.{is_break-at, is_break_past}
use Rattle.text.proofs.Each.{Each, nil, one, Above, AboveBreak}

-- ---- the first line

pub lines_none : (s : List ℕ) → length s ≡ 0 → lines s ≡ []
unfolding lines
lines_none [] h = refl
lines_none (b ∷ s) h = absurd (omega arith)

lines_step : (b : ℕ) (s : List ℕ) → is_break (b ∷ s) ≡ false → lines (b ∷ s) ≡ on_first b (lines s)
unfolding lines on_first
lines_step b [] e = refl
lines_step b (c ∷ s) e = ap (λ (t : Bool). cond t ([] ∷ lines s) (on_first b (lines (c ∷ s)))) e

no_break_in : (n : ℕ) → is_break (drop n []) ≡ true → ⊥
unfolding is_break
no_break_in n e = let z : false ≡ true = sym (ap is_break (drop_of_length-le [] {i = n} (omega arith))) ∙ e in cc

not_both : (b c : ℕ) → (b ≡ 13 → c ≡ 10 → ⊥) → (eqb b 13 && eqb c 10) ≡ false
not_both b c h = by (eqb b 13) refl
  where
    by : (t : Bool) → eqb b 13 ≡ t → (t && eqb c 10) ≡ false
    by true e = ne_eqb c 10 (h (eqb-true b 13 e))
    by false e = refl

-- a line break stands at n, and none before
lines_at : (s : List ℕ) (n : ℕ) → is_break (drop n s) ≡ true → ((k : ℕ) → k < n → is_break (drop k s) ≡ false) → lines s ≡ take n s ∷ lines (drop (n + 2) s)
unfolding lines is_break on_first
lines_at [] n e before = absurd (no_break_in n e)
lines_at (b ∷ []) zero e before = absurd (no_break_in 0 e)
lines_at (b ∷ []) (suc n) e before = absurd (no_break_in n e)
lines_at (b ∷ c ∷ s) zero e before = ap (λ (t : Bool). cond t ([] ∷ lines s) (on_first b (lines (c ∷ s)))) e
lines_at (b ∷ c ∷ s) (suc n) e before =
    let z : suc (n + 2) ≡ suc n + 2 = omega arith in
    lines_step b (c ∷ s) (before 0 (omega arith)) ∙ ap (on_first b) (lines_at (c ∷ s) n e (λ k h. before (suc k) (omega arith)))
    ∙ ap (λ (k : ℕ). take (suc n) (b ∷ c ∷ s) ∷ lines (drop k (b ∷ c ∷ s))) z

-- no line break stands in the text, which has a byte
lines_whole : (s : List ℕ) → 0 < length s → ((k : ℕ) → is_break (drop k s) ≡ false) → lines s ≡ s ∷ []
unfolding lines on_first
lines_whole [] h none = absurd (omega arith)
lines_whole (b ∷ []) h none = refl
lines_whole (b ∷ c ∷ s) h none = lines_step b (c ∷ s) (none 0) ∙ ap (on_first b) (lines_whole (c ∷ s) (omega arith) (λ k. none (suc k)))

-- by the bytes: CR LF at n, and none before
pub lines_at_break : (s : List ℕ) (n : ℕ) → n + 2 ≤ length s → get_or s n 0 ≡ 13 → get_or s (n + 1) 0 ≡ 10
    → ((k : ℕ) → k < n → get_or s k 0 ≡ 13 → get_or s (k + 1) 0 ≡ 10 → ⊥) → lines s ≡ take n s ∷ lines (drop (n + 2) s)
lines_at_break s n h e f before =
    lines_at s n (is_break-at s n h ∙ (λ i. eqb (e i) 13 && eqb (f i) 10))
    (λ k i. is_break-at s k (omega arith) ∙ not_both (get_or s k 0) (get_or s (k + 1) 0) (before k i))

-- CR LF nowhere
pub lines_without_break : (s : List ℕ) → 0 < length s → ((k : ℕ) → k + 2 ≤ length s → get_or s k 0 ≡ 13 → get_or s (k + 1) 0 ≡ 10 → ⊥) → lines s ≡ s ∷ []
lines_without_break s h none = lines_whole s h (λ k. by k (ltb (length s) (k + 2)) refl)
  where
    by : (k : ℕ) (t : Bool) → ltb (length s) (k + 2) ≡ t → is_break (drop k s) ≡ false
    by k true e = is_break_past s k (ltb-true (length s) (k + 2) e)
    by k false e =
        let room : k + 2 ≤ length s = ltb-false (length s) (k + 2) e in
        is_break-at s k room ∙ not_both (get_or s k 0) (get_or s (k + 1) 0) (none k room)

-- ---- the first field

-- a line has a field
pub no_field : (s : List ℕ) → fields s ≡ [] → ⊥
unfolding fields on_first
no_field [] e = nil≢cons (sym e)
no_field (b ∷ s) e = by (eqb b 44) (fields s) e
  where
    by : (t : Bool) (ps : List (List ℕ)) → cond t ([] ∷ ps) (on_first b ps) ≡ [] → ⊥
    by true ps p = nil≢cons (sym p)
    by false [] p = nil≢cons (sym p)
    by false (q ∷ qs) p = nil≢cons (sym p)

fields_step : (b : ℕ) (s : List ℕ) → (b ≡ 44 → ⊥) → fields (b ∷ s) ≡ on_first b (fields s)
unfolding fields
fields_step b s h = ap (λ (t : Bool). cond t ([] ∷ fields s) (on_first b (fields s))) (ne_eqb b 44 h)

-- a comma stands at n, and none before
pub fields_at : (s : List ℕ) (n : ℕ) → n < length s → get_or s n 0 ≡ 44 → ((k : ℕ) → k < n → get_or s k 0 ≡ 44 → ⊥) → fields s ≡ take n s ∷ fields (drop (n + 1) s)
unfolding fields on_first
fields_at [] n h e before = absurd (omega arith)
fields_at (b ∷ s) zero h e before = ap (λ (t : Bool). cond t ([] ∷ fields s) (on_first b (fields s))) (eq-eqb b 44 e)
fields_at (b ∷ s) (suc n) h e before =
    let z : suc (n + 1) ≡ suc n + 1 = omega arith in
    fields_step b s (before 0 (omega arith)) ∙ ap (on_first b) (fields_at s n (omega arith) e (λ k i. before (suc k) (omega arith)))
    ∙ ap (λ (k : ℕ). take (suc n) (b ∷ s) ∷ fields (drop k (b ∷ s))) z

-- no comma stands in the line
pub fields_whole : (s : List ℕ) → ((k : ℕ) → k < length s → get_or s k 0 ≡ 44 → ⊥) → fields s ≡ s ∷ []
unfolding fields on_first
fields_whole [] none = refl
fields_whole (b ∷ s) none = fields_step b s (none 0 (omega arith)) ∙ ap (on_first b) (fields_whole s (λ k i. none (suc k) (omega arith)))

-- ---- parts that were put together

no_break : (b : ℕ) (s : List ℕ) → 13 < b → is_break (b ∷ s) ≡ false
unfolding is_break
no_break b [] h = refl
no_break b (c ∷ s) h = ap (λ (t : Bool). t && eqb c 10) (ne_eqb b 13 (λ e. omega arith))

lines-line : {l : List ℕ} (s : List ℕ) → Each AboveBreak l → lines (l ++ 13 ∷ 10 ∷ s) ≡ l ∷ lines s
unfolding lines is_break on_first
lines-line s nil = refl
lines-line s (one {b = b} {s = t} h hs) = lines_step b (t ++ 13 ∷ 10 ∷ s) (no_break b (t ++ 13 ∷ 10 ∷ s) h) ∙ ap (on_first b) (lines-line s hs)

pub lines-broken : {ls : List (List ℕ)} → Each (Each AboveBreak) ls → lines (broken ls) ≡ ls
unfolding lines broken
lines-broken nil = refl
lines-broken (one {b = l} {s = ls} h hs) = lines-line (broken ls) h ∙ ap (λ (k : List (List ℕ)). l ∷ k) (lines-broken hs)

fields-field : {f : List ℕ} (s : List ℕ) → Each Above f → fields (f ++ 44 ∷ s) ≡ f ∷ fields s
unfolding fields on_first
fields-field s nil = refl
fields-field s (one {b = b} {s = t} h hs) = fields_step b (t ++ 44 ∷ s) (λ e. omega arith) ∙ ap (on_first b) (fields-field s hs)

fields_last : {f : List ℕ} → Each Above f → fields f ≡ f ∷ []
unfolding fields on_first
fields_last nil = refl
fields_last (one {b = b} {s = t} h hs) = fields_step b t (λ e. omega arith) ∙ ap (on_first b) (fields_last hs)

pub fields-joined : {f : List ℕ} {fs : List (List ℕ)} → Each (Each Above) (f ∷ fs) → fields (joined (f ∷ fs)) ≡ f ∷ fs
unfolding joined
fields-joined {f} {fs = []} (one h hs) = fields_last h
fields-joined {f} {fs = g ∷ fs} (one h hs) = fields-field (joined (g ∷ fs)) h ∙ ap (λ (k : List (List ℕ)). f ∷ k) (fields-joined hs)
