-- For the impls of a sink: the laws that each gives, and what proves them of a row. An impl reads its lemmas from here.
use Rattle.std.specs.Prelude.{◌≡◌, List, ◌++◌, ℕ, ◌+◌, ◌%◌, ◌^◌, ◌≤◌, length, take, drop}
use Rattle.std.proofs.Common.{sym, ap, ◌∙◌, append_assoc, arith, length-append, length-drop}
use Rattle.std.proofs.Math.Seq.{take_at, length-take-le, drop-drop, drop-append-add}
use Rattle.text.specs.Put.{put, Put}

-- a place that takes bytes: that there is room for so many more, and that it took some
pub record SinkLaws {X : Type 0} (room : ℕ → X → Type 0) (took : List ℕ → X → X → Type 0) : Type 0 where
  pub fewer : {n : ℕ} {x : X} (m : ℕ) → m ≤ n → room n x → room m x
  pub rest : {s : List ℕ} {x y : X} (n : ℕ) → room (length s + n) x → took s x y → room n y
  pub joins : {s t : List ℕ} {x y z : X} → room (length (s ++ t)) x → took s x y → took t y z → took (s ++ t) x z

-- what is put within a row leaves its length
put-length : (at : ℕ) (s row : List ℕ) → at + length s ≤ length row → length (put at s row) ≡ length row
put-length at s row h =
    length-append (take at row ++ s) (drop (at + length s) row)
    ∙ omega (arith, length-append (take at row) s, length-take-le at row (omega arith), length-drop (at + length s) row)

-- so the row after it is as long as before
pub kept_length : {s : List ℕ} {at : ℕ} {before after : List ℕ} {next : ℕ} → at + length s ≤ length before → Put s at before after next → length after ≡ length before
kept_length {s} {at} {before} h p = ap length p.is ∙ put-length at s before h

-- what is put in two parts is put at once
put-put : (at : ℕ) (s t row : List ℕ) → at + length (s ++ t) ≤ length row → put (at + length s) t (put at s row) ≡ put at (s ++ t) row
put-put at s t row h =
    let A : List ℕ = take at row ++ s in
    let D : List ℕ = drop (at + length s) row in
    let n : length A ≡ at + length s = length-append (take at row) s ∙ ap (λ (k : ℕ). k + length s) (length-take-le at row (omega (arith, h, length-append s t))) in
    let m : at + length s + length t ≡ at + length (s ++ t) = omega (arith, length-append s t) in
    ap (λ (l : List ℕ). l ++ t ++ drop (at + length s + length t) (A ++ D)) (take_at A D (at + length s) n)
    ∙ ap (λ (k : ℕ). A ++ t ++ drop (k + length t) (A ++ D)) (sym n)
    ∙ ap (λ (l : List ℕ). A ++ t ++ l) (drop-append-add A D (length t) ∙ drop-drop (length t) (at + length s) row ∙ ap (λ (k : ℕ). drop k row) m)
    ∙ ap (λ (l : List ℕ). l ++ drop (at + length (s ++ t)) row) (append_assoc (take at row) s t)

-- so two parts that are put one after the other are one
pub then_put : {s t : List ℕ} {at : ℕ} {x y z : List ℕ} {p q : ℕ} → at + length (s ++ t) ≤ length x → Put s at x y p → Put t p y z q → Put (s ++ t) at x z q
then_put {s} {t} {at} {x} {y} {z} {p} {q} h a b = record {
  is = b.is ∙ ap (λ (k : ℕ). put k t y) a.place ∙ ap (put (at + length s) t) a.is ∙ put-put at s t x h;
  place = omega (arith, a.place, b.place, length-append s t);
}

-- ---- what the two sinks give

-- counted in two parts, the second after the first
pub count_joins : (c : ℕ) (s t : List ℕ) {d e : ℕ} → d ≡ (c + length s) % 2 ^ 64 → e ≡ (d + length t) % 2 ^ 64 → e ≡ (c + length (s ++ t)) % 2 ^ 64
count_joins c s t a b = omega (arith, a, b, length-append s t)

-- a row with room for so many more bytes has room for fewer, and after some of them for the rest
pub room_fewer : (at m : ℕ) {n l : ℕ} → m ≤ n → at + n ≤ l → at + m ≤ l
room_fewer at m i h = omega (arith, i, h)

pub room_rest : {s : List ℕ} {at : ℕ} {before after : List ℕ} {next : ℕ} (n : ℕ) → at + (length s + n) ≤ length before → Put s at before after next
    → next + n ≤ length after
room_rest n h p = omega (arith, h, p.place, kept_length (omega (arith, h)) p)
