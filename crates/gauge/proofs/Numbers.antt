-- Five numbers for each arc, side by side: their row as it grows arc by arc. Assumes nothing.
use mathlib.Core.Path.{◌≡◌, refl, sym, ap, ◌∙◌}
use mathlib.Core.List.{List, [], ◌∷◌, ◌++◌, append_assoc}
use Prim.Native.Nat.{ℕ, ◌+◌, ◌-◌, ◌*◌, ◌<◌}
use native.Mathlib.Omega.{arith}
use borrow.Rule.Slice.PartMut.{put_mid}
use lib.ListN.{length, get_or, take, drop}
use lib.Seq.{take_at, length-take-le}
use Rattle.std.proofs.lemmas.List.{take_more, drop-drop}
use Rattle.std.proofs.lemmas.Slice.{drop-append-drop}
use Rattle.search.specs.declared.Bar.{Bar}
use Rattle.search.specs.Reduced.{bar}
use Rattle.gauge.specs.Gauge.{numbers}

pub numbers-length : (bs : List Bar) → length (numbers bs) ≡ 5 * length bs
numbers-length [] = refl
numbers-length (b ∷ bs) = omega (arith, numbers-length bs)

-- those of one arc more
numbers_more : (bs : List Bar) (b : Bar) → numbers (bs ++ b ∷ []) ≡ numbers bs ++ numbers (b ∷ [])
numbers_more [] b = refl
numbers_more (a ∷ bs) b = ap (λ (l : List ℕ). a.near ∷ a.last ∷ a.shift ∷ a.run ∷ a.gap ∷ l) (numbers_more bs b)

-- the numbers of arc a are written behind those of the arcs before it
pub numbers_written : (bs : List Bar) (was : List ℕ) (a : ℕ) {row five : List ℕ} → a < length bs → row ≡ numbers (take a bs) ++ drop (5 * a) was
    → five ≡ numbers (get_or bs a (bar 0 0 0 0 0) ∷ []) → put_mid (5 * a) (5 * a + 5 - 5 * a) row five ≡ numbers (take (a + 1) bs) ++ drop (5 * (a + 1)) was
numbers_written bs was a {row} {five} h e f =
    (λ i. front i ++ (f i ++ back i)) ∙ sym (append_assoc (numbers (take a bs)) (numbers (b ∷ [])) (drop (5 * (a + 1)) was))
    ∙ ap (λ (l : List ℕ). l ++ drop (5 * (a + 1)) was) (sym (ap numbers (take_more bs a (bar 0 0 0 0 0) h) ∙ numbers_more (take a bs) b))
  where
    b : Bar
    b = get_or bs a (bar 0 0 0 0 0)

    long : length (numbers (take a bs)) ≡ 5 * a
    long = numbers-length (take a bs) ∙ ap (λ (n : ℕ). 5 * n) (length-take-le a bs (omega arith))

    front : take (5 * a) row ≡ numbers (take a bs)
    front = ap (take (5 * a)) e ∙ take_at (numbers (take a bs)) (drop (5 * a) was) (5 * a) long

    back : drop (5 * a + 5 - 5 * a) (drop (5 * a) row) ≡ drop (5 * (a + 1)) was
    back =
        drop-drop (5 * a + 5 - 5 * a) (5 * a) row ∙ ap (λ (n : ℕ). drop n row) (omega arith) ∙ ap (drop (5 * (a + 1))) e
        ∙ drop-append-drop (5 * a) was (numbers (take a bs)) (5 * (a + 1)) (omega arith) long
