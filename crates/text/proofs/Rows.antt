-- Laws of the arcs of five rows: how many, each by its number, and back from their numbers. Assumes nothing.
use mathlib.Core.Path.{◌≡◌, refl, ap, ◌∙◌}
use mathlib.Core.Bool.{Bool, true, false}
use mathlib.Core.List.{List, [], ◌∷◌, ◌++◌}
use Prim.Native.Nat.{ℕ, zero, suc, ◌<◌}
use native.Mathlib.Omega.{arith}
use borrow.Author.Tests.{ltb-true, ltb-false}
use lib.Dec.{ltb}
use lib.IntN.{ℤ, pos}
use lib.ListN.{length, get_or, length-append, length-map, get_or-append, get_or-map}
use lib.Seq.{get_or_at, ext_get_or}
use Rattle.text.specs.Text.{Arc, arc, arc_at, listed, arcs_of}
use Rattle.text.specs.Fill.{tails_of, heads_of, lowers_of, uppers_of, weights_of}

listed-length : {A : Type 0} (f : ℕ → A) (n : ℕ) → length (listed f n) ≡ n
unfolding listed
listed-length f zero = refl
listed-length f (suc n) = omega (arith, length-append (listed f n) (f n ∷ []), listed-length f n)

listed_at : {A : Type 0} (f : ℕ → A) (n k : ℕ) (d : A) → k < n → get_or (listed f n) k d ≡ f k
unfolding listed
listed_at f zero k d h = absurd (omega arith)
listed_at f (suc n) k d h = by (ltb k n) refl (listed_at f n k d)
  where
    by : (t : Bool) → ltb k n ≡ t → (k < n → get_or (listed f n) k d ≡ f k) → get_or (listed f n ++ (f n ∷ [])) k d ≡ f k
    by true e ih = get_or-append (listed f n) (f n ∷ []) d k (omega (arith, ltb-true k n e, listed-length f n)) ∙ ih (ltb-true k n e)
    by false e ih =
        let s : n ≡ k = omega (arith, ltb-false k n e) in
        get_or_at (listed f n) (f n) [] d k (listed-length f n ∙ s) ∙ ap f s

pub arcs-length : (t h : List ℕ) (l u : List ℤ) (w : List ℕ) → length (arcs_of t h l u w) ≡ length t
unfolding arcs_of
arcs-length t h l u w = listed-length (arc_at t h l u w) (length t)

pub arcs-at : (t h : List ℕ) (l u : List ℤ) (w : List ℕ) (k : ℕ) (d : Arc) → k < length t → get_or (arcs_of t h l u w) k d ≡ arc_at t h l u w k
unfolding arcs_of
arcs-at t h l u w k d i = listed_at (arc_at t h l u w) (length t) k d i

-- the arcs of their own numbers
pub arcs_back : (rs : List Arc) → arcs_of (tails_of rs) (heads_of rs) (lowers_of rs) (uppers_of rs) (weights_of rs) ≡ rs
arcs_back rs = ext_get_or d _ rs (n ∙ length-map rs (λ a. a.tail)) (λ k h. arcs-at _ _ _ _ _ k d (omega (arith, n)) ∙ same k)
  where
    d : Arc
    d = arc 0 0 (pos 0) (pos 0) 0

    n : length (arcs_of (tails_of rs) (heads_of rs) (lowers_of rs) (uppers_of rs) (weights_of rs)) ≡ length (tails_of rs)
    n = arcs-length (tails_of rs) (heads_of rs) (lowers_of rs) (uppers_of rs) (weights_of rs)

    same : (k : ℕ) → arc_at (tails_of rs) (heads_of rs) (lowers_of rs) (uppers_of rs) (weights_of rs) k ≡ get_or rs k d
    same k =
        λ i. arc (get_or-map (λ a. a.tail) rs k d i) (get_or-map (λ a. a.head) rs k d i) (get_or-map (λ a. a.lower) rs k d i)
        (get_or-map (λ a. a.upper) rs k d i) (get_or-map (λ a. a.weight) rs k d i)
