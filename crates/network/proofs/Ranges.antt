-- What a range's `contains` says of a signed number: that it is not outside. Assumes nothing.
use mathlib.Core.Path.{◌≡◌, refl, sym, ◌∙◌}
use mathlib.Core.Bool.{Bool, true, false, not, cond, ◌&&◌, ◌||◌}
use native.Mathlib.Omega.{arith}
use lib.IntN.{ℤ}
use lib.Signed.{lt_z}
use Rattle.std.proofs.Common.{Less, Equal, Greater}
use Rattle.std.specs.Ordering.{int_cmp, is_le, is_lt}
use Rattle.numbers.proofs.Integers.{lt_z_true}
use Rattle.network.specs.Table.{outside_ℤ}

at_most : (a b : ℤ) → is_le (int_cmp a b) ≡ not (lt_z b a)
at_most a b = go (lt_z a b) (lt_z b a) refl refl
  where
    go : (p q : Bool) → lt_z a b ≡ p → lt_z b a ≡ q → is_le (cond p Less (cond q Greater Equal)) ≡ not q
    go true true e f = absurd (omega (arith, lt_z_true a b e, lt_z_true b a f))
    go true false e f = refl
    go false true e f = refl
    go false false e f = refl

neither_nor : (p q : Bool) → p || q ≡ not (not p && not q)
neither_nor true q = refl
neither_nor false true = refl
neither_nor false false = refl

-- of a range's parts, as a call made it
pub outside_is : {s e low high : ℤ} {spent b : Bool} (x : ℤ) → s ≡ low → e ≡ high → spent ≡ false
    → b ≡ is_le (int_cmp s x) && cond spent (is_lt (int_cmp x e)) (is_le (int_cmp x e)) → outside_ℤ low high x ≡ not b
unfolding outside_ℤ
outside_is {s} {e} {low} {high} {spent} x p q r h =
    let l : is_le (int_cmp s x) ≡ not (lt_z x low) = (λ j. is_le (int_cmp (p j) x)) ∙ at_most low x in
    let m : cond spent (is_lt (int_cmp x e)) (is_le (int_cmp x e)) ≡ not (lt_z high x) =
    (λ j. cond (r j) (is_lt (int_cmp x (q j))) (is_le (int_cmp x (q j)))) ∙ at_most x high in
    neither_nor (lt_z x low) (lt_z high x) ∙ (λ j. not (sym l j && sym m j)) ∙ (λ j. not (sym h j))
