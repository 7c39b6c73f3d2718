-- Laws of the readers: a signed number by that of its digits, and a record by its fields in turn. Assumes nothing.
use mathlib.Core.Path.{◌≡◌, refl, sym, ap, ◌∙◌, subst}
use mathlib.Core.Bool.{Bool, true, false, cond}
use mathlib.Core.List.{List, [], ◌∷◌}
use Rattle.std.specs.Prelude.{Option, None, Some, is_none, Result, Ok, Err, SomeIff, OkIff, FitsSigned, ◌-ℤ◌}
use Rattle.std.specs.Option.{option_map}
use Rattle.std.specs.Bool.{then_some}
use Rattle.std.specs.Result.{result_ok}
use Rattle.std.specs.Int.{w32}
use Rattle.std.proofs.lemmas.Int.{ints}
use Rattle.std.proofs.lemmas.Option.{none-some}
use Prim.Native.Nat.{ℕ, zero, suc, ◌+◌, ◌-◌, ◌^◌, ◌≤◌, ◌<◌}
use native.Mathlib.Omega.{arith}
use lib.Dec.{eqb, ltb}
use lib.IntN.{ℤ, pos}
use lib.ListN.{length, get_or, take, drop}
use lib.Seq.{take_all}
use borrow.Author.Tests.{ltb-true, ltb-false, lt-ltb, le-ltb, eq-eqb, ne_eqb}
use Rattle.text.specs.Number.{number, below, plain, signed, valued, minus}
use Rattle.text.specs.Line.{fields}
use Rattle.text.specs.Text.{and_then, field, end, numbered}
use Rattle.std.specs.Borrow.{Bor}
use Rattle.text.specs.Cursor.{fields_of_rest, first_by, after_first}
use Rattle.text.proofs.Lines.{no_field}

-- ---- a signed number

-- under a smaller limit than that of the unsigned row
below-below : (m n : ℕ) (o : Option ℕ) → m ≤ n → below m (below n o) ≡ below m o
unfolding below
below-below m n None h = refl
below-below m n (Some v) h = go (ltb v n) refl
  where
    go : (t : Bool) → ltb v n ≡ t → below m (cond t (Some v) None) ≡ cond (ltb v m) (Some v) None
    go true e = refl
    go false e = sym (ap (λ (t : Bool). cond t (Some v) None) (le-ltb v m (omega (arith, ltb-false v n e))))

small : (f : List ℕ) (m : ℕ) → m ≤ 2 ^ 32 → below m (number f) ≡ below m (plain f)
unfolding plain
small f m h = sym (below-below m (2 ^ 32) (number f) h)

-- the field f is the number h, below m, with this sign
pub record Sized (f h : List ℕ) (sign : ℕ → ℤ) (m : ℕ) : Type 0 where
  pub is : signed f ≡ valued sign (below m (plain h))

-- with a minus, and without
pub signed-minus : (f : List ℕ) → 0 < length f → get_or f 0 0 ≡ 45 → Sized f (take (length f - 1) (drop 1 f)) minus (2 ^ 31 + 1)
unfolding signed
signed-minus [] h e = absurd (omega arith)
signed-minus (b ∷ f) h e = record {
  is = ap (λ (t : Bool). cond t (valued minus (below (2 ^ 31 + 1) (number f))) (valued pos (below (2 ^ 31) (number (b ∷ f))))) (eq-eqb b 45 e)
      ∙ ap (valued minus) (small f (2 ^ 31 + 1) (omega arith))
      ∙ ap (λ (s : List ℕ). valued minus (below (2 ^ 31 + 1) (plain s))) (sym (take_all (suc (length f) - 1) f (omega arith)));
}

pub signed-plain : (f : List ℕ) → (0 < length f → get_or f 0 0 ≡ 45 → ⊥) → Sized f f pos (2 ^ 31)
unfolding signed plain number valued below
signed-plain [] d = record { is = refl }
signed-plain (b ∷ f) d = record {
  is = ap (λ (t : Bool). cond t (valued minus (below (2 ^ 31 + 1) (number f))) (valued pos (below (2 ^ 31) (number (b ∷ f))))) (ne_eqb b 45 (d (omega arith)))
      ∙ ap (valued pos) (small (b ∷ f) (2 ^ 31) (omega arith));
}

minus-fits : (v : ℕ) → v < 2 ^ 31 + 1 → FitsSigned w32 (minus v)
minus-fits zero h = omega arith
minus-fits (suc n) h = omega arith

minus_unfit : (v : ℕ) → FitsSigned w32 (minus v) → v < 2 ^ 31 + 1
minus_unfit zero h = omega arith
minus_unfit (suc n) h = omega arith

from_zero : (v : ℕ) → pos 0 -ℤ pos v ≡ minus v
from_zero v = omega (arith, ints)

-- by what an unsigned row would hold
module _ {f h : List ℕ} {sign : ℕ → ℤ} {m : ℕ} (s : Sized f h sign m) where
  pub size_bad : None ≡ plain h → None ≡ signed f
  unfolding valued below
  size_bad e = sym (s.is ∙ ap (λ (o : Option ℕ). valued sign (below m o)) (sym e))

  sized : {v : ℕ} → Some v ≡ plain h → signed f ≡ valued sign (cond (ltb v m) (Some v) None)
  unfolding below
  sized e = s.is ∙ ap (λ (o : Option ℕ). valued sign (below m o)) (sym e)

pub size_below_zero : {f h : List ℕ} {v : ℕ} (s : Sized f h minus (2 ^ 31 + 1)) → Some v ≡ plain h → (r : Option ℤ)
    → SomeIff r (FitsSigned w32 (pos 0 -ℤ pos v)) (pos 0 -ℤ pos v) → r ≡ signed f
unfolding valued
size_below_zero {v = v} s e r i = by r i ∙ sym (sized s e)
  where
    none : (t : Bool) → ltb v (2 ^ 31 + 1) ≡ t → (FitsSigned w32 (pos 0 -ℤ pos v) → ⊥) → None ≡ valued minus (cond t (Some v) None)
    none true p n = absurd (n (subst (FitsSigned w32) (sym (from_zero v)) (minus-fits v (ltb-true v (2 ^ 31 + 1) p))))
    none false p n = refl

    by : (q : Option ℤ) → SomeIff q (FitsSigned w32 (pos 0 -ℤ pos v)) (pos 0 -ℤ pos v) → q ≡ valued minus (cond (ltb v (2 ^ 31 + 1)) (Some v) None)
    by None n = none (ltb v (2 ^ 31 + 1)) refl n
    by (Some z) p =
        ap (λ (y : ℤ). Some y) (p.1 ∙ from_zero v)
        ∙ sym (ap (λ (t : Bool). valued minus (cond t (Some v) None)) (lt-ltb v (2 ^ 31 + 1) (minus_unfit v (subst (FitsSigned w32) (from_zero v) p.0))))

pub size_from_zero : {f h : List ℕ} {v : ℕ} {E : Type 0} (s : Sized f h pos (2 ^ 31)) → Some v ≡ plain h → (r : Result ℤ E)
    → OkIff r (FitsSigned w32 (pos v)) (pos v) → result_ok r ≡ signed f
unfolding valued
size_from_zero {v = v} {E = E} s e r i = by r i ∙ sym (sized s e)
  where
    none : (t : Bool) → ltb v (2 ^ 31) ≡ t → (FitsSigned w32 (pos v) → ⊥) → None ≡ valued pos (cond t (Some v) None)
    none true p n = absurd (n (omega (arith, ltb-true v (2 ^ 31) p)))
    none false p n = refl

    by : (q : Result ℤ E) → OkIff q (FitsSigned w32 (pos v)) (pos v) → result_ok q ≡ valued pos (cond (ltb v (2 ^ 31)) (Some v) None)
    by (Err x) n = none (ltb v (2 ^ 31)) refl n
    by (Ok z) p =
        ap (λ (y : ℤ). Some y) p.1 ∙ sym (ap (λ (t : Bool). valued pos (cond t (Some v) None)) (lt-ltb v (2 ^ 31) (omega (arith, p.0))))

-- ---- a record by its fields

-- the next field by its rule, and the fields left after it
module _ {A B : Type 0} (rule : List ℕ → Option A) (go : A → List (List ℕ) → Option B) (fs : List (List ℕ)) where
  pub field_read : {v : A} {left : List (List ℕ)} → Some v ≡ first_by rule fs → left ≡ after_first fs → field rule go fs ≡ go v left
  unfolding field and_then
  field_read {v} {left} e l = by fs e l
    where
      by : (gs : List (List ℕ)) → Some v ≡ first_by rule gs → left ≡ after_first gs → field rule go gs ≡ go v left
      by [] p q = absurd (none-some v (sym p))
      by (f ∷ gs) p q = ap (λ (o : Option A). and_then o (λ a. go a gs)) (sym p) ∙ ap (go v) (sym q)

  pub field_bad : None ≡ first_by rule fs → field rule go fs ≡ None
  unfolding field and_then
  field_bad e = by fs e
    where
      by : (gs : List (List ℕ)) → None ≡ first_by rule gs → field rule go gs ≡ None
      by [] p = refl
      by (f ∷ gs) p = ap (λ (o : Option A). and_then o (λ a. go a gs)) (sym p)

-- the record's number
pub numbered_read : {B : Type 0} (k n : ℕ) (go : List (List ℕ) → Option B) (fs : List (List ℕ)) {left : List (List ℕ)} → Some n ≡ first_by plain fs
    → left ≡ after_first fs → numbered k go fs ≡ cond (eqb n k) (go left) None
unfolding numbered
numbered_read k n go fs e l = field_read plain (λ m gs. cond (eqb m k) (go gs) None) fs e l

pub numbered_unread : {B : Type 0} (k : ℕ) (go : List (List ℕ) → Option B) (fs : List (List ℕ)) → None ≡ first_by plain fs → numbered k go fs ≡ None
unfolding numbered
numbered_unread k go fs e = field_bad plain (λ m gs. cond (eqb m k) (go gs) None) fs e

-- what follows the record's number, whatever is made of it
numbered_by : {B : Type 0} (k : ℕ) (go : List (List ℕ) → Option B) (fs : List (List ℕ)) → numbered k go fs ≡ and_then (numbered k Some fs) go
unfolding numbered field and_then
numbered_by k go [] = refl
numbered_by {B} k go (f ∷ fs) = by (plain f)
  where
    at : (t : Bool) → cond t (go fs) None ≡ and_then (cond t (Some fs) None) go
    at true = refl
    at false = refl

    by : (o : Option ℕ) → and_then o (λ n. cond (eqb n k) (go fs) None) ≡ and_then (and_then o (λ n. cond (eqb n k) (Some fs) None)) go
    by None = refl
    by (Some n) = at (eqb n k)

module _ {B : Type 0} (k : ℕ) (go : List (List ℕ) → Option B) (fs : List (List ℕ)) where
  pub numbered_ok : {left : List (List ℕ)} → Some left ≡ numbered k Some fs → numbered k go fs ≡ go left
  unfolding and_then
  numbered_ok e = numbered_by k go fs ∙ ap (λ (o : Option (List (List ℕ))). and_then o go) (sym e)

  pub numbered_bad : None ≡ numbered k Some fs → numbered k go fs ≡ None
  unfolding and_then
  numbered_bad e = numbered_by k go fs ∙ ap (λ (o : Option (List (List ℕ))). and_then o go) (sym e)

pub then_left : {S A : Type 0} (f : S → A) (b : Bool) (s : S) → option_map f (then_some b s) ≡ cond b (Some (f s)) None
then_left f true s = refl
then_left f false s = refl

-- after the last field
pub ended : {B : Type 0} (b : B) (rest : Option (Bor (List ℕ))) → then_some (is_none rest) b ≡ end b (fields_of_rest rest)
unfolding end
ended b None = refl
ended {B} b (Some line) = more (fields line.now) refl
  where
    more : (fs : List (List ℕ)) → fields line.now ≡ fs → None ≡ end b fs
    more [] p = absurd (no_field line.now p)
    more (f ∷ fs) p = refl

-- a record's fields in turn
pub ruleset in_turn = (numbered_ok, numbered_bad, field_read, field_bad)
