-- Laws of records: a field by its rule, the record's number, and what an accepted record holds. Assumes nothing.
use mathlib.Core.Path.{◌≡◌, refl, ap, ◌∙◌, subst}
use mathlib.Core.Bool.{Bool, true, false, cond}
use mathlib.Core.List.{List, [], ◌∷◌}
use Rattle.std.specs.Prelude.{Option, None, Some}
use Rattle.std.proofs.lemmas.Option.{none-some, same_Some}
use Prim.Native.Nat.{ℕ, zero, suc, ◌+◌, ◌^◌, ◌<◌}
use native.Mathlib.Omega.{arith}
use lib.Dec.{ltb, eqb}
use lib.IntN.{ℤ, pos}
use borrow.Author.Tests.{ltb-true, eq-eqb}
use Rattle.text.specs.Number.{number, below, plain, signed, valued, minus}
use Rattle.text.specs.Text.{and_then, field, end, numbered, event_of, arc_of, Arc, arc}
use Rattle.text.proofs.Numbers.{Holds32, up, down}

-- ---- a field by its rule

pub field_some : {A B : Type 0} (rule : List ℕ → Option A) (go : A → List (List ℕ) → Option B) (f : List ℕ) (fs : List (List ℕ)) {a : A}
    → rule f ≡ Some a → field rule go (f ∷ fs) ≡ go a fs
unfolding field and_then
field_some {A} rule go f fs e = ap (λ (o : Option A). and_then o (λ x. go x fs)) e

pub numbered-same : {B : Type 0} (k : ℕ) (go : List (List ℕ) → Option B) (f : List ℕ) (fs : List (List ℕ))
    → plain f ≡ Some k → numbered k go (f ∷ fs) ≡ go fs
unfolding numbered
numbered-same k go f fs e = field_some plain (λ n gs. cond (eqb n k) (go gs) None) f fs e ∙ ap (λ (t : Bool). cond t (go fs) None) (eq-eqb k k refl)

-- ---- what an accepted record holds

-- the first field's value, and what the others give
pub record Taken {A B : Type 0} (rule : List ℕ → Option A) (go : A → List (List ℕ) → Option B) (b : B) : Type 0 where
  pub text : List ℕ
  pub value : A
  pub rest : List (List ℕ)
  pub read : rule text ≡ Some value
  pub onward : go value rest ≡ Some b

pub taken : {A B : Type 0} (rule : List ℕ → Option A) (go : A → List (List ℕ) → Option B) (fs : List (List ℕ)) {b : B} → field rule go fs ≡ Some b → Taken rule go b
unfolding field and_then
taken rule go [] {b} e = absurd (none-some b e)
taken {A} {B} rule go (f ∷ fs) {b} e = by (rule f) refl e
  where
    by : (o : Option A) → rule f ≡ o → and_then o (λ a. go a fs) ≡ Some b → Taken rule go b
    by None p q = absurd (none-some b q)
    by (Some a) p q = record { text = f; value = a; rest = fs; read = p; onward = q }

end_is : {B : Type 0} (a b : B) (fs : List (List ℕ)) → end a fs ≡ Some b → a ≡ b
unfolding end
end_is a b [] e = same_Some a b e
end_is a b (f ∷ fs) e = absurd (none-some b e)

below_is : (m v : ℕ) (o : Option ℕ) → below m o ≡ Some v → v < m
unfolding below
below_is m v None e = absurd (none-some v e)
below_is m v (Some w) e = go (ltb w m) refl e
  where
    go : (t : Bool) → ltb w m ≡ t → cond t (Some w) None ≡ Some v → v < m
    go true l q = omega (arith, ltb-true w m l, same_Some w v q)
    go false l q = absurd (none-some v q)

pub plain_is : (f : List ℕ) (v : ℕ) → plain f ≡ Some v → v < 2 ^ 32
unfolding plain
plain_is f v e = below_is (2 ^ 32) v (number f) e

-- the number of a record that is numbered k, and the rest
pub numbered_rest : {B : Type 0} (k : ℕ) (go : List (List ℕ) → Option B) (fs : List (List ℕ)) {b : B} → numbered k go fs ≡ Some b → (gs : List (List ℕ)) × (go gs ≡ Some b)
unfolding numbered
numbered_rest {B} k go fs {b} e = by (eqb t.value k) t.onward
  where
    t : Taken plain (λ n gs. cond (eqb n k) (go gs) None) b
    t = taken plain (λ n gs. cond (eqb n k) (go gs) None) fs e

    by : (c : Bool) → cond c (go t.rest) None ≡ Some b → (gs : List (List ℕ)) × (go gs ≡ Some b)
    by true q = (t.rest, q)
    by false q = absurd (none-some b q)

pub event_holds : (k : ℕ) (fs : List (List ℕ)) (p : ℕ) → event_of k fs ≡ Some p → p < 2 ^ 32
unfolding event_of
event_holds k fs p e =
    let n : (gs : List (List ℕ)) × (field plain end gs ≡ Some p) = numbered_rest k (field plain end) fs e in
    let t : Taken plain end p = taken plain end n.0 n.1 in
    omega (arith, plain_is t.text t.value t.read, end_is t.value p t.rest t.onward)

valued_is : (sign : ℕ → ℤ) (m : ℕ) (z : ℤ) (o : Option ℕ) → valued sign (below m o) ≡ Some z → (v : ℕ) × (v < m) × (sign v ≡ z)
unfolding valued
valued_is sign m z o e = go (below m o) refl e
  where
    go : (q : Option ℕ) → below m o ≡ q → valued sign q ≡ Some z → (v : ℕ) × (v < m) × (sign v ≡ z)
    go None p h = absurd (none-some z h)
    go (Some v) p h = (v, below_is m v o p, same_Some (sign v) z h)

neg_holds : (v : ℕ) → v < 2 ^ 31 + 1 → Holds32 (minus v)
neg_holds zero h = up {n = 0} (omega arith)
neg_holds (suc v) h = down {n = v} (omega arith)

pub signed_is : (f : List ℕ) (z : ℤ) → signed f ≡ Some z → Holds32 z
unfolding signed
signed_is [] z e = absurd (none-some z e)
signed_is (b ∷ f) z e = go (eqb b 45) e
  where
    go : (t : Bool) → cond t (valued minus (below (2 ^ 31 + 1) (number f))) (valued pos (below (2 ^ 31) (number (b ∷ f)))) ≡ Some z → Holds32 z
    go true q = let p : (v : ℕ) × (v < 2 ^ 31 + 1) × (minus v ≡ z) = valued_is minus (2 ^ 31 + 1) z (number f) q in subst Holds32 p.2 (neg_holds p.0 p.1)
    go false q = let p : (v : ℕ) × (v < 2 ^ 31) × (pos v ≡ z) = valued_is pos (2 ^ 31) z (number (b ∷ f)) q in subst Holds32 p.2 (up p.1)

-- what the five rows can hold
pub record ArcHolds (a : Arc) : Type 0 where
  pub tail : a.tail < 2 ^ 32
  pub head : a.head < 2 ^ 32
  pub lower : Holds32 a.lower
  pub upper : Holds32 a.upper
  pub weight : a.weight < 2 ^ 32

pub arc_holds : (k : ℕ) (fs : List (List ℕ)) (a : Arc) → arc_of k fs ≡ Some a → ArcHolds a
unfolding arc_of
arc_holds k fs a e =
    let n = numbered_rest k _ fs e in
    let t = taken plain _ n.0 n.1 in
    let h = taken plain _ t.rest t.onward in
    let l = taken signed _ h.rest h.onward in
    let u = taken signed _ l.rest l.onward in
    let w = taken plain _ u.rest u.onward in
    subst ArcHolds {x = arc t.value h.value l.value u.value w.value} (end_is (arc t.value h.value l.value u.value w.value) a w.rest w.onward)
    (record {
      tail = plain_is t.text t.value t.read;
      head = plain_is h.text h.value h.read;
      lower = signed_is l.text l.value l.read;
      upper = signed_is u.text u.value u.read;
      weight = plain_is w.text w.value w.read;
    })
