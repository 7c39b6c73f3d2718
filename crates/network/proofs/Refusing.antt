-- From what a scan found to the answer of a table, one law for each way, and rows and counts after it. Assumes nothing.
use mathlib.Core.Path.{◌≡◌, refl, sym, ap, ◌∙◌}
use mathlib.Core.Logic.{◌⊎◌, inl, inr}
use mathlib.Core.List.{List, [], ◌∷◌, ◌++◌}
use mathlib.Core.Bool.{Bool, true, false, cond, not, ◌&&◌, ◌||◌}
use Prim.Native.Nat.{ℕ, zero, suc, ◌≤◌, ◌<◌}
use native.Mathlib.Omega.{arith}
use borrow.Author.Tests.{lt-ltb, ltb-true, ltb-false, eq-eqb, ne_eqb, eqb-true, eqb-false, not-true}
use lib.ListN.{take, get_or}
use lib.Dec.{ltb, eqb}
use Rattle.network.specs.declared.Answer.{Answer}
use Rattle.network.specs.declared.Filled.{Filled}
use Rattle.network.specs.First.{First}
use Rattle.network.specs.Refusals.{Refusal, answer, once, place_of, answer_of, after, filled, filled_as, never, named}
use Rattle.network.proofs.Scans.{first_is, first_one, true_false}

-- a line applies nowhere
pub record Clear (r : Refusal) : Type 0 where
  pub nowhere : (i : ℕ) → i < r.places → r.applies i ≡ false

-- ---- from what a scan found to the answer: one law for each way

abbrev pub Found : Refusal → ℕ → Type 0
Found r p = First r.applies r.places p

pub refused : {r : Refusal} {p : ℕ} (rs : List Refusal) (x : ℕ) → Found r p → p < r.places → answer_of (r ∷ rs) x ≡ answer r.code p 0
unfolding answer_of
refused {r} {p} rs x f h = rw (first_one (first_is r.applies r.places) f, lt-ltb p r.places h)

pub once_refused : (c : ℕ) {b : Bool} → b ≡ true → Found (once c b) 0
once_refused c e = record { within = omega arith; before = λ j h. absurd (omega arith); found = λ h. e }

pub once_clear : (c : ℕ) {b : Bool} → b ≡ false → Clear (once c b)
once_clear c e = record { nowhere = λ i h. e }

pub clear_of : {r : Refusal} {p : ℕ} → Found r p → r.places ≤ p → Clear r
clear_of f h = record { nowhere = λ i l. f.before i (omega arith) }

pub passed : {r : Refusal} (rs : List Refusal) (x : ℕ) → Clear r → answer_of (r ∷ rs) x ≡ answer_of rs x
unfolding answer_of
passed {r} rs x c = go (ltb (place_of r) r.places) refl
  where
    go : (b : Bool) → ltb (place_of r) r.places ≡ b → cond b (answer r.code (place_of r) 0) (answer_of rs x) ≡ answer_of rs x
    go true e =
        let h : place_of r < r.places = ltb-true (place_of r) r.places e in
        absurd (true_false ((first_is r.applies r.places).found h) (c.nowhere (place_of r) h))
    go false e = refl

-- a refusal costs nothing, and a success what was worked out
abbrev pub Costs : ℕ → Answer → Type 0
Costs x a = (a.cost ≡ 0) ⊎ ((a.code ≡ 0) × (a.cost ≡ x))

pub costs : (rs : List Refusal) (x : ℕ) → Costs x (answer_of rs x)
unfolding answer_of
costs [] x = inr (refl, refl)
costs (r ∷ rs) x = go (ltb (place_of r) r.places) (costs rs x)
  where
    go : (b : Bool) → Costs x (answer_of rs x) → Costs x (cond b (answer r.code (place_of r) 0) (answer_of rs x))
    go true c = inl refl
    go false c = c

-- ---- a table in parts: none of the first lines applies, or one does

pub data AllClear : List Refusal → Type 0 where
  none : AllClear []
  more : {r : Refusal} {rs : List Refusal} → Clear r → AllClear rs → AllClear (r ∷ rs)

pub front : (rs ss : List Refusal) → AllClear (rs ++ ss) → AllClear rs
front [] ss c = none
front (r ∷ rs) ss (more k c) = more k (front rs ss c)

pub back : (rs ss : List Refusal) → AllClear (rs ++ ss) → AllClear ss
back [] ss c = c
back (r ∷ rs) ss (more k c) = back rs ss c

-- the first k lines, each by its place
pub all_taken : (k : ℕ) (rs : List Refusal) → ((j : ℕ) → j < k → Clear (get_or rs j never)) → AllClear (take k rs)
all_taken zero rs c = none
all_taken (suc k) [] c = none
all_taken (suc k) (r ∷ rs) c = more (c 0 (omega arith)) (all_taken k rs (λ j h. c (suc j) (omega arith)))

pub goes_on : {rs : List Refusal} (ss : List Refusal) (x : ℕ) → AllClear rs → answer_of (rs ++ ss) x ≡ answer_of ss x
goes_on ss x none = refl
goes_on ss x (more {rs = rs} c cs) = passed (rs ++ ss) x c ∙ goes_on ss x cs

pub stops : (rs ss : List Refusal) (x : ℕ) → ((answer_of rs 0).code ≡ 0 → ⊥) → answer_of (rs ++ ss) x ≡ answer_of rs 0
unfolding answer_of
stops [] ss x n = absurd (n refl)
stops (r ∷ rs) ss x n = go (ltb (place_of r) r.places) n (stops rs ss x)
  where
    go : (b : Bool) → ((cond b (answer r.code (place_of r) 0) (answer_of rs 0)).code ≡ 0 → ⊥) → (((answer_of rs 0).code ≡ 0 → ⊥) → answer_of (rs ++ ss) x ≡ answer_of rs 0)
        → cond b (answer r.code (place_of r) 0) (answer_of (rs ++ ss) x) ≡ cond b (answer r.code (place_of r) 0) (answer_of rs 0)
    go true n s = refl
    go false n s = s n

-- each code in its case: no line before it applies, and it does, first at this place
pub refuses : {fs bs : List Refusal} {r : Refusal} {p : ℕ} (rs : List Refusal) (x : ℕ) → AllClear fs → AllClear bs → Found r p → p < r.places
    → answer r.code p 0 ≡ answer_of (fs ++ (bs ++ (r ∷ rs))) x
refuses {bs = bs} {r = r} rs x c d f h = sym (goes_on (bs ++ (r ∷ rs)) x c ∙ goes_on (r ∷ rs) x d ∙ refused rs x f h)

-- and code 0 where none does
pub clear_all : {rs : List Refusal} (x : ℕ) → AllClear rs → answer_of rs x ≡ answer 0 0 x
unfolding answer_of
clear_all x none = refl
clear_all x (more {rs = rs} c cs) = passed rs x c ∙ clear_all x cs

pub succeeds : {fs rs : List Refusal} (x : ℕ) → AllClear fs → AllClear rs → answer 0 0 x ≡ answer_of (fs ++ rs) x
succeeds {rs = rs} x c d = sym (goes_on rs x c ∙ clear_all x d)

-- ---- code 0 says that no line applies, in a table without a code 0

unfoldable pub coded : List Refusal → Bool
coded [] = true
coded (r ∷ rs) = ltb 0 r.code && coded rs

pub and_left : (a b : Bool) → a && b ≡ true → a ≡ true
and_left true b e = refl
and_left false b e = e

pub and_right : (a b : Bool) → a && b ≡ true → b ≡ true
and_right true b e = e
and_right false b e = absurd (true_false e refl)

pub coded_both : (rs ss : List Refusal) → coded rs ≡ true → coded ss ≡ true → coded (rs ++ ss) ≡ true
unfolding coded
coded_both [] ss a b = b
coded_both (r ∷ rs) ss a b = rw (and_left (ltb 0 r.code) (coded rs) a) (coded_both rs ss (and_right (ltb 0 r.code) (coded rs) a) b)

pub quiet : (rs : List Refusal) (x : ℕ) → coded rs ≡ true → (answer_of rs x).code ≡ 0 → AllClear rs
unfolding answer_of coded
quiet [] x k e = none
quiet (r ∷ rs) x k e = go (ltb (place_of r) r.places) refl e (quiet rs x (and_right (ltb 0 r.code) (coded rs) k))
  where
    go : (b : Bool) → ltb (place_of r) r.places ≡ b → (cond b (answer r.code (place_of r) 0) (answer_of rs x)).code ≡ 0
        → ((answer_of rs x).code ≡ 0 → AllClear rs) → AllClear (r ∷ rs)
    go true q e s = absurd (omega (arith, ltb-true 0 r.code (and_left (ltb 0 r.code) (coded rs) k)))
    go false q e s = more (clear_of (first_is r.applies r.places) (ltb-false (place_of r) r.places q)) (s e)

-- and then of each code
pub clear : {rs : List Refusal} (c : ℕ) → AllClear rs → Clear (named c rs)
unfolding named
clear c none = record { nowhere = λ i h. refl }
clear c (more {r = r} {rs = rs} k ks) = go (eqb r.code c) (clear c ks)
  where
    go : (b : Bool) → Clear (named c rs) → Clear (cond b r (named c rs))
    go true h = k
    go false h = h

-- ---- a code read back, in a table where no code stands twice: the line of that code applies, first at the answer's place

unfoldable pub listed : ℕ → List Refusal → Bool
listed c [] = false
listed c (r ∷ rs) = eqb r.code c || listed c rs

unfoldable pub apart : List Refusal → Bool
apart [] = true
apart (r ∷ rs) = not (listed r.code rs) && apart rs

pub told : (rs : List Refusal) (x : ℕ) {c : ℕ} → (answer_of rs x).code ≡ c → (c ≡ 0 → ⊥) → listed c rs ≡ true
unfolding answer_of listed
told [] x e n = absurd (n (sym e))
told (r ∷ rs) x {c} e n = go (ltb (place_of r) r.places) (eqb r.code c) refl e (told rs x {c = c})
  where
    go : (b q : Bool) → eqb r.code c ≡ q → (cond b (answer r.code (place_of r) 0) (answer_of rs x)).code ≡ c
        → ((answer_of rs x).code ≡ c → (c ≡ 0 → ⊥) → listed c rs ≡ true) → q || listed c rs ≡ true
    go b true f e t = refl
    go true false f e t = absurd (eqb-false r.code c f e)
    go false false f e t = t e n

pub record Said (r : Refusal) (p : ℕ) : Type 0 where
  pub found : Found r p
  pub within : p < r.places

pub said : (rs : List Refusal) (x : ℕ) {c : ℕ} → apart rs ≡ true → (answer_of rs x).code ≡ c → (c ≡ 0 → ⊥) → Said (named c rs) (answer_of rs x).place
unfolding answer_of named apart
said [] x k e n = absurd (n (sym e))
said (r ∷ rs) x {c} k e n =
    go (ltb (place_of r) r.places) (eqb r.code c) refl refl e (said rs x {c = c} (and_right (not (listed r.code rs)) (apart rs) k))
  where
    once_only : r.code ≡ c → listed c rs ≡ false
    once_only q = ap (λ (d : ℕ). listed d rs) (sym q) ∙ not-true _ (and_left (not (listed r.code rs)) (apart rs) k)

    go : (b q : Bool) → ltb (place_of r) r.places ≡ b → eqb r.code c ≡ q → (cond b (answer r.code (place_of r) 0) (answer_of rs x)).code ≡ c
        → ((answer_of rs x).code ≡ c → (c ≡ 0 → ⊥) → Said (named c rs) (answer_of rs x).place)
        → Said (cond q r (named c rs)) (cond b (answer r.code (place_of r) 0) (answer_of rs x)).place
    go true true h f e s = record { found = first_is r.applies r.places; within = ltb-true (place_of r) r.places h }
    go true false h f e s = absurd (eqb-false r.code c f e)
    go false true h f e s = absurd (true_false (told rs x e n) (once_only (eqb-true r.code c f)))
    go false false h f e s = s e n

-- ---- the front of a table judged by a function: its refusal r is the whole's

pub stopped : {r : Answer} (rs ss : List Refusal) (x : ℕ) → r ≡ answer_of rs 0 → (r.code ≡ 0 → ⊥) → r ≡ answer_of (rs ++ ss) x
stopped rs ss x e n = e ∙ sym (stops rs ss x (λ z. n (ap (λ (a : Answer). a.code) e ∙ z)))

-- ---- what is lent, after a call: as it was under any code but 0, written under code 0

pub after_kept : {A : Type 0} (r : Answer) (new was : A) → (r.code ≡ 0 → ⊥) → after r new was ≡ was
unfolding after
after_kept r new was n = simp (ne_eqb r.code 0 n)

pub after-written : {A : Type 0} (r : Answer) (new was : A) → r.code ≡ 0 → after r new was ≡ new
unfolding after
after-written r new was e = simp (eq-eqb r.code 0 e)

-- ---- the counts with an answer: 0 under any code but 0, as they are under code 0

pub filled_none : (r : Answer) (n m : ℕ) → (r.code ≡ 0 → ⊥) → filled_as r n m ≡ filled r.code r.place 0 0
unfolding filled_as
filled_none r n m z = simp (ne_eqb r.code 0 z)

pub filled_some : (r : Answer) (n m : ℕ) → r.code ≡ 0 → filled_as r n m ≡ filled r.code r.place n m
unfolding filled_as
filled_some r n m e = simp (eq-eqb r.code 0 e)

-- its code is the answer's
pub filled_code : {f : Filled} (r : Answer) (n m : ℕ) → f ≡ filled_as r n m → f.code ≡ r.code
unfolding filled_as
filled_code r n m e = ap (λ (f : Filled). f.code) e
