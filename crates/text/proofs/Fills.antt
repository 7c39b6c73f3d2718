-- Laws of filling: at record k the rows left are those from k on, for every kind of record. Assumes nothing.
use mathlib.Core.Path.{◌≡◌, refl, sym, ap, ◌∙◌, subst}
use mathlib.Core.Bool.{Bool, true, false, cond}
use mathlib.Core.List.{List, [], ◌∷◌, ◌++◌, map}
use Rattle.std.specs.Prelude.{Option, None, Some}
use Rattle.std.proofs.lemmas.Option.{none-some, same_Some}
use Prim.Native.Nat.{ℕ, suc, ◌+◌, ◌≤◌, ◌<◌}
use native.Mathlib.Omega.{arith}
use native.Mathlib.Numerals.{add-one}
use lib.Dec.{ltb}
use lib.IntN.{ℤ}
use lib.ListN.{length, get_or, drop, set, length-drop, length-map, get_or-map}
use lib.Seq.{drop-cons, take-length, paste, paste-zero, paste-suc}
use borrow.Author.Tests.{ltb-true}
use Rattle.text.specs.Line.{lines, fields}
use Rattle.text.specs.Text.{Layout, Arc, Told, rows, wrong_header, bad_record, judged, with, records, told}
use Rattle.text.specs.Cursor.{after_first}
use Rattle.text.specs.Fill.{onto, tails_of, heads_of, lowers_of, uppers_of, weights_of, ArcsFilled}
use Rattle.text.proofs.Told.{bad_rows, header_rows, accepted, accepted_some}

module _ {R : Type 0} (record_of : ℕ → List (List ℕ) → Option R) (most : ℕ) where
  -- record k is the next of the lines left; before it stand the first k rows
  pub record Filling (rs : List R) (ls : List (List ℕ)) (k : ℕ) : Type 0 where
    pub few : k ≤ length rs
    pub under : k ≤ most
    pub left : records record_of most k ls ≡ rows (drop k rs)

  pub filling_at : {rs : List R} {ls ks : List (List ℕ)} {k j : ℕ} → ks ≡ ls → j ≡ k → Filling rs ls k → Filling rs ks j
  filling_at {rs} {ks = ks} {k = k} e h so = subst (λ (n : ℕ). Filling rs ks n) (sym h) (subst (λ (gs : List (List ℕ)). Filling rs gs k) (sym e) so)

  -- what the next record gives
  pub record Next (rs : List R) (line : List ℕ) (rest : List (List ℕ)) (k : ℕ) : Type 0 where
    pub row : R
    pub read : record_of k (fields line) ≡ Some row
    pub is : (d : R) → row ≡ get_or rs k d
    pub inside : k < length rs
    pub under : k < most
    pub more : Filling rs rest (k + 1)

  cons_same : {x y : R} {xs ys : List R} → x ∷ xs ≡ y ∷ ys → (x ≡ y) × (xs ≡ ys)
  cons_same e = (cc, cc)

  one_row : (rs : List R) (line : List ℕ) (rest : List (List ℕ)) (k : ℕ) (r : R) (qs : List R) → k < most → record_of k (fields line) ≡ Some r
      → records record_of most (suc k) rest ≡ rows qs → rows (r ∷ qs) ≡ rows (drop k rs) → Next rs line rest k
  one_row rs line rest k r qs u p m e =
      let t : r ∷ qs ≡ drop k rs = cc in
      let inside : k < length rs = omega (arith, ap length t, length-drop k rs) in
      record {
        row = r;
        read = p;
        is = λ d. (cons_same (t ∙ drop-cons rs k d inside)).0;
        inside = inside;
        under = u;
        more = record {
          few = omega arith;
          under = omega arith;
          left = ap (λ (j : ℕ). records record_of most j rest) (add-one k) ∙ m
              ∙ ap rows ((cons_same (t ∙ drop-cons rs k r inside)).1 ∙ ap (λ (j : ℕ). drop j rs) (sym (add-one k)));
        };
      }

  module _ {rs : List R} {ls : List (List ℕ)} {k : ℕ} (so : Filling rs ls k) where
    pub filling_end : ls ≡ [] → k ≡ length rs
    unfolding records
    filling_end e =
        let t : rows [] ≡ rows (drop k rs) = ap (records record_of most k) (sym e) ∙ so.left in
        let u : [] ≡ drop k rs = cc in
        omega (arith, ap length u, length-drop k rs, so.few)

    pub filling_step : {line : List ℕ} {rest : List (List ℕ)} → ls ≡ line ∷ rest → Next rs line rest k
    unfolding records judged with
    filling_step {line} {rest} e =
        by (ltb k most) refl (record_of k (fields line)) refl (records record_of most (suc k) rest) refl (ap (records record_of most k) (sym e) ∙ so.left)
      where
        by : (t : Bool) → ltb k most ≡ t → (o : Option R) → record_of k (fields line) ≡ o → (t' : Told R)
            → records record_of most (suc k) rest ≡ t' → cond t (judged k o t') (bad_record k) ≡ rows (drop k rs) → Next rs line rest k
        by false p o q t' m h = absurd (bad_rows h)
        by true p None q t' m h = absurd (bad_rows h)
        by true p (Some r) q (rows qs) m h = one_row rs line rest k r qs (ltb-true k most p) q m h
        by true p (Some r) q wrong_header m h = absurd (header_rows h)
        by true p (Some r) q (bad_record j) m h = absurd (bad_rows h)

  -- the same at a turn of a loop over numbered lines
  pub filling_turn : {rs : List R} {ls rest : List (List ℕ)} {line : List ℕ} {j k : ℕ} → Filling rs ls j → ls ≡ line ∷ rest → k ≡ j → Next rs line rest k
  filling_turn so e h = filling_step (filling_at refl h so) e

  -- no more lines are left than records may come
  pub filling_room : {rs : List R} {ls : List (List ℕ)} {k : ℕ} → Filling rs ls k → k + length ls ≤ most
  unfolding records judged with
  filling_room {rs} {ls} {k} so = count ls k (drop k rs) so.under so.left
    where
      count : (ks : List (List ℕ)) (j : ℕ) (qs : List R) → j ≤ most → records record_of most j ks ≡ rows qs → j + length ks ≤ most
      count [] j qs h e = omega arith
      count (l ∷ ks) j qs h e = by (ltb j most) refl (record_of j (fields l)) (records record_of most (suc j) ks) (count ks (suc j)) e
        where
          by : (t : Bool) → ltb j most ≡ t → (o : Option R) (t' : Told R)
              → ((ps : List R) → suc j ≤ most → t' ≡ rows ps → suc j + length ks ≤ most) → cond t (judged j o t') (bad_record j) ≡ rows qs → j + length (l ∷ ks) ≤ most
          by false p o t' ih q = absurd (bad_rows q)
          by true p None t' ih q = absurd (bad_rows q)
          by true p (Some r) (rows ps) ih q = omega (arith, ih ps (ltb-true j most p) refl)
          by true p (Some r) wrong_header ih q = absurd (header_rows q)
          by true p (Some r) (bad_record i) ih q = absurd (bad_rows q)

  -- the record is read, and is the next row
  module _ {rs : List R} {line : List ℕ} {rest : List (List ℕ)} {k : ℕ} (f : Next rs line rest k) where
    pub next_is : {r : R} → Some r ≡ record_of k (fields line) → (d : R) → r ≡ get_or rs k d
    next_is {r} e d = same_Some r f.row (e ∙ f.read) ∙ f.is d

    pub next_read : None ≡ record_of k (fields line) → ⊥
    next_read e = none-some f.row (e ∙ f.read)

-- the records of an accepted text, after the header
pub filling_start : {R : Type 0} (L : Layout R) (text : List ℕ) {rs : List R} → told L text ≡ rows rs → Filling L.record_of L.most rs (after_first (lines text)) 0
filling_start L text {rs} e = by (lines text) refl
  where
    by : (ls : List (List ℕ)) → lines text ≡ ls → Filling L.record_of L.most rs (after_first ls) 0
    by [] p = absurd (accepted_some L text e p)
    by (l ∷ ls) p = record { few = omega arith; under = omega arith; left = (accepted L text e l ls p).read }

-- ---- a row that is filled

pub onto-start : {A : Type 0} (xs row : List A) → row ≡ paste row 0 xs 0
onto-start xs row = paste-zero row 0 xs

pub onto_more : {A : Type 0} (xs row : List A) (k : ℕ) (d : A) → k < length xs → k < length row
    → set (paste row 0 xs k) k (get_or xs k d) ≡ paste row 0 xs (k + 1)
onto_more xs row k d h i =
    let z : 0 + k ≡ k = omega arith in
    ap (λ (j : ℕ). set (paste row 0 xs k) j (get_or xs k d)) (sym z) ∙ paste-suc row 0 xs k d (omega arith) h ∙ ap (paste row 0 xs) (sym (add-one k))

pub onto-end : {A : Type 0} (xs row : List A) (k : ℕ) → k ≡ length xs → paste row 0 xs k ≡ onto xs row
onto-end xs row k e =
    let z : 0 + length xs ≡ length xs = omega arith in
    ap (paste row 0 xs) e ∙ ap (λ (s : List _). s ++ drop (0 + length xs) row) (take-length xs) ∙ ap (λ (j : ℕ). xs ++ drop j row) z

-- one number of each arc
module _ {A : Type 0} (f : Arc → A) (rs : List Arc) (row : List A) {row' : List A} {k : ℕ} (p : row' ≡ paste row 0 (map f rs) k) where
  column_more : {a : Arc} → ((d : Arc) → a ≡ get_or rs k d) → k < length rs → k < length row → set row' k (f a) ≡ paste row 0 (map f rs) (k + 1)
  column_more {a} is h i =
      ap (λ (l : List A). set l k (f a)) p ∙ ap (set (paste row 0 (map f rs) k) k) (ap f (is a) ∙ sym (get_or-map f rs k a))
      ∙ onto_more (map f rs) row k (f a) (omega (arith, length-map rs f)) i

  column_end : k ≡ length rs → row' ≡ onto (map f rs) row
  column_end e = p ∙ onto-end (map f rs) row k (e ∙ sym (length-map rs f))

-- before arc k stand the first k arcs
pub record ArcsAt (rs : List Arc) (t h : List ℕ) (l u : List ℤ) (w : List ℕ) (t' h' : List ℕ) (l' u' : List ℤ) (w' : List ℕ) (k : ℕ) : Type 0 where
  pub tails : t' ≡ paste t 0 (tails_of rs) k
  pub heads : h' ≡ paste h 0 (heads_of rs) k
  pub lowers : l' ≡ paste l 0 (lowers_of rs) k
  pub uppers : u' ≡ paste u 0 (uppers_of rs) k
  pub weights : w' ≡ paste w 0 (weights_of rs) k

module _ (rs : List Arc) (t h : List ℕ) (l u : List ℤ) (w : List ℕ) where
  pub arcs-start : ArcsAt rs t h l u w t h l u w 0
  arcs-start = record {
    tails = onto-start (tails_of rs) t;
    heads = onto-start (heads_of rs) h;
    lowers = onto-start (lowers_of rs) l;
    uppers = onto-start (uppers_of rs) u;
    weights = onto-start (weights_of rs) w;
  }

  -- under another name of the number
  pub arcs_at : {t' h' : List ℕ} {l' u' : List ℤ} {w' : List ℕ} {k j : ℕ} → j ≡ k → ArcsAt rs t h l u w t' h' l' u' w' k → ArcsAt rs t h l u w t' h' l' u' w' j
  arcs_at {t'} {h'} {l'} {u'} {w'} e s = subst (ArcsAt rs t h l u w t' h' l' u' w') (sym e) s

  module _ {t' h' : List ℕ} {l' u' : List ℤ} {w' : List ℕ} {k : ℕ} (s : ArcsAt rs t h l u w t' h' l' u' w' k) where
    pub arcs-end : k ≡ length rs → ArcsFilled rs t h l u w t' h' l' u' w'
    arcs-end e = record {
      tails = column_end (λ a. a.tail) rs t s.tails e;
      heads = column_end (λ a. a.head) rs h s.heads e;
      lowers = column_end (λ a. a.lower) rs l s.lowers e;
      uppers = column_end (λ a. a.upper) rs u s.uppers e;
      weights = column_end (λ a. a.weight) rs w s.weights e;
    }

    pub arcs_more : {a : Arc} {x y : ℤ} → ((d : Arc) → a ≡ get_or rs k d) → x ≡ a.lower → y ≡ a.upper
        → k < length rs → k < length t → k < length h → k < length l → k < length u → k < length w
        → ArcsAt rs t h l u w (set t' k a.tail) (set h' k a.head) (set l' k x) (set u' k y) (set w' k a.weight) (k + 1)
    arcs_more is p q inside i₁ i₂ i₃ i₄ i₅ = record {
      tails = column_more (λ a. a.tail) rs t s.tails is inside i₁;
      heads = column_more (λ a. a.head) rs h s.heads is inside i₂;
      lowers = ap (set l' k) p ∙ column_more (λ a. a.lower) rs l s.lowers is inside i₃;
      uppers = ap (set u' k) q ∙ column_more (λ a. a.upper) rs u s.uppers is inside i₄;
      weights = column_more (λ a. a.weight) rs w s.weights is inside i₅;
    }
