-- Laws of judging: the first fault is the one that the text tells of, whatever the kind of record. Assumes nothing.
use mathlib.Core.Path.{◌≡◌, refl, sym, ap, ◌∙◌}
use mathlib.Core.Bool.{Bool, true, false, cond}
use mathlib.Core.List.{List, [], ◌∷◌}
use Prim.Native.Nat.{ℕ, suc, ◌+◌, ◌≤◌, ◌<◌}
use native.Mathlib.Omega.{arith}
use native.Mathlib.Numerals.{add-one}
use lib.Dec.{ltb}
use lib.ListN.{length}
use borrow.Author.Tests.{lt-ltb, le-ltb}
use Rattle.std.specs.Prelude.{Option, None, Some, is_none, Result, Ok, Err}
use Rattle.std.proofs.lemmas.Slice.Eq.{compares_Decides}
use Rattle.text.specs.Line.{lines, fields}
use Rattle.text.specs.Text.{Layout, same, headed, records, enough, judged, with, Told, rows, wrong_header, bad_record, told}
use Rattle.text.specs.Judge.{tally}
use Rattle.text.specs.Fill.{rows_of}
use Rattle.text.specs.declared.Fault.{Fault}

-- ---- the same bytes

same_is : (a b : List ℕ) → (same a b ≡ true → a ≡ b) × (a ≡ b → same a b ≡ true)
unfolding same
same_is a b = compares_Decides same (record { empty = refl; shorter = λ c t. refl; longer = λ c t. refl; heads = λ c d s t. refl }) a b

-- ---- what is told of the records from number k on, without their rows

unfoldable pub counted : {R : Type 0} → ℕ → ℕ → Told R → Result ℕ Fault
counted least k (rows rs) = cond (ltb (k + length rs) least) (Err (Fault.Record (k + length rs))) (Ok (k + length rs))
counted least k wrong_header = Err Fault.Header
counted least k (bad_record j) = Err (Fault.Record j)

counted_with : {R : Type 0} (least k : ℕ) (r : R) (t : Told R) → counted least k (with r t) ≡ counted least (k + 1) t
unfolding counted with
counted_with least k r (rows rs) =
    let e : k + suc (length rs) ≡ k + 1 + length rs = omega arith in
    ap (λ (n : ℕ). cond (ltb n least) (Err (Fault.Record n)) (Ok n)) e
counted_with least k r wrong_header = refl
counted_with least k r (bad_record j) = refl

tally-enough : {R : Type 0} (least : ℕ) (t : Told R) → tally (enough least t) ≡ counted least 0 t
unfolding tally enough counted
tally-enough {R} least (rows rs) = by (ltb (length rs) least) ∙ ap (λ (n : ℕ). cond (ltb n least) (Err (Fault.Record n)) (Ok n)) z
  where
    z : length rs ≡ 0 + length rs
    z = omega arith

    by : (b : Bool) → tally (cond b (bad_record (length rs)) (rows rs)) ≡ cond b (Err (Fault.Record (length rs))) (Ok (length rs))
    by true = refl
    by false = refl
tally-enough least wrong_header = refl
tally-enough least (bad_record k) = refl

module _ {R : Type 0} (L : Layout R) (text : List ℕ) where
  -- ---- the header

  by_lines : {ls : List (List ℕ)} → lines text ≡ ls → told L text ≡ headed L.header (λ ks. enough L.least (records L.record_of L.most 0 ks)) ls
  unfolding told
  by_lines e = ap (headed L.header (λ ks. enough L.least (records L.record_of L.most 0 ks))) e

  by_header : {l : List ℕ} {ls : List (List ℕ)} {b : Bool} → lines text ≡ l ∷ ls → same l L.header ≡ b
      → told L text ≡ cond b (enough L.least (records L.record_of L.most 0 ls)) wrong_header
  unfolding headed
  by_header {ls = ls} e s = by_lines e ∙ ap (λ (t : Bool). cond t (enough L.least (records L.record_of L.most 0 ls)) wrong_header) s

  pub header_none : lines text ≡ [] → tally (told L text) ≡ Err Fault.Header
  unfolding tally headed
  header_none e = ap tally (by_lines e)

  pub header_other : {l : List ℕ} {ls : List (List ℕ)} → lines text ≡ l ∷ ls → (l ≡ L.header → ⊥) → tally (told L text) ≡ Err Fault.Header
  unfolding tally
  header_other {l} e d = ap tally (by_header e (not_same (same l L.header) refl))
    where
      not_same : (t : Bool) → same l L.header ≡ t → same l L.header ≡ false
      not_same true p = absurd (d ((same_is l L.header).0 p))
      not_same false p = p

  -- ---- the turns and the ways out of the loop over records

  -- record k is the next of the lines left: what is told of the text is what is told of them
  pub record Judging (ls : List (List ℕ)) (k : ℕ) : Type 0 where
    pub few : k ≤ L.most
    pub same : tally (told L text) ≡ counted L.least k (records L.record_of L.most k ls)

  pub judge_start : {l : List ℕ} {ls : List (List ℕ)} → lines text ≡ l ∷ ls → l ≡ L.header → Judging ls 0
  judge_start {l} {ls} e h = record {
    few = omega arith;
    same = ap tally (by_header e ((same_is l L.header).1 h)) ∙ tally-enough L.least (records L.record_of L.most 0 ls);
  }

  module _ {ls : List (List ℕ)} {k : ℕ} (so : Judging ls k) where
    ended : ls ≡ [] → tally (told L text) ≡ cond (ltb k L.least) (Err (Fault.Record k)) (Ok k)
    unfolding records counted
    ended e =
        let z : k + 0 ≡ k = omega arith in
        so.same ∙ ap (λ (ks : List (List ℕ)). counted L.least k (records L.record_of L.most k ks)) e
        ∙ ap (λ (n : ℕ). cond (ltb n L.least) (Err (Fault.Record n)) (Ok n)) z

    pub judge_few : ls ≡ [] → k < L.least → tally (told L text) ≡ Err (Fault.Record k)
    judge_few e h = ended e ∙ ap (λ (t : Bool). cond t (Err (Fault.Record k)) (Ok k)) (lt-ltb k L.least h)

    pub judge_end : ls ≡ [] → L.least ≤ k → tally (told L text) ≡ Ok k
    judge_end e h = ended e ∙ ap (λ (t : Bool). cond t (Err (Fault.Record k)) (Ok k)) (le-ltb k L.least h)

    module _ {l : List ℕ} {rest : List (List ℕ)} (e : ls ≡ l ∷ rest) where
      by_room : {b : Bool} → ltb k L.most ≡ b
          → tally (told L text) ≡ counted L.least k (cond b (judged k (L.record_of k (fields l)) (records L.record_of L.most (suc k) rest)) (bad_record k))
      unfolding records
      by_room r =
          so.same ∙ ap (λ (ks : List (List ℕ)). counted L.least k (records L.record_of L.most k ks)) e
          ∙ ap (λ (t : Bool). counted L.least k (cond t (judged k (L.record_of k (fields l)) (records L.record_of L.most (suc k) rest)) (bad_record k))) r

      pub judge_many : L.most ≤ k → tally (told L text) ≡ Err (Fault.Record k)
      unfolding counted
      judge_many h = by_room (le-ltb k L.most h)

      module _ (h : k < L.most) where
        by_record : {o : Option R} → L.record_of k (fields l) ≡ o → tally (told L text) ≡ counted L.least k (judged k o (records L.record_of L.most (suc k) rest))
        by_record r = by_room (lt-ltb k L.most h) ∙ ap (λ (o : Option R). counted L.least k (judged k o (records L.record_of L.most (suc k) rest))) r

        pub judge_bad : is_none (L.record_of k (fields l)) ≡ true → tally (told L text) ≡ Err (Fault.Record k)
        unfolding counted judged
        judge_bad n = by (L.record_of k (fields l)) refl n
          where
            by : (o : Option R) → L.record_of k (fields l) ≡ o → is_none o ≡ true → tally (told L text) ≡ Err (Fault.Record k)
            by None r p = by_record r
            by (Some row) r p = cc

        pub judge_more : is_none (L.record_of k (fields l)) ≡ false → Judging rest (k + 1)
        unfolding judged
        judge_more n = by (L.record_of k (fields l)) refl n
          where
            by : (o : Option R) → L.record_of k (fields l) ≡ o → is_none o ≡ false → Judging rest (k + 1)
            by None r p = cc
            by (Some row) r p = record {
              few = omega arith;
              same = by_record r ∙ counted_with L.least k row (records L.record_of L.most (suc k) rest)
                  ∙ ap (λ (j : ℕ). counted L.least (k + 1) (records L.record_of L.most j rest)) (sym (add-one k));
            }

-- ---- what the judgement says of the text

-- accepted, with as many rows
pub tally_rows : {R : Type 0} (t : Told R) {n : ℕ} → Ok n ≡ tally t → t ≡ rows (rows_of t)
unfolding tally
tally_rows (rows rs) e = refl
tally_rows wrong_header e = cc
tally_rows (bad_record k) e = cc

pub tally_count : {R : Type 0} (t : Told R) {n : ℕ} → Ok n ≡ tally t → n ≡ length (rows_of t)
unfolding tally
tally_count (rows rs) e = cc
tally_count wrong_header e = cc
tally_count (bad_record k) e = cc
