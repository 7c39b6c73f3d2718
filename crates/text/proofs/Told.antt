-- Laws of what a text tells: its case, and what an accepted text is made of. Assumes nothing.
use mathlib.Core.Path.{◌≡◌, refl, subst}
use mathlib.Core.Bool.{Bool, true, false, cond}
use mathlib.Core.List.{List, [], ◌∷◌}
use Prim.Native.Nat.{ℕ, ◌≤◌}
use lib.Dec.{ltb}
use lib.ListN.{length}
use borrow.Author.Tests.{ltb-false}
use Rattle.text.specs.Line.{lines}
use Rattle.text.specs.Text.{Layout, Told, rows, wrong_header, bad_record, records, enough, same, headed, told}

pub rows_same : {R : Type 0} {rs qs : List R} → rows rs ≡ rows qs → rs ≡ qs
rows_same e = cc

pub bad_rows : {R : Type 0} {k : ℕ} {rs : List R} → bad_record k ≡ rows rs → ⊥
bad_rows e = cc

pub header_rows : {R : Type 0} {rs : List R} → wrong_header ≡ rows rs → ⊥
header_rows e = cc

enough_rows : {R : Type 0} (least : ℕ) (t : Told R) {rs : List R} → enough least t ≡ rows rs → (t ≡ rows rs) × (least ≤ length rs)
unfolding enough
enough_rows {R} least (rows qs) {rs} e = by (ltb (length qs) least) (ltb-false (length qs) least) e
  where
    by : (b : Bool) → (b ≡ false → least ≤ length qs) → cond b (bad_record (length qs)) (rows qs) ≡ rows rs → (rows qs ≡ rows rs) × (least ≤ length rs)
    by true l q = absurd (bad_rows q)
    by false l q = (q, subst (λ (k : List R). least ≤ length k) (rows_same q) (l refl))
enough_rows least wrong_header e = absurd (header_rows e)
enough_rows least (bad_record k) e = absurd (bad_rows e)

headed_rows : {R : Type 0} (header l : List ℕ) (go : List (List ℕ) → Told R) (ls : List (List ℕ)) {rs : List R}
    → headed header go (l ∷ ls) ≡ rows rs → go ls ≡ rows rs
unfolding headed
headed_rows header l go ls {rs} e = by (same l header) e
  where
    by : (t : Bool) → cond t (go ls) wrong_header ≡ rows rs → go ls ≡ rows rs
    by true q = q
    by false q = absurd (header_rows q)

-- an accepted text, by its lines: the header, and then records that are accepted and enough
pub record Accepted {R : Type 0} (L : Layout R) (ls : List (List ℕ)) (rs : List R) : Type 0 where
  pub read : records L.record_of L.most 0 ls ≡ rows rs
  pub many : L.least ≤ length rs

module _ {R : Type 0} (L : Layout R) (text : List ℕ) {rs : List R} (e : told L text ≡ rows rs) where
  by_lines : (ls : List (List ℕ)) → lines text ≡ ls → headed L.header (λ ks. enough L.least (records L.record_of L.most 0 ks)) ls ≡ rows rs
  unfolding told
  by_lines ls p = subst (λ (ks : List (List ℕ)). headed L.header (λ js. enough L.least (records L.record_of L.most 0 js)) ks ≡ rows rs) p e

  pub accepted_some : lines text ≡ [] → ⊥
  unfolding headed
  accepted_some p = header_rows (by_lines [] p)

  pub accepted : (l : List ℕ) (ls : List (List ℕ)) → lines text ≡ l ∷ ls → Accepted L ls rs
  accepted l ls p =
      let q = headed_rows L.header l (λ ks. enough L.least (records L.record_of L.most 0 ks)) ls (by_lines (l ∷ ls) p) in
      let r = enough_rows L.least (records L.record_of L.most 0 ls) q in
      record { read = r.0; many = r.1 }
