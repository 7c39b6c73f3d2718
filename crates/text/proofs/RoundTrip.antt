-- A printed text tells the rows that were printed, for every layout; and so an accepted text, printed again. Assumes nothing.
use mathlib.Core.Path.{◌≡◌, refl, sym, ap, ◌∙◌, subst}
use mathlib.Core.Bool.{Bool, true, false, cond, ◌&&◌}
use mathlib.Core.List.{List, [], ◌∷◌}
use Rattle.std.specs.Prelude.{Option, None, Some}
use Prim.Native.Nat.{ℕ, suc, ◌+◌, ◌^◌, ◌≤◌, ◌<◌}
use native.Mathlib.Omega.{arith}
use lib.Dec.{T, ltb}
use lib.ListN.{length}
use borrow.Author.Tests.{ltb-true, lt-ltb, le-ltb, eq-eqb}
use Rattle.text.specs.Number.{plain, signed, decimal, decimal_ℤ}
use Rattle.text.specs.Line.{lines, fields, joined}
use Rattle.text.specs.Text.{field, end, Arc, event_of, arc_of, event_fields, arc_fields, Layout, event_layout, arc_layout}
use Rattle.text.specs.Text.{Told, rows, wrong_header, bad_record, with, judged, records, enough, same, headed, told, record_lines, printed}
use Rattle.text.proofs.Each.{Each, nil, one, each_append, each_map, Above, AboveBreak}
use Rattle.text.proofs.Numbers.{decimal_above, decimal_ℤ_above, plain-decimal, signed_decimal}
use Rattle.text.proofs.Lines.{lines-broken, fields-joined}
use Rattle.text.proofs.Records.{field_some, numbered-same, event_holds, ArcHolds, arc_holds}
use Rattle.text.proofs.Told.{Accepted, rows_same, bad_rows, header_rows, accepted, accepted_some}

joined_above : {fs : List (List ℕ)} → Each (Each Above) fs → Each AboveBreak (joined fs)
unfolding joined
joined_above nil = nil
joined_above (one p nil) = each_map (λ b h. omega arith) p
joined_above (one p (one q qs)) = each_append (each_map (λ b h. omega arith) p) (one {b = 44} (omega arith) (joined_above (one q qs)))

-- what makes a layout read back: which rows its fields can hold, and that they are printed so that they read back
record Sound {R : Type 0} (L : Layout R) : Type 1 where
  Held : R → Type 0
  few : L.most ≤ 256
  head : Each AboveBreak L.header
  above : (r : R) → Each (Each Above) (L.fields_of r)
  back : (k : ℕ) (r : R) → k < 2 ^ 32 → Held r → L.record_of k (decimal k ∷ L.fields_of r) ≡ Some r
  held : (k : ℕ) (fs : List (List ℕ)) (r : R) → L.record_of k fs ≡ Some r → Held r

same-same : (s : List ℕ) → same s s ≡ true
unfolding same
same-same [] = refl
same-same (b ∷ s) = ap (λ (t : Bool). t && same s s) (eq-eqb b b refl) ∙ same-same s

module _ {R : Type 0} (L : Layout R) (S : Sound L) where
  lines_above : (k : ℕ) (rs : List R) → Each (Each AboveBreak) (record_lines L.fields_of k rs)
  unfolding record_lines
  lines_above k [] = nil
  lines_above k (r ∷ rs) = one (joined_above (one (decimal_above k) (S.above r))) (lines_above (suc k) rs)

  -- printed records read back
  records_back : (k : ℕ) {rs : List R} → Each S.Held rs → k + length rs ≤ L.most
      → records L.record_of L.most k (record_lines L.fields_of k rs) ≡ rows rs
  unfolding records record_lines judged with
  records_back k nil h = refl
  records_back k (one {b = r} {s = rs} p ps) h =
      let inside : k < L.most = omega arith in
      let small : k < 2 ^ 32 = omega (arith, S.few) in
      let rest : Told R = records L.record_of L.most (suc k) (record_lines L.fields_of (suc k) rs) in
      let line : List ℕ = joined (decimal k ∷ L.fields_of r) in
      ap (λ (t : Bool). cond t (judged k (L.record_of k (fields line)) rest) (bad_record k)) (lt-ltb k L.most inside)
      ∙ ap (λ (fs : List (List ℕ)). judged k (L.record_of k fs) rest) (fields-joined (one (decimal_above k) (S.above r)))
      ∙ ap (λ (o : Option R). judged k o rest) (S.back k r small p)
      ∙ ap (with r) (records_back (suc k) ps (omega arith))

  -- what records hold that are accepted from number k on
  record Holding (k : ℕ) (rs : List R) : Type 0 where
    held : Each S.Held rs
    few : k ≤ L.most → k + length rs ≤ L.most

  one_more : {k : ℕ} {r : R} {rs : List R} → k < L.most → S.Held r → Holding (suc k) rs → Holding k (r ∷ rs)
  one_more h p a = record { held = one p a.held; few = λ _. omega (arith, a.few (omega arith)) }

  records_held : (k : ℕ) (ls : List (List ℕ)) {rs : List R} → records L.record_of L.most k ls ≡ rows rs → Holding k rs
  unfolding records judged with
  records_held k [] {rs} e = subst (Holding k) (rows_same e) (record { held = nil; few = λ h. omega arith })
  records_held k (l ∷ ls) {rs} e = by (ltb k L.most) refl (L.record_of k (fields l)) refl (records L.record_of L.most (suc k) ls) (λ qs. records_held (suc k) ls) e
    where
      by : (t : Bool) → ltb k L.most ≡ t → (o : Option R) → L.record_of k (fields l) ≡ o → (t' : Told R)
          → ((qs : List R) → t' ≡ rows qs → Holding (suc k) qs) → cond t (judged k o t') (bad_record k) ≡ rows rs → Holding k rs
      by false p o q t' ih h = absurd (bad_rows h)
      by true p None q t' ih h = absurd (bad_rows h)
      by true p (Some r) q (rows qs) ih h = subst (Holding k) (rows_same h) (one_more (ltb-true k L.most p) (S.held k (fields l) r q) (ih qs refl))
      by true p (Some r) q wrong_header ih h = absurd (header_rows h)
      by true p (Some r) q (bad_record j) ih h = absurd (bad_rows h)

  printed_back : {rs : List R} → Each S.Held rs → L.least ≤ length rs → length rs ≤ L.most → told L (printed L rs) ≡ rows rs
  unfolding told printed headed enough
  printed_back {rs} h a b =
      let go : List (List ℕ) → Told R = λ ls. enough L.least (records L.record_of L.most 0 ls) in
      ap (headed L.header go) (lines-broken (one S.head (lines_above 0 rs)))
      ∙ ap (λ (t : Bool). cond t (go (record_lines L.fields_of 0 rs)) wrong_header) (same-same L.header)
      ∙ ap (enough L.least) (records_back 0 h (omega arith))
      ∙ ap (λ (t : Bool). cond t (bad_record (length rs)) (rows rs)) (le-ltb (length rs) L.least a)

  -- what is told of an accepted text: what its rows hold, and how many there are
  record Held (rs : List R) : Type 0 where
    each : Each S.Held rs
    some : L.least ≤ length rs
    few : length rs ≤ L.most

  told_held : (s : List ℕ) {rs : List R} → told L s ≡ rows rs → Held rs
  told_held s {rs} e = by (lines s) refl
    where
      by : (ls : List (List ℕ)) → lines s ≡ ls → Held rs
      by [] p = absurd (accepted_some L s e p)
      by (l ∷ ls) p =
          let a : Accepted L ls rs = accepted L s e l ls p in
          let h : Holding 0 rs = records_held 0 ls a.read in
          record { each = h.held; some = a.many; few = omega (arith, h.few (omega arith)) }

  -- and so, printed again, it tells the same rows
  told_again : (s : List ℕ) {rs : List R} → told L s ≡ rows rs → told L (printed L rs) ≡ rows rs
  told_again s e = let h = told_held s e in printed_back h.each h.some h.few

-- ---- the two layouts

-- each byte of a header is above CR
abbrev all_above : List ℕ → Bool
all_above [] = true
all_above (b ∷ s) = ltb 13 b && all_above s

both : (p q : Bool) → (p && q) ≡ true → (p ≡ true) × (q ≡ true)
both true q e = (refl, e)
both false q e = absurd (subst T (sym e) tt)

each_above : (s : List ℕ) → all_above s ≡ true → Each AboveBreak s
each_above [] e = nil
each_above (b ∷ s) e = let p : (ltb 13 b ≡ true) × (all_above s ≡ true) = both (ltb 13 b) (all_above s) e in one (ltb-true 13 b p.0) (each_above s p.1)

event_above : (p : ℕ) → Each (Each Above) (event_fields p)
unfolding event_fields
event_above p = one (decimal_above p) nil

event_back : (k p : ℕ) → k < 2 ^ 32 → p < 2 ^ 32 → event_of k (decimal k ∷ event_fields p) ≡ Some p
unfolding event_of event_fields end
event_back k p h i =
    numbered-same k (field plain end) (decimal k) (decimal p ∷ []) (plain-decimal k h) ∙ field_some plain end (decimal p) [] (plain-decimal p i)

arc_above : (a : Arc) → Each (Each Above) (arc_fields a)
unfolding arc_fields
arc_above a = one (decimal_above a.tail) (one (decimal_above a.head) (one (decimal_ℤ_above a.lower) (one (decimal_ℤ_above a.upper) (one (decimal_above a.weight) nil))))

arc_back : (k : ℕ) (a : Arc) → k < 2 ^ 32 → ArcHolds a → arc_of k (decimal k ∷ arc_fields a) ≡ Some a
unfolding arc_of arc_fields end
arc_back k a h i =
    numbered-same k _ (decimal k) _ (plain-decimal k h)
    ∙ field_some plain _ (decimal a.tail) _ (plain-decimal a.tail i.tail)
    ∙ field_some plain _ (decimal a.head) _ (plain-decimal a.head i.head)
    ∙ field_some signed _ (decimal_ℤ a.lower) _ (signed_decimal a.lower i.lower)
    ∙ field_some signed _ (decimal_ℤ a.upper) _ (signed_decimal a.upper i.upper)
    ∙ field_some plain _ (decimal a.weight) _ (plain-decimal a.weight i.weight)

event_sound : Sound event_layout
event_sound = record {
  Held = λ p. p < 2 ^ 32;
  few = omega arith;
  head = each_above event_layout.header refl;
  above = event_above;
  back = event_back;
  held = event_holds;
}

arc_sound : Sound arc_layout
arc_sound = record {
  Held = ArcHolds;
  few = omega arith;
  head = each_above arc_layout.header refl;
  above = arc_above;
  back = arc_back;
  held = arc_holds;
}

pub events_again : (s : List ℕ) {ps : List ℕ} → told event_layout s ≡ rows ps → told event_layout (printed event_layout ps) ≡ rows ps
events_again = told_again event_layout event_sound

pub arcs_again : (s : List ℕ) {rs : List Arc} → told arc_layout s ≡ rows rs → told arc_layout (printed arc_layout rs) ≡ rows rs
arcs_again = told_again arc_layout arc_sound

pub events_count : (s : List ℕ) {ps : List ℕ} → told event_layout s ≡ rows ps → (1 ≤ length ps) × (length ps ≤ 64)
events_count s e = let h = told_held event_layout event_sound s e in (h.some, h.few)

pub arcs_count : (s : List ℕ) {rs : List Arc} → told arc_layout s ≡ rows rs → length rs ≤ 256
arcs_count s e = (told_held arc_layout arc_sound s e).few
