-- The answers of reading, one law for each way out, and the rows with each. Assumes nothing.
use mathlib.Core.Path.{◌≡◌, refl, sym, ap, ◌∙◌}
use mathlib.Core.Bool.{Bool, true, false, cond}
use mathlib.Core.List.{List}
use Prim.Native.Nat.{ℕ, zero, suc, ◌≤◌}
use native.Mathlib.Omega.{arith}
use native.Mathlib.Numerals.{add-one}
use borrow.Author.Tests.{ltb-false, ne_eqb, eq-eqb, eqb-true, eqb-false}
use lib.Dec.{ltb, eqb}
use lib.IntN.{ℤ}
use lib.ListN.{length, get_or, set}
use lib.Seq.{paste}
use Rattle.std.specs.Prelude.{Result, Ok, Err}
use Rattle.network.specs.declared.Answer.{Answer}
use Rattle.network.specs.declared.Code.TheVariants.{Room}
use Rattle.network.specs.declared.Refused.{Refused}
use Rattle.network.specs.Network.{Network, net}
use Rattle.network.specs.Refusals.{answer, answered, counted, refused_at, filled, after, filled_as}
use Rattle.network.specs.Rows.{written}
use Rattle.network.proofs.Refusing.{after_kept, after-written, filled_none, filled_some}
use Rattle.network.proofs.Sound.{neither}
use Rattle.text.specs.declared.Fault.{Fault}
use Rattle.text.specs.Text.{event_layout, arc_layout, Told, rows, wrong_header, bad_record, told}
use Rattle.text.specs.Judge.{tally}
use Rattle.text.specs.Fill.{rows_of, onto, Fillable, ArcsFillable, ArcsFilled}
use Rattle.text.proofs.Judges.{tally_rows, tally_count}
use Rattle.text.proofs.Fills.{onto-start, onto_more, onto-end}
use Rattle.timetable.proofs.Judging.{code_some}
use Rattle.timetable.specs.ReadText.{cramped, cramped_in, fault_of, or_else, read_of, periods_in, arcs_in, Read}

-- no row is too short
record Roomy (N : Network) : Type 0 where
  periods : 64 ≤ length N.periods
  tails : 256 ≤ length N.tails
  heads : 256 ≤ length N.heads
  lowers : 256 ≤ length N.lowers
  uppers : 256 ≤ length N.uppers
  weights : 256 ≤ length N.weights

roomy : (N : Network) → cramped_in N ≡ false → Roomy N
unfolding cramped
roomy N e =
    let n₁ = neither (ltb (length N.periods) 64) _ e in
    let n₂ = neither (ltb (length N.tails) 256) _ n₁.1 in
    let n₃ = neither (ltb (length N.heads) 256) _ n₂.1 in
    let n₄ = neither (ltb (length N.lowers) 256) _ n₃.1 in
    let n₅ = neither (ltb (length N.uppers) 256) (ltb (length N.weights) 256) n₄.1 in
    record {
      periods = ltb-false _ _ n₁.0;
      tails = ltb-false _ _ n₂.0;
      heads = ltb-false _ _ n₃.0;
      lowers = ltb-false _ _ n₄.0;
      uppers = ltb-false _ _ n₅.0;
      weights = ltb-false _ _ n₅.1;
    }

-- a text without a fault is accepted
faultless : {R : Type 0} (text : ℕ) (t : Told R) → (fault_of text (tally t)).code ≡ 0 → t ≡ rows (rows_of t)
unfolding tally
faultless text (rows rs) z = refl
faultless text wrong_header z = absurd (omega arith)
faultless text (bad_record k) z = absurd (omega arith)

or_first : (r s : Answer) → (r.code ≡ 0 → ⊥) → or_else r s ≡ r
unfolding or_else
or_first r s n = ap (λ (b : Bool). cond b s r) (ne_eqb r.code 0 n)

or_second : (r s : Answer) → r.code ≡ 0 → or_else r s ≡ s
unfolding or_else
or_second r s e = ap (λ (b : Bool). cond b s r) (eq-eqb r.code 0 e)

module _ (E A : List ℕ) (N : Network) where
  first : Answer
  first = fault_of 0 (tally (told event_layout E))

  second : Answer
  second = fault_of 1 (tally (told arc_layout A))

  by_room : {b : Bool} → cramped_in N ≡ b → read_of E A N ≡ cond b (answer 9 0 0) (or_else first second)
  unfolding read_of first second
  by_room e = ap (λ (b : Bool). cond b (answer 9 0 0) (or_else first second)) e

  -- code 0 exactly where there is room and both texts are accepted
  pub record Accepts : Type 0 where
    pub room : cramped_in N ≡ false
    pub events : told event_layout E ≡ rows (periods_in E)
    pub arcs : told arc_layout A ≡ rows (arcs_in A)

  pub accepts_read : Accepts → read_of E A N ≡ answer 0 0 0
  unfolding tally or_else first second
  accepts_read a = by_room a.room ∙ (λ i. or_else (fault_of 0 (tally (a.events i))) (fault_of 1 (tally (a.arcs i))))

  pub read_accepts : (read_of E A N).code ≡ 0 → Accepts
  unfolding or_else first second
  read_accepts z = by (cramped_in N) refl (ap (λ (r : Answer). r.code) (sym (by_room refl)) ∙ z)
    where
      both : (b : Bool) → eqb first.code 0 ≡ b → (cond b second first).code ≡ 0 → (first.code ≡ 0) × (second.code ≡ 0)
      both true e y = (eqb-true first.code 0 e, y)
      both false e y = absurd (eqb-false first.code 0 e y)

      by : (b : Bool) → cramped_in N ≡ b → (cond b (answer 9 0 0) (or_else first second)).code ≡ 0 → Accepts
      by true e y = absurd (omega arith)
      by false e y =
          let c = both (eqb first.code 0) refl y in
          record { room = e; events = faultless 0 (told event_layout E) c.0; arcs = faultless 1 (told arc_layout A) c.1 }

  -- ---- the ways out: a refusal and the rows as they were, or both texts are accepted

  kept : {B : Type 0} {r : Answer} (new was : List B) → (r.code ≡ 0 → ⊥) → read_of E A N ≡ r → was ≡ after (read_of E A N) new was
  kept new was n e = sym (after_kept (read_of E A N) new was (λ z. n (ap (λ (o : Answer). o.code) (sym e) ∙ z)))

  read_not : (r : Refused) → read_of E A N ≡ answered (Err r) → Read E A N N (counted (Err r))
  read_not r e =
      let n = code_some r.code in
      record {
        answer =
            sym
            (ap (λ (o : Answer). filled_as o (length (periods_in E)) (length (arcs_in A))) e
            ∙ filled_none (answered (Err r)) (length (periods_in E)) (length (arcs_in A)) n);
        periods = kept _ _ n e;
        tails = kept _ _ n e;
        heads = kept _ _ n e;
        lowers = kept _ _ n e;
        uppers = kept _ _ n e;
        weights = kept _ _ n e;
      }

  pub read_9 : cramped_in N ≡ true → Read E A N N (filled 9 0 0 0)
  read_9 e = read_not (refused_at Room 0) (by_room e)

  module _ (room : cramped_in N ≡ false) where
    pub read_events : {j : Result ℕ Fault} (r : Refused) → j ≡ tally (told event_layout E) → answered (Err r) ≡ fault_of 0 j → Read E A N N (counted (Err r))
    unfolding first
    read_events r e q =
        let o : first ≡ answered (Err r) = ap (fault_of 0) (sym e) ∙ sym q in
        read_not r (by_room room ∙ or_first first second (λ z. code_some r.code (ap (λ (o : Answer). o.code) (sym o) ∙ z)) ∙ o)

    pub events_fillable : {n : ℕ} → Ok n ≡ tally (told event_layout E) → Fillable event_layout E (length N.periods)
    events_fillable e = record { accepted = tally_rows (told event_layout E) e; wide = (roomy N room).periods }

    pub arcs_fillable : {m : ℕ} → Ok m ≡ tally (told arc_layout A) → ArcsFillable A N.tails N.heads N.lowers N.uppers N.weights
    arcs_fillable e =
        let w = roomy N room in
        record {
          accepted = tally_rows (told arc_layout A) e;
          tails = w.tails;
          heads = w.heads;
          lowers = w.lowers;
          uppers = w.uppers;
          weights = w.weights;
        }

    module _ {n : ℕ} (e : Ok n ≡ tally (told event_layout E)) where
      by_arcs : read_of E A N ≡ second
      unfolding first
      by_arcs = by_room room ∙ or_second first second (ap (λ (t : Result ℕ Fault). (fault_of 0 t).code) (sym e))

      pub read_arcs : {j : Result ℕ Fault} (r : Refused) → j ≡ tally (told arc_layout A) → answered (Err r) ≡ fault_of 1 j → Read E A N N (counted (Err r))
      unfolding second
      read_arcs r g q = read_not r (by_arcs ∙ ap (fault_of 1) (sym g) ∙ sym q)

      module _ {m : ℕ} (g : Ok m ≡ tally (told arc_layout A)) where
        both_read : read_of E A N ≡ answer 0 0 0
        unfolding second
        both_read = by_arcs ∙ ap (fault_of 1) (sym g)

        stored : {B : Type 0} {is : List B} (new was : List B) → is ≡ new → is ≡ after (read_of E A N) new was
        stored new was f = f ∙ sym (after-written (read_of E A N) new was (ap (λ (o : Answer). o.code) both_read))

        pub read_0 : {ps ts hs : List ℕ} {ls us : List ℤ} {ws : List ℕ} → ps ≡ onto (periods_in E) N.periods
            → ArcsFilled (arcs_in A) N.tails N.heads N.lowers N.uppers N.weights ts hs ls us ws
            → Read E A N (net ps ts hs ls us ws) (filled 0 0 n m)
        read_0 p a = record {
          answer =
              (λ i. filled 0 0 (tally_count (told event_layout E) e i) (tally_count (told arc_layout A) g i))
              ∙ sym
              (ap (λ (o : Answer). filled_as o (length (periods_in E)) (length (arcs_in A))) both_read
              ∙ filled_some (answer 0 0 0) _ _ refl);
          periods = stored _ _ p;
          tails = stored _ _ a.tails;
          heads = stored _ _ a.heads;
          lowers = stored _ _ a.lowers;
          uppers = stored _ _ a.uppers;
          weights = stored _ _ a.weights;
        }

-- ---- a row filled from a list, in the word of the calls that write a row entry by entry

pub onto-written : {A : Type 0} (xs row : List A) (d : A) → length xs ≤ length row → onto xs row ≡ written (λ k. get_or xs k d) (length xs) row
unfolding written
onto-written {A} xs row d room = sym (first (length xs) (omega arith) ∙ onto-end xs row (length xs) refl)
  where
    first : (k : ℕ) → k ≤ length xs → written (λ j. get_or xs j d) k row ≡ paste row 0 xs k
    first zero h = onto-start xs row
    first (suc k) h =
        ap (λ (l : List A). set l k (get_or xs k d)) (first k (omega arith)) ∙ onto_more xs row k d (omega arith) (omega arith) ∙ ap (paste row 0 xs) (add-one k)
