-- Two accepted texts, printed again, read back to equal rows: of the three calls' contracts alone. Assumes nothing.
use mathlib.Core.Path.{◌≡◌, refl, sym, ap, ◌∙◌}
use mathlib.Core.Bool.{false}
use mathlib.Core.List.{List, map}
use Prim.Native.Nat.{ℕ, ◌≤◌}
use borrow.Author.Tests.{le-ltb, eq-eqb}
use lib.ListN.{length, take, drop, length-map}
use lib.Seq.{take_at}
use Rattle.network.specs.declared.Answer.{Answer}
use Rattle.network.specs.declared.Filled.{Filled}
use Rattle.network.specs.Network.{Network, net}
use Rattle.network.specs.Refusals.{answer, filled, after, filled_as}
use Rattle.network.specs.Table.{outside, uneven}
use Rattle.network.proofs.Refusing.{after-written, filled_some, filled_code}
use Rattle.text.specs.declared.Arc.{Arc}
use Rattle.text.specs.Text.{event_layout, arc_layout, rows, told, printed}
use Rattle.text.specs.Fill.{rows_of, onto, tails_of, heads_of, lowers_of, uppers_of, weights_of}
use Rattle.text.proofs.Rows.{arcs_back}
use Rattle.text.proofs.RoundTrip.{events_again, arcs_again, events_count, arcs_count}
use Rattle.timetable.specs.ReadText.{cramped_in, read_of, periods_in, arcs_in, Read}
use Rattle.timetable.specs.PrintText.{events_text, arcs_text, print_of, Printed}
use Rattle.timetable.specs.Demands.{cut, ReadsSame}
use Rattle.timetable.proofs.PrintTexts.{outside_in, uneven_in, print_clear}
use Rattle.timetable.proofs.ReadTexts.{Accepts, accepts_read, read_accepts}

-- the network of periods and arcs
abbrev of : List ℕ → List Arc → Network
of ps rs = net ps (tails_of rs) (heads_of rs) (lowers_of rs) (uppers_of rs) (weights_of rs)

-- ---- what code 0 says

-- of a call that fills: its answer's code is 0, and the counts are as they are
record Counted (r : Filled) (o : Answer) (n m : ℕ) : Type 0 where
  code : o.code ≡ 0
  events : r.events ≡ n
  arcs : r.arcs ≡ m

counted : {r : Filled} (o : Answer) (n m : ℕ) → r ≡ filled_as o n m → r.code ≡ 0 → Counted r o n m
counted {r} o n m e z =
    let c : o.code ≡ 0 = sym (filled_code o n m e) ∙ z in
    let f : r ≡ filled o.code o.place n m = e ∙ filled_some o n m c in
    record { code = c; events = ap (λ (g : Filled). g.events) f; arcs = ap (λ (g : Filled). g.arcs) f }

-- a row that was filled, cut to what was filled
cut_row : {A : Type 0} {is : List A} {n : ℕ} (o : Answer) (new was : List A) → o.code ≡ 0 → n ≡ length new → is ≡ after o (onto new was) was → take n is ≡ new
cut_row {n = n} o new was z e p = ap (take n) (p ∙ after-written o (onto new was) was z) ∙ take_at new (drop (length new) was) n (sym e)

-- ---- of texts that were read

-- what was read, cut to what was filled, is what the texts tell
module _ {E A : List ℕ} {N N₁ : Network} {r : Filled} (p : Read E A N N₁ r) (z : r.code ≡ 0) where
  read_counted : Counted r (read_of E A N) (length (periods_in E)) (length (arcs_in A))
  read_counted = counted (read_of E A N) (length (periods_in E)) (length (arcs_in A)) p.answer z

  read_told : Accepts E A N
  read_told = read_accepts E A N read_counted.code

  read_answer : r ≡ filled 0 0 (length (periods_in E)) (length (arcs_in A))
  read_answer =
      p.answer ∙ ap (λ (o : Answer). filled_as o (length (periods_in E)) (length (arcs_in A))) (accepts_read E A N read_told) ∙ filled_some (answer 0 0 0) _ _ refl

  column : {B : Type 0} {is : List B} (f : Arc → B) (was : List B) → is ≡ after (read_of E A N) (onto (map f (arcs_in A)) was) was → take r.arcs is ≡ map f (arcs_in A)
  column f was e = cut_row (read_of E A N) (map f (arcs_in A)) was read_counted.code (read_counted.arcs ∙ sym (length-map (arcs_in A) f)) e

  read_cut : cut r.events r.arcs N₁ ≡ of (periods_in E) (arcs_in A)
  read_cut =
      λ i. net (cut_row (read_of E A N) (periods_in E) N.periods read_counted.code read_counted.events p.periods i)
      (column (λ a. a.tail) N.tails p.tails i) (column (λ a. a.head) N.heads p.heads i) (column (λ a. a.lower) N.lowers p.lowers i)
      (column (λ a. a.upper) N.uppers p.uppers i) (column (λ a. a.weight) N.weights p.weights i)

-- what was printed, cut to what was written, is the text
module _ {N : Network} {E A E₁ A₁ : List ℕ} {s : Filled} (p : Printed N E A E₁ A₁ s) (z : s.code ≡ 0) where
  print_counted : Counted s (print_of N E A) (length (events_text N)) (length (arcs_text N))
  print_counted = counted (print_of N E A) (length (events_text N)) (length (arcs_text N)) p.answer z

  print_events : take s.events E₁ ≡ events_text N
  print_events = cut_row (print_of N E A) (events_text N) E print_counted.code print_counted.events p.events

  print_arcs : take s.arcs A₁ ≡ arcs_text N
  print_arcs = cut_row (print_of N E A) (arcs_text N) A print_counted.code print_counted.arcs p.arcs

-- ---- the theorems

-- a network that was read is printed wherever there is room
module _ (ps : List ℕ) (rs : List Arc) where
  events_few : 1 ≤ length ps → length ps ≤ 64 → outside_in (of ps rs) ≡ false
  unfolding outside
  events_few h k = simp (le-ltb (length ps) 1 h, le-ltb 64 (length ps) k)

  columns_even : length rs ≤ 256 → uneven_in (of ps rs) ≡ false
  unfolding uneven
  columns_even h =
      simp (
        length-map rs (λ a. a.tail),
        length-map rs (λ a. a.head),
        length-map rs (λ a. a.lower),
        length-map rs (λ a. a.upper),
        length-map rs (λ a. a.weight),
        eq-eqb (length rs) (length rs) refl,
        le-ltb 256 (length rs) h,
      )

pub prints_again : {E A : List ℕ} {N N₁ : Network} {r : Filled} → Read E A N N₁ r → r.code ≡ 0 → (E₀ A₀ : List ℕ)
    → length (events_text (cut r.events r.arcs N₁)) ≤ length E₀ → length (arcs_text (cut r.events r.arcs N₁)) ≤ length A₀
    → print_of (cut r.events r.arcs N₁) E₀ A₀ ≡ answer 0 0 0
prints_again {E} {A} p z E₀ A₀ h k =
    let t = read_told p z in
    let c = read_cut p z in
    let n = events_count E t.events in
    sym (print_clear _ E₀ A₀ (ap outside_in c ∙ events_few (periods_in E) (arcs_in A) n.0 n.1) (ap uneven_in c ∙ columns_even (periods_in E) (arcs_in A) (arcs_count A t.arcs)) h k)

-- texts that tell the same are read to the same answer and the same rows
module _ {E A E₂ A₂ : List ℕ} {N N₁ M M₁ : Network} {r q : Filled} (p : Read E A N N₁ r) (z : r.code ≡ 0) (b : Read E₂ A₂ M M₁ q) (room : cramped_in M ≡ false)
    (e : told event_layout E₂ ≡ rows (periods_in E)) (a : told arc_layout A₂ ≡ rows (arcs_in A)) where
  ps : periods_in E₂ ≡ periods_in E
  ps = ap rows_of e

  rs : arcs_in A₂ ≡ arcs_in A
  rs = ap rows_of a

  code : q.code ≡ 0
  code =
      filled_code (read_of E₂ A₂ M) _ _ b.answer
      ∙ ap (λ (o : Answer). o.code) (accepts_read E₂ A₂ M (record { room = room; events = e ∙ ap rows (sym ps); arcs = a ∙ ap rows (sym rs) }))

  told_same : ReadsSame N₁ r M₁ q
  told_same = record {
    answer_is = read_answer b code ∙ (λ i. filled 0 0 (length (ps i)) (length (rs i))) ∙ sym (read_answer p z);
    rows_are = read_cut b code ∙ (λ i. of (ps i) (rs i)) ∙ sym (read_cut p z);
  }

-- Two texts are read; the rows, cut to what was filled, are printed; what was printed is read into rows with room.
-- The second reading's answer, and the rows it filled, are those of the first.
pub again : {E A : List ℕ} {N N₁ : Network} {r : Filled} → Read E A N N₁ r → r.code ≡ 0
    → {E₀ A₀ E₁ A₁ : List ℕ} {s : Filled} → Printed (cut r.events r.arcs N₁) E₀ A₀ E₁ A₁ s → s.code ≡ 0
    → {M M₁ : Network} {q : Filled} → Read (take s.events E₁) (take s.arcs A₁) M M₁ q → cramped_in M ≡ false
    → ReadsSame N₁ r M₁ q
again {E} {A} p z o y b room =
    let t = read_told p z in
    let w = print_events o y ∙ ap events_text (read_cut p z) in
    let x = print_arcs o y ∙ ap arcs_text (read_cut p z) ∙ ap (printed arc_layout) (arcs_back (arcs_in A)) in
    told_same p z b room (ap (told event_layout) w ∙ events_again E t.events) (ap (told arc_layout) x ∙ arcs_again A t.arcs)
