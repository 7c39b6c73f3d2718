-- The answers of printing, one law for each way out, and the rows of bytes with each. Assumes nothing.
use mathlib.Core.Path.{◌≡◌, refl, sym, ap, ◌∙◌}
use mathlib.Core.Bool.{Bool, true, false, ◌||◌}
use mathlib.Core.List.{List, [], ◌∷◌}
use Prim.Native.Nat.{ℕ, ◌≤◌, ◌<◌}
use native.Mathlib.Omega.{arith}
use borrow.Author.Tests.{lt-ltb, le-ltb}
use lib.Dec.{ltb}
use lib.ListN.{length}
use Rattle.network.specs.declared.Answer.{Answer}
use Rattle.network.specs.Network.{Network, events, arcs}
use Rattle.network.specs.Refusals.{answer, once, answer_of, filled, filled_as}
use Rattle.network.specs.Table.{outside, uneven}
use Rattle.network.proofs.Refusing.{once_refused, once_clear, refuses, succeeds, after_kept, after-written, filled_none, filled_some}
use Rattle.network.proofs.Refusing.AllClear.{none, more}
use Rattle.network.proofs.Sound.{line_1, line_3, even_of}
use Rattle.text.specs.Put.{Put, FiveRows}
use Rattle.text.proofs.Puts.{put-onto}
use Rattle.timetable.specs.PrintText.{events_text, arcs_text, print_refusals, print_of, Printed}

-- the tests of the two lines of the network's table
abbrev pub outside_in : Network → Bool
outside_in N = outside 1 64 (events N)

abbrev pub uneven_in : Network → Bool
uneven_in N = uneven (arcs N) (length N.heads) (length N.lowers) (length N.uppers) (length N.weights) (arcs N)

-- the arc rows are of one length, and few
pub five_rows : (N : Network) → uneven_in N ≡ false → FiveRows N.tails N.heads N.lowers N.uppers N.weights
five_rows N e =
    let r = (even_of N (arcs N) e).even in
    record { heads = r.heads_long; lowers = r.lowers_long; uppers = r.uppers_long; weights = r.weights_long; few = r.few_arcs }

module _ (N : Network) (E A : List ℕ) where
  short : Bool
  short = ltb (length E) (length (events_text N)) || ltb (length A) (length (arcs_text N))

  -- the three lines as they stand
  lines : answer_of (once 1 (outside_in N) ∷ once 3 (uneven_in N) ∷ once 9 short ∷ []) 0 ≡ print_of N E A
  unfolding print_of print_refusals short
  lines = λ j. answer_of (sym (line_1 N (arcs N)) j ∷ sym (line_3 N (arcs N)) j ∷ once 9 short ∷ []) 0

  -- ---- the answer and the rows together

  print_not : {c : ℕ} → 0 < c → answer c 0 0 ≡ print_of N E A → Printed N E A E A (filled c 0 0 0)
  print_not {c} h e =
      let n : c ≡ 0 → ⊥ = λ z. omega arith in
      let k : (print_of N E A).code ≡ 0 → ⊥ = λ z. n (ap (λ (o : Answer). o.code) e ∙ z) in
      record {
        answer = sym (filled_none (answer c 0 0) _ _ n) ∙ ap (λ (o : Answer). filled_as o (length (events_text N)) (length (arcs_text N))) e;
        events = sym (after_kept (print_of N E A) _ _ k);
        arcs = sym (after_kept (print_of N E A) _ _ k);
      }

  print_both : {E' A' : List ℕ} {n m : ℕ} → answer 0 0 0 ≡ print_of N E A → Put (events_text N) 0 E E' n → Put (arcs_text N) 0 A A' m
      → Printed N E A E' A' (filled 0 0 n m)
  print_both e p q =
      let z : (print_of N E A).code ≡ 0 = ap (λ (o : Answer). o.code) (sym e) in
      let x = put-onto p in
      let y = put-onto q in
      record {
        answer = (λ i. filled 0 0 (x.1 i) (y.1 i)) ∙ sym (filled_some (answer 0 0 0) _ _ refl) ∙ ap (λ (o : Answer). filled_as o (length (events_text N)) (length (arcs_text N))) e;
        events = x.0 ∙ sym (after-written (print_of N E A) _ _ z);
        arcs = y.0 ∙ sym (after-written (print_of N E A) _ _ z);
      }

  -- ---- one law for each way out

  pub print_1 : outside_in N ≡ true → Printed N E A E A (filled 1 0 0 0)
  print_1 e = print_not (omega arith) (refuses _ 0 none none (once_refused 1 e) (omega arith) ∙ lines)

  module _ (few : outside_in N ≡ false) where
    pub print_3 : uneven_in N ≡ true → Printed N E A E A (filled 3 0 0 0)
    print_3 e = print_not (omega arith) (refuses _ 0 none (more (once_clear 1 few) none) (once_refused 3 e) (omega arith) ∙ lines)

    module _ (even : uneven_in N ≡ false) where
      nine : short ≡ true → Printed N E A E A (filled 9 0 0 0)
      nine e = print_not (omega arith) (refuses _ 0 none (more (once_clear 1 few) (more (once_clear 3 even) none)) (once_refused 9 e) (omega arith) ∙ lines)

      pub print_9_events : length E < length (events_text N) → Printed N E A E A (filled 9 0 0 0)
      unfolding short
      print_9_events h = nine (ap (λ (b : Bool). b || ltb (length A) (length (arcs_text N))) (lt-ltb _ _ h))

      module _ (room : length (events_text N) ≤ length E) where
        by_arcs : short ≡ ltb (length A) (length (arcs_text N))
        unfolding short
        by_arcs = ap (λ (b : Bool). b || ltb (length A) (length (arcs_text N))) (le-ltb _ _ room)

        pub print_9_arcs : length A < length (arcs_text N) → Printed N E A E A (filled 9 0 0 0)
        print_9_arcs h = nine (by_arcs ∙ lt-ltb _ _ h)

        module _ (arcs_room : length (arcs_text N) ≤ length A) where
          pub print_clear : answer 0 0 0 ≡ print_of N E A
          print_clear =
              succeeds 0 none (more (once_clear 1 few) (more (once_clear 3 even) (more (once_clear 9 (by_arcs ∙ le-ltb _ _ arcs_room)) none))) ∙ lines

          pub print_0 : {E' A' : List ℕ} {n m : ℕ} → Put (events_text N) 0 E E' n → Put (arcs_text N) 0 A A' m → Printed N E A E' A' (filled 0 0 n m)
          print_0 p q = print_both print_clear p q
