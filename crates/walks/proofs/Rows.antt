-- The row of marks as `place_arcs` goes through the arcs, and the times that it writes. Assumes nothing.
use mathlib.Core.Path.{◌≡◌, refl, sym, ◌∙◌, ap, subst, subst₂}
use mathlib.Core.Bool.{Bool, true, false, true≢false, false≢true}
use mathlib.Core.List.{List}
use Prim.Native.Nat.{ℕ, ◌+◌, ◌≤◌, ◌<◌}
use native.Mathlib.Omega.{arith}
use lib.IntN.{ℤ, pos, ◌-ℤ◌}
use lib.ListN.{length}
use Rattle.std.proofs.Common.{Ok, Err}
use mir.Syntax.{w32}
use mir.Val.{SFits, to_z, of_z}
use mir.ValLaws.{to_z-of_z}
use Rattle.numbers.proofs.Congruence.{cong_eq, cong_trans}
use Rattle.walks.specs.Walk.{Graph, graph_of, Between}
use Rattle.numbers.specs.Row.{at, at_ℤ}
use Rattle.walks.specs.Label.{labels, times, Labelled}
use Rattle.walks.specs.Times.{Anchored}
use Rattle.walks.specs.Place.{Given, Impossible, Placed, Begun, Took, fits, fails, Taken, Placing, Noted}
use Rattle.walks.specs.declared.Mark.{Mark}
use Rattle.walks.proofs.Walks.{fewer_between}
use Rattle.walks.proofs.Labels.{at_first, consistent, anchored}

-- the same times at the events below n are anchored too
anchored_at : {G : Graph} {te : ℕ → ℤ} {T n k : ℕ} {time time' : ℕ → ℕ} → ((v : ℕ) → v < n → time' v ≡ time v) → Between G n k → Anchored G te T n k time
    → Anchored G te T n k time'
anchored_at {G} {T = T} {time = time} {time' = time'} same E A = record {
  under = λ v h. omega (arith, same v h, A.under v h);
  fits = λ a h.
      let x : time' (G.tail a) ≡ time (G.tail a) = same (G.tail a) (E.tail a h) in
      let y : time' (G.head a) ≡ time (G.head a) = same (G.head a) (E.head a h) in
      record { apart = cong_trans (A.fits a h).apart (cong_eq T (λ i. pos (sym y i) -ℤ pos (sym x i))) };
  anchor = λ v h l. same v h ∙ A.anchor v h l;
}

module _ {tail head : List ℕ} {tensions : List ℤ} {T : ℕ} where
  pub placing_first : {n : ℕ} {marks marks' : List Mark} → Given tail head tensions T n → length marks' ≡ n → Begun (length marks) marks marks'
      → Placing tail head tensions T 0 marks'
  placing_first g e b = record {
    given = subst (Given tail head tensions T) (sym e) g;
    most = omega arith;
    labelled =
        at_first (graph_of tail head) (at_ℤ tensions) g.positive (λ v h. b.own v (omega (arith, b.marks_long)))
        (λ v h. b.at_zero v (omega (arith, b.marks_long)));
  }

  pub placed_all : {k : ℕ} {marks : List Mark} {row row' : List ℕ} → Placing tail head tensions T k marks → length tail ≤ k → length marks ≡ length row
      → length row' ≡ length row → Noted (length row) marks row' → Placed tail head tensions T row row' (Ok tt)
  placed_all {marks = marks} P h e l N = record {
    times_long = l;
    timetable =
        anchored_at N.is (subst (λ (n : ℕ). Between (graph_of tail head) n (length tail)) e P.given.ends)
        (subst₂ (λ (n m : ℕ). Anchored (graph_of tail head) (at_ℤ tensions) T n m (times marks)) e (omega (arith, P.most)) (anchored P.labelled));
    impossible = tt;
    unwritten = tt;
  }

  -- arc k as `place_arcs` reads it, of a tension that fits 32 bits
  module _ {k : ℕ} {marks marks' : List Mark} {r : Bool} (P : Placing tail head tensions T k marks) (h : k < length tail) (f : SFits w32 (at_ℤ tensions k))
      (t : Taken (record { tail = at tail k; head = at head k; tension = to_z w32 (of_z w32 (at_ℤ tensions k)) }) T marks marks' r) where
    took : Took (graph_of tail head) (at_ℤ tensions) T (length marks) k marks' r
    took =
        t.took (graph_of tail head) (at_ℤ tensions) k (ap (λ (z : ℤ). record { tail = at tail k; head = at head k; tension = z }) (sym (to_z-of_z w32 (at_ℤ tensions k) f)))
        (fewer_between (k + 1) (omega arith) P.given.ends) P.labelled

    pub placing_next : r ≡ true → Placing tail head tensions T (k + 1) marks'
    placing_next q = go took q
      where
        go : {r : Bool} → Took (graph_of tail head) (at_ℤ tensions) T (length marks) k marks' r → r ≡ true → Placing tail head tensions T (k + 1) marks'
        go (fits l) q = record {
          given = subst (Given tail head tensions T) (sym t.marks_long) P.given;
          most = omega arith;
          labelled = subst (λ (n : ℕ). Labelled (graph_of tail head) (at_ℤ tensions) T n (k + 1) (labels marks') (times marks')) (sym t.marks_long) l;
        }
        go (fails n) q = absurd (false≢true q)

    pub placed_none : (row : List ℕ) → r ≡ false → Placed tail head tensions T row row (Err k)
    placed_none row q = record { times_long = refl; timetable = tt; impossible = go took q; unwritten = refl }
      where
        go : {r : Bool} → Took (graph_of tail head) (at_ℤ tensions) T (length marks) k marks' r → r ≡ false → Impossible (graph_of tail head) (at_ℤ tensions) T (length tail) k
        go (fits l) q = absurd (true≢false q)
        go (fails n) q = record { inside = h; allowed = consistent P.labelled; refused = n }
