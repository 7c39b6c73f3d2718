-- One law for each way out, by the excess of the arc.
use borrow.Author.Rules.{rules}
use borrow.Author.Tests.{eqb-true, eqb-false}
use native.Mathlib.Omega.{arith}
use Prim.Native.Nat.{ℕ, ◌+◌, ◌-◌, ◌%◌, ◌<◌}
use mathlib.Core.Path.{◌≡◌, refl, sym, subst}
use mathlib.Core.Bool.{Bool, true, false}
use mathlib.Core.List.{List}
use lib.Dec.{eqb}
use lib.IntN.{ℤ, pos, ◌+ℤ◌, ◌-ℤ◌}
use lib.ListN.{length}
use mir.Syntax.{w32}
use mir.Val.{SFits, to_z, of_z}
use mir.ValLaws.{to_z-of_z}
use Rattle.numbers.specs.Remainder.{IsRemainder}
use Rattle.walks.specs.declared.Mark.{Mark}
use Rattle.walks.specs.declared.Arc.{Arc}
use Rattle.walks.specs.Walk.{Graph, Between}
use Rattle.walks.specs.Label.{labels, times, Labelled}
use Rattle.walks.specs.Place.{Moved, arc_of, Took, fits, fails}
use Rattle.walks.proofs.Walks.{closed}
use Rattle.walks.proofs.Arcs.{kept, not_closed, head_moved, tail_moved, shifted}
use Rattle.walks.proofs.Parts.take_arc.Goals as goal

-- arc k of a graph, after arcs that are placed, by its excess s
module _ {arc : Arc} {T s : ℕ} (marks : List Mark) (f : SFits w32 arc.tension)
    (R : IsRemainder ((pos (times marks arc.tail) +ℤ to_z w32 (of_z w32 arc.tension)) -ℤ pos (times marks arc.head)) T s)
    (G : Graph) (te : ℕ → ℤ) (k : ℕ) (e : arc_of G te k ≡ arc) (E : Between G (length marks) (k + 1))
    (L : Labelled G te T (length marks) k (labels marks) (times marks)) where
  excess_is : IsRemainder ((pos (times marks (G.tail k)) +ℤ te k) -ℤ pos (times marks (G.head k))) T s
  excess_is =
      subst (λ (a : Arc). IsRemainder ((pos (times marks a.tail) +ℤ a.tension) -ℤ pos (times marks a.head)) T s) (sym e) (rw (to_z-of_z w32 arc.tension f) at R)

  positive : 0 < T
  positive = omega (arith, R.below)

  -- both ends in one part: the excess is tested
  in_one : labels marks arc.tail ≡ labels marks arc.head → Took G te T (length marks) k marks (eqb s 0)
  in_one q = go (eqb s 0) refl
    where
      same : labels marks (G.tail k) ≡ labels marks (G.head k)
      same = subst (λ (a : Arc). labels marks a.tail ≡ labels marks a.head) (sym e) q

      go : (t : Bool) → eqb s 0 ≡ t → Took G te T (length marks) k marks t
      go true b = fits (kept E L excess_is same (eqb-true s 0 b))
      go false b = fails (λ c. not_closed E L excess_is same (eqb-false s 0 b) (closed c))

  -- the head's part moves to the tail's, or the tail's to the head's
  head_joins : {marks' : List Mark} → labels marks arc.tail < labels marks arc.head
      → Moved (length marks) (labels marks arc.head) (labels marks arc.tail) s T marks marks' → Took G te T (length marks) k marks' true
  head_joins {marks'} l m =
      let M = subst (λ (a : Arc). Moved (length marks) (labels marks a.head) (labels marks a.tail) s T marks marks') (sym e) m in
      fits (head_moved E L excess_is (subst (λ (a : Arc). labels marks a.tail < labels marks a.head) (sym e) l) (shifted marks marks' positive M.moved M.kept))

  tail_joins : {marks' : List Mark} → labels marks arc.head < labels marks arc.tail
      → Moved (length marks) (labels marks arc.tail) (labels marks arc.head) ((T - s) % T) T marks marks' → Took G te T (length marks) k marks' true
  tail_joins {marks'} l m =
      let M = subst (λ (a : Arc). Moved (length marks) (labels marks a.tail) (labels marks a.head) ((T - s) % T) T marks marks') (sym e) m in
      fits (tail_moved E L excess_is (subst (λ (a : Arc). labels marks a.head < labels marks a.tail) (sym e) l) (shifted marks marks' positive M.moved M.kept))

pub returns-then-tail_label-head_label-clause-taken : goal.returns-then-tail_label-head_label-clause-taken
returns-then-tail_label-head_label-clause-taken c = record {
  marks_long = refl;
  took = λ G te k e E L. in_one _ (search rules) c.excess-over.ensures G te k e E L c.if-tail_label-head_label.true;
}

pub returns-then-tail_label-head_label-2-clause-taken : goal.returns-then-tail_label-head_label-2-clause-taken
returns-then-tail_label-head_label-2-clause-taken c = record {
  marks_long = c.relabel.ensures.moved.marks_long;
  took = λ G te k e E L. head_joins _ (search rules) c.excess-over.ensures G te k e E L c.if-tail_label-head_label-2.true c.relabel.ensures.moved;
}

pub returns-clause-taken : goal.returns-clause-taken
returns-clause-taken c = record {
  marks_long = c.relabel-2.ensures.moved.marks_long;
  took = λ G te k e E L. tail_joins _ (search rules) c.excess-over.ensures G te k e E L (omega arith) c.relabel-2.ensures.moved;
}
