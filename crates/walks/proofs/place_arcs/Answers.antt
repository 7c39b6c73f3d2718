-- The labels and times are right for the arcs passed.
use borrow.Author.Rules.{rules}
use mathlib.Core.Path.{◌∙◌}
use lib.Seq.{length-take-le}
use Rattle.walks.proofs.Rows.{placing_first, placing_next, placed_none, placed_all}
use Rattle.walks.proofs.place_arcs.Goals as goal

pub loop-k-init : goal.loop-k-init
loop-k-init c =
    let long = c.new-parts.ensures.begun.marks_long ∙ length-take-le _ _ c.requires.events in
    record { period = c.new-parts.ensures.period; placing = placing_first c.requires long c.new-parts.ensures.begun; long = long }

pub returns-then-not-take_arc : goal.returns-then-not-take_arc
returns-then-not-take_arc c =
    placed_none c.loop-k.invariant.placing c.loop-k-test.true (search rules) (rw c.loop-k.invariant.period at c.take_arc.ensures.taken) _ c.if-not-take_arc.true

pub loop-k-preserved : goal.loop-k-preserved
loop-k-preserved c = record {
  period = c.take_arc.ensures.period ∙ c.loop-k.invariant.period;
  placing =
      placing_next c.loop-k.invariant.placing c.loop-k-test.true (search rules) (rw c.loop-k.invariant.period at c.take_arc.ensures.taken)
      c.if-not-take_arc.false;
  long = c.take_arc.ensures.taken.marks_long ∙ c.loop-k.invariant.long;
}

pub returns : goal.returns
returns c = placed_all c.loop-k.invariant.placing c.loop-k-test.false c.loop-k.invariant.long c.note_times.auto.times c.note_times.ensures
