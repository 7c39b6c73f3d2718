-- The laps passed have their run.
use Rattle.std.proofs.Common.{refl, arith}
use Rattle.search.proofs.Marking.{runs_more, runs_left, runs_last}
use Rattle.search.proofs.marks.mark_runs.Goals as goal
use Rattle.search.proofs.marks.mark_runs.Goals.{else-loop-from-test, then-loop-from-test+else-gap-from-end}

pub loop-from-preserved : goal.loop-from-preserved
loop-from-preserved c = runs_more c.requires c.loop-from.invariant c.mark_run-fresh.auto.row c.mark_run-fresh.ensures refl

pub returns : goal.returns
returns c =
    elim c.loop-from-test.branch [
      | else-loop-from-test w ↦
          let left = runs_left c.loop-from.invariant w.row-is w.fresh-is in
          runs_last c.requires left c.mark_run.ensures c.saturating_sub-rest.ensures w.loop-from-test.false refl
      | then-loop-from-test+else-gap-from-end w ↦
          let more = runs_more c.requires c.loop-from.invariant w.mark_run-fresh.auto.row w.mark_run-fresh.ensures refl in
          runs_last c.requires (runs_left more w.row-is w.fresh-is) c.mark_run.ensures c.saturating_sub-rest.ensures (omega arith) refl
    ]
