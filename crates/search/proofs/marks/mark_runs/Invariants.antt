-- The laps passed have their run.
use Rattle.search.specs.Marks.{RunsTurn}
use Rattle.search.proofs.marks.mark_runs.Given as goal

abbrev pub invariant-loop-from : goal.invariant-loop-from
invariant-loop-from l = RunsTurn l.gap l.start l.run l.initial.row l.row l.fresh l.from
