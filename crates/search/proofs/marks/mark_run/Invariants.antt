-- The places passed are marked.
use Rattle.search.specs.Marks.{RunTurn}
use Rattle.search.proofs.marks.mark_run.Given as goal

abbrev pub invariant-loop-place : goal.invariant-loop-place
invariant-loop-place l = RunTurn l.initial.run l.run l.fresh l.place-index
