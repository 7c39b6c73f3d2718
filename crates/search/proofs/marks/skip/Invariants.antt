-- Every place passed is marked.
use Rattle.search.specs.Marks.{Walk}
use Rattle.search.proofs.marks.skip.Given as goal

abbrev pub invariant-loop-start : goal.invariant-loop-start
invariant-loop-start l = Walk l.row l.fn.from l.start
