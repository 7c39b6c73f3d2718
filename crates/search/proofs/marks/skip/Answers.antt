-- Every place passed is marked.
use Rattle.std.proofs.Common.{arith}
use Rattle.search.proofs.Marking.{walk_block, walk_end}
use Rattle.search.proofs.marks.skip.Goals as goal

pub loop-start-preserved : goal.loop-start-preserved
loop-start-preserved c = walk_block c.loop-start.invariant (omega arith) c.some_free.ensures c.if-some_free.false

pub returns-else-some_free : goal.returns-else-some_free
returns-else-some_free c = walk_end (walk_block c.loop-start.invariant (omega arith) c.some_free.ensures c.if-some_free.false) (omega arith)
