-- Each length in turn.
use borrow.Author.Tests.{lt-ltb, le-ltb}
use Rattle.network.specs.Rows.{short}
use Rattle.network.proofs.rule.short.Goals as goal

pub returns-then-tensions-m : goal.returns-then-tensions-m
unfolding short
returns-then-tensions-m c = simp (lt-ltb _ _ c.if-tensions-m.true)

pub returns-else-tensions-m : goal.returns-else-tensions-m
unfolding short
returns-else-tensions-m c = simp (le-ltb _ _ c.if-tensions-m.false)
