-- At the end every span is as wide as can be.
use Rattle.closure.proofs.Tables.{opened, opened_spanned}
use Rattle.closure.proofs.table.Table.widen.Goals as goal

pub invariant_of-result : goal.invariant_of-result
invariant_of-result c = record { spanned = opened_spanned c.loop-i-test.false c.loop-i.invariant }

pub returns-clause-opened : goal.returns-clause-opened
returns-clause-opened c = opened c.loop-i-test.false c.loop-i.invariant
