-- The spans of the events passed are as wide as can be.
use Rattle.closure.specs.Tables.{Widening}
use Rattle.closure.proofs.table.Table.widen.Given as goal

abbrev pub invariant-loop-i : goal.invariant-loop-i
invariant-loop-i l = Widening l.network.periods.now l.spans l.i 0
