-- The spans of the pairs passed are as wide as can be.
use Rattle.closure.specs.Tables.{Widening}
use Rattle.closure.proofs.table.widen_row.Given as goal

abbrev pub invariant-loop-j : goal.invariant-loop-j
invariant-loop-j l = Widening l.periods l.spans l.i l.j
