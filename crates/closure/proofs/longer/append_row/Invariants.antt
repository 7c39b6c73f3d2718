-- The arcs appended so far are implied.
use Rattle.search.specs.Lent.{lent}
use Rattle.closure.specs.Longer.{Grows}
use Rattle.closure.proofs.longer.append_row.Given as goal

abbrev pub invariant-loop-j : goal.invariant-loop-j
invariant-loop-j l = Grows (lent l.table.network) l.longer l.i l.own l.count
