-- Each turn leaves a table of the same network.
use mathlib.Core.Path.{◌≡◌}
use Rattle.closure.proofs.table.Table.add_arcs.Given as goal

abbrev pub invariant-loop-arc : goal.invariant-loop-arc
invariant-loop-arc l = l.self.network ≡ l.initial.self.network
