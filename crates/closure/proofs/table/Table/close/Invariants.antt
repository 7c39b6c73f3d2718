-- Each turn leaves a table of the same network.
use mathlib.Core.Path.{◌≡◌}
use Rattle.closure.proofs.table.Table.close.Given as goal

abbrev pub invariant-loop-round : goal.invariant-loop-round
invariant-loop-round l = l.self.network ≡ l.initial.self.network
