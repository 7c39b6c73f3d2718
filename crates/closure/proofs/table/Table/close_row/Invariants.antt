-- Each turn leaves a table of the same network, and loses no times that keep to the first.
use mathlib.Core.Path.{◌≡◌}
use Rattle.std.specs.Prelude.{Some}
use Rattle.closure.specs.Steps.{Tighter}
use Rattle.closure.proofs.table.Table.close_row.Given as goal

abbrev pub invariant-loop-j : goal.invariant-loop-j
invariant-loop-j l = (l.self.network ≡ l.initial.self.network) × Tighter l.initial.self l.self (Some l.change)
