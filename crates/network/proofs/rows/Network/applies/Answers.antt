-- The test of a lower bound is that of its line.
use Rattle.std.proofs.Common.{rules}
use Rattle.network.specs.Refusals.{named}
use Rattle.network.specs.Table.{outside_ℤ, refusals_with}
use Rattle.network.proofs.rows.Network.applies.Goals as goal

pub returns-in-Lower : goal.returns-in-Lower
unfolding named refusals_with outside_ℤ
returns-in-Lower c = search rules
