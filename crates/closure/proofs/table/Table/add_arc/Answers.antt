-- The arc's span is cut out of the one of its ends.
use mathlib.Core.Path.{refl}
use Rattle.closure.proofs.Spread.{arc_asks}
use Rattle.closure.proofs.table.Table.add_arc.Goals as goal

pub narrow-requires : goal.narrow-requires
narrow-requires c = arc_asks c.requires refl refl refl
