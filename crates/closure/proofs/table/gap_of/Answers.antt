-- A gap that stands for j and i is that of i and j.
use Rattle.closure.proofs.Tables.{gap_stands}
use Rattle.closure.proofs.table.gap_of.Goals as goal

pub returns-then-j-i : goal.returns-then-j-i
returns-then-j-i c = rw c.from.ensures (gap_stands _ c.place.ensures c.requires c.if-j-i.true)
