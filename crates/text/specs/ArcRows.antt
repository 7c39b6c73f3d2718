-- The arcs of five rows that are lent together. Definitions alone.
use Rattle.std.specs.Prelude.{List, ℕ}
use Rattle.text.specs.declared.print.rows.ArcRows.{ArcRows}
use Rattle.text.specs.Text.{Arc, arc_at, arcs_of}

-- arc k of the rows
abbrev pub arc_in : ArcRows → ℕ → Arc
arc_in r k = arc_at r.tail.now r.head.now r.lower.now r.upper.now r.weight.now k

-- all of them
abbrev pub arcs_in : ArcRows → List Arc
arcs_in r = arcs_of r.tail.now r.head.now r.lower.now r.upper.now r.weight.now
