-- The calls of the cases and what each may leave by its contract. Definitions alone.
use Rattle.std.specs.Prelude.{◌≡◌, List, [], ℕ, ℤ}
use Rattle.network.specs.declared.Answer.{Answer}
use Rattle.network.specs.Network.{Network}
use Rattle.network.specs.Rows.{ArcRows, arc_rows}
use Rattle.timetable.specs.Measure.{Measured}
use Rattle.timetable.specs.Solve.{Solved}
use Rattle.timetable.specs.Rebuild.{Rebuilt}

-- the row of times and those of the arcs after a call, and its answer
pub record Outcome : Type 0 where
  pub times : List ℕ
  pub rows : ArcRows
  pub reply : Answer

-- the outcome of these three
abbrev pub outcome : List ℕ → ArcRows → Answer → Outcome
outcome t rows r = record { times = t; rows = rows; reply = r }

-- the tensions alone: rebuild is lent no turns
abbrev pub listed : List ℤ → ArcRows
listed x = arc_rows x []

-- a call, with the network and the rows lent to it
pub data Call : Type 0 where
  measure : Network → List ℕ → ArcRows → Call
  solve : Network → List ℕ → ArcRows → Call
  rebuild : Network → List ℤ → List ℕ → Call

-- an outcome that the contract of the call allows; measure only reads the times, and rebuild the tensions
abbrev pub Meets : Call → Outcome → Type 0
Meets (measure N t rows) o = Measured N t rows o.rows o.reply × (o.times ≡ t)
Meets (solve N times rows) o = Solved N times rows o.times o.rows o.reply
Meets (rebuild N x times) o = Rebuilt N x times o.times o.reply × (o.rows ≡ listed x)
