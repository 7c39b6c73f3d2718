-- What is read from and written to a lent row. Definitions alone.
use Rattle.std.specs.Prelude.{List, Bool, not, ◌||◌, ℕ, zero, suc, length, set, ℤ, leb, ltb}
use Rattle.std.specs.Borrow.{MutBor}
use denote.Triple.Both.{Both}
use Rattle.network.specs.Network.{Network, arcs, lower}
use Rattle.numbers.specs.Row.{at, at_ℤ}
use Rattle.network.specs.PublicRule.{tension, turn_of, met, working}
use Rattle.network.specs.Table.{outside_ℤ, differ}

-- a time is not below its period
abbrev pub late : List ℕ → List ℕ → ℕ → Bool
late periods t v = leb (at periods v) (at t v)

-- a period differs from event 0's
abbrev pub other : List ℕ → ℕ → Bool
other periods v = differ (at periods v) (at periods 0)

-- a listed tension is outside its arc's bounds, the upper being the working one
abbrev pub astray : Network → List ℤ → ℕ → Bool
astray N x a = outside_ℤ (lower N a) (working N a) (at_ℤ x a)

-- an arc is not met
abbrev pub unmet : Network → List ℕ → ℕ → Bool
unmet N t a = not (met N t a)

-- entry k is f k below m, the old entry beyond
unfoldable pub written : {A : Type 0} → (ℕ → A) → ℕ → List A → List A
written f zero row = row
written f (suc k) row = set (written f k row) k (f k)

-- the two rows that a call writes with an entry for each arc
pub record ArcRows : Type 0 where
  pub tensions : List ℤ
  pub turns : List ℤ

-- of two rows, and of two lent rows
abbrev pub arc_rows : List ℤ → List ℤ → ArcRows
arc_rows x z = record { tensions = x; turns = z }

abbrev pub arc_rows_of : MutBor (List ℤ) → MutBor (List ℤ) → ArcRows
arc_rows_of x z = arc_rows x.now z.now

-- of two parameters of a call: as they are lent, and as the call leaves them
abbrev pub arc_rows_at : {A B : Type 0} → Both (MutBor (List ℤ)) A → Both (MutBor (List ℤ)) B → ArcRows
arc_rows_at x z = arc_rows_of x.entry z.entry

abbrev pub arc_rows_left : {A B : Type 0} → Both A (MutBor (List ℤ)) → Both B (MutBor (List ℤ)) → ArcRows
arc_rows_left x z = arc_rows_of x.exit z.exit

-- of tensions and turns of these lengths, one has too few entries for m arcs
unfoldable pub short : ℕ → ℕ → ℕ → Bool
short tensions turns m = ltb tensions m || ltb turns m

abbrev pub short_for : Network → ArcRows → Bool
short_for N rows = short (length rows.tensions) (length rows.turns) (arcs N)

-- each arc's tension and turn at these times are written
unfoldable pub noted : Network → List ℕ → ArcRows → ArcRows
noted N t rows = arc_rows (written (tension N t) (arcs N) rows.tensions) (written (turn_of N t) (arcs N) rows.turns)
