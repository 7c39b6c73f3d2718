-- The longer network: the spans of the table as arcs, and the network's own, sorted by their earlier end. Definitions alone.
use Rattle.std.specs.Prelude.{◌≡◌, List, Option, Some, None, true, cond, ℕ, zero, suc, ◌+◌, ◌<◌, ◌≤◌, length, take, leb, ltb}
use Rattle.numbers.specs.Divisor.{gcd}
use Rattle.numbers.specs.Row.{at}
use Rattle.network.specs.Network.{Network}
use Rattle.network.specs.PublicRule.{Feasible}
use Rattle.search.specs.Reduced.{Reduced, reduced, arcs_in, events_in, period_in, bar_at, near_in, past, Fitting, Sized}
use Rattle.search.specs.Lent.{lent}
use Rattle.search.specs.Looked.{Serves}
use Rattle.search.specs.declared.Bar.{Bar}
use Rattle.closure.specs.declared.Closed.{Closed}
use Rattle.closure.specs.declared.TheConstants.{ROOM}
use Rattle.closure.specs.declared.longer.TheConstants.{PAIRS, ARCS}
use Rattle.closure.specs.declared.table.Table.{Table}
use Rattle.closure.specs.Steps.{events_of, arcs_of}

-- an arc between two events of the network that every fitting timetable meets
pub record ImpliedArc (R : Reduced) (b : Bar) : Type 0 where
  pub near_is : b.near < b.last
  pub last_is : b.last < events_in R
  pub shift_most : b.shift < b.gap
  pub run_most : b.run < b.gap
  pub gap_most : b.gap ≤ 3600
  pub gap_is : b.gap ≡ gcd (period_in R b.near) (period_in R b.last)
  pub met : (u : List ℕ) → Fitting R u → leb b.run (past b.gap b.shift (at u b.near) (at u b.last)) ≡ true

-- arc a of the row `own` stands among the first c arcs of the row `bars`
pub record Stands (own bars : List Bar) (c a : ℕ) : Type 0 where
  pub place : ℕ
  pub inside : place < c
  pub same : bar_at bars place ≡ bar_at own a

-- ---- the longer network as it grows, event by event

-- a row with room for the spans of all pairs and 256 arcs more. Its first c arcs are implied; among them stand the network's own arcs whose earlier end is
-- below i, and of its first x arcs those whose earlier end is i
pub record Grown (R : Reduced) (bars : List Bar) (i x c : ℕ) : Type 0 where
  pub long : length bars ≡ ROOM
  pub each : (b : ℕ) → b < c → ImpliedArc R (bar_at bars b)
  pub earlier : (a : ℕ) → a < arcs_in R → near_in R.bars a < i → Stands R.bars bars c a
  pub present : (a : ℕ) → a < x → near_in R.bars a ≡ i → Stands R.bars bars c a

-- with room for the spans that are still to come, where `own` of the arcs are the network's own
pub record Grows (R : Reduced) (bars : List Bar) (i own c : ℕ) : Type 0 where
  pub grown : Grown R bars i 0 c
  pub few : c ≤ PAIRS + own

-- what the appending of the spans of event i and later ones asks
pub record RowAsks (T : Table) (bars : List Bar) (i own c : ℕ) : Type 0 where
  pub event : i < events_of T
  pub own_few : own ≤ ARCS
  pub grows : Grows (lent T.network) bars i own c

-- what the appending of that of i and j asks
pub record PairAsks (T : Table) (bars : List Bar) (i j own c : ℕ) : Type 0 where
  pub row : RowAsks T bars i own c
  pub order : i < j
  pub second : j < events_of T

-- how many of the first x arcs of a row have an earlier end below i
unfoldable pub below : List Bar → ℕ → ℕ → ℕ
below bars i zero = 0
below bars i (suc x) = below bars i x + cond (ltb (near_in bars x) i) 1 0

-- what the appending of the network's own arcs of event i asks: room for as many as there are
pub record OwnAsks (R : Reduced) (bars : List Bar) (i c : ℕ) : Type 0 where
  pub grown : Grown R bars i 0 c
  pub room : c + below R.bars (i + 1) (arcs_in R) ≤ ROOM + below R.bars i (arcs_in R)

-- what it leaves: they stand there, and d arcs in all
pub record Picked (R : Reduced) (bars : List Bar) (i c d : ℕ) : Type 0 where
  pub grown : Grown R bars (i + 1) 0 d
  pub count : d + below R.bars i (arcs_in R) ≡ c + below R.bars (i + 1) (arcs_in R)

-- what the appending of all arcs asks
pub record AppendAsks (T : Table) (bars : List Bar) : Type 0 where
  pub own_few : arcs_of T ≤ ARCS
  pub long : length bars ≡ ROOM

-- the whole longer network: c arcs, and the network's own among them
pub record Whole (R : Reduced) (bars : List Bar) (c : ℕ) : Type 0 where
  pub grown : Grown R bars (events_in R) 0 c
  pub few : c ≤ PAIRS + arcs_in R

-- it is one for the search, with the same fitting timetables
pub record Longer (R R' : Reduced) : Type 0 where
  pub sized : Sized R'
  pub fits : (u : List ℕ) → Fitting R u → Fitting R' u
  pub back : (u : List ℕ) → Fitting R' u → Fitting R u

-- the answer of the closure: none where nothing is feasible; else the row begins with the arcs of a network that serves the search, and it took a round at least
abbrev pub Lengthened : Network → List Bar → Option Closed → Type 0
Lengthened N long None = (u : List ℕ) → Feasible N u → ⊥
Lengthened N long (Some c) = (c.arcs ≤ length long) × Serves N (reduced N.periods (take c.arcs long)) × (0 < c.rounds)
