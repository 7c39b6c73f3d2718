-- What inner functions ask of a well-formed network with a row of times, and what they say. Definitions alone.
use Rattle.std.specs.Prelude.{◌≡◌, List, false, ℕ, ◌≤◌, ◌<◌, ℤ, nat_abs, ◌-ℤ◌, ◌≤ℤ◌, length}
use Rattle.network.specs.Network.{Network, events}
use Rattle.network.specs.PublicRule.{Timetable, cost_of}
use Rattle.network.specs.Table.{WellFormed}
use Rattle.network.specs.Rows.{ArcRows, short_for, noted}

-- bounds in order, less than the longest period apart
pub record Span (low high : ℤ) : Type 0 where
  pub ordered : low ≤ℤ high
  pub small : nat_abs (high -ℤ low) < 3600

-- a period, a bound and two times so small that what is worked out of them fits 32 bits
pub record Turning (g : ℕ) (low : ℤ) (from to : ℕ) : Type 0 where
  pub some : 0 < g
  pub lower_small : nat_abs low ≤ 7200
  pub from_small : from < 3600
  pub to_small : to < 3600

-- a time for each event
pub record Timed (N : Network) (t : List ℕ) : Type 0 where
  pub well : WellFormed N
  pub long : length t ≡ events N

-- a timetable, and rows with an entry for each arc
pub record Room (N : Network) (t : List ℕ) (rows : ArcRows) : Type 0 where
  pub well : WellFormed N
  pub timetable : Timetable N t
  pub room : short_for N rows ≡ false

-- each arc's tension and turn are written, and the cost is known
pub record Noted (N : Network) (t : List ℕ) (was is : ArcRows) (sum : ℕ) : Type 0 where
  pub rows : is ≡ noted N t was
  pub cost : sum ≡ cost_of N t
