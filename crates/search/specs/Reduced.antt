-- A network in unsigned numbers, worked out once before the search. Each arc is seen from its later end, the one with the greater number: in each
-- lap of the arc's period (gap) it bars one run of times there, which begins a shift after the time at its earlier end. Definitions alone.
use Rattle.std.specs.Prelude.{◌≡◌, List, Bool, true, cond, ℕ, ◌-◌, ◌<◌, ◌≤◌, min, max, ℤ, pos, ◌-ℤ◌, length, get_or, leb, ltb}
use Rattle.numbers.specs.Divisor.{gcd}
use Rattle.network.specs.Network.{Network, tail, head, lower}
use Rattle.numbers.specs.Row.{at}
use Rattle.network.specs.PublicRule.{arc_period, slack_by, working, width_of}
use Rattle.search.specs.declared.Bar.{Bar}

-- an arc's five numbers: its earlier end, its later end, the shift, the length of the run, the gap
abbrev pub bar : ℕ → ℕ → ℕ → ℕ → ℕ → Bar
bar n l s r g = record { near = n; last = l; shift = s; run = r; gap = g }

-- of arc a of a row; zeros past its end
abbrev pub bar_at : List Bar → ℕ → Bar
bar_at bars a = get_or bars a (bar 0 0 0 0 0)

abbrev pub near_in : List Bar → ℕ → ℕ
near_in bars a = (bar_at bars a).near

abbrev pub last_in : List Bar → ℕ → ℕ
last_in bars a = (bar_at bars a).last

abbrev pub shift_in : List Bar → ℕ → ℕ
shift_in bars a = (bar_at bars a).shift

abbrev pub run_in : List Bar → ℕ → ℕ
run_in bars a = (bar_at bars a).run

abbrev pub gap_in : List Bar → ℕ → ℕ
gap_in bars a = (bar_at bars a).gap

-- how far a time is past the beginning of the last run before it
abbrev pub past : ℕ → ℕ → ℕ → ℕ → ℕ
past gap shift from to = slack_by gap (pos shift) from to

-- arc a is met with time x at its later end: x is past the whole run
unfoldable pub met_at : List Bar → List ℕ → ℕ → ℕ → Bool
met_at bars t a x = leb (run_in bars a) (past (gap_in bars a) (shift_in bars a) (at t (near_in bars a)) x)

abbrev pub met_in : List Bar → List ℕ → ℕ → Bool
met_in bars t a = met_at bars t a (at t (last_in bars a))

pub record Reduced : Type 0 where
  pub periods : List ℕ
  pub bars : List Bar

abbrev pub reduced : List ℕ → List Bar → Reduced
reduced p b = record { periods = p; bars = b }

abbrev pub arcs_in : Reduced → ℕ
arcs_in R = length R.bars

abbrev pub events_in : Reduced → ℕ
events_in R = length R.periods

abbrev pub period_in : Reduced → ℕ → ℕ
period_in R v = at R.periods v

-- a time below its period for each event, and every arc met
pub record Fitting (R : Reduced) (t : List ℕ) : Type 0 where
  pub long : length t ≡ events_in R
  pub inside : (v : ℕ) → v < events_in R → at t v < period_in R v
  pub met : (a : ℕ) → a < arcs_in R → met_in R.bars t a ≡ true

-- arcs between n events that the search can work on: 256 of a network, and one more for each two of 64 events
pub record Barred (n : ℕ) (bars : List Bar) : Type 0 where
  pub few_arcs : length bars ≤ 2272
  pub near_is : (a : ℕ) → a < length bars → near_in bars a < last_in bars a
  pub last_is : (a : ℕ) → a < length bars → last_in bars a < n
  pub shift_most : (a : ℕ) → a < length bars → shift_in bars a < gap_in bars a
  pub run_most : (a : ℕ) → a < length bars → run_in bars a < gap_in bars a
  pub gap_most : (a : ℕ) → a < length bars → gap_in bars a ≤ 3600

pub record Sized (R : Reduced) : Type 0 where
  pub few : events_in R ≤ 64
  pub period_most : (v : ℕ) → v < events_in R → period_in R v ≤ 3600
  pub barred : Barred (events_in R) R.bars
  pub gap_is : (a : ℕ) → a < arcs_in R → gap_in R.bars a ≡ gcd (period_in R (near_in R.bars a)) (period_in R (last_in R.bars a))

-- the ends of arc a in the order of their numbers
abbrev pub near_of : Network → ℕ → ℕ
near_of N a = min (tail N a) (head N a)

abbrev pub last_of : Network → ℕ → ℕ
last_of N a = max (tail N a) (head N a)

-- the last time that arc a leaves at its later end, less the time at its earlier end, is the working upper bound where that end is its tail, and less
-- the lower bound where it is its head; here with the other sign
abbrev pub edge_of : Network → ℕ → ℤ
edge_of N a = cond (ltb (tail N a) (head N a)) (pos 0 -ℤ working N a) (lower N a)

-- one tick later the run begins, by the arc's period; of the times of a lap it leaves one more than the arc's width
abbrev pub shift_of : Network → ℕ → ℕ
shift_of N a = slack_by (arc_period N a) (edge_of N a) 0 1

abbrev pub run_of : Network → ℕ → ℕ
run_of N a = (arc_period N a - 1) - width_of N a

-- the five numbers of arc a
unfoldable pub bar_of : Network → ℕ → Bar
bar_of N a = bar (near_of N a) (last_of N a) (shift_of N a) (run_of N a) (arc_period N a)
