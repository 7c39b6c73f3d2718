-- The public rule: arc period, slack, tension, turn, met, working upper bound and width, timetable, feasible, cost, smaller. Definitions alone.
use Rattle.std.specs.Prelude.{◌≡◌, List, Bool, true, cond, ℕ, zero, suc, ◌+◌, ◌*◌, ◌<◌, ℤ, pos, nat_abs, ◌+ℤ◌, ◌-ℤ◌, ◌*ℤ◌, length, ltb}
use Rattle.std.specs.Int.Signed.{le_z}
use Rattle.numbers.specs.Divisor.{gcd}
use Rattle.numbers.specs.Remainder.{remainder, quotient}
use Rattle.network.specs.Network.{Network, events, arcs, period, tail, head, lower, upper, weight}
use Rattle.numbers.specs.Row.{at}

-- arc period g: the greatest common divisor of the periods at the two ends of arc a
unfoldable pub arc_period : Network → ℕ → ℕ
arc_period N a = gcd (period N (tail N a)) (period N (head N a))

-- slack: the remainder by g of (head time less tail time less lower)
abbrev pub slack_by : ℕ → ℤ → ℕ → ℕ → ℕ
slack_by g low from to = remainder ((pos to -ℤ pos from) -ℤ low) g

unfoldable pub slack : Network → List ℕ → ℕ → ℕ
slack N t a = slack_by (arc_period N a) (lower N a) (at t (tail N a)) (at t (head N a))

-- tension: lower plus slack
unfoldable pub tension : Network → List ℕ → ℕ → ℤ
tension N t a = lower N a +ℤ pos (slack N t a)

-- turn: the whole number z with tension equal to head time less tail time plus z times g
abbrev pub turned_by : Network → List ℕ → ℕ → ℤ → ℤ
turned_by N t a z = (pos (at t (head N a)) -ℤ pos (at t (tail N a))) +ℤ (z *ℤ pos (arc_period N a))

pub record Turn (N : Network) (t : List ℕ) (a : ℕ) (z : ℤ) : Type 0 where
  pub is : tension N t a ≡ turned_by N t a z

-- the one number that `Turn` allows, computed: tension less (head time less tail time), over g
abbrev pub turn_by : ℕ → ℤ → ℕ → ℕ → ℤ
turn_by g x from to = quotient (x -ℤ (pos to -ℤ pos from)) g

unfoldable pub turn_of : Network → List ℕ → ℕ → ℤ
turn_of N t a = turn_by (arc_period N a) (tension N t a) (at t (tail N a)) (at t (head N a))

-- met: the tension is at most the upper bound
unfoldable pub met : Network → List ℕ → ℕ → Bool
met N t a = le_z (tension N t a) (upper N a)

-- working upper bound: the lesser of upper and lower plus g less 1
abbrev pub lesser : ℤ → ℤ → ℤ
lesser x y = cond (le_z x y) x y

abbrev pub working_by : ℕ → ℤ → ℤ → ℤ
working_by g low high = lesser high ((low +ℤ pos g) -ℤ pos 1)

unfoldable pub working : Network → ℕ → ℤ
working N a = working_by (arc_period N a) (lower N a) (upper N a)

-- the slack up to which arc a is met: the working upper bound less lower
unfoldable pub width_of : Network → ℕ → ℕ
width_of N a = nat_abs (working N a -ℤ lower N a)

-- what the lower bound of arc a leaves by g
unfoldable pub offset_of : Network → ℕ → ℕ
offset_of N a = remainder (lower N a) (arc_period N a)

-- a time that event v may take: from 0 to its period less 1
unfoldable pub allowed : Network → ℕ → ℕ → Bool
allowed N v x = ltb x (period N v)

-- a timetable gives each event such a time
pub record Timetable (N : Network) (t : List ℕ) : Type 0 where
  pub long : length t ≡ events N
  pub inside : (v : ℕ) → v < events N → allowed N v (at t v) ≡ true

-- it is feasible if every arc is met
pub record Feasible (N : Network) (t : List ℕ) : Type 0 where
  pub timetable : Timetable N t
  pub each-met : (a : ℕ) → a < arcs N → met N t a ≡ true

-- cost: the sum of weight times slack over all arcs
unfoldable pub arc_cost : Network → List ℕ → ℕ → ℕ
arc_cost N t a = weight N a * slack N t a

unfoldable pub cost_to : Network → List ℕ → ℕ → ℕ
cost_to N t zero = 0
cost_to N t (suc m) = cost_to N t m + arc_cost N t m

abbrev pub cost_of : Network → List ℕ → ℕ
cost_of N t = cost_to N t (arcs N)

-- the smaller is the one with the smaller time at the lowest event where they differ
pub record Smaller (t u : List ℕ) : Type 0 where
  pub event : ℕ
  pub same : (v : ℕ) → v < event → at t v ≡ at u v
  pub less : at t event < at u event

-- the smallest feasible timetable
pub record Smallest (N : Network) (t : List ℕ) : Type 0 where
  pub feasible : Feasible N t
  pub least : (u : List ℕ) → Feasible N u → Smaller u t → ⊥
