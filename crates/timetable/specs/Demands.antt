-- What the contracts are proved to give, in the words of the demands and the requests. Definitions alone.
use Rattle.std.specs.Prelude.{◌≡◌, ◌↔◌, List, ℕ, ◌+◌, ◌<◌, ◌≤◌, ◌^◌, ℤ, nat_abs, take}
use Rattle.numbers.specs.Row.{at, at_ℤ}
use Rattle.network.specs.declared.Answer.{Answer}
use Rattle.network.specs.declared.Filled.{Filled}
use Rattle.network.specs.Network.{Network, net, events, arcs, period}
use Rattle.network.specs.PublicRule.{turned_by, cost_of, Feasible, Smallest}
use Rattle.network.specs.Refusals.{answer}
use Rattle.network.specs.Rows.{written, ArcRows, noted}
use Rattle.walks.specs.Walk.{Closed}
use Rattle.timetable.specs.Rebuild.{graph, Allowed, Stands}

-- ---- demand 2: refused as infeasible exactly if no timetable is feasible, else the smallest comes back

-- the smallest feasible timetable is written, its tensions and turns with it, and its cost is answered
pub record SmallestBack (N : Network) (times : List ℕ) (rows : ArcRows) (times' : List ℕ) (rows' : ArcRows) (r : Answer) : Type 0 where
  pub table : List ℕ
  pub smallest : Smallest N table
  pub times_are : times' ≡ written (at table) (events N) times
  pub rows_are : rows' ≡ noted N table rows
  pub answer_is : r ≡ answer 0 0 (cost_of N table)

pub record Demand2 (N : Network) (times : List ℕ) (rows : ArcRows) (times' : List ℕ) (rows' : ArcRows) (r : Answer) : Type 0 where
  pub exactly : (r.code ≡ 10) ↔ ((t : List ℕ) → Feasible N t → ⊥)
  pub otherwise : (r.code ≡ 10 → ⊥) → SmallestBack N times rows times' rows' r

-- and of measure: the public rule's tensions and turns, and the cost
pub record MeasuredBack (N : Network) (t : List ℕ) (was is : ArcRows) (r : Answer) : Type 0 where
  pub rows_are : is ≡ noted N t was
  pub answer_is : r ≡ answer 0 0 (cost_of N t)

-- ---- demand 3: tensions become a timetable exactly if they fit around every closed walk

-- the timetable comes back, and its cost
pub record Back (N : Network) (x : List ℤ) (times times' : List ℕ) (r : Answer) : Type 0 where
  pub table : List ℕ
  pub stands : Stands N x table
  pub times_are : times' ≡ written (at table) (events N) times
  pub answer_is : r ≡ answer 0 0 (cost_of N table)

pub record Demand3 (N : Network) (x : List ℤ) (times times' : List ℕ) (r : Answer) : Type 0 where
  -- accepted exactly if around every closed walk the sum is a multiple of the period
  pub accepted : (r.code ≡ 0) ↔ Closed (graph N) (at_ℤ x) (period N 0) (arcs N)
  -- what comes back, and that it is the only such timetable
  pub back : r.code ≡ 0 → Back N x times times' r
  pub only : (t u : List ℕ) → Stands N x t → Stands N x u → t ≡ u
  -- otherwise the place is the first arc such that no times give it and those before it their tensions
  pub first : (r.code ≡ 0 → ⊥) → (r.code ≡ 13) × (r.place < arcs N) × Allowed N x r.place × ¬ Allowed N x (r.place + 1)

-- ---- the cost is below 2^34, whatever the answer

pub record SmallCost (r : Answer) : Type 0 where
  pub below : r.cost < 2 ^ 34

-- ---- the turns, of times and of rows that came back: that of arc a is the only number that gives its tension, and within the request's limits

pub record Turned (N : Network) (t : List ℕ) (rows : ArcRows) (a : ℕ) : Type 0 where
  pub gives : at_ℤ rows.tensions a ≡ turned_by N t a (at_ℤ rows.turns a)
  pub only : (z : ℤ) → at_ℤ rows.tensions a ≡ turned_by N t a z → z ≡ at_ℤ rows.turns a
  pub within : nat_abs (at_ℤ rows.turns a) ≤ 14400

-- ---- two texts read again

-- the first n events and m arcs of six rows: what a call filled
abbrev pub cut : ℕ → ℕ → Network → Network
cut n m N = net (take n N.periods) (take m N.tails) (take m N.heads) (take m N.lowers) (take m N.uppers) (take m N.weights)

-- of rows and answers of two readings: the same answer, and equal rows as far as they were filled
pub record ReadsSame (N : Network) (r : Filled) (M : Network) (q : Filled) : Type 0 where
  pub answer_is : q ≡ r
  pub rows_are : cut q.events q.arcs M ≡ cut r.events r.arcs N
