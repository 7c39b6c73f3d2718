-- The search as antt computes it: event by event, lowest number first, each time in turn. Definitions alone.
use mathlib.Core.List.{List}
use mathlib.Core.Option.{Option, some, none}
use mathlib.Core.Bool.{Bool, true, false, not, ◌&&◌}
use Prim.Native.Nat.{ℕ, zero, suc, ◌+◌}
use lib.Dec.{eqb}
use lib.ListN.{set, replicate}
use Rattle.network.specs.Network.{Network, events, arcs}
use Rattle.network.specs.First.{first}
use Rattle.network.specs.Rows.{written}
use Rattle.search.specs.Reduced.{bar, Reduced, reduced, arcs_in, period_in, last_in, met_in, bar_of}

-- a row of n zeros
abbrev pub zeros : ℕ → List ℕ
zeros n = replicate n 0

-- the network in unsigned numbers, its arcs written over zeros
unfoldable pub reduced_for : Network → Reduced
reduced_for N = reduced N.periods (written (bar_of N) (arcs N) (replicate (arcs N) (bar 0 0 0 0 0)))

-- arc a stands in the way of the time at event k: k is its later end, and it is not met
unfoldable pub hinders : Reduced → List ℕ → ℕ → ℕ → Bool
hinders R t k a = eqb (last_in R.bars a) k && not (met_in R.bars t a)

-- the time at event k fits those before it: no arc stands in its way
unfoldable pub fits : Reduced → List ℕ → ℕ → Bool
fits R t k = eqb (first (hinders R t k) (arcs_in R)) (arcs_in R)

-- c attempts, at the times from x on: the first row that one of them gives
unfoldable pub tries : (ℕ → Option (List ℕ)) → ℕ → ℕ → Option (List ℕ)
tries attempt zero x = none
tries attempt (suc c) x = elim (attempt x) [ some u ↦ some u | none ↦ tries attempt c (x + 1) ]

-- the row t with f events placed, from event k on; the number of unplaced events falls
unfoldable pub find : Reduced → ℕ → ℕ → List ℕ → Option (List ℕ)
find R zero k t = some t
find R (suc f) k t = tries (λ x. elim (fits R (set t k x) k) [ true ↦ find R f (k + 1) (set t k x) | false ↦ none ]) (period_in R k) 0

-- the smallest feasible timetable of a well-formed network, or none
unfoldable pub smallest_of : Network → Option (List ℕ)
smallest_of N = find (reduced_for N) (events N) 0 (zeros (events N))
