-- The paper's cases P1 to P11 with the turns of each timetable, the clerks' question, and rules entered twice: one list. A weight that the paper
-- leaves out is 1. Definitions alone.
use Rattle.std.specs.Prelude.{List, [], ◌∷◌, ◌++◌, map, ℕ, ◌+◌, ◌-◌, ℤ, pos, negsuc, length, replicate}
use Rattle.network.specs.Network.{Network, net, events, arcs}
use Rattle.network.specs.Refusals.{answer}
use Rattle.network.specs.Rows.{ArcRows, arc_rows}
use Rattle.cases.specs.Calls.{Outcome, outcome, listed, Call, measure, solve, rebuild}

-- a call, and the outcome that it must have
pub record Case : Type 0 where
  pub call : Call
  pub said : Outcome

-- ---- networks

-- numbers from 0 up as bounds or tensions
abbrev signed : List ℕ → List ℤ
signed l = map pos l

-- network A with these bounds
abbrev A : List ℕ → List ℕ → Network
A l u = net (60 ∷ 60 ∷ 60 ∷ []) (0 ∷ 1 ∷ 2 ∷ []) (1 ∷ 2 ∷ 0 ∷ []) (signed l) (signed u) (3 ∷ 1 ∷ 2 ∷ [])

-- network A as it is
abbrev A₁ : Network
A₁ = A (10 ∷ 20 ∷ 28 ∷ []) (15 ∷ 25 ∷ 30 ∷ [])

-- events of these periods and one arc
abbrev one : List ℕ → ℕ → ℕ → ℕ → ℕ → Network
one periods from to l u = net periods (from ∷ []) (to ∷ []) (pos l ∷ []) (pos u ∷ []) (1 ∷ [])

-- two events of these periods and arcs from 0 to 1
abbrev parallel : List ℕ → List ℤ → List ℤ → Network
parallel periods l u = net periods (replicate (length l) 0) (replicate (length l) 1) l u (replicate (length l) 1)

-- two events of this period, an arc there and an arc back with the same bounds
abbrev there_and_back : ℕ → ℕ → ℕ → Network
there_and_back p l u = net (p ∷ p ∷ []) (0 ∷ 1 ∷ []) (1 ∷ 0 ∷ []) (signed (l ∷ l ∷ [])) (signed (u ∷ u ∷ [])) (1 ∷ 1 ∷ [])

-- an event of period 60 and one of 20, and an arc from -35 to 0
abbrev below_zero : Network
below_zero = net (60 ∷ 20 ∷ []) (0 ∷ []) (1 ∷ []) (negsuc 34 ∷ []) (pos 0 ∷ []) (1 ∷ [])

-- ---- calls; each entry of a lent row that is to be written holds 99, a number that no case writes

-- k such entries
abbrev lent : ℕ → List ℕ
lent k = replicate k 99

-- and for both rows of the arcs
abbrev lent_rows : ℕ → ArcRows
lent_rows k = arc_rows (signed (lent k)) (signed (lent k))

-- measure writes these tensions and turns at this cost
abbrev measures : Network → List ℕ → List ℤ → List ℤ → ℕ → Case
measures N t x z cost = record { call = measure N t (lent_rows (arcs N)); said = outcome t (arc_rows x z) (answer 0 0 cost) }

-- solve writes these times, tensions and turns at this cost, and keeps `spare` entries more of each row
abbrev solves_in : ℕ → Network → List ℕ → List ℕ → List ℕ → ℕ → Case
solves_in spare N t x z cost = record {
  call = solve N (lent (events N + spare)) (lent_rows (arcs N + spare));
  said = outcome (t ++ lent spare) (arc_rows (signed (x ++ lent spare)) (signed (z ++ lent spare))) (answer 0 0 cost);
}

-- the same in rows of exactly n and m entries
abbrev solves : Network → List ℕ → List ℕ → List ℕ → ℕ → Case
solves = solves_in 0

-- solve refuses with this code and place, and keeps the rows
abbrev refuses : Network → ℕ → ℕ → Case
refuses N code place = record {
  call = solve N (lent (events N)) (lent_rows (arcs N));
  said = outcome (lent (events N)) (lent_rows (arcs N)) (answer code place 0);
}

-- solve refuses a row of turns that lacks an entry, and keeps the rows
abbrev turns_short : Network → Case
turns_short N =
    let rows = arc_rows (signed (lent (arcs N))) (signed (lent (arcs N - 1))) in
    record { call = solve N (lent (events N)) rows; said = outcome (lent (events N)) rows (answer 9 0 0) }

-- rebuild from the tensions x writes these times at this cost, and keeps `spare` entries more
abbrev rebuilds_in : ℕ → Network → List ℕ → List ℕ → ℕ → Case
rebuilds_in spare N x t cost = record {
  call = rebuild N (signed x) (lent (events N + spare));
  said = outcome (t ++ lent spare) (listed (signed x)) (answer 0 0 cost);
}

-- the same in a row of exactly n entries
abbrev rebuilds : Network → List ℕ → List ℕ → ℕ → Case
rebuilds = rebuilds_in 0

-- rebuild refuses the tensions x with this code and place, and keeps the row
abbrev rejects : Network → List ℕ → ℕ → ℕ → Case
rejects N x code place = record {
  call = rebuild N (signed x) (lent (events N));
  said = outcome (lent (events N)) (listed (signed x)) (answer code place 0);
}

-- ---- the list, in the paper's order
abbrev pub cases : List Case
cases =
    solves A₁ (0 ∷ 10 ∷ 30 ∷ []) (10 ∷ 20 ∷ 30 ∷ []) (0 ∷ 0 ∷ 1 ∷ []) 4  -- P1
    ∷ solves_in 2 A₁ (0 ∷ 10 ∷ 30 ∷ []) (10 ∷ 20 ∷ 30 ∷ []) (0 ∷ 0 ∷ 1 ∷ []) 4  -- P1 in rows longer than needed
    ∷ turns_short A₁  -- P1 in a row of turns too short
    ∷ measures A₁ (0 ∷ 10 ∷ 30 ∷ []) (signed (10 ∷ 20 ∷ 30 ∷ [])) (signed (0 ∷ 0 ∷ 1 ∷ [])) 4  -- P1's times measured
    ∷ refuses (A (10 ∷ 10 ∷ 10 ∷ []) (12 ∷ 12 ∷ 12 ∷ [])) 10 0  -- P2
    ∷ solves (A (20 ∷ 20 ∷ 20 ∷ []) (20 ∷ 20 ∷ 20 ∷ [])) (0 ∷ 20 ∷ 40 ∷ []) (20 ∷ 20 ∷ 20 ∷ []) (0 ∷ 0 ∷ 1 ∷ []) 0  -- P3
    ∷ refuses (A (19 ∷ 20 ∷ 20 ∷ []) (19 ∷ 20 ∷ 20 ∷ [])) 10 0  -- P3 with arc 0 at [19,19]
    ∷ solves (one (60 ∷ 20 ∷ []) 0 1 25 30) (0 ∷ 5 ∷ []) (25 ∷ []) (1 ∷ []) 0  -- P4
    ∷ solves (one (60 ∷ 20 ∷ []) 1 0 25 30) (0 ∷ 10 ∷ []) (30 ∷ []) (2 ∷ []) 5  -- P5
    ∷ measures (one (60 ∷ 20 ∷ []) 1 0 25 30) (0 ∷ 10 ∷ []) (signed (30 ∷ [])) (signed (2 ∷ [])) 5  -- P5's times measured
    ∷ solves (parallel (60 ∷ 60 ∷ []) (signed (10 ∷ 14 ∷ [])) (signed (15 ∷ 20 ∷ []))) (0 ∷ 14 ∷ []) (14 ∷ 14 ∷ []) (0 ∷ 0 ∷ []) 4  -- P6
    ∷ rebuilds A₁ (12 ∷ 20 ∷ 28 ∷ []) (0 ∷ 12 ∷ 32 ∷ []) 6  -- P7
    ∷ rebuilds_in 2 A₁ (12 ∷ 20 ∷ 28 ∷ []) (0 ∷ 12 ∷ 32 ∷ []) 6  -- P7 in a row longer than needed
    ∷ rejects A₁ (10 ∷ 21 ∷ 30 ∷ []) 13 2  -- P8
    ∷ rejects A₁ (10 ∷ 25 ∷ 25 ∷ []) 12 2  -- P8 from 10, 25, 25
    ∷ rebuilds (one (60 ∷ 60 ∷ 60 ∷ 60 ∷ []) 3 1 5 9) (5 ∷ []) (0 ∷ 0 ∷ 0 ∷ 55 ∷ []) 0  -- P9
    ∷ solves (one (1 ∷ 1 ∷ []) 0 1 7 7) (0 ∷ 0 ∷ []) (7 ∷ []) (7 ∷ []) 0  -- P10
    ∷ solves (one (60 ∷ 60 ∷ []) 0 1 0 59) (0 ∷ 0 ∷ []) (0 ∷ []) (0 ∷ []) 0  -- P11
    ∷ solves (one (60 ∷ 60 ∷ []) 0 1 0 60) (0 ∷ 0 ∷ []) (0 ∷ []) (0 ∷ []) 0  -- P11 with [0,60]
    ∷ measures (one (60 ∷ 60 ∷ []) 0 1 30 30) (50 ∷ 20 ∷ []) (pos 30 ∷ []) (pos 1 ∷ []) 0  -- the clerks' minutes 50 and 20
    ∷ measures below_zero (0 ∷ 5 ∷ []) (negsuc 34 ∷ []) (negsuc 1 ∷ []) 0  -- below zero, by 20
    ∷ refuses (parallel (60 ∷ 60 ∷ []) (negsuc 49 ∷ pos 10 ∷ []) (negsuc 44 ∷ pos 15 ∷ [])) 18 1  -- a rule entered twice, -50 and 10 by 60
    ∷ refuses (parallel (60 ∷ 20 ∷ []) (signed (0 ∷ 20 ∷ [])) (signed (59 ∷ 39 ∷ []))) 18 1  -- both as wide as their period
    ∷ refuses (parallel (60 ∷ 60 ∷ []) (signed (10 ∷ 14 ∷ 14 ∷ 10 ∷ [])) (signed (15 ∷ 20 ∷ 20 ∷ 15 ∷ []))) 18 2  -- a pair inside another
    ∷ rejects (parallel (60 ∷ 20 ∷ []) (signed (5 ∷ 5 ∷ [])) (signed (9 ∷ 9 ∷ []))) (5 ∷ 5 ∷ []) 18 1  -- also where periods differ
    ∷ solves (there_and_back 60 10 50) (0 ∷ 10 ∷ []) (10 ∷ 50 ∷ []) (0 ∷ 1 ∷ []) 40  -- there and back is no repeat
    ∷ []
