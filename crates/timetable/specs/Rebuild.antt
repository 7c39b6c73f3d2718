-- What rebuild answers and writes. Definitions alone.
use Rattle.std.specs.Prelude.{◌≡◌, List, [], ◌∷◌, ◌++◌, false, ℕ, ◌+◌, ◌<◌, ℤ, length, ltb}
use Rattle.numbers.specs.Row.{at, at_ℤ}
use Rattle.network.specs.declared.Answer.{Answer}
use Rattle.network.specs.Network.{Network, events, arcs, period}
use Rattle.network.specs.PublicRule.{tension, cost_of, Timetable}
use Rattle.network.specs.Refusals.{Refusal, answer, once, each, answer_of}
use Rattle.network.specs.Table.{refusals_with, WellFormed}
use Rattle.network.specs.Rows.{other, astray, written}
use Rattle.walks.specs.Walk.{Graph, graph_of}
use Rattle.walks.specs.Part.{Lowest}
use Rattle.walks.specs.Times.{Consistent}

-- after the network's own, in which the tension row counts as an arc row: times too short, a period that differs from event 0's, a tension outside
-- its arc's working bounds
unfoldable pub rebuild_refusals : Network → List ℤ → List ℕ → List Refusal
rebuild_refusals N x times =
    once 9 (ltb (length times) (events N))
    ∷ each 11 (events N) (other N.periods)
    ∷ each 12 (arcs N) (astray N x)
    ∷ []

-- the first refusal; code 0 where there is none
unfoldable pub rebuild_judged : Network → List ℤ → List ℕ → Answer
rebuild_judged N x times = answer_of (refusals_with N (length x) ++ rebuild_refusals N x times) 0

-- the arcs without their numbers
abbrev pub graph : Network → Graph
graph N = graph_of N.tails N.heads

-- whole numbers as times give the arcs below k the listed tensions by the common period
abbrev pub Allowed : Network → List ℤ → ℕ → Type 0
Allowed N x k = Consistent (graph N) (at_ℤ x) (period N 0) k

-- a sheet: a well-formed network of one period, and each listed tension within its arc's working bounds
pub record Sheet (N : Network) (x : List ℤ) : Type 0 where
  pub well : WellFormed N
  pub long : length x ≡ arcs N
  pub one_period : (v : ℕ) → v < events N → period N v ≡ period N 0
  pub within : (a : ℕ) → a < arcs N → astray N x a ≡ false

-- a timetable with the listed tensions, in which the lowest event of each part stands at 0
pub record Stands (N : Network) (x : List ℤ) (t : List ℕ) : Type 0 where
  pub timetable : Timetable N t
  pub tensions : (a : ℕ) → a < arcs N → tension N t a ≡ at_ℤ x a
  pub anchor : (v : ℕ) → v < events N → Lowest (graph N) (events N) (arcs N) v → at t v ≡ 0

-- then, of the row of times at entry and at exit and the answer: arc k is the first that no times allow, or the timetable is written
pub data Restored (N : Network) (x : List ℤ) (times times' : List ℕ) (r : Answer) : Type 0 where
  impossible : (k : ℕ) → k < arcs N → Allowed N x k → ¬ Allowed N x (k + 1) → times' ≡ times → r ≡ answer 13 k 0 → Restored N x times times' r
  restored : (t : List ℕ) → Stands N x t → times' ≡ written (at t) (events N) times → r ≡ answer 0 0 (cost_of N t) → Restored N x times times' r

pub data Rebuilt (N : Network) (x : List ℤ) (times times' : List ℕ) (r : Answer) : Type 0 where
  refused : (r.code ≡ 0 → ⊥) → r ≡ rebuild_judged N x times → times' ≡ times → Rebuilt N x times times' r
  judged : (rebuild_judged N x times).code ≡ 0 → Restored N x times times' r → Rebuilt N x times times' r
