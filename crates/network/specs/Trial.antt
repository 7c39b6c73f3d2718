-- How the table is worked down: the order of the codes, and what the test of a code asks. For inner functions. Definitions alone.
use Rattle.std.specs.Prelude.{◌≡◌, List, [], ◌∷◌, cond, ℕ, ◌≤◌, ◌<◌, nat_abs, ◌≤ℤ◌, length, eqb, leb, slice_index_or}
use Rattle.network.specs.declared.Code.{Code}
use Rattle.network.specs.declared.Code.TheVariants.{EventCount, Period, ArcRows, Ends as EndsCode, Loop, Lower, Upper, Weight, Repeat}
use Rattle.network.specs.Network.{Network, events, arcs, period, tail, head, lower, upper, weight}
use Rattle.network.specs.Refusals.{number}
use Rattle.network.specs.Table.{line}

-- the codes as they are tried, and the one that is tried after k others
abbrev pub order : List Code
order = EventCount ∷ Period ∷ ArcRows ∷ EndsCode ∷ Loop ∷ Lower ∷ Upper ∷ Weight ∷ Repeat ∷ []

abbrev pub code_at : ℕ → Code
code_at k = slice_index_or order k EventCount

-- how many places a code is tried at: each event, once, each arc
unfoldable pub places_of : ℕ → ℕ → ℕ → ℕ
places_of code n m = cond (eqb code 2) n (cond (leb code 3) 1 m)

-- the arc rows are of one length, and not too long
pub record Even (N : Network) : Type 0 where
  pub heads_long : length N.heads ≡ arcs N
  pub lowers_long : length N.lowers ≡ arcs N
  pub uppers_long : length N.uppers ≡ arcs N
  pub weights_long : length N.weights ≡ arcs N
  pub few_arcs : arcs N ≤ 256

-- both ends of arc a are events
pub record Ends (N : Network) (a : ℕ) : Type 0 where
  pub tail_in : tail N a < events N
  pub head_in : head N a < events N

-- what the arc period of arc a asks
pub record AsksPeriod (N : Network) (a : ℕ) : Type 0 where
  pub arc : a < arcs N
  pub heads_long : length N.heads ≡ arcs N
  pub ends : Ends N a

-- from the least to the greatest
pub record Inside (least greatest x : ℕ) : Type 0 where
  pub some : least ≤ x
  pub most : x ≤ greatest

-- what codes 1 to 8 leave: each event and each arc, taken by itself, is in order
pub record Sound (N : Network) : Type 0 where
  pub event_count : Inside 1 64 (events N)
  pub periods : (v : ℕ) → v < events N → Inside 1 3600 (period N v)
  pub even : Even N
  pub ends : (a : ℕ) → a < arcs N → Ends N a
  pub no_loop : (a : ℕ) → a < arcs N → tail N a ≡ head N a → ⊥
  pub lower_small : (a : ℕ) → a < arcs N → nat_abs (lower N a) ≤ 7200
  pub ordered : (a : ℕ) → a < arcs N → lower N a ≤ℤ upper N a
  pub weights : (a : ℕ) → a < arcs N → Inside 0 10000 (weight N a)

-- and one of the arcs
pub record ArcOf (N : Network) (a : ℕ) : Type 0 where
  pub sound : Sound N
  pub arc : a < arcs N

-- the code has a line, and what those before it leave to its test
pub record Asks (N : Network) (further code : ℕ) : Type 0 where
  pub places_are : places_of code (events N) (arcs N) ≡ (line N further code).places
  pub even : 3 < code → Even N
  pub sound : code ≡ 18 → Sound N

-- a test of a code at place i; that of 18 compares two arcs and has a scan of its own
pub record AsksAt (N : Network) (further : ℕ) (code : Code) (i : ℕ) : Type 0 where
  pub asks : Asks N further (number code)
  pub place : i < (line N further (number code)).places
  pub one : code ≡ Repeat → ⊥
