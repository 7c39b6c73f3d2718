-- What the steps of the search ask and say. Definitions alone.
use Rattle.std.specs.Prelude.{◌≡◌, List, Bool, true, false, Option, ℕ, ◌+◌, ◌<◌, ◌≤◌, length, set, unwrap_or}
use Rattle.numbers.specs.Row.{at}
use Rattle.network.specs.PublicRule.{Smaller}
use Rattle.search.specs.Reduced.{Reduced, arcs_in, events_in, period_in, last_in, met_in, Fitting}
use Rattle.search.specs.Marks.{mark, Grown, Ruled}

-- the same times at the first k events
pub record Agree (k : ℕ) (t u : List ℕ) : Type 0 where
  pub each : (i : ℕ) → i < k → at t i ≡ at u i

-- the first k times are below their periods and meet every arc between them
pub record Partial (R : Reduced) (t : List ℕ) (k : ℕ) : Type 0 where
  pub inside : (i : ℕ) → i < k → at t i < period_in R i
  pub met : (a : ℕ) → a < arcs_in R → last_in R.bars a < k → met_in R.bars t a ≡ true

-- the same times at those of the first k events that are blamed
pub record AgreeOn (B : List Bool) (k : ℕ) (t u : List ℕ) : Type 0 where
  pub each : (i : ℕ) → i < k → mark B i ≡ true → at t i ≡ at u i

-- no feasible timetable has the times of t at those
pub record BlockedOn (R : Reduced) (t : List ℕ) (B : List Bool) (k : ℕ) : Type 0 where
  pub never : (u : List ℕ) → Fitting R u → AgreeOn B k t u → ⊥

-- what the search asks at event k
pub record Ready (R : Reduced) (t : List ℕ) (k : ℕ) : Type 0 where
  pub long : length t ≡ events_in R
  pub most : k ≤ events_in R
  pub before : Partial R t k

-- u is feasible, and the smallest of those that have the first k times of t
pub record LeastFrom (R : Reduced) (t : List ℕ) (k : ℕ) (u : List ℕ) : Type 0 where
  pub feasible : Fitting R u
  pub least : (v : List ℕ) → Fitting R v → Agree k t v → Smaller v u → ⊥

-- what the search at event k makes of the row t; where it fails it blames the events B for it
pub record Placed (R : Reduced) (t : List ℕ) (k : ℕ) (u : List ℕ) (B : List Bool) (r : Bool) : Type 0 where
  pub kept : Agree k t u
  pub found : r ≡ true → LeastFrom R t k u
  pub none_left : r ≡ false → BlockedOn R t B k

-- no feasible timetable with the times of t at the blamed ones of the first k events has a time from x up to below y at event k
pub record NoneIn (R : Reduced) (t : List ℕ) (B : List Bool) (k x y : ℕ) : Type 0 where
  pub never : (v : List ℕ) → Fitting R v → AgreeOn B k t v → x ≤ at v k → at v k < y → ⊥

-- before times from x on are tried at event k: the row u has the first k times of t, and those of the blamed ones leave no time below x there
pub record Turn (R : Reduced) (t : List ℕ) (k : ℕ) (u : List ℕ) (B : List Bool) (x : ℕ) : Type 0 where
  pub long : length u ≡ length t
  pub same : Agree k t u
  pub none_in : NoneIn R t B k 0 x

-- the same, where the blame has grown from that of the marks
pub record Trying (R : Reduced) (t : List ℕ) (k : ℕ) (B : List Bool) (u : List ℕ) (B' : List Bool) (x : ℕ) : Type 0 where
  pub turn : Turn R t k u B' x
  pub grown : Grown B B'
  pub within : x ≤ period_in R k

-- what the finder finds beside the first k times of t: r is the next possible time of event k from x on, each one before it ruled out by an arc to a
-- blamed event; or r is the period
pub record Next (R : Reduced) (t : List ℕ) (k : ℕ) (B : List Bool) (x r : ℕ) : Type 0 where
  pub least : x ≤ r
  pub most : r ≤ period_in R k
  pub passed : (y : ℕ) → x ≤ y → y < r → Ruled R t k B y
  pub fit : r < period_in R k → Partial R (set t k r) (k + 1)

-- the time that the walk gives, or the period where it gives none
abbrev pub reached : Reduced → ℕ → Option ℕ → ℕ
reached R k o = unwrap_or o (period_in R k)
