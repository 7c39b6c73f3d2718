-- A row of marks, one for each time of an event, and the steps that make and read it; and the row of the events to blame for the marks. Definitions alone.
use Rattle.std.specs.Prelude.{◌≡◌, List, Bool, true, false, ◌||◌, Option, Some, None, ℕ, ◌+◌, ◌*◌, ◌<◌, ◌≤◌, length, get_or, leb, unwrap_or}
use Rattle.numbers.specs.Row.{at}
use Rattle.search.specs.declared.Bar.{Bar}
use Rattle.search.specs.Reduced.{Reduced, arcs_in, near_in, last_in, past, met_at}

-- entry x of a row of marks
abbrev pub mark : List Bool → ℕ → Bool
mark row x = get_or row x false

-- where a step that marks says that none of its marks is new, the row is as it was
pub record Told (row row' : List Bool) (fresh : Bool) : Type 0 where
  pub known : fresh ≡ false → (z : ℕ) → mark row' z ≡ mark row z

-- ---- one run

-- the places from x up to below y are marked, as far as the row goes, and the others are as they were
pub record RunMarked (x y : ℕ) (row row' : List Bool) (fresh : Bool) : Type 0 where
  pub inside : (z : ℕ) → z < length row → x ≤ z → z < y → mark row' z ≡ true
  pub before : (z : ℕ) → z < x → mark row' z ≡ mark row z
  pub behind : (z : ℕ) → y ≤ z → mark row' z ≡ mark row z
  pub told : Told row row' fresh

-- its loop over the places of the run, before place i of them
pub record RunTurn (run run' : List Bool) (fresh : Bool) (i : ℕ) : Type 0 where
  pub long : length run' ≡ length run
  pub marked : (z : ℕ) → z < i → mark run' z ≡ true
  pub ahead : (z : ℕ) → i ≤ z → mark run' z ≡ mark run z
  pub told : Told run run' fresh

-- ---- a run in each lap

pub record RunsAsk (gap start run : ℕ) (row : List Bool) : Type 0 where
  pub start_most : start < gap
  pub run_most : run < gap
  pub gap_most : gap ≤ 3600
  pub few : length row ≤ 3600

-- the places that are not past their run are marked, and the others are as they were
pub record RunsMarked (gap start run : ℕ) (row row' : List Bool) (fresh : Bool) : Type 0 where
  pub marked : (z : ℕ) → z < length row → past gap start 0 z < run → mark row' z ≡ true
  pub clear : (z : ℕ) → z < length row → run ≤ past gap start 0 z → mark row' z ≡ mark row z
  pub told : Told row row' fresh

-- the loop, before the run that begins at place x: those from `start` on are marked
pub record RunsTurn (gap start run : ℕ) (row row' : List Bool) (fresh : Bool) (x : ℕ) : Type 0 where
  pub long : length row' ≡ length row
  pub laps : ℕ
  pub begins : x ≡ start + laps * gap
  pub marked : (z : ℕ) → z < length row → start ≤ z → z < x → past gap start 0 z < run → mark row' z ≡ true
  pub clear : (z : ℕ) → z < x → run ≤ past gap start 0 z → mark row' z ≡ mark row z
  pub before : (z : ℕ) → z < start → mark row' z ≡ mark row z
  pub behind : (z : ℕ) → x ≤ z → mark row' z ≡ mark row z
  pub told : Told row row' fresh

-- ---- the times that one arc rules out at its later end

-- the arc of these numbers is met with time x at its later end: x is past the whole run
abbrev pub met_by : Bar → List ℕ → ℕ → Bool
met_by b t x = leb b.run (past b.gap b.shift (at t b.near) x)

pub record ArcAsks (b : Bar) (t : List ℕ) (row : List Bool) : Type 0 where
  pub near_is : b.near < length t
  pub time : at t b.near ≤ 3600
  pub shift_most : b.shift < b.gap
  pub run_most : b.run < b.gap
  pub gap_most : b.gap ≤ 3600
  pub few : length row ≤ 3600

-- those at which the arc is not met are marked, and the others are as they were
pub record ArcMarked (b : Bar) (t : List ℕ) (row row' : List Bool) (fresh : Bool) : Type 0 where
  pub marked : (x : ℕ) → x < length row → met_by b t x ≡ false → mark row' x ≡ true
  pub clear : (x : ℕ) → x < length row → met_by b t x ≡ true → mark row' x ≡ mark row x
  pub told : Told row row' fresh

-- ---- the events that are blamed, in a row with a place for each of 64

-- no blame is lost
pub record Grown (B B' : List Bool) : Type 0 where
  pub each : (i : ℕ) → i < 64 → mark B i ≡ true → mark B' i ≡ true

-- those of the first row are blamed, and those of the second
pub record Joined (B D B' : List Bool) : Type 0 where
  pub each : (i : ℕ) → i < 64 → mark B' i ≡ (mark B i || mark D i)

-- its loop, before event i
pub record Joining (B D B' : List Bool) (i : ℕ) : Type 0 where
  pub long : length B' ≡ length B
  pub joined : (j : ℕ) → j < i → mark B' j ≡ (mark B j || mark D j)
  pub ahead : (j : ℕ) → i ≤ j → mark B' j ≡ mark B j

-- ---- the times that the arcs between event k and earlier ones rule out

pub record EventAsks (R : Reduced) (t : List ℕ) (k : ℕ) (row : List Bool) : Type 0 where
  pub event : k < length R.periods
  pub long : length t ≡ length R.periods
  pub times : (i : ℕ) → i < k → at t i ≤ 3600
  pub few : length row ≤ 3600
  pub empty : (x : ℕ) → x < length row → mark row x ≡ false

-- an arc that rules out time x at event k, and whose earlier end is blamed
pub record Ruled (R : Reduced) (t : List ℕ) (k : ℕ) (B : List Bool) (x : ℕ) : Type 0 where
  pub arc : ℕ
  pub below : arc < arcs_in R
  pub ends : last_in R.bars arc ≡ k
  pub unmet : met_at R.bars t arc x ≡ false
  pub blamed : mark B (near_in R.bars arc) ≡ true

-- a mark has such an arc, and where there is none the arcs of event k below c are met
pub record EventMarked (R : Reduced) (c : ℕ) (t : List ℕ) (k : ℕ) (row B : List Bool) : Type 0 where
  pub marked : (x : ℕ) → x < length row → mark row x ≡ true → Ruled R t k B x
  pub clear : (x : ℕ) → x < length row → mark row x ≡ false → (a : ℕ) → a < c → last_in R.bars a ≡ k → met_at R.bars t a x ≡ true

-- of all arcs
abbrev pub AllMarked : Reduced → List ℕ → ℕ → List Bool → List Bool → Type 0
AllMarked R t k row B = EventMarked R (arcs_in R) t k row B

-- the arcs that are passed where this one is next
abbrev pub passed : Reduced → Option ℕ → ℕ
passed R next = unwrap_or next (arcs_in R)

-- the loop, before the next arc of event k, if there is one
pub record EventTurn (R : Reduced) (t : List ℕ) (k : ℕ) (row row' B : List Bool) (next : Option ℕ) : Type 0 where
  pub long : length row' ≡ length row
  pub room : length B ≡ 64
  pub here : (a : ℕ) → next ≡ Some a → (a < arcs_in R) × (last_in R.bars a ≡ k)
  pub marks : EventMarked R (passed R next) t k row' B

-- ---- the walk along the row

-- r is the first place from x on without a mark
pub record FreeAt (row : List Bool) (x r : ℕ) : Type 0 where
  pub least : x ≤ r
  pub below : r < length row
  pub passed : (y : ℕ) → x ≤ y → y < r → mark row y ≡ true
  pub free : mark row r ≡ false

-- that place, or that there is none
abbrev pub FirstFree : List Bool → ℕ → Option ℕ → Type 0
FirstFree row x (Some r) = FreeAt row x r
FirstFree row x None = (y : ℕ) → x ≤ y → y < length row → mark row y ≡ true

-- where none of the places is free, all are marked
pub record SomeFree (places : List Bool) (r : Bool) : Type 0 where
  pub none : r ≡ false → (y : ℕ) → y < length places → mark places y ≡ true

-- its loop, before place i
pub record Freeing (places : List Bool) (free : Bool) (i : ℕ) : Type 0 where
  pub none : free ≡ false → (y : ℕ) → y < i → mark places y ≡ true

-- the walk before place y
pub record Walk (row : List Bool) (x y : ℕ) : Type 0 where
  pub least : x ≤ y
  pub most : y ≤ length row
  pub passed : (z : ℕ) → x ≤ z → z < y → mark row z ≡ true
