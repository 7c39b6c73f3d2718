-- The table of spans: for events i and j, at place 64 i + j, a span that holds the time of j less the time of i in every fitting timetable. Definitions
-- alone.
use Rattle.std.specs.Prelude.{◌≡◌, ◌⊎◌, List, ℕ, ◌+◌, ◌*◌, ◌<◌, ◌≤◌, length, get_or}
use Rattle.std.proofs.Common.{lit<, lit≤}
use Rattle.numbers.specs.Divisor.{gcd}
use Rattle.numbers.specs.Row.{at}
use Rattle.search.specs.Reduced.{Reduced, events_in, period_in, Fitting}
use Rattle.closure.specs.declared.span.Span.{Span}
use Rattle.closure.specs.declared.table.TheConstants.{EVENTS, PLACES}
use Rattle.closure.specs.Spans.{Within}

-- the span that stands past the end of a table: it holds every difference
abbrev pub whole : Span
whole = record { low = 0; width = 0; gap = 1; shape = record { gap_most = lit≤ tt; low_below = lit< tt; width_below = lit< tt } }

-- the place of two events
abbrev pub spot : ℕ → ℕ → ℕ
spot i j = EVENTS * i + j

-- the span that stands there
abbrev pub span_at : List Span → ℕ → ℕ → Span
span_at T i j = get_or T (spot i j) whole

-- the times u keep to every span
pub record Keeps (periods : List ℕ) (T : List Span) (u : List ℕ) : Type 0 where
  pub each : (i j : ℕ) → i < length periods → j < length periods → Within (span_at T i j) (at u i) (at u j)

-- the table of a network, with a place for each two events: each gap is the greatest common divisor of its two periods, and every fitting timetable keeps
-- to the table
pub record Spanned (R : Reduced) (T : List Span) : Type 0 where
  pub long : length T ≡ PLACES
  pub gap_is : (i j : ℕ) → i < events_in R → j < events_in R → (span_at T i j).gap ≡ gcd (period_in R i) (period_in R j)
  pub keeps : (u : List ℕ) → Fitting R u → Keeps R.periods T u

-- ---- a table as it is opened: each span holds every difference

-- periods that a table can be made for
pub record Periodic (periods : List ℕ) : Type 0 where
  pub few : length periods ≤ EVENTS
  pub some : (v : ℕ) → v < length periods → 0 < at periods v
  pub most : (v : ℕ) → v < length periods → at periods v ≤ 3600

-- what the opening of a table asks: such periods, and a row with a place for each two events
pub record OpenAsks (periods : List ℕ) (T : List Span) : Type 0 where
  pub periodic : Periodic periods
  pub long : length T ≡ PLACES

-- two events whose gap stands already where j is the earlier
pub record GapAsks (periods : List ℕ) (T : List Span) (i j : ℕ) : Type 0 where
  pub few : length periods ≤ EVENTS
  pub first : i < length periods
  pub second : j < length periods
  pub long : length T ≡ PLACES
  pub known : j < i → (span_at T j i).gap ≡ gcd (at periods j) (at periods i)

-- a span of i and j that is as wide as can be
pub record Wide (periods : List ℕ) (i j : ℕ) (s : Span) : Type 0 where
  pub gap_is : s.gap ≡ gcd (at periods i) (at periods j)
  pub low_is : s.low ≡ 0
  pub width_is : s.width + 1 ≡ s.gap

-- a row in which the spans of the events before i, and of i and the first j, are as wide as can be
pub record Widening (periods : List ℕ) (T : List Span) (i j : ℕ) : Type 0 where
  pub long : length T ≡ PLACES
  pub wide : (x y : ℕ) → x < length periods → y < length periods → (x < i) ⊎ ((x ≡ i) × (y < j)) → Wide periods x y (span_at T x y)

-- what giving event i its spans asks: those of the events before it are given
pub record WidenAsks (periods : List ℕ) (T : List Span) (i : ℕ) : Type 0 where
  pub periodic : Periodic periods
  pub event : i < length periods
  pub before : Widening periods T i 0

-- at the end: a table that any times keep to
pub record Opened (periods : List ℕ) (T : List Span) : Type 0 where
  pub all : (u : List ℕ) → Keeps periods T u
