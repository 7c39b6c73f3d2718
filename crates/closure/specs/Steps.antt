-- Steps of the closure: what each asks of a table, and what it says. Definitions alone.
use Rattle.std.specs.Prelude.{◌≡◌, ⊤, List, Option, Some, None, IsSome, ℕ, ◌<◌, set}
use Rattle.numbers.specs.Row.{at}
use Rattle.search.specs.Lent.{lent}
use Rattle.search.specs.Reduced.{arcs_in, events_in, Fitting}
use Rattle.closure.specs.declared.span.Span.{Span}
use Rattle.closure.specs.declared.table.Change.{Change}
use Rattle.closure.specs.declared.table.Table.{Table}
use Rattle.closure.specs.Spans.{Within, Turned, Left}
use Rattle.closure.specs.Tables.{spot, span_at, Keeps}

-- how many events the network of a table has
abbrev pub events_of : Table → ℕ
events_of T = events_in (lent T.network)

-- and how many arcs
abbrev pub arcs_of : Table → ℕ
arcs_of T = arcs_in (lent T.network)

-- the span of two events
abbrev pub span_of : Table → ℕ → ℕ → Span
span_of T i j = span_at T.spans.now i j

-- what a narrowing asks: two events, and another span by their gap, which holds their difference in every fitting timetable
pub record NarrowAsks (T : Table) (i j : ℕ) (by : Span) : Type 0 where
  pub first : i < events_of T
  pub second : j < events_of T
  pub gap_is : by.gap ≡ (span_of T i j).gap
  pub holds : (u : List ℕ) → Fitting (lent T.network) u → Within by (at u i) (at u j)

-- what a step leaves: a table for the same network; and where a timetable fits, its answer is some
pub record Step {A : Type 0} (T T' : Table) (r : Option A) : Type 0 where
  pub network : T'.network ≡ T.network
  pub some : (u : List ℕ) → Fitting (lent T.network) u → IsSome r

-- and no times that keep to the table are lost, whether they fit the arcs or not; where its answer is none, there are no such times
pub record Tighter {A : Type 0} (T T' : Table) (r : Option A) : Type 0 where
  pub keeps : (u : List ℕ) → Keeps T.network.periods.now T.spans.now u → IsSome r × Keeps T.network.periods.now T'.spans.now u

-- a span written for i and j, less wide than theirs, which holds what theirs and another hold in common; and the same with its ends exchanged for j and i. No
-- other span changes
pub record Written (T T' : Table) (i j : ℕ) (by : Span) : Type 0 where
  pub span : Span
  pub back : Span
  pub narrower : span.width < (span_of T i j).width
  pub left : Left (span_of T i j) by span
  pub turned : Turned span back
  pub spans : T'.spans.now ≡ set (set T.spans.now (spot i j) span) (spot j i) back

-- what a narrowing leaves, by its answer: none, the two spans hold no difference in common, and the table stays; the same, it stays; else the span is written
abbrev pub Narrowed : Table → Table → ℕ → ℕ → Span → Option Change → Type 0
Narrowed T T' i j by None = (T'.spans.now ≡ T.spans.now) × ((from to : ℕ) → Within (span_of T i j) from to → Within by from to → ⊥)
Narrowed T T' i j by (Some Change.Same) = T'.spans.now ≡ T.spans.now
Narrowed T T' i j by (Some Change.Narrower) = Written T T' i j by

-- how many rounds it took: at least one, where its answer is some
abbrev pub Counted : Option ℕ → Type 0
Counted None = ⊤
Counted (Some rounds) = 0 < rounds
