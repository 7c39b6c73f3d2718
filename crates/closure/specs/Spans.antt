-- Spans with their numbers: the ends exchanged, and what two of them leave. Definitions alone.
use Rattle.std.specs.Prelude.{◌≡◌, Option, Some, None, ℕ, ◌≤◌, pos}
use Rattle.network.specs.PublicRule.{slack_by}
use Rattle.closure.specs.Shapes.{turned_of}
use Rattle.closure.specs.declared.span.Span.{Span}

-- the time `to` less the time `from` lies in the span: its slack over the lower bound is at most the width
pub record Within (s : Span) (from to : ℕ) : Type 0 where
  pub most : slack_by s.gap (pos s.low) from to ≤ s.width

-- t is s with its two ends exchanged
pub record Turned (s t : Span) : Type 0 where
  pub low_is : t.low ≡ turned_of s.gap s.low s.width
  pub width_is : t.width ≡ s.width
  pub gap_is : t.gap ≡ s.gap

-- s holds what both a and b hold
pub record Left (a b s : Span) : Type 0 where
  pub gap_is : s.gap ≡ a.gap
  pub keeps : (from to : ℕ) → Within a from to → Within b from to → Within s from to

-- what two spans leave: none where they hold no difference in common
abbrev pub Cut : Span → Span → Option Span → Type 0
Cut a b None = (from to : ℕ) → Within a from to → Within b from to → ⊥
Cut a b (Some s) = Left a b s
