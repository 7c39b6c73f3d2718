-- The numbers of a span. It holds the difference of two times, by a gap: from a lower bound on, as far as a width. Definitions alone.
use Rattle.std.specs.Prelude.{ℕ, ◌+◌, ◌*◌, ◌-◌, ◌%◌, ◌<◌, ◌≤◌}

-- the numbers of a span that holds some difference
pub record Shape (gap low width : ℕ) : Type 0 where
  pub gap_most : gap ≤ 3600
  pub low_below : low < gap
  pub width_below : width < gap

-- the lower bound of a span with its two ends exchanged: less its greatest difference
abbrev pub turned_of : ℕ → ℕ → ℕ → ℕ
turned_of gap low width = (2 * gap - (low + width)) % gap

-- how far a lower bound is behind another
abbrev pub behind_of : ℕ → ℕ → ℕ → ℕ
behind_of gap low other = (other + gap - low) % gap
