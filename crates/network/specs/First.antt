-- The first place where a test says yes. Definitions alone.
use Rattle.std.specs.Prelude.{◌≡◌, Bool, true, false, cond, Option, Some, None, ℕ, zero, suc, ◌≤◌, ◌<◌}

-- the first place from i on, of k places
abbrev pub from : (ℕ → Bool) → ℕ → ℕ → ℕ
from test zero i = i
from test (suc k) i = cond (test i) i (from test k (suc i))

-- the first place below n where the test says yes, or n where there is none
unfoldable pub first : (ℕ → Bool) → ℕ → ℕ
first test n = from test n 0

-- what a scan finds: k is that place
pub record First (test : ℕ → Bool) (n k : ℕ) : Type 0 where
  pub within : k ≤ n
  pub before : (j : ℕ) → j < k → test j ≡ false
  pub found : k < n → test k ≡ true

-- what a scan gives: that place, or none
abbrev pub FirstOf : (ℕ → Bool) → ℕ → Option ℕ → Type 0
FirstOf test n (Some k) = (k < n) × First test n k
FirstOf test n None = First test n n
