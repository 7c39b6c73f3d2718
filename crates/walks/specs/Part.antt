-- The connected parts of a graph. Definitions alone.
use Rattle.std.specs.Prelude.{ℕ, ◌≤◌, ◌<◌}
use Rattle.walks.specs.Walk.{Graph, Walk}

-- i and j are in one part: a walk along arcs below k joins them, directions ignored
pub record Joined (G : Graph) (k i j : ℕ) : Type 0 where
  pub walk : Walk G k i j

-- of the events below n, none in the part of v comes before v
pub record Lowest (G : Graph) (n k v : ℕ) : Type 0 where
  pub least : (u : ℕ) → u < n → Joined G k u v → v ≤ u
