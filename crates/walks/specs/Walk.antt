-- Walks along the arcs of a graph, and what they add up to. The graph stands apart from the rows of numbers along it. Definitions alone.
use Rattle.std.specs.Prelude.{◌≡◌, List, [], ◌∷◌, ℕ, ◌<◌, ℤ, pos, neg_ℤ, ◌+ℤ◌}
use Rattle.numbers.specs.Remainder.{Cong}
use Rattle.numbers.specs.Row.{at}

-- arc a goes from event `tail a` to event `head a`
pub record Graph : Type 0 where
  pub tail : ℕ → ℕ
  pub head : ℕ → ℕ

-- the graph of a row of tails and a row of heads
abbrev pub graph_of : List ℕ → List ℕ → Graph
graph_of tails heads = record { tail = at tails; head = at heads }

-- the arcs below k run between events below n
pub record Between (G : Graph) (n k : ℕ) : Type 0 where
  pub tail : (a : ℕ) → a < k → G.tail a < n
  pub head : (a : ℕ) → a < k → G.head a < n

-- an arc, taken forwards or backwards
pub data Step : Type 0 where
  ahead : ℕ → Step
  back : ℕ → Step

-- the arc that a step takes
abbrev pub arc : Step → ℕ
arc (ahead a) = a
arc (back a) = a

-- the event where a step starts
abbrev pub start : Graph → Step → ℕ
start G (ahead a) = G.tail a
start G (back a) = G.head a

-- the event where a step ends
abbrev pub stop : Graph → Step → ℕ
stop G (ahead a) = G.head a
stop G (back a) = G.tail a

-- the steps lead from i to j along arcs below k, each starting where the one before ended
abbrev pub Goes : Graph → ℕ → List Step → ℕ → ℕ → Type 0
Goes G k [] i j = i ≡ j
Goes G k (s ∷ w) i j = (arc s < k) × (start G s ≡ i) × Goes G k w (stop G s) j

-- a walk from i to j along arcs below k
pub record Walk (G : Graph) (k i j : ℕ) : Type 0 where
  pub steps : List Step
  pub goes : Goes G k steps i j

-- a walk that ends where it began; the empty one is one
abbrev pub ClosedWalk : Graph → ℕ → ℕ → Type 0
ClosedWalk G k i = Walk G k i i

-- what a step adds: an arc's entry of f forwards, less its entry of b backwards
abbrev pub gain : (ℕ → ℤ) → (ℕ → ℤ) → Step → ℤ
gain f b (ahead a) = f a
gain f b (back a) = neg_ℤ (b a)

-- the sum along a walk
abbrev pub walk_sum : (ℕ → ℤ) → (ℕ → ℤ) → List Step → ℤ
walk_sum f b [] = pos 0
walk_sum f b (s ∷ w) = gain f b s +ℤ walk_sum f b w

-- around every closed walk along arcs below k the tensions add up to a multiple of the period T
pub record Closed (G : Graph) (te : ℕ → ℤ) (T k : ℕ) : Type 0 where
  pub multiple : (i : ℕ) (w : ClosedWalk G k i) → Cong T (walk_sum te te w.steps) (pos 0)
