-- What is shown of the closure to whoever measures it. Definitions alone.
use Rattle.std.specs.Prelude.{◌≡◌, List, [], ◌∷◌, ℕ, ◌*◌, length, take}
use Rattle.network.specs.Network.{Network}
use Rattle.network.specs.PublicRule.{Feasible}
use Rattle.search.specs.declared.Bar.{Bar}
use Rattle.search.specs.Looked.{Serves}
use Rattle.search.specs.Reduced.{reduced}
use Rattle.gauge.specs.declared.Gauge.{Gauge}

-- a code, how many rounds, and how many arcs
abbrev pub gauge : ℕ → ℕ → ℕ → Gauge
gauge c r m = record { code = c; rounds = r; arcs = m }

-- the five numbers of each arc, side by side
abbrev pub numbers : List Bar → List ℕ
numbers [] = []
numbers (b ∷ bs) = b.near ∷ b.last ∷ b.shift ∷ b.run ∷ b.gap ∷ numbers bs

-- the row begins with the five numbers of each arc of a network that serves the search, and these are its arcs
pub record Longer (N : Network) (row : List ℕ) (arcs : ℕ) : Type 0 where
  pub bars : List Bar
  pub count : arcs ≡ length bars
  pub begins : take (5 * arcs) row ≡ numbers bars
  pub serves : Serves N (reduced N.periods bars)

-- under code 0 there are 0 rounds where nothing is feasible; else the row begins with the longer network
pub record Shows (N : Network) (row : List ℕ) (r : Gauge) : Type 0 where
  pub none : r.code ≡ 0 → r.rounds ≡ 0 → (u : List ℕ) → Feasible N u → ⊥
  pub some : r.code ≡ 0 → (r.rounds ≡ 0 → ⊥) → Longer N row r.arcs
