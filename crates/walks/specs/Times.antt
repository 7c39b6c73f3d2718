-- Times that give arcs their tensions by the period T, and the timetable that is anchored at each part's lowest event. Definitions alone.
use Rattle.std.specs.Prelude.{◌≡◌, ℕ, ◌<◌, ℤ, pos, ◌-ℤ◌}
use Rattle.numbers.specs.Remainder.{Cong}
use Rattle.walks.specs.Walk.{Graph}
use Rattle.walks.specs.Part.{Lowest}

-- the times at the ends of arc a are its tension apart, but for a multiple of T
pub record Fits (G : Graph) (te : ℕ → ℤ) (T : ℕ) (π : ℕ → ℤ) (a : ℕ) : Type 0 where
  pub apart : Cong T (te a) (π (G.head a) -ℤ π (G.tail a))

-- whole numbers as times give the arcs below k their tensions
pub record Consistent (G : Graph) (te : ℕ → ℤ) (T k : ℕ) : Type 0 where
  pub time : ℕ → ℤ
  pub fits : (a : ℕ) → a < k → Fits G te T time a

-- times below T that give the arcs below k their tensions, with 0 at the lowest event of each part
pub record Anchored (G : Graph) (te : ℕ → ℤ) (T n k : ℕ) (π : ℕ → ℕ) : Type 0 where
  pub under : (v : ℕ) → v < n → π v < T
  pub fits : (a : ℕ) → a < k → Fits G te T (λ v. pos (π v)) a
  pub anchor : (v : ℕ) → v < n → Lowest G n k v → π v ≡ 0
