-- What is known after k arcs: for each event a label, the lowest event of its part, and its time after that event. Definitions alone.
use Rattle.std.specs.Prelude.{◌≡◌, List, get_or, ℕ, ◌≤◌, ◌<◌, ℤ, pos, ◌+ℤ◌}
use Rattle.numbers.specs.Remainder.{Cong}
use Rattle.walks.specs.Walk.{Graph, Walk, walk_sum}
use Rattle.walks.specs.Times.{Fits}
use Rattle.walks.specs.declared.Mark.{Mark}

-- the mark of event v, of a row of marks
abbrev pub mark_of : List Mark → ℕ → Mark
mark_of marks v = get_or marks v (record { label = 0; time = 0 })

-- the labels of the events
abbrev pub labels : List Mark → ℕ → ℕ
labels marks v = (mark_of marks v).label

-- the times of the events
abbrev pub times : List Mark → ℕ → ℕ
times marks v = (mark_of marks v).time

-- a walk from i to j along arcs below k adds up to z, but for a multiple of T
pub record Reach (G : Graph) (te : ℕ → ℤ) (T k i j : ℕ) (z : ℤ) : Type 0 where
  pub walk : Walk G k i j
  pub sum : Cong T (walk_sum te te walk.steps) z

-- the labels and times of the events below n are right for the arcs below k
pub record Labelled (G : Graph) (te : ℕ → ℤ) (T n k : ℕ) (label time : ℕ → ℕ) : Type 0 where
  -- the label is no later event, and where it is the event itself the time is 0
  pub low : (v : ℕ) → v < n → label v ≤ v
  pub base : (v : ℕ) → v < n → label v ≡ v → time v ≡ 0
  pub under : (v : ℕ) → v < n → time v < T
  -- a walk from the label adds up to the time
  pub reach : (v : ℕ) → v < n → Reach G te T k (label v) v (pos (time v))
  -- each arc joins two events of one label, and has its tension
  pub level : (a : ℕ) → a < k → label (G.tail a) ≡ label (G.head a)
  pub fits : (a : ℕ) → a < k → Fits G te T (λ v. pos (time v)) a

-- of the events below n, those labelled hi get the label lo and times that are s later by T; the others keep both
pub record Shifted (T n hi lo : ℕ) (s : ℤ) (label time label' time' : ℕ → ℕ) : Type 0 where
  pub moved_label : (v : ℕ) → v < n → label v ≡ hi → label' v ≡ lo
  pub moved_under : (v : ℕ) → v < n → label v ≡ hi → time' v < T
  pub moved_time : (v : ℕ) → v < n → label v ≡ hi → Cong T (pos (time' v)) (pos (time v) +ℤ s)
  pub kept_label : (v : ℕ) → v < n → ¬ (label v ≡ hi) → label' v ≡ label v
  pub kept_time : (v : ℕ) → v < n → ¬ (label v ≡ hi) → time' v ≡ time v
