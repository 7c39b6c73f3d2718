-- Tensions are consistent exactly if they close, and there is one anchored timetable.
-- Assumes nothing.
use mathlib.Core.Path.{◌≡◌, sym, ◌∙◌}
use mathlib.Core.Logic.{◌↔◌}
use mathlib.Core.List.{List}
use Prim.Native.Nat.{ℕ, ◌+◌, ◌<◌}
use native.Mathlib.Nat.{lt_of_le_of_lt}
use native.Mathlib.Omega.{arith}
use lib.IntN.{ℤ, pos}
use Rattle.numbers.proofs.Integers.{zed, of_sub}
use Rattle.numbers.proofs.Congruence.{cong_eq, cong_sym, cong_trans}
use Rattle.numbers.proofs.Remainders.{below-same}
use Rattle.walks.specs.Walk.{Graph, Between, Closed}
use Rattle.walks.specs.Times.{Consistent, Anchored}
use Rattle.walks.specs.Label.{Labelled}
use Rattle.walks.proofs.Model.{Out, timetable, refused, answer}
use Rattle.walks.proofs.Walks.{fewer_closed, rises, closed}
use Rattle.walks.proofs.Labels.{consistent, level_walk}
use Rattle.walks.proofs.Models.{Found, Right, answer_right}

-- ---- labels and times for tensions that close

labels : {G : Graph} {te : ℕ → ℤ} {T n k : ℕ} → 0 < T → Between G n k → Closed G te T k → (row : List ℕ) × Found G te T n k row
labels {G} {te} {T} {n} {k} h E c = go (answer G te T n k) (answer_right G te T n k h E)
  where
    go : (o : Out) → Right G te T n k o → (row : List ℕ) × Found G te T n k row
    go (timetable row) r = (row, r)
    go (refused j) r = absurd (r.not_closed (fewer_closed (j + 1) (omega (arith, r.inside)) c))

-- ---- consistent exactly if closed

pub exactly : {G : Graph} {te : ℕ → ℤ} {T n k : ℕ} → 0 < T → Between G n k → Consistent G te T k ↔ Closed G te T k
exactly h E = (closed, λ c. consistent (labels h E c).1.labelled)

-- ---- the anchored timetable

module _ {G : Graph} {te : ℕ → ℤ} {T n k : ℕ} {label time : ℕ → ℕ} (L : Labelled G te T n k label time) {π : ℕ → ℕ} (A : Anchored G te T n k π) where
  -- the label is the lowest event of its part
  root_zero : (v : ℕ) → v < n → π (label v) ≡ 0
  root_zero v h =
      A.anchor (label v) (lt_of_le_of_lt (L.low v h) h)
      (record { least = λ u l w. omega (arith, level_walk L w.walk, level_walk L (L.reach v h).walk, L.low u l) })

  -- and the walk from there adds up to the time
  time_is : (v : ℕ) → v < n → π v ≡ time v
  time_is v h =
      below-same (A.under v h) (L.under v h)
      (cong_sym
      (cong_trans (rises G te T k (λ u. pos (π u)) A.fits (L.reach v h))
      (cong_eq T (omega (arith, zed, of_sub (pos (π v)) (pos (π (label v))), root_zero v h)))))

pub unique : {G : Graph} {te : ℕ → ℤ} {T n k : ℕ} {π ψ : ℕ → ℕ} → 0 < T → Between G n k → Anchored G te T n k π → Anchored G te T n k ψ → (v : ℕ) → v < n → π v ≡ ψ v
unique {π = π} h E A B v l =
    let L = (labels h E (closed (record { time = λ u. pos (π u); fits = A.fits }))).1.labelled in
    time_is L A v l ∙ sym (time_is L B v l)
