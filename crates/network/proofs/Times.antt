-- Times below their periods: what makes a row a timetable, and that they are small. Assumes nothing.
use mathlib.Core.Path.{◌≡◌}
use mathlib.Core.List.{List}
use mathlib.Core.Bool.{false}
use Prim.Native.Nat.{ℕ, ◌<◌}
use native.Mathlib.Omega.{arith}
use borrow.Author.Tests.{lt-ltb, ltb-true, lt-leb, leb-false}
use lib.ListN.{length}
use Rattle.numbers.specs.Row.{at}
use Rattle.network.specs.Network.{Network, events, period}
use Rattle.network.specs.PublicRule.{allowed, Timetable}
use Rattle.network.specs.Rows.{late}
use Rattle.network.specs.Trial.{Sound}

-- a timetable is a row of n times below their periods, and no other row is
pub in_time : {N : Network} {t : List ℕ} {v : ℕ} → Timetable N t → v < events N → at t v < period N v
unfolding allowed
in_time {N} {t} {v} p h = ltb-true (at t v) (period N v) (p.inside v h)

pub all_in_time : {N : Network} {t : List ℕ} → length t ≡ events N → ((v : ℕ) → v < events N → at t v < period N v) → Timetable N t
unfolding allowed
all_in_time l f = record { long = l; inside = λ v h. lt-ltb _ _ (f v h) }

-- none is late
pub on_time : {N : Network} {t : List ℕ} → length t ≡ events N → ((v : ℕ) → v < events N → late N.periods t v ≡ false) → Timetable N t
on_time {N} {t} l f = all_in_time l (λ v h. leb-false (period N v) (at t v) (f v h))

pub none_late : {N : Network} {t : List ℕ} {v : ℕ} → Timetable N t → v < events N → late N.periods t v ≡ false
none_late p h = lt-leb _ _ (in_time p h)

pub time_small : {N : Network} {t : List ℕ} {v : ℕ} → Sound N → Timetable N t → v < events N → at t v < 3600
time_small {v = v} s p h = omega (arith, in_time p h, (s.periods v h).most)
