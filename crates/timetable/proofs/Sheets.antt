-- A sheet of tensions, one period and every tension within its arc's working bounds: the timetable that the walks give is the one of the public rule. Assumes nothing.
use mathlib.Core.Path.{◌≡◌, sym, ap, ◌∙◌}
use mathlib.Core.List.{List}
use mathlib.Core.Logic.{◌↔◌}
use Prim.Native.Nat.{ℕ, ◌+◌, ◌≤◌, ◌<◌}
use native.Mathlib.Nat.{le_antisymm}
use native.Mathlib.Decide.{dec_lt}
use native.Mathlib.Omega.{arith}
use lib.IntN.{ℤ, pos, ◌+ℤ◌, ◌-ℤ◌}
use lib.Signed.{◌<ℤ◌}
use lib.ListN.{length}
use lib.Seq.{ext_get_or}
use Rattle.numbers.specs.Divisor.{gcd}
use Rattle.numbers.specs.Remainder.{Cong}
use Rattle.numbers.specs.Row.{at, at_ℤ}
use Rattle.numbers.proofs.Divisors.{gcd-same}
use Rattle.network.specs.Network.{Network, events, arcs, period, tail, head, lower}
use Rattle.network.specs.PublicRule.{arc_period, slack_by, slack, tension, working}
use Rattle.network.specs.Trial.{Sound}
use Rattle.network.proofs.Sound.{sound, inside_ℤ}
use Rattle.network.proofs.Times.{in_time, all_in_time}
use Rattle.network.proofs.Width.{narrow}
use Rattle.walks.specs.Walk.{Between}
use Rattle.walks.specs.Times.{Anchored}
use Rattle.walks.specs.Place.{Given}
use Rattle.walks.proofs.Walks.{fewer_consistent}
use Rattle.walks.proofs.Theorems.{unique}
use Rattle.walks.proofs.Bounds.{tension_is}
use Rattle.timetable.specs.Rebuild.{graph, Allowed, Sheet, Stands}

module _ {N : Network} {x : List ℤ} (s : Sheet N x) where
  pub has : Sound N
  has = sound N s.well

  -- the common period, and that of each arc
  pub common : (0 < period N 0) × (period N 0 ≤ 3600)
  common =
      let p = has.periods 0 has.event_count.some in
      (p.some, p.most)

  one_gap : (a : ℕ) → a < arcs N → arc_period N a ≡ period N 0
  unfolding arc_period
  one_gap a h =
      (λ j. gcd (s.one_period (tail N a) (has.ends a h).tail_in j) (s.one_period (head N a) (has.ends a h).head_in j))
      ∙ gcd-same (period N 0)

  below : (a : ℕ) → a < arcs N → (working N a -ℤ lower N a) <ℤ pos (period N 0)
  below a h = rw (sym (one_gap a h)) (narrow N a has h).below

  -- the public rule gives arc a the listed tension exactly if the times are that far apart by the period
  rule : (t : List ℕ) (a : ℕ) → a < arcs N → (tension N t a ≡ at_ℤ x a) ↔ Cong (period N 0) (at_ℤ x a) (pos (at t (head N a)) -ℤ pos (at t (tail N a)))
  unfolding tension slack
  rule t a h =
      let i = inside_ℤ (at_ℤ x a) (s.within a h) in
      let p = tension_is (at t (tail N a)) (at t (head N a)) common.0 (below a h) i.0 i.1 in
      let e = ap (λ (g : ℕ). lower N a +ℤ pos (slack_by g (lower N a) (at t (tail N a)) (at t (head N a)))) (one_gap a h) in
      (λ q. p.0 (sym e ∙ q), λ c. e ∙ p.1 c)

  pub between : Between (graph N) (events N) (arcs N)
  between = record { tail = λ a h. (has.ends a h).tail_in; head = λ a h. (has.ends a h).head_in }

  pub given : {n : ℕ} → n ≡ events N → Given N.tails N.heads x (period N 0) n
  given e = record {
    events = omega (arith, e, has.event_count.most);
    heads_long = has.even.heads_long;
    tensions_long = s.long;
    positive = common.0;
    most = common.1;
    ends = record { tail = λ a h. omega (arith, e, between.tail a h); head = λ a h. omega (arith, e, between.head a h) };
  }

  pub stands : {t : List ℕ} → length t ≡ events N → Anchored (graph N) (at_ℤ x) (period N 0) (events N) (arcs N) (at t) → Stands N x t
  stands {t} l A = record {
    timetable = all_in_time l (λ v h. omega (arith, A.under v h, s.one_period v h));
    tensions = λ a h. (rule t a h).1 (A.fits a h).apart;
    anchor = A.anchor;
  }

  pub anchored : {t : List ℕ} → Stands N x t → Anchored (graph N) (at_ℤ x) (period N 0) (events N) (arcs N) (at t)
  anchored {t} S = record {
    under = λ v h. omega (arith, in_time S.timetable h, s.one_period v h);
    fits = λ a h. record { apart = (rule t a h).0 (S.tensions a h) };
    anchor = S.anchor;
  }

  -- a timetable with the listed tensions shows that whole numbers as times give them, and there is one
  pub stands_allowed : {t : List ℕ} → Stands N x t → (k : ℕ) → k ≤ arcs N → Allowed N x k
  stands_allowed {t} S k h = record { time = λ v. pos (at t v); fits = λ a l. (anchored S).fits a (omega arith) }

  pub stands_one : {t u : List ℕ} → Stands N x t → Stands N x u → t ≡ u
  stands_one {t} {u} S U =
      let l = S.timetable.long in
      ext_get_or 0 t u (l ∙ sym U.timetable.long) (λ v h. unique common.0 between (anchored S) (anchored U) v (omega (arith, l)))

-- there is one first arc that no times allow
pub first_one : (N : Network) (x : List ℤ) {k l : ℕ} → Allowed N x k → ¬ Allowed N x (k + 1) → Allowed N x l → ¬ Allowed N x (l + 1) → k ≡ l
first_one N x {k} {l} c n d m = le_antisymm (most k l c m) (most l k d n)
  where
    most : (k l : ℕ) → Allowed N x k → ¬ Allowed N x (l + 1) → k ≤ l
    most k l c m = go (dec_lt l k)
      where
        go : Dec (l < k) → k ≤ l
        go (yes h) = absurd (m (fewer_consistent (l + 1) (omega arith) c))
        go (no h) = omega arith
