-- The turn of an arc: the only whole number that its equation allows, and a small one. Assumes nothing.
use mathlib.Core.Path.{◌≡◌, sym, ap, ◌∙◌}
use mathlib.Core.List.{List}
use Prim.Native.Nat.{ℕ, ◌*◌, ◌≤◌, ◌<◌}
use native.Mathlib.Omega.{arith}
use lib.IntN.{ℤ, pos, nat_abs, ◌+ℤ◌, ◌-ℤ◌, ◌*ℤ◌}
use Rattle.numbers.proofs.Integers.{eq_ℤ, abs_ℤ, of_eq, of_sum, of_sub, of_abs, up_times, dn_times}
use Rattle.numbers.proofs.Quotients.{times_one, quotient_left, quotient_only, quotient_small}
use Rattle.numbers.specs.Remainder.{quotient}
use Rattle.numbers.specs.Row.{at}
use Rattle.network.specs.Network.{Network, arcs, tail, head, lower}
use Rattle.network.specs.PublicRule.{arc_period, slack_by, slack, tension, turned_by, Turn, turn_by, turn_of, Timetable}
use Rattle.network.specs.Inner.{Turning}
use Rattle.network.specs.Trial.{Sound}
use Rattle.network.proofs.Sound.{arc-period}
use Rattle.network.proofs.Times.{time_small}
use Rattle.network.proofs.Arcs.{Worked}

-- ---- of a period, a lower bound and two times

module _ (g : ℕ) (l : ℤ) (from to : ℕ) where
  -- head time less tail time, and less lower
  abbrev apart : ℤ
  apart = pos to -ℤ pos from

  abbrev beyond : ℤ
  beyond = apart -ℤ l

  -- as often as g goes into what is beyond lower, with the other sign
  abbrev pub turns : ℤ
  turns = pos 0 -ℤ quotient beyond g

  -- the tension
  abbrev x : ℤ
  x = l +ℤ pos (slack_by g l from to)

  -- the slack is what the quotient leaves
  pub turned : 0 < g → x ≡ apart +ℤ (turns *ℤ pos g)
  turned h =
      let q : ℤ = quotient beyond g in
      let s : ℕ = slack_by g l from to in
      eq_ℤ x (apart +ℤ (turns *ℤ pos g))
      (omega (
        arith,
        of_eq beyond (pos s +ℤ (q *ℤ pos g)) (quotient_left beyond g h),
        of_sub apart l,
        of_sum (pos s) (q *ℤ pos g),
        up_times q g,
        dn_times q g,
        of_sum l (pos s),
        of_sum apart (turns *ℤ pos g),
        up_times turns g,
        dn_times turns g,
        ap (λ (n : ℕ). n * g) (of_sub (pos 0) q),
      ))

  pub turn_by_is : 0 < g → turns ≡ turn_by g x from to
  turn_by_is h =
      quotient_only
      (record {
        left = 0;
        below = h;
        apart = eq_ℤ (x -ℤ apart) (pos 0 +ℤ (turns *ℤ pos g))
            (omega (arith, of_eq x (apart +ℤ (turns *ℤ pos g)) (turned h), of_sub x apart, of_sum apart (turns *ℤ pos g), of_sum (pos 0) (turns *ℤ pos g)));
      })

  pub turns_small : Turning g l from to → nat_abs turns ≤ 10799
  turns_small h =
      let q : ℤ = quotient beyond g in
      let d : nat_abs beyond ≤ 10799 = abs_ℤ beyond (omega (arith, of_sub apart l, of_sub (pos to) (pos from), of_abs l, h.lower_small, h.from_small, h.to_small)) in
      abs_ℤ turns (omega (arith, d, quotient_small beyond g, of_abs q, of_sub (pos 0) q))

-- ---- of an arc

turn_one : {N : Network} {t : List ℕ} {a : ℕ} {y z : ℤ} → 0 < arc_period N a → Turn N t a y → Turn N t a z → y ≡ z
turn_one {N} {t} {a} {y} {z} h p q =
    let g : ℕ = arc_period N a in
    let d : ℤ = pos (at t (head N a)) -ℤ pos (at t (tail N a)) in
    times_one h
    (eq_ℤ (y *ℤ pos g) (z *ℤ pos g) (omega (arith, of_eq _ _ (sym p.is ∙ q.is), of_sum d (y *ℤ pos g), of_sum d (z *ℤ pos g))))

-- what a timetable's times are small enough for
pub turning : {N : Network} {t : List ℕ} {a : ℕ} → Sound N → Timetable N t → a < arcs N → Turning (arc_period N a) (lower N a) (at t (tail N a)) (at t (head N a))
turning {N} {t} {a} s p h = record {
  some = (arc-period N a s h).some;
  lower_small = s.lower_small a h;
  from_small = time_small s p (s.ends a h).tail_in;
  to_small = time_small s p (s.ends a h).head_in;
}

pub turning_of : {N : Network} {t : List ℕ} {a g : ℕ} {low : ℤ} {from to : ℕ} → Worked N t a g low from to
    → Turning (arc_period N a) (lower N a) (at t (tail N a)) (at t (head N a)) → Turning g low from to
turning_of w h = rw (w.period_is, w.lower_is, w.from_is, w.to_is) h

pub turn_is : {N : Network} {t : List ℕ} {a g : ℕ} {low z : ℤ} {from to : ℕ} → Worked N t a g low from to
    → z ≡ turn_by g (low +ℤ pos (slack_by g low from to)) from to → z ≡ turn_of N t a
unfolding turn_of tension slack
turn_is w e = e ∙ (λ j.
    let g = w.period_is j in
    let l = w.lower_is j in
    let f = w.from_is j in
    let s = w.to_is j in
    turn_by g (l +ℤ pos (slack_by g l f s)) f s)

module _ (N : Network) (t : List ℕ) (a : ℕ) (h : Turning (arc_period N a) (lower N a) (at t (tail N a)) (at t (head N a))) where
  turns_are : turns (arc_period N a) (lower N a) (at t (tail N a)) (at t (head N a)) ≡ turn_of N t a
  unfolding turn_of tension slack
  turns_are = turn_by_is (arc_period N a) (lower N a) (at t (tail N a)) (at t (head N a)) h.some

  pub turn : Turn N t a (turn_of N t a)
  unfolding tension slack
  turn = record { is = turned (arc_period N a) (lower N a) (at t (tail N a)) (at t (head N a)) h.some ∙ ap (turned_by N t a) turns_are }

  -- it is the only number that is a turn, and at most 10,799 either way
  pub turn_only : {z : ℤ} → Turn N t a z → z ≡ turn_of N t a
  turn_only p = turn_one h.some p turn

  pub turn_small : nat_abs (turn_of N t a) ≤ 10799
  turn_small = rw (sym turns_are) (turns_small (arc_period N a) (lower N a) (at t (tail N a)) (at t (head N a)) h)
