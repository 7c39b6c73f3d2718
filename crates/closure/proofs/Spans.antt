-- The laws of spans: what two of them leave, a span with its two ends exchanged, and two of them one after the other. Assumes nothing.
use mathlib.Core.Path.{◌≡◌, sym}
use Prim.Native.Nat.{ℕ, ◌+◌, ◌*◌, ◌-◌, ◌%◌, ◌∣◌, ◌<◌, ◌≤◌, min}
use native.Mathlib.Nat.{mod-lt}
use native.Mathlib.Decide.{dec_lt}
use native.Mathlib.Omega.{arith}
use lib.IntN.{pos, ◌-ℤ◌}
use Rattle.numbers.specs.Remainder.{Cong}
use Rattle.numbers.proofs.Integers.{up, dn, of_sub}
use Rattle.numbers.proofs.Congruence.{cong, parts, cong_dvd}
use Rattle.numbers.proofs.Remainders.{remainder-below, remainder_cong, remainder_only, mod_cong}
use Rattle.network.specs.PublicRule.{slack_by}
use Rattle.closure.specs.Shapes.{turned_of, behind_of}
use Rattle.closure.specs.Spans.{Within, Turned, Left}
use Rattle.closure.specs.declared.span.Span.{Span}

-- ---- the slack over a lower bound: the one number below the gap that leads from the first time to the second, but for whole gaps

module _ (gap low from to : ℕ) where
  abbrev slack_over : ℕ
  slack_over = slack_by gap (pos low) from to

  pub slack-below : 0 < gap → slack_over < gap
  slack-below h = remainder-below ((pos to -ℤ pos from) -ℤ pos low) gap h

  slack_cong : 0 < gap → Cong gap (pos to) (pos (from + low + slack_over))
  slack_cong h =
      let p = remainder_cong ((pos to -ℤ pos from) -ℤ pos low) gap h in
      cong (dn p.times) (up p.times) (omega (arith, parts p, of_sub (pos to) (pos from), of_sub (pos to -ℤ pos from) (pos low)))

  slack_is : {s : ℕ} → s < gap → Cong gap (pos to) (pos (from + low + s)) → slack_over ≡ s
  slack_is h p =
      sym (remainder_only (record {
        below = h;
        cong = cong (dn p.times) (up p.times) (omega (arith, parts p, of_sub (pos to) (pos from), of_sub (pos to -ℤ pos from) (pos low)));
      }))

-- ---- from one lower bound to another

-- the slack moves by how far the other is behind the first, or by that less a gap
data Moved (gap d old new : ℕ) : Type 0 where
  on : old ≡ new + d → Moved gap d old new
  round : old + gap ≡ new + d → Moved gap d old new

moved : {gap low : ℕ} (other from to : ℕ) → low < gap → Moved gap (behind_of gap low other) (slack_over gap low from to) (slack_over gap other from to)
moved {gap} {low} other from to h = pick (dec_lt (s + d) gap)
  where
    s : ℕ
    s = slack_over gap other from to

    d : ℕ
    d = behind_of gap low other

    below : d < gap
    below = mod-lt (other + gap - low) (omega arith)

    p : Cong gap (pos to) (pos (from + other + s))
    p = slack_cong gap other from to (omega arith)

    q : Cong gap (pos d) (pos (other + gap - low))
    q = mod_cong (other + gap - low) gap (omega arith)

    less : (s + d < gap → ⊥) → slack_over gap low from to ≡ s + d - gap
    less n =
        slack_is gap low from to (omega (arith, slack-below gap other from to (omega arith), below))
        (cong (dn p.times + up q.times + 1) (up p.times + dn q.times + 1) (omega (arith, n, parts p, parts q)))

    pick : Dec (s + d < gap) → Moved gap d (slack_over gap low from to) s
    pick (yes l) =
        on (slack_is gap low from to l (cong (dn p.times + up q.times + 1) (up p.times + dn q.times) (omega (arith, parts p, parts q))))
    pick (no n) = round (omega (arith, n, less n))

-- ---- what two spans leave

-- what a span holds, by a gap that is its own
by_gap : {b : Span} {gap from to : ℕ} → b.gap ≡ gap → Within b from to → slack_over gap b.low from to ≤ b.width
by_gap e h = rw e at h.most

module _ {a b : Span} (e : b.gap ≡ a.gap) where
  -- the other begins in the first, and ends before the first comes round again
  pub cut_inside : {s : Span} → s.gap ≡ a.gap → s.low ≡ b.low → behind_of a.gap a.low b.low ≤ a.width → behind_of a.gap a.low b.low + b.width < a.gap
      → s.width ≡ min b.width (a.width - behind_of a.gap a.low b.low) → Left a b s
  cut_inside {s} g o h l w = record {
    gap_is = g;
    keeps = λ from to p q. record { most = rw (g, o) (pick p.most (by_gap e q) (moved b.low from to a.shape.low_below)) };
  }
    where
      pick : {x y : ℕ} → x ≤ a.width → y ≤ b.width → Moved a.gap (behind_of a.gap a.low b.low) x y → y ≤ s.width
      pick p q (on m) = omega arith
      pick p q (round m) = absurd (omega arith)

  -- the other begins behind the first, and ends before the first comes round again
  pub cut_nothing : a.width < behind_of a.gap a.low b.low → behind_of a.gap a.low b.low + b.width < a.gap → (from to : ℕ) → Within a from to → Within b from to → ⊥
  cut_nothing h l from to p q = pick p.most (by_gap e q) (moved b.low from to a.shape.low_below)
    where
      pick : {x y : ℕ} → x ≤ a.width → y ≤ b.width → Moved a.gap (behind_of a.gap a.low b.low) x y → ⊥
      pick p q (on m) = omega arith
      pick p q (round m) = omega arith

  -- the other begins behind the first, and reaches into it
  pub cut_begin : {s : Span} → s.gap ≡ a.gap → s.low ≡ a.low → a.width < behind_of a.gap a.low b.low → a.gap ≤ behind_of a.gap a.low b.low + b.width
      → s.width ≡ min a.width (behind_of a.gap a.low b.low + b.width - a.gap) → Left a b s
  cut_begin {s} g o h l w = record {
    gap_is = g;
    keeps = λ from to p q. record { most = rw (g, o) (pick p.most (by_gap e q) (moved b.low from to a.shape.low_below)) };
  }
    where
      pick : {x y : ℕ} → x ≤ a.width → y ≤ b.width → Moved a.gap (behind_of a.gap a.low b.low) x y → x ≤ s.width
      pick p q (on m) = absurd (omega arith)
      pick p q (round m) = omega arith

-- ---- the ends exchanged

pub turned : {s t : Span} {from to : ℕ} → Turned s t → Within s from to → Within t to from
turned {s} {t} {from} {to} e i =
    let x : ℕ = slack_over s.gap s.low from to in
    let m : x ≤ s.width = i.most in
    let low : ℕ = turned_of s.gap s.low s.width in
    let p : Cong s.gap (pos to) (pos (from + s.low + x)) = slack_cong s.gap s.low from to (omega (arith, s.shape.low_below)) in
    let q : Cong s.gap (pos low) (pos (2 * s.gap - (s.low + s.width))) =
    mod_cong (2 * s.gap - (s.low + s.width)) s.gap (omega (arith, s.shape.low_below)) in
    let r : slack_over s.gap low to from ≡ s.width - x =
    slack_is s.gap low to from (omega (arith, s.shape.width_below))
    (cong (up p.times + up q.times + 2) (dn p.times + dn q.times) (omega (arith, parts p, parts q, s.shape.low_below, s.shape.width_below))) in
    record { most = rw (e.gap_is, e.low_is, e.width_is) (omega (arith, r)) }

-- ---- one after the other, by a divisor of both gaps

pub chained : {a b s : Span} {from via to : ℕ} → s.gap ∣ a.gap → s.gap ∣ b.gap → s.low ≡ (a.low + b.low) % s.gap → s.width ≡ a.width + b.width
    → Within a from via → Within b via to → Within s from to
chained {a} {b} {s} {from} {via} {to} d₁ d₂ l w i j =
    let x : ℕ = slack_over a.gap a.low from via in
    let y : ℕ = slack_over b.gap b.low via to in
    let m : x ≤ a.width = i.most in
    let n : y ≤ b.width = j.most in
    let h : s.width < s.gap = s.shape.width_below in
    let p : Cong s.gap (pos via) (pos (from + a.low + x)) = cong_dvd d₁ (slack_cong a.gap a.low from via (omega (arith, a.shape.low_below))) in
    let q : Cong s.gap (pos to) (pos (via + b.low + y)) = cong_dvd d₂ (slack_cong b.gap b.low via to (omega (arith, b.shape.low_below))) in
    let o : Cong s.gap (pos s.low) (pos (a.low + b.low)) = rw l (mod_cong (a.low + b.low) s.gap (omega arith)) in
    let r : slack_over s.gap s.low from to ≡ x + y =
    slack_is s.gap s.low from to (omega arith)
    (cong (dn p.times + dn q.times + up o.times) (up p.times + up q.times + dn o.times) (omega (arith, parts p, parts q, parts o))) in
    record { most = omega (arith, r) }
