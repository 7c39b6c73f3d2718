-- The laws of the scan for code 18: one arc against an earlier one, down the arcs that start at one event, one arc more linked. Assumes nothing.
use mathlib.Core.Path.{◌≡◌, refl, sym, ap, ◌∙◌}
use mathlib.Core.Logic.{◌⊎◌, inl, inr}
use mathlib.Core.List.{List}
use mathlib.Core.Bool.{Bool, true, false, ◌&&◌}
use Prim.Native.Nat.{ℕ, ◌+◌, ◌-◌, ◌≤◌, ◌<◌}
use native.Mathlib.Decide.{dec_lt}
use native.Mathlib.Nat.{eq-or-lt_of_le}
use native.Mathlib.Omega.{arith}
use borrow.Author.Tests.{eq-eqb, eqb-true, eqb-false}
use lib.IntN.{ℤ, pos, nat_abs, ◌+ℤ◌, ◌-ℤ◌}
use lib.ListN.{length, set, length-set}
use lib.Seq.{get_or-set_same, get_or-set_other}
use lib.Dec.{eqb}
use Rattle.numbers.specs.Remainder.{remainder}
use Rattle.numbers.specs.Row.{at}
use Rattle.numbers.proofs.Integers.{up, dn, of_sum}
use Rattle.numbers.proofs.Congruence.{cong, parts, cong_refl, cong_add}
use Rattle.numbers.proofs.Remainders.{same-remainder, cong_of_remainders}
use Rattle.network.specs.Network.{Network, events, arcs, tail, head, lower, upper}
use Rattle.network.specs.PublicRule.{arc_period, working_by, working, width_of, offset_of}
use Rattle.network.specs.Table.{repeats}
use Rattle.network.specs.Trial.{Inside, Sound, ArcOf}
use Rattle.network.specs.Pairs.{AsksWidth, TwoArcs, same_rule, Last, Linked, Chained, Down, AsksTwin}
use Rattle.network.proofs.Scans.{same_test}
use Rattle.network.proofs.Arcs.{in_heads, in_lowers, in_uppers}
use Rattle.network.proofs.Repeats.{same-period, no_repeat}

-- ---- one arc against an earlier one

-- what a width asks, of an arc's bounds and of a period, that of an arc with the same ends
pub asks_width : {N : Network} {a g : ℕ} {low high : ℤ} → ArcOf N a → Inside 1 3600 g → low ≡ lower N a → high ≡ upper N a → AsksWidth g low high
asks_width {a = a} c p e f =
    rw (e, f) (record { some = p.some; most = p.most; lower_small = c.sound.lower_small a c.arc; ordered = c.sound.ordered a c.arc })

-- counted from another number on, bounds leave the same exactly if they did before
moved : (x y : ℤ) {g : ℕ} → 0 < g → eqb (remainder (x +ℤ pos 7200) g) (remainder (y +ℤ pos 7200) g) ≡ eqb (remainder x g) (remainder y g)
moved x y {g} h =
    same_test (eqb (remainder (x +ℤ pos 7200) g) (remainder (y +ℤ pos 7200) g)) (eqb (remainder x g) (remainder y g))
    (λ e. eq-eqb (remainder x g) (remainder y g) (back (eqb-true (remainder (x +ℤ pos 7200) g) (remainder (y +ℤ pos 7200) g) e)))
    (λ e. eq-eqb (remainder (x +ℤ pos 7200) g) (remainder (y +ℤ pos 7200) g) (there (eqb-true (remainder x g) (remainder y g) e)))
  where
    there : remainder x g ≡ remainder y g → remainder (x +ℤ pos 7200) g ≡ remainder (y +ℤ pos 7200) g
    there e = same-remainder h (cong_add (cong_of_remainders x y g h e) (cong_refl g (pos 7200)))

    back : remainder (x +ℤ pos 7200) g ≡ remainder (y +ℤ pos 7200) g → remainder x g ≡ remainder y g
    back e =
        let c = cong_of_remainders (x +ℤ pos 7200) (y +ℤ pos 7200) g h e in
        same-remainder h (cong (dn c.times) (up c.times) (omega (arith, parts c, of_sum x (pos 7200), of_sum y (pos 7200))))

pub width_told : (N : Network) (a : ℕ) {g w : ℕ} {low high : ℤ} → g ≡ arc_period N a → low ≡ lower N a → high ≡ upper N a
    → w ≡ nat_abs (working_by g low high -ℤ low) → w ≡ width_of N a
unfolding width_of working
width_told N a p e f q = q ∙ (λ j. nat_abs (working_by (p j) (e j) (f j) -ℤ e j))

pub two_arcs : {N : Network} {b g : ℕ} (a : ℕ) → ArcOf N b → Inside 1 3600 g → a < b → TwoArcs N.heads N.lowers N.uppers g a b
two_arcs {N} {b} a c p h =
    let arc : ArcOf N a = record { sound = c.sound; arc = omega (arith, h, c.arc) } in
    record { head_a = in_heads arc; head_b = in_heads c; lower_a = in_lowers arc; upper_a = in_uppers arc; width = asks_width arc p refl refl }

-- by the period of the second, whose remainder and width were worked out before; the first starts where it does
module _ (N : Network) (a b : ℕ) {g left wide : ℕ} (some : 0 < g) (t : tail N a ≡ tail N b)
    (p : g ≡ arc_period N b) (l : left ≡ remainder (lower N b +ℤ pos 7200) g) (w : wide ≡ width_of N b) where
  pub rule_is : same_rule N.heads N.lowers N.uppers g left wide a b ≡ repeats N a b
  unfolding same_rule repeats offset_of width_of working
  rule_is =
      go (eqb (head N a) (head N b)) refl
      ∙ ap (λ (q : Bool). (q && eqb (head N a) (head N b)) && (eqb (offset_of N a) (offset_of N b) && eqb (width_of N a) (width_of N b))) (sym (eq-eqb (tail N a) (tail N b) t))
    where
      go : (q : Bool) → eqb (head N a) (head N b) ≡ q
          → q && (eqb (remainder (lower N a +ℤ pos 7200) g) left && eqb (nat_abs (working_by g (lower N a) (upper N a) -ℤ lower N a)) wide)
          ≡ q && (eqb (offset_of N a) (offset_of N b) && eqb (width_of N a) (width_of N b))
      go true e =
          let q = p ∙ sym (same-period N a b t (eqb-true (head N a) (head N b) e)) in
          (λ j. eqb (remainder (lower N a +ℤ pos 7200) g) (l j) && eqb (nat_abs (working_by (q j) (lower N a) (upper N a) -ℤ lower N a)) (w j))
          ∙ ap (λ (z : Bool). z && eqb (width_of N a) (width_of N b)) (moved (lower N a) (lower N b) some)
          ∙ (λ j. eqb (remainder (lower N a) (q j)) (remainder (lower N b) (p j)) && eqb (width_of N a) (width_of N b))
      go false e = refl

-- ---- down the arcs that start at one event

pub down_first : {N : Network} {b c : ℕ} → Last N.tails (tail N b) b c → Down N b c
down_first {N} {b} l = record { within = l.within; own = l.own; none = λ a h k. no_repeat N a b (λ w. l.none a h k w.tails) }

pub down_more : {N : Network} {b c d : ℕ} → Down N b c → 0 < c → repeats N (c - 1) b ≡ false → Last N.tails (tail N (c - 1)) (c - 1) d → Down N b d
down_more {N} {b} {c} {d} p h e l = record {
  within = omega (arith, l.within, p.within, h);
  own = λ k. l.own k ∙ p.own h;
  none = λ a k m. go a k m (dec_lt a c);
}
  where
    below : (a : ℕ) → d ≤ a → (a ≡ c - 1) ⊎ (a < c - 1) → repeats N a b ≡ false
    below a k (inl q) = rw q e
    below a k (inr m) = no_repeat N a b (λ w. l.none a k m (w.tails ∙ sym (p.own h)))

    go : (a : ℕ) → d ≤ a → a < b → Dec (a < c) → repeats N a b ≡ false
    go a k m (yes n) = below a k (eq-or-lt_of_le (omega arith))
    go a k m (no n) = p.none a (omega (arith, n)) m

-- ---- one arc more is linked

-- before the first: two rows of zeros
pub chained_none : {N : Network} {lasts befores : List ℕ} → Sound N → length lasts ≡ events N → length befores ≡ arcs N
    → ((v : ℕ) → v < events N → at lasts v ≡ 0) → Chained N lasts befores 0
chained_none s h k z = record {
  linked = record { sound = s; long = k; each = λ a l. absurd (omega arith) };
  long = h;
  each = λ v l. record { within = omega (arith, z v l); own = λ m. absurd (omega (arith, z v l)); none = λ a m n. absurd (omega arith) };
}

module _ {N : Network} {lasts befores : List ℕ} {k : ℕ} (c : AsksTwin N lasts befores k) where
  event_in : tail N k < length lasts
  event_in = omega (arith, c.chained.long, (c.chained.linked.sound.ends k c.arc).tail_in)

  arc_in : k < length befores
  arc_in = omega (arith, c.chained.linked.long, c.arc)

  -- its own link
  pub last_here : Last N.tails (tail N k) k (at lasts (tail N k))
  last_here = c.chained.each (tail N k) (c.chained.linked.sound.ends k c.arc).tail_in

  linked_more : Linked N (set befores k (at lasts (tail N k))) (k + 1)
  linked_more = record {
    sound = c.chained.linked.sound;
    long = length-set befores k (at lasts (tail N k)) ∙ c.chained.linked.long;
    each = λ a h. go a (eq-or-lt_of_le (omega arith));
  }
    where
      go : (a : ℕ) → (a ≡ k) ⊎ (a < k) → Last N.tails (tail N a) a (at (set befores k (at lasts (tail N k))) a)
      go a (inl q) = rw q (rw (get_or-set_same befores k (at lasts (tail N k)) 0 arc_in) last_here)
      go a (inr l) = rw (get_or-set_other befores k a (at lasts (tail N k)) 0 (λ q. omega arith)) (c.chained.linked.each a l)

  chained_here : Chained N (set lasts (tail N k) (k + 1)) (set befores k (at lasts (tail N k))) (k + 1)
  chained_here = record {
    linked = linked_more;
    long = length-set lasts (tail N k) (k + 1) ∙ c.chained.long;
    each = λ v h. go v h (eqb v (tail N k)) refl;
  }
    where
      more : (v : ℕ) → (v ≡ tail N k → ⊥) → (a : ℕ) → at lasts v ≤ a → Last N.tails v k (at lasts v) → (a ≡ k) ⊎ (a < k) → tail N a ≡ v → ⊥
      more v n a h l (inl q) e = n (sym e ∙ ap (tail N) q)
      more v n a h l (inr m) e = l.none a h m e

      go : (v : ℕ) → v < events N → (b : Bool) → eqb v (tail N k) ≡ b → Last N.tails v (k + 1) (at (set lasts (tail N k) (k + 1)) v)
      go v h true e =
          let q : v ≡ tail N k = eqb-true v (tail N k) e in
          rw q
          (rw (get_or-set_same lasts (tail N k) (k + 1) 0 event_in)
          (record { within = omega arith; own = λ m. ap (tail N) (omega arith); none = λ a m n. absurd (omega arith) }))
      go v h false e =
          let n : v ≡ tail N k → ⊥ = eqb-false v (tail N k) e in
          let l = c.chained.each v h in
          rw (get_or-set_other lasts (tail N k) v (k + 1) 0 n)
          (record { within = omega (arith, l.within); own = l.own; none = λ a m p. more v n a m l (eq-or-lt_of_le (omega arith)) })

  pub chained_more : {v : ℕ} → v ≡ tail N k → Chained N (set lasts v (k + 1)) (set befores k (at lasts v)) (k + 1)
  chained_more e = rw e chained_here
