-- The laws of the table of spans: its places, one span narrowed, the steps of the closure, and a table that holds every difference. Assumes nothing.
use mathlib.Core.Path.{◌≡◌, refl, sym, ap, ◌∙◌, subst}
use mathlib.Core.Logic.{◌⊎◌, inl, inr}
use mathlib.Core.List.{List}
use Prim.Native.Nat.{ℕ, ◌+◌, ◌%◌, ◌∣◌, ◌<◌, ◌≤◌}
use native.Mathlib.Nat.{dvd_of_mod-eq-zero, pos_of_dvd_of_pos}
use native.Mathlib.Decide.{dec_lt}
use native.Mathlib.Omega.{arith}
use lib.ListN.{length, set, length-set}
use lib.Seq.{get_or-set_same, get_or-set_other}
use Rattle.std.specs.Prelude.{get_or, Option, None, Some}
use Rattle.std.proofs.lemmas.List.{get_or_default}
use Rattle.numbers.specs.Divisor.{IsGcd, gcd}
use Rattle.numbers.specs.Row.{at}
use Rattle.numbers.proofs.Divisors.{gcd_is, gcd_only, gcd_turned, gcd_le}
use Rattle.search.specs.Lent.{lent}
use Rattle.search.specs.Reduced.{Reduced, events_in, period_in, Fitting}
use Rattle.closure.specs.declared.span.Span.{Span}
use Rattle.closure.specs.declared.table.Change.{Change}
use Rattle.closure.specs.declared.table.Change.TheVariants.{Same, Narrower}
use Rattle.closure.specs.declared.table.Table.{Table}
use Rattle.closure.specs.declared.table.TheConstants.{EVENTS, PLACES}
use Rattle.closure.specs.Spans.{Within, Turned, Left}
use Rattle.closure.specs.Steps.{events_of, span_of, NarrowAsks, Narrowed, Tighter}
use Rattle.closure.specs.Tables.{whole, spot, span_at, Keeps, Spanned, Periodic, GapAsks, Wide, Widening, Opened}
use Rattle.closure.proofs.Spans.{slack-below, turned, chained}

-- ---- a place is one pair's only

spot-below : (i j : ℕ) → i < EVENTS → j < EVENTS → spot i j < PLACES
spot-below i j h l = omega arith

-- what stands there, past the end of no row
pub there : (T : List Span) (i j : ℕ) (d : Span) → length T ≡ PLACES → i < EVENTS → j < EVENTS → get_or T (spot i j) d ≡ span_at T i j
there T i j d l hi hj = get_or_default T (spot i j) d whole (omega (arith, l, spot-below i j hi hj))

-- two pairs are the same, or their places are apart
data Place (i j x y : ℕ) : Type 0 where
  here : x ≡ i → y ≡ j → Place i j x y
  apart : (spot x y ≡ spot i j → ⊥) → Place i j x y

place : (i j x y : ℕ) → j < EVENTS → y < EVENTS → Place i j x y
place i j x y h l = pick (dec_lt (spot x y) (spot i j)) (dec_lt (spot i j) (spot x y))
  where
    pick : Dec (spot x y < spot i j) → Dec (spot i j < spot x y) → Place i j x y
    pick (yes a) b = apart (λ e. omega arith)
    pick (no a) (yes b) = apart (λ e. omega arith)
    pick (no a) (no b) = here (omega (arith, a, b)) (omega (arith, a, b))

-- ---- one span written: what holds of it, and of the spans before, holds of every span

module _ (T : List Span) (i j : ℕ) (s : Span) (long : length T ≡ PLACES) (hi : i < EVENTS) (hj : j < EVENTS) where
  set-each : (Q : ℕ → ℕ → Span → Type 0) → Q i j s → (x y : ℕ) → y < EVENTS → ((x ≡ i → y ≡ j → ⊥) → Q x y (span_at T x y))
      → Q x y (span_at (set T (spot i j) s) x y)
  set-each Q q x y k o = pick (place i j x y hj k)
    where
      pick : Place i j x y → Q x y (span_at (set T (spot i j) s) x y)
      pick (here a b) = rw (a, b, get_or-set_same T (spot i j) s whole (omega (arith, long, spot-below i j hi hj))) q
      pick (apart n) = rw (get_or-set_other T (spot i j) (spot x y) s whole n) (o (λ a b. n (λ k. spot (a k) (b k))))

-- times that keep to the table, and to the span written, keep to the table after
set_keeps : {periods : List ℕ} {T : List Span} {i j : ℕ} {s : Span} {u : List ℕ} → length periods ≤ EVENTS → length T ≡ PLACES → i < length periods
    → j < length periods → Within s (at u i) (at u j) → Keeps periods T u → Keeps periods (set T (spot i j) s) u
set_keeps {T = T} {i = i} {j = j} {s = s} {u = u} few long hi hj h k = record {
  each = λ x y hx hy.
      set-each T i j s long (omega (arith, hi, few)) (omega (arith, hj, few)) (λ x y s. Within s (at u x) (at u y)) h x y (omega (arith, hy, few))
      (λ n. k.each x y hx hy);
}

module _ {R : Reduced} {T : List Span} {i j : ℕ} {s : Span} (few : events_in R ≤ EVENTS) (c : Spanned R T) (hi : i < events_in R) (hj : j < events_in R) where
  set_spanned : s.gap ≡ gcd (period_in R i) (period_in R j) → ((u : List ℕ) → Fitting R u → Within s (at u i) (at u j)) → Spanned R (set T (spot i j) s)
  set_spanned g h = record {
    long = length-set T (spot i j) s ∙ c.long;
    gap_is = λ x y hx hy.
        set-each T i j s c.long (small hi) (small hj) (λ x y s. s.gap ≡ gcd (period_in R x) (period_in R y)) g x y (small hy) (λ n. c.gap_is x y hx hy);
    keeps = λ u f. set_keeps few c.long hi hj (h u f) (c.keeps u f);
  }
    where
      small : {x : ℕ} → x < events_in R → x < EVENTS
      small h = omega (arith, few)

-- ---- a span read from a table

pub read_is : (T : Table) (i j : ℕ) (d : Span) {p : ℕ} → p ≡ spot i j → i < events_of T → j < events_of T → get_or T.spans.now p d ≡ span_of T i j
read_is T i j d e hi hj = rw e (there T.spans.now i j d T.spanned.long (omega (arith, hi, T.network.sized.few)) (omega (arith, hj, T.network.sized.few)))

-- ---- a span narrowed by one that holds the difference of its events in every fitting timetable

module _ {T : Table} {i j : ℕ} {by old : Span} (c : NarrowAsks T i j by) (old_is : old ≡ span_of T i j) where
  old_holds : (u : List ℕ) → Fitting (lent T.network) u → Within old (at u i) (at u j)
  old_holds u f = rw old_is ((T.spanned.keeps u f).each i j c.first c.second)

  -- by what the cut of the two leaves
  pub narrow_nothing : ((from to : ℕ) → Within old from to → Within by from to → ⊥) → (u : List ℕ) → Fitting (lent T.network) u → ⊥
  narrow_nothing n u f = n (at u i) (at u j) (old_holds u f) (c.holds u f)

  pub narrow_spanned : {s t : Span} {p q : ℕ} → p ≡ spot i j → q ≡ spot j i → Left old by s → Turned s t
      → Spanned (lent T.network) (set (set T.spans.now p s) q t)
  narrow_spanned {s} {t} a b l e =
      rw (a, b) (set_spanned few (set_spanned few T.spanned c.first c.second gap holds) c.second c.first back_gap (λ u f. turned e (holds u f)))
    where
      few : events_of T ≤ EVENTS
      few = T.network.sized.few

      gap : s.gap ≡ gcd (period_in (lent T.network) i) (period_in (lent T.network) j)
      gap = l.gap_is ∙ ap (λ (x : Span). x.gap) old_is ∙ T.spanned.gap_is i j c.first c.second

      back_gap : t.gap ≡ gcd (period_in (lent T.network) j) (period_in (lent T.network) i)
      back_gap = e.gap_is ∙ gap ∙ gcd_turned (period_in (lent T.network) i) (period_in (lent T.network) j)

      holds : (u : List ℕ) → Fitting (lent T.network) u → Within s (at u i) (at u j)
      holds u f = l.keeps (at u i) (at u j) (old_holds u f) (c.holds u f)

-- ---- a span narrowed by one that holds the difference of its events in all times that keep to the table

module _ {T T' : Table} {i j : ℕ} {by : Span} (hi : i < events_of T) (hj : j < events_of T)
    (holds : (u : List ℕ) → Keeps T.network.periods.now T.spans.now u → Within by (at u i) (at u j)) where
  -- no such times are lost
  pub narrowed_tighter : (r : Option Change) → Narrowed T T' i j by r → Tighter T T' r
  narrowed_tighter None n = record { keeps = λ u k. absurd (n.1 (at u i) (at u j) (k.each i j hi hj) (holds u k)) }
  narrowed_tighter (Some Same) e = record { keeps = λ u k. (refl, subst (λ (t : List Span). Keeps T.network.periods.now t u) (sym e) k) }
  narrowed_tighter (Some Narrower) w = record {
    keeps = λ u k.
        let few = T.network.sized.few in
        let h : Within w.span (at u i) (at u j) = w.left.keeps (at u i) (at u j) (k.each i j hi hj) (holds u k) in
        let there = set_keeps few T.spanned.long hi hj h k in
        let back = set_keeps few (length-set T.spans.now (spot i j) w.span ∙ T.spanned.long) hj hi (turned w.turned h) there in
        (refl, subst (λ (t : List Span). Keeps T.network.periods.now t u) (sym w.spans) back);
  }

-- ---- through a third event

module _ (T : Table) {i k j : ℕ} (hi : i < events_of T) (hk : k < events_of T) (hj : j < events_of T) (s : Span) (g : s.gap ≡ (span_of T i j).gap) where
  -- the gap of i and j divides both others if it divides the period of k
  module _ (d : s.gap ∣ period_in (lent T.network) k) where
    both : IsGcd (period_in (lent T.network) i) (period_in (lent T.network) j) s.gap
    both = rw (g ∙ T.spanned.gap_is i j hi hj) (gcd_is (period_in (lent T.network) i) (period_in (lent T.network) j))

    divides_one : s.gap ∣ (span_of T i k).gap
    divides_one =
        rw (T.spanned.gap_is i k hi hk) ((gcd_is (period_in (lent T.network) i) (period_in (lent T.network) k)).greatest s.gap both.left d)

    divides_two : s.gap ∣ (span_of T k j).gap
    divides_two =
        rw (T.spanned.gap_is k j hk hj) ((gcd_is (period_in (lent T.network) k) (period_in (lent T.network) j)).greatest s.gap d both.right)

  module _ {a b : Span} (p : a ≡ span_of T i k) (q : b ≡ span_of T k j) (l : s.low ≡ (a.low + b.low) % s.gap) (w : s.width ≡ a.width + b.width)
      (e : period_in (lent T.network) k % s.gap ≡ 0) where
    -- two spans one after the other, in all times that keep to them
    pub via_holds : (u : List ℕ) → Keeps T.network.periods.now T.spans.now u → Within s (at u i) (at u j)
    via_holds u h =
        let d : s.gap ∣ period_in (lent T.network) k = dvd_of_mod-eq-zero s.gap e in
        chained {a = a} {b = b} {via = at u k} (rw p (divides_one d)) (rw q (divides_two d)) l w (rw p (h.each i k hi hk)) (rw q (h.each k j hk hj))

    pub via_asks : NarrowAsks T i j s
    via_asks = record { first = hi; second = hj; gap_is = g; holds = λ u f. via_holds u (T.spanned.keeps u f) }

-- ---- a table that holds every difference, pair by pair

-- a gap that stands for j and i is that of i and j
pub gap_stands : {periods : List ℕ} {T : List Span} {i j p : ℕ} (d : Span) → p ≡ spot j i → GapAsks periods T i j → j < i
    → IsGcd (at periods i) (at periods j) (get_or T p d).gap
gap_stands {periods} {T} {i = i} {j = j} d a c h =
    let e = there T j i d c.long (omega (arith, c.few, c.second)) (omega (arith, c.few, c.first)) in
    rw (a, e, c.known h ∙ gcd_turned (at periods j) (at periods i)) (gcd_is (at periods i) (at periods j))

module _ {periods : List ℕ} (c : Periodic periods) where
  abbrev n : ℕ
  n = length periods

  module _ {i j : ℕ} (hi : i < n) (hj : j < n) where
    pub gap_asks : {T : List Span} → Widening periods T i j → GapAsks periods T i j
    gap_asks w = record {
      few = c.few;
      first = hi;
      second = hj;
      long = w.long;
      known = λ l. (w.wide j i hj hi (inl l)).gap_is;
    }

    pub gap_bounds : {g : ℕ} → IsGcd (at periods i) (at periods j) g → (0 < g) × (g ≤ 3600)
    gap_bounds d =
        let p = c.some i hi in
        (pos_of_dvd_of_pos d.left p, omega (arith, gcd_only d, gcd_le (at periods i) (at periods j) p, c.most i hi))

    pub widening_more : {T : List Span} {p : ℕ} (s : Span) → p ≡ spot i j → IsGcd (at periods i) (at periods j) s.gap → s.low ≡ 0 → s.width + 1 ≡ s.gap
        → Widening periods T i j → Widening periods (set T p s) i (j + 1)
    widening_more {T} s a d z e w = rw a (record {
      long = length-set T (spot i j) s ∙ w.long;
      wide = λ x y hx hy l.
          set-each T i j s w.long (small hi) (small hj) (Wide periods) (record { gap_is = gcd_only d; low_is = z; width_is = e }) x y (small hy) (old x y hx hy l);
    })
      where
        small : {x : ℕ} → x < n → x < EVENTS
        small h = omega (arith, c.few)

        old : (x y : ℕ) → x < n → y < n → (x < i) ⊎ ((x ≡ i) × (y < j + 1)) → (x ≡ i → y ≡ j → ⊥) → Wide periods x y (span_at T x y)
        old x y hx hy (inl l) m = w.wide x y hx hy (inl l)
        old x y hx hy (inr l) m = w.wide x y hx hy (inr (l.0, omega (arith, l.1, m l.0)))

-- at the end every span is as wide as can be, and holds all times
pub opened : {periods : List ℕ} {T : List Span} {i : ℕ} → length periods ≤ i → Widening periods T i 0 → Opened periods T
opened {periods} {T} l w = record {
  all = λ u. record {
    each = λ x y hx hy.
        let s = span_at T x y in
        record { most = omega (arith, (w.wide x y hx hy (inl (omega arith))).width_is, slack-below s.gap s.low (at u x) (at u y) (omega (arith, s.shape.low_below))) };
  };
}

-- so it is a table of the network
pub opened_spanned : {R : Reduced} {T : List Span} {i : ℕ} → events_in R ≤ i → Widening R.periods T i 0 → Spanned R T
opened_spanned l w = record {
  long = w.long;
  gap_is = λ x y hx hy. (w.wide x y hx hy (inl (omega arith))).gap_is;
  keeps = λ u f. (opened l w).all u;
}
