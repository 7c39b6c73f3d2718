-- The longer network has the same fitting timetables: each of its arcs is implied, and the network's own are among them. Assumes nothing.
use mathlib.Core.Path.{◌≡◌, refl, sym, ap, ◌∙◌, subst}
use mathlib.Core.Logic.{◌⊎◌, inl, inr}
use mathlib.Core.List.{List}
use Prim.Native.Nat.{ℕ, zero, suc, ◌+◌, ◌-◌, ◌%◌, ◌<◌, ◌≤◌}
use native.Mathlib.Nat.{mod-lt, eq-or-lt_of_le}
use native.Mathlib.Numerals.{unary_clauses, add-one}
use native.Mathlib.Decide.{dec_lt}
use native.Mathlib.Omega.{arith}
use borrow.Author.Tests.{lt-ltb, le-ltb}
use lib.Dec.{leb}
use lib.ListN.{length, take, set, length-set}
use lib.Seq.{get_or-take, length-take-le, get_or-set_same, get_or-set_other}
use Rattle.numbers.specs.Row.{at}
use Rattle.search.specs.declared.Bar.{Bar}
use Rattle.search.specs.Reduced.{Reduced, reduced, arcs_in, bar, bar_at, near_in, past, met_at, met_in, Sized}
use Rattle.closure.specs.declared.span.Span.{Span}
use Rattle.closure.specs.declared.TheConstants.{ROOM}
use Rattle.closure.specs.declared.longer.TheConstants.{PAIRS, ARCS}
use Rattle.closure.specs.declared.table.Table.{Table}
use Rattle.closure.specs.Steps.{span_of}
use Rattle.search.specs.Lent.{lent}
use Rattle.closure.specs.Longer.{ImpliedArc, Stands, Grown, Grows, PairAsks, OwnAsks, below, Whole, Longer}
use Rattle.closure.proofs.Spread.{bar_within}

-- ---- an arc written behind the first c

module _ (bars : List Bar) (c : ℕ) (b : Bar) (room : c < length bars) where
  kept : (k : ℕ) → k < c → bar_at (set bars c b) k ≡ bar_at bars k
  kept k h = get_or-set_other bars c k b (bar 0 0 0 0 0) (λ e. omega arith)

  written_is : bar_at (set bars c b) c ≡ b
  written_is = get_or-set_same bars c b (bar 0 0 0 0 0) room

  stands_still : {own : List Bar} {a : ℕ} → Stands own bars c a → Stands own (set bars c b) (c + 1) a
  stands_still s = record { place = s.place; inside = omega (arith, s.inside); same = kept s.place s.inside ∙ s.same }

  -- one that every fitting timetable meets
  grown_set : {R : Reduced} {i x : ℕ} → Grown R bars i x c → ImpliedArc R b → Grown R (set bars c b) i x (c + 1)
  grown_set {R} g new = record {
    long = length-set bars c b ∙ g.long;
    each = λ k h. pick k (eq-or-lt_of_le (omega arith));
    earlier = λ a h l. stands_still (g.earlier a h l);
    present = λ a h e. stands_still (g.present a h e);
  }
    where
      pick : (k : ℕ) → (k ≡ c) ⊎ (k < c) → ImpliedArc R (bar_at (set bars c b) k)
      pick k (inl e) = rw (e, written_is) new
      pick k (inr l) = rw (kept k l) (g.each k l)

-- ---- a span appended

-- the arc that bars what a span does not hold
abbrev span_bar : ℕ → ℕ → Span → Bar
span_bar i j s = bar i j ((s.low + s.width + 1) % s.gap) ((s.gap - 1) - s.width) s.gap

module _ {T : Table} {bars : List Bar} {i j own c : ℕ} (p : PairAsks T bars i j own c) where
  -- every fitting timetable keeps to the span
  span_arc : {s : Span} → s ≡ span_of T i j → ImpliedArc (lent T.network) (span_bar i j s)
  span_arc {s} e =
      let h = s.shape in
      record {
        near_is = p.order;
        last_is = p.second;
        shift_most = mod-lt (s.low + s.width + 1) (omega (arith, h.low_below));
        run_most = omega (arith, h.low_below);
        gap_most = h.gap_most;
        gap_is = rw e (T.spanned.gap_is i j p.row.event p.second);
        met = λ u f. bar_within {s = s} {from = at u i} {to = at u j} (rw e ((T.spanned.keeps u f).each i j p.row.event p.second));
      }

  pub appended : {s : Span} → c < PAIRS + own → s ≡ span_of T i j → Grows (lent T.network) (set bars c (span_bar i j s)) i own (c + 1)
  appended {s} few e = record {
    grown = grown_set bars c (span_bar i j s) (omega (arith, p.row.grows.grown.long, p.row.own_few, few)) p.row.grows.grown
        (span_arc e);
    few = omega (arith, few);
  }

-- ---- the network's own arcs

-- an arc of the network is one that its fitting timetables meet
own_arc : {R : Reduced} {a : ℕ} → Sized R → a < arcs_in R → ImpliedArc R (bar_at R.bars a)
unfolding met_at
own_arc {R} {a} s h = record {
  near_is = s.barred.near_is a h;
  last_is = s.barred.last_is a h;
  shift_most = s.barred.shift_most a h;
  run_most = s.barred.run_most a h;
  gap_most = s.barred.gap_most a h;
  gap_is = s.gap_is a h;
  met = λ u f. f.met a h;
}

-- no arcs yet
pub grown_none : {R : Reduced} {bars : List Bar} → length bars ≡ ROOM → Grown R bars 0 0 0
grown_none l = record { long = l; each = λ b h. absurd (omega arith); earlier = λ a h n. absurd (omega arith); present = λ a h e. absurd (omega arith) }

-- arc a is looked at: it is passed over
pub grown_passed : {R : Reduced} {bars : List Bar} {i a c : ℕ} → Grown R bars i a c → (near_in R.bars a ≡ i → ⊥) → Grown R bars i (a + 1) c
grown_passed {R} {bars} {i} {a} {c} g n = record { long = g.long; each = g.each; earlier = g.earlier; present = λ b l e. pick b e (eq-or-lt_of_le (omega arith)) }
  where
    pick : (b : ℕ) → near_in R.bars b ≡ i → (b ≡ a) ⊎ (b < a) → Stands R.bars bars c b
    pick b e (inl q) = absurd (n (rw q at e))
    pick b e (inr l) = g.present b l e

-- or written
pub grown_taken : {R : Reduced} {bars : List Bar} {i a c : ℕ} → Sized R → a < arcs_in R → Grown R bars i a c → c < ROOM
    → Grown R (set bars c (bar_at R.bars a)) i (a + 1) (c + 1)
grown_taken {R} {bars} {i} {a} {c} s h g room = record {
  long = more.long;
  each = more.each;
  earlier = more.earlier;
  present = λ b l q. pick b q (eq-or-lt_of_le (omega arith));
}
  where
    wide : c < length bars
    wide = omega (arith, g.long, room)

    more : Grown R (set bars c (bar_at R.bars a)) i a (c + 1)
    more = grown_set bars c (bar_at R.bars a) wide g (own_arc s h)

    new : Stands R.bars (set bars c (bar_at R.bars a)) (c + 1) a
    new = record { place = c; inside = omega arith; same = written_is bars c (bar_at R.bars a) wide }

    pick : (b : ℕ) → near_in R.bars b ≡ i → (b ≡ a) ⊎ (b < a) → Stands R.bars (set bars c (bar_at R.bars a)) (c + 1) b
    pick b q (inl r) = rw r new
    pick b q (inr l) = more.present b l q

-- ---- how many there are

module _ (bars : List Bar) (i : ℕ) where
  pub below_none : below bars i 0 ≡ 0
  unfolding below
  below_none = refl

  pub below_yes : (x : ℕ) → near_in bars x < i → below bars i (x + 1) ≡ below bars i x + 1
  unfolding below
  below_yes x h = rw (add-one x, lt-ltb _ _ h)

  pub below_no : (x : ℕ) → (near_in bars x < i → ⊥) → below bars i (x + 1) ≡ below bars i x
  unfolding below
  below_no x n =
      let h : i ≤ near_in bars x = omega (arith, n) in
      rw (add-one x, le-ltb (near_in bars x) i h) (omega arith)

  pub below_most : (x : ℕ) → below bars i x ≤ x
  below_most zero = omega (arith, below_none)
  below_most (suc x) = subst (λ (n : ℕ). below bars i n ≤ n) (add-one x) (pick (dec_lt (near_in bars x) i) (below_most x))
    where
      pick : Dec (near_in bars x < i) → below bars i x ≤ x → below bars i (x + 1) ≤ x + 1
      pick (yes l) h = omega (arith, below_yes x l)
      pick (no n) h = omega (arith, below_no x n)

-- no event is below 0
pub below-first : (bars : List Bar) (x : ℕ) → below bars 0 x ≡ 0
below-first bars zero = below_none bars 0
below-first bars (suc x) = subst (λ (n : ℕ). below bars 0 n ≡ 0) (add-one x) (below_no bars 0 x (λ h. omega arith) ∙ below-first bars x)

-- the arcs of event i among the first x
module _ (bars : List Bar) (i : ℕ) where
  pub row_yes : (x : ℕ) → near_in bars x ≡ i → (below bars (i + 1) (x + 1) ≡ below bars (i + 1) x + 1) × (below bars i (x + 1) ≡ below bars i x)
  row_yes x e = (below_yes bars (i + 1) x (omega arith), below_no bars i x (λ l. omega arith))

  pub row_no : (x : ℕ) → (near_in bars x ≡ i → ⊥) → below bars (i + 1) (x + 1) + below bars i x ≡ below bars (i + 1) x + below bars i (x + 1)
  row_no x n = pick (dec_lt (near_in bars x) i)
    where
      pick : Dec (near_in bars x < i) → below bars (i + 1) (x + 1) + below bars i x ≡ below bars (i + 1) x + below bars i (x + 1)
      pick (yes l) = omega (arith, below_yes bars (i + 1) x (omega arith), below_yes bars i x l)
      pick (no m) =
          let f : near_in bars x < i + 1 → ⊥ = λ h. n (omega (arith, m)) in
          omega (arith, below_no bars (i + 1) x f, below_no bars i x m)

  -- they become no fewer
  row_step : (x : ℕ) → below bars (i + 1) x + below bars i (x + 1) ≤ below bars (i + 1) (x + 1) + below bars i x
  row_step x = pick (dec_lt (near_in bars x) i) (dec_lt (near_in bars x) (i + 1))
    where
      pick : Dec (near_in bars x < i) → Dec (near_in bars x < i + 1) → below bars (i + 1) x + below bars i (x + 1) ≤ below bars (i + 1) (x + 1) + below bars i x
      pick (yes l) d = omega (arith, below_yes bars (i + 1) x (omega arith), below_yes bars i x l)
      pick (no n) (yes l) = omega (arith, below_yes bars (i + 1) x l, below_no bars i x n)
      pick (no n) (no f) = omega (arith, below_no bars (i + 1) x f, below_no bars i x n)

  pub row_grows : (x y : ℕ) → below bars (i + 1) x + below bars i (x + y) ≤ below bars (i + 1) (x + y) + below bars i x
  row_grows x zero = simp unary_clauses (omega arith)
  row_grows x (suc y) =
      let e : x + suc y ≡ (x + y) + 1 = omega arith in
      rw e (omega (arith, row_grows x y, row_step (x + y)))

  pub row_more : (m : ℕ) → below bars i m ≤ below bars (i + 1) m
  row_more m =
      let z : 0 + m ≡ m = omega arith in
      let g : below bars (i + 1) 0 + below bars i m ≤ below bars (i + 1) m + below bars i 0 = rw z at (row_grows 0 m) in
      omega (arith, below_none bars i, below_none bars (i + 1))

-- d arcs stand there after c and those of the first a: there is room for arc a where there is for all
pub own_room : {R : Reduced} {bars : List Bar} {i a c d : ℕ} → OwnAsks R bars i c → a < arcs_in R
    → d + below R.bars i a ≡ c + below R.bars (i + 1) a → near_in R.bars a ≡ i → d < ROOM
own_room {R} {i = i} {a = a} o h k e =
    let m = arcs_in R in
    let w : (a + 1) + (m - (a + 1)) ≡ m = omega arith in
    let g : below R.bars (i + 1) (a + 1) + below R.bars i m ≤ below R.bars (i + 1) m + below R.bars i (a + 1) =
    rw w at (row_grows R.bars i (a + 1) (m - (a + 1))) in
    omega (arith, o.room, row_yes R.bars i a e)

-- ---- the longer network

module _ {R : Reduced} {bars : List Bar} {c : ℕ} (own : Sized R) (few : arcs_in R ≤ ARCS) (whole : Whole R bars c) where
  abbrev R' : Reduced
  R' = reduced R.periods (take c bars)

  long : length R'.bars ≡ c
  long = length-take-le c bars (omega (arith, few, whole.few, whole.grown.long))

  cut_off : (b : ℕ) → b < c → bar_at R'.bars b ≡ bar_at bars b
  cut_off b h = get_or-take c bars b (bar 0 0 0 0 0) h

  implied : (b : ℕ) → b < length R'.bars → ImpliedArc R (bar_at R'.bars b)
  implied b h =
      let l : b < c = omega (arith, long) in
      rw (cut_off b l) (whole.grown.each b l)

  stands : (a : ℕ) → a < arcs_in R → Stands R.bars R'.bars c a
  stands a h =
      let s = whole.grown.earlier a h (omega (arith, own.barred.near_is a h, own.barred.last_is a h)) in
      record { place = s.place; inside = s.inside; same = cut_off s.place s.inside ∙ s.same }

  sized : Sized R'
  sized = record {
    few = own.few;
    period_most = own.period_most;
    barred = record {
      few_arcs = omega (arith, few, whole.few, long);
      near_is = λ a h. (implied a h).near_is;
      last_is = λ a h. (implied a h).last_is;
      shift_most = λ a h. (implied a h).shift_most;
      run_most = λ a h. (implied a h).run_most;
      gap_most = λ a h. (implied a h).gap_most;
    };
    gap_is = λ a h. (implied a h).gap_is;
  }

  met_back : (u : List ℕ) (a : ℕ) (s : Stands R.bars R'.bars c a) → met_in R.bars u a ≡ met_in R'.bars u s.place
  unfolding met_at
  met_back u a s = ap (λ (b : Bar). leb b.run (past b.gap b.shift (at u b.near) (at u b.last))) (sym s.same)

  pub longer_is : Longer R R'
  unfolding met_at
  longer_is = record {
    sized = sized;
    fits = λ u f. record { long = f.long; inside = f.inside; met = λ a h. (implied a h).met u f };
    back = λ u f. record {
      long = f.long;
      inside = f.inside;
      met = λ a h. let s = stands a h in met_back u a s ∙ f.met s.place (omega (arith, s.inside, long));
    };
  }
