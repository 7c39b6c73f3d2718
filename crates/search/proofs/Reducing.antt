-- The network in unsigned numbers has the same feasible timetables. Assumes nothing.
use mathlib.Core.Path.{◌≡◌, sym, ap, ◌∙◌}
use mathlib.Core.List.{List}
use mathlib.Core.Bool.{Bool, true, false, cond}
use Prim.Native.Nat.{ℕ, ◌+◌, ◌-◌, ◌<◌, ◌≤◌}
use native.Mathlib.Decide.{dec_lt}
use native.Mathlib.Omega.{arith}
use lib.IntN.{ℤ, pos, nat_abs, ◌-ℤ◌}
use lib.Signed.{mag}
use lib.ListN.{length}
use lib.Dec.{leb}
use borrow.Author.Tests.{lt-ltb, le-ltb, le-leb, lt-leb}
use Rattle.numbers.specs.Divisor.{gcd}
use Rattle.numbers.specs.Remainder.{Cong}
use Rattle.numbers.proofs.Divisors.{gcd_turned}
use mir.Syntax.{w32}
use mir.Val.{SFits, to_z, of_z}
use Rattle.numbers.proofs.Bits.{of}
use Rattle.numbers.proofs.Integers.{up, dn, of_sub, of_abs, abs_ℤ, sfits_ℤ}
use Rattle.numbers.proofs.Congruence.{cong, parts, cong_refl, cong_sym, cong_trans, cong_sub}
use Rattle.numbers.proofs.Remainders.{below-same, remainder-below, remainder_cong}
use Rattle.network.specs.Network.{Network, arcs, period, tail, head, lower, upper}
use Rattle.numbers.specs.Row.{at}
use Rattle.network.specs.PublicRule.{arc_period, slack_by, slack, met, working_by, working, width_of, Feasible}
use Rattle.network.specs.Trial.{Sound, ArcOf}
use Rattle.network.specs.Rows.{written}
use Rattle.network.proofs.Arcs.{kept, period_bounds, working_is, written-length, written_at}
use Rattle.network.proofs.Sound.{sound, arc-period}
use Rattle.network.proofs.Times.{in_time, all_in_time}
use Rattle.network.proofs.Width.{width_from, width_is, width_below, met_width}
use Rattle.search.specs.Looked.{Looked, Sought, Serves}
use Rattle.search.specs.Looked.Looked.{found, nothing}
use Rattle.search.specs.Looked.Sought.{least_fits, none_fits}
use Rattle.network.specs.Table.{WellFormed}
use Rattle.search.specs.declared.Bar.{Bar}
use Rattle.search.specs.Reduced.{bar, bar_at, near_in, last_in, shift_in, run_in, gap_in, Reduced, reduced, past, met_at, met_in, Fitting, Barred, Sized}
use Rattle.search.specs.Reduced.{near_of, last_of, edge_of, shift_of, run_of, bar_of}

-- ---- a slack s up to w, and how far a time is past its run, p: of g times the run leaves w and one more

-- where the time rises with the slack, the run begins w and one more after the slack is 0
pub later : {g w s p : ℕ} → w < g → s < g → p < g → Cong g (pos (p + (w + 1))) (pos s) → leb ((g - 1) - w) p ≡ leb s w
later {g} {w} {s} {p} hw hs hp c = go (dec_lt (p + (w + 1)) g)
  where
    go : Dec (p + (w + 1) < g) → leb ((g - 1) - w) p ≡ leb s w
    go (yes l) =
        let e : p + (w + 1) ≡ s = below-same l hs c in
        lt-leb ((g - 1) - w) p (omega arith) ∙ sym (lt-leb s w (omega arith))
    go (no n) =
        let e : (p + (w + 1)) - g ≡ s = below-same (omega (arith, n)) hs (cong_trans (cong 1 0 (omega (arith, n))) c) in
        le-leb ((g - 1) - w) p (omega (arith, n)) ∙ sym (le-leb s w (omega (arith, n)))

-- where it falls as the slack rises, it ends where the slack is 0
earlier : {g w s p : ℕ} → w < g → s < g → p < g → Cong g (pos (p + (s + 1))) (pos 0) → leb ((g - 1) - w) p ≡ leb s w
earlier {g} {w} {s} {p} hw hs hp c = go (dec_lt s (w + 1))
  where
    all : p + (s + 1) ≡ g
    all = whole (dec_lt (p + (s + 1)) g)
      where
        whole : Dec (p + (s + 1) < g) → p + (s + 1) ≡ g
        whole (yes l) = absurd (omega (arith, below-same l (omega arith) c))
        whole (no n) =
            let e : (p + (s + 1)) - g ≡ 0 = below-same (omega (arith, n)) (omega arith) (cong_trans (cong 1 0 (omega (arith, n))) c) in
            omega (arith, n)

    go : Dec (s < w + 1) → leb ((g - 1) - w) p ≡ leb s w
    go (yes l) = le-leb ((g - 1) - w) p (omega (arith, all)) ∙ sym (le-leb s w (omega arith))
    go (no n) = lt-leb ((g - 1) - w) p (omega (arith, n, all)) ∙ sym (lt-leb s w (omega (arith, n)))

-- ---- in the arc's own numbers

-- a remainder stands for what it was taken of
of_rest : (g : ℕ) (z : ℤ) → 0 < g → Cong g (pos (slack_by g z 0 1)) ((pos 1 -ℤ pos 0) -ℤ z)
of_rest g z h = cong_sym (remainder_cong ((pos 1 -ℤ pos 0) -ℤ z) g h)

past_cong : (g : ℕ) (edge : ℤ) (from to : ℕ) → 0 < g → Cong g (pos (past g (slack_by g edge 0 1) from to)) ((pos to -ℤ pos from) -ℤ ((pos 1 -ℤ pos 0) -ℤ edge))
past_cong g edge from to h =
    cong_trans (cong_sym (remainder_cong ((pos to -ℤ pos from) -ℤ pos (slack_by g edge 0 1)) g h))
    (cong_sub (cong_refl g (pos to -ℤ pos from)) (of_rest g edge h))

module _ {N : Network} {a : ℕ} (s : Sound N) (h : a < arcs N) where
  some : 0 < arc_period N a
  some = (arc-period N a s h).some

  module _ (from to : ℕ) where
    rising : leb (run_of N a) (past (arc_period N a) (slack_by (arc_period N a) (pos 0 -ℤ working N a) 0 1) from to)
        ≡ leb (slack_by (arc_period N a) (lower N a) from to) (width_of N a)
    rising =
        let g = arc_period N a in
        let u = working N a in
        let l = lower N a in
        let d = pos to -ℤ pos from in
        let v = pos 0 -ℤ u in
        let e = (pos 1 -ℤ pos 0) -ℤ v in
        let p = past_cong g v from to some in
        let q = remainder_cong (d -ℤ l) g some in
        later (width_below N a s h) (remainder-below (d -ℤ l) g some) (remainder-below (d -ℤ pos (slack_by g v 0 1)) g some)
        (cong (dn p.times + dn q.times) (up p.times + up q.times)
        (omega (
          arith,
          parts p,
          parts q,
          width_is N a s h,
          of_sub (pos to) (pos from),
          of_sub d l,
          of_sub d e,
          of_sub (pos 1) (pos 0),
          of_sub (pos 1 -ℤ pos 0) v,
          of_sub (pos 0) u,
        )))

    falling : leb (run_of N a) (past (arc_period N a) (slack_by (arc_period N a) (lower N a) 0 1) to from) ≡ leb (slack_by (arc_period N a) (lower N a) from to) (width_of N a)
    falling =
        let g = arc_period N a in
        let l = lower N a in
        let d = pos to -ℤ pos from in
        let b = pos from -ℤ pos to in
        let e = (pos 1 -ℤ pos 0) -ℤ l in
        let p = past_cong g l to from some in
        let q = remainder_cong (d -ℤ l) g some in
        earlier (width_below N a s h) (remainder-below (d -ℤ l) g some) (remainder-below (b -ℤ pos (slack_by g l 0 1)) g some)
        (cong (dn p.times + up q.times) (up p.times + dn q.times)
        (omega (arith, parts p, parts q, of_sub (pos to) (pos from), of_sub (pos from) (pos to), of_sub d l, of_sub b e, of_sub (pos 1) (pos 0), of_sub (pos 1 -ℤ pos 0) l)))

  met_bar : (t : List ℕ) → leb (run_of N a) (past (arc_period N a) (shift_of N a) (at t (near_of N a)) (at t (last_of N a))) ≡ met N t a
  unfolding slack
  met_bar t = go (dec_lt (tail N a) (head N a)) ∙ sym (met_width N t a s h)
    where
      go : Dec (tail N a < head N a)
          → leb (run_of N a) (past (arc_period N a) (shift_of N a) (at t (near_of N a)) (at t (last_of N a)))
          ≡ leb (slack_by (arc_period N a) (lower N a) (at t (tail N a)) (at t (head N a))) (width_of N a)
      go (yes l) =
          let n : near_of N a ≡ tail N a = omega arith in
          let m : last_of N a ≡ head N a = omega arith in
          rw (n, m, lt-ltb (tail N a) (head N a) l) (rising (at t (tail N a)) (at t (head N a)))
      go (no f) =
          let n : near_of N a ≡ head N a = omega (arith, f) in
          let m : last_of N a ≡ tail N a = omega (arith, f) in
          rw (n, m, le-ltb (tail N a) (head N a) (omega (arith, f))) (falling (at t (tail N a)) (at t (head N a)))

-- ---- the numbers of an arc, as calls handed them on

-- a number that fits is kept, however often it is handed on
pub twice : {z : ℤ} → SFits w32 z → to_z w32 (of_z w32 (to_z w32 (of_z w32 z))) ≡ z
twice {z} f = let e = (of {w = w32} {z = z} f).is in ap (λ (y : ℤ). to_z w32 (of_z w32 y)) e ∙ e

-- an end of an arc is a small number
pub tail_small : {N : Network} {a : ℕ} → ArcOf N a → tail N a < 64
tail_small {a = a} c = omega (arith, (c.sound.ends a c.arc).tail_in, c.sound.event_count.most)

pub head_small : {N : Network} {a : ℕ} → ArcOf N a → head N a < 64
head_small {a = a} c = omega (arith, (c.sound.ends a c.arc).head_in, c.sound.event_count.most)

pub arc_of : {N : Network} {a : ℕ} → WellFormed N → a < arcs N → ArcOf N a
arc_of {N} w h = record { sound = sound N w; arc = h }

-- the bounds of an arc, as calls handed them on
pub low_is : {N : Network} {a : ℕ} {l : ℤ} → ArcOf N a → mag l < 2147483648 → l ≡ lower N a → to_z w32 (of_z w32 l) ≡ lower N a
low_is c s e = kept s ∙ e

pub high_is : {N : Network} {a g : ℕ} {low u h : ℤ} → ArcOf N a → g ≡ arc_period N a → low ≡ lower N a → mag u < 2147483648 → u ≡ upper N a → mag h < 2147483648
    → h ≡ working_by g low (to_z w32 (of_z w32 u))
    → to_z w32 (of_z w32 h) ≡ working N a
high_is c q l s e t f = kept t ∙ working_is c q l (kept s ∙ e) f

module _ {N : Network} {a : ℕ} (c : ArcOf N a) where
  pub width_fits : {g y : ℕ} {low high : ℤ} → g ≡ arc_period N a → low ≡ lower N a → high ≡ working N a → y ≡ nat_abs (high -ℤ low) → y ≤ g - 1
  width_fits q l h e = omega (arith, width_from N a l h e, width_below N a c.sound c.arc)

  working_small : {high : ℤ} → high ≡ working N a → nat_abs high ≤ 10800
  working_small h =
      let s = c.sound in
      let l = lower N a in
      rw h
      (abs_ℤ (working N a) (omega (arith, width_is N a s c.arc, width_below N a s c.arc, (period_bounds c).most, of_abs l, s.lower_small a c.arc)))

  -- and with the other sign
  pub negated_fits : {high : ℤ} → high ≡ working N a → SFits w32 (pos 0 -ℤ high)
  negated_fits {high} h =
      let m = working_small h in
      sfits_ℤ w32 (pos 0 -ℤ high) (omega (arith, m, of_abs high, of_sub (pos 0) high)) (omega (arith, m, of_abs high, of_sub (pos 0) high))

  edge_forward : tail N a < head N a → pos 0 -ℤ working N a ≡ edge_of N a
  edge_forward h = ap (λ (b : Bool). cond b (pos 0 -ℤ working N a) (lower N a)) (sym (lt-ltb (tail N a) (head N a) h))

  edge_backward : head N a ≤ tail N a → lower N a ≡ edge_of N a
  edge_backward h = ap (λ (b : Bool). cond b (pos 0 -ℤ working N a) (lower N a)) (sym (le-ltb (tail N a) (head N a) h))

  -- near and last are the ends in order, and the edge is seen from the later one
  bar_is : {near last s g y : ℕ} {low high edge : ℤ} → near ≡ near_of N a → last ≡ last_of N a → g ≡ arc_period N a → low ≡ lower N a → high ≡ working N a
      → y ≡ nat_abs (high -ℤ low) → edge ≡ edge_of N a → s ≡ slack_by g edge 0 1
      → bar near last s ((g - 1) - y) g ≡ bar_of N a
  unfolding bar_of
  bar_is n m q l h e d f =
      let w = width_from N a l h e in
      let b = f ∙ (λ i. slack_by (q i) (d i) 0 1) in
      λ j. bar (n j) (m j) (b j) ((q j - 1) - w j) (q j)

  module _ {near last s g y : ℕ} {low high edge : ℤ} (q : g ≡ arc_period N a) (l : low ≡ lower N a) (h : high ≡ working N a)
      (e : y ≡ nat_abs (high -ℤ low)) (f : s ≡ slack_by g edge 0 1) where
    pub bar_forward : near ≡ tail N a → last ≡ head N a → near < last → edge ≡ pos 0 -ℤ high → bar near last s ((g - 1) - y) g ≡ bar_of N a
    bar_forward n m o d =
        bar_is (omega (arith, n, m, o)) (omega (arith, n, m, o)) q l h e (d ∙ ap (λ (z : ℤ). pos 0 -ℤ z) h ∙ edge_forward (omega (arith, n, m, o))) f

    pub bar_backward : near ≡ head N a → last ≡ tail N a → near ≤ last → edge ≡ low → bar near last s ((g - 1) - y) g ≡ bar_of N a
    bar_backward n m o d = bar_is (omega (arith, n, m, o)) (omega (arith, n, m, o)) q l h e (d ∙ l ∙ edge_backward (omega (arith, n, m, o))) f

-- ---- the same arcs met, the same feasible timetables

-- the gap of an arc, by the periods at its ends in the order of their numbers
gap_of : (N : Network) (a : ℕ) → arc_period N a ≡ gcd (period N (near_of N a)) (period N (last_of N a))
unfolding arc_period
gap_of N a = go (dec_lt (tail N a) (head N a))
  where
    go : Dec (tail N a < head N a) → gcd (period N (tail N a)) (period N (head N a)) ≡ gcd (period N (near_of N a)) (period N (last_of N a))
    go (yes l) =
        let n : tail N a ≡ near_of N a = omega arith in
        let m : head N a ≡ last_of N a = omega arith in
        λ j. gcd (period N (n j)) (period N (m j))
    go (no f) =
        let n : head N a ≡ near_of N a = omega (arith, f) in
        let m : tail N a ≡ last_of N a = omega (arith, f) in
        gcd_turned (period N (tail N a)) (period N (head N a)) ∙ (λ j. gcd (period N (n j)) (period N (m j)))

-- what is read of arc a
record BarIs (N : Network) (bars : List Bar) (a : ℕ) : Type 0 where
  near_is : near_in bars a ≡ near_of N a
  last_is : last_in bars a ≡ last_of N a
  shift_is : shift_in bars a ≡ shift_of N a
  run_is : run_in bars a ≡ run_of N a
  gap_is : gap_in bars a ≡ arc_period N a

module _ {N : Network} (well : WellFormed N) (bars : List Bar) (room : length bars ≡ arcs N) where
  abbrev R : Reduced
  R = reduced N.periods (written (bar_of N) (arcs N) bars)

  has : Sound N
  has = sound N well

  arcs_are : length R.bars ≡ arcs N
  arcs_are = written-length (bar_of N) (arcs N) bars ∙ room

  bar_here : (a : ℕ) → a < length R.bars → BarIs N R.bars a
  unfolding bar_of
  bar_here a h =
      let e : bar_at R.bars a ≡ bar_of N a = written_at (bar 0 0 0 0 0) (bar_of N) (arcs N) bars a (omega (arith, arcs_are)) (omega (arith, room)) in
      record {
        near_is = ap (λ (b : Bar). b.near) e;
        last_is = ap (λ (b : Bar). b.last) e;
        shift_is = ap (λ (b : Bar). b.shift) e;
        run_is = ap (λ (b : Bar). b.run) e;
        gap_is = ap (λ (b : Bar). b.gap) e;
      }

  in_arcs : {a : ℕ} → a < length R.bars → a < arcs N
  in_arcs h = omega (arith, arcs_are)

  barred : Barred (length N.periods) R.bars
  barred = record {
    few_arcs = omega (arith, arcs_are, has.even.few_arcs);
    near_is = λ a h. omega (arith, (bar_here a h).near_is, (bar_here a h).last_is, has.no_loop a (in_arcs h));
    last_is = λ a h. omega (arith, (bar_here a h).last_is, (has.ends a (in_arcs h)).tail_in, (has.ends a (in_arcs h)).head_in);
    shift_most = λ a h.
        omega (arith, (bar_here a h).shift_is, (bar_here a h).gap_is, remainder-below ((pos 1 -ℤ pos 0) -ℤ edge_of N a) (arc_period N a) (some has (in_arcs h)));
    run_most = λ a h. omega (arith, (bar_here a h).run_is, (bar_here a h).gap_is, some has (in_arcs h));
    gap_most = λ a h. omega (arith, (bar_here a h).gap_is, (arc-period N a has (in_arcs h)).most);
  }

  pub sized : Sized R
  sized = record {
    few = has.event_count.most;
    period_most = λ v h. (has.periods v h).most;
    barred = barred;
    gap_is = λ a h. (bar_here a h).gap_is ∙ gap_of N a ∙ (λ j. gcd (period N (sym (bar_here a h).near_is j)) (period N (sym (bar_here a h).last_is j)));
  }

  met-same : (t : List ℕ) (a : ℕ) → a < length R.bars → met_in R.bars t a ≡ met N t a
  unfolding met_at
  met-same t a h =
      let b = bar_here a h in
      (λ j. leb (b.run_is j) (past (b.gap_is j) (b.shift_is j) (at t (b.near_is j)) (at t (b.last_is j)))) ∙ met_bar has (in_arcs h) t

  fitting : {t : List ℕ} → Feasible N t → Fitting R t
  fitting {t} p = record {
    long = p.timetable.long;
    inside = λ v h. in_time p.timetable h;
    met = λ a h. met-same t a h ∙ p.each-met a (in_arcs h);
  }

  feasible : {t : List ℕ} → Fitting R t → Feasible N t
  feasible {t} p = record {
    timetable = all_in_time p.long p.inside;
    each-met = λ a h. let k : a < length R.bars = omega (arith, arcs_are) in sym (met-same t a k) ∙ p.met a k;
  }

  pub serves : Serves N R
  serves = record { sized = sized; fits = λ u. fitting; back = λ u. feasible }

-- what the search says of a network that serves another it says of that
pub looked : {N : Network} {R : Reduced} {t : List ℕ} → Serves N R → (r : Bool) → Sought R t r → Looked N t r
looked s true (least_fits f l) = found (record { feasible = s.back _ f; least = λ u q p. l u (s.fits u q) p })
looked s false (none_fits n) = nothing (λ u q. n u (s.fits u q))
