-- The arcs of a network as spans of the table, and what they leave of it. Assumes nothing.
use mathlib.Core.Path.{◌≡◌, sym, ap, ◌∙◌}
use mathlib.Core.Bool.{true}
use Prim.Native.Nat.{ℕ, ◌+◌, ◌-◌, ◌%◌, ◌<◌}
use native.Mathlib.Omega.{arith}
use lib.IntN.{pos, ◌-ℤ◌}
use lib.Dec.{leb}
use borrow.Author.Tests.{leb-true, le-leb}
use Rattle.numbers.specs.Remainder.{Cong}
use Rattle.numbers.proofs.Integers.{up, dn, of_sub}
use Rattle.numbers.proofs.Congruence.{cong, parts, cong_sym}
use Rattle.numbers.proofs.Remainders.{remainder-below, remainder_cong, mod_cong}
use Rattle.network.specs.PublicRule.{slack_by}
use Rattle.search.specs.declared.Bar.{Bar}
use Rattle.search.specs.Reduced.{bar_at, near_in, last_in, past, met_at}
use Rattle.search.proofs.Reducing.{later}
use Rattle.closure.specs.declared.span.Span.{Span}
use Rattle.closure.specs.declared.table.Table.{Table}
use Rattle.closure.specs.Spans.{Within}
use Rattle.closure.specs.Steps.{events_of, arcs_of, NarrowAsks}

-- ---- a run of barred times and the span that it leaves: the run begins one after the span's end

bar_is_span : {g w : ℕ} (low shift : ℕ) → w < g → Cong g (pos (low + w + 1)) (pos shift) → (from to : ℕ)
    → leb ((g - 1) - w) (past g shift from to) ≡ leb (slack_by g (pos low) from to) w
bar_is_span {g} {w} low shift h c from to =
    let some : 0 < g = omega arith in
    let d = pos to -ℤ pos from in
    let p = remainder_cong (d -ℤ pos shift) g some in
    let q = remainder_cong (d -ℤ pos low) g some in
    later h (remainder-below (d -ℤ pos low) g some) (remainder-below (d -ℤ pos shift) g some)
    (cong (dn c.times + up p.times + dn q.times) (up c.times + dn p.times + up q.times)
    (omega (arith, parts c, parts p, parts q, of_sub d (pos shift), of_sub d (pos low))))

-- the span that an arc's run leaves
record Leaves (b : Bar) (s : Span) : Type 0 where
  gap_is : s.gap ≡ b.gap
  low_is : s.low ≡ (b.shift + b.run) % b.gap
  width_is : s.width ≡ (b.gap - 1) - b.run

within_arc : {b : Bar} {s : Span} {from to : ℕ} → Leaves b s → b.run < b.gap → leb b.run (past b.gap b.shift from to) ≡ true → Within s from to
within_arc {b} {s} {from} {to} l h m =
    let g = b.gap in
    let run = b.run in
    let low = (b.shift + run) % g in
    let w = (g - 1) - run in
    let c = mod_cong (b.shift + run) g (omega arith) in
    let whole : (g - 1) - w ≡ run = omega arith in
    let e = bar_is_span {g = g} {w = w} low b.shift (omega arith) (cong (dn c.times) (up c.times + 1) (omega (arith, parts c))) from to in
    record { most = rw (l.gap_is, l.low_is, l.width_is) (leb-true _ _ (sym e ∙ ap (λ (n : ℕ). leb n (past g b.shift from to)) whole ∙ m)) }

-- the run that bars what a span does not hold
pub bar_within : {s : Span} {from to : ℕ} → Within s from to → leb ((s.gap - 1) - s.width) (past s.gap ((s.low + s.width + 1) % s.gap) from to) ≡ true
bar_within {s} {from} {to} i =
    let h = s.shape.width_below in
    bar_is_span s.low ((s.low + s.width + 1) % s.gap) h (cong_sym (mod_cong (s.low + s.width + 1) s.gap (omega (arith, h)))) from to ∙ le-leb _ _ i.most

-- ---- one arc

-- its own span holds the difference of its ends in every fitting timetable
pub arc_asks : {T : Table} {a : ℕ} {s : Span} → a < arcs_of T → s.gap ≡ (bar_at T.network.bars.now a).gap
    → s.low ≡ ((bar_at T.network.bars.now a).shift + (bar_at T.network.bars.now a).run) % (bar_at T.network.bars.now a).gap
    → s.width ≡ ((bar_at T.network.bars.now a).gap - 1) - (bar_at T.network.bars.now a).run
    → NarrowAsks T (near_in T.network.bars.now a) (last_in T.network.bars.now a) s
unfolding met_at
arc_asks {T} {a} {s} h g l w =
    let z = T.network.sized in
    let last : last_in T.network.bars.now a < events_of T = z.barred.last_is a h in
    let near : near_in T.network.bars.now a < events_of T = omega (arith, z.barred.near_is a h, last) in
    record {
      first = near;
      second = last;
      gap_is = g ∙ z.gap_is a h ∙ sym (T.spanned.gap_is (near_in T.network.bars.now a) (last_in T.network.bars.now a) near last);
      holds = λ u f.
          within_arc {b = bar_at T.network.bars.now a} (record { gap_is = g; low_is = l; width_is = w }) (z.barred.run_most a h) (f.met a h);
    }
