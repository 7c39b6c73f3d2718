-- The period read is the next row.
use Rattle.std.proofs.Common.{◌≡◌, ◌+◌, ◌<◌, [], List, ℕ, length, rules, arith, refl, sym, ap, inl, ◌∙◌}
use lib.ListN.{set}
use lib.Seq.{paste}
use Rattle.text.specs.Line.{lines}
use Rattle.text.specs.Text.{event_of, event_layout, told}
use Rattle.text.specs.Cursor.{lines_left, after_first}
use Rattle.text.specs.Fill.{rows_of}
use Rattle.text.proofs.Fills.{filling_at, filling_start, filling_end, filling_turn, filling_room, next_is, next_read, onto-start, onto_more, onto-end}
use Rattle.text.proofs.fill.fill_events.Goals as goal

pub loop-k-init-derived : goal.loop-k-init-derived
loop-k-init-derived c =
    let it = c.into_iter-k-iterator.result in
    let first : lines_left it.iter ≡ after_first (lines c.args.text.now) = search rules in
    let zeroth : it.count ≡ 0 = search rules in
    let so = filling_at event_of 64 first zeroth (filling_start event_layout _ c.requires.accepted) in
    ((tt, tt, inl (omega (arith, filling_room event_of 64 so))), tt)

pub loop-k-init : goal.loop-k-init
loop-k-init c =
    let it = c.into_iter-k-iterator.result in
    let rows : List ℕ = rows_of (told event_layout c.args.text.now) in
    let first : lines_left it.iter ≡ after_first (lines c.args.text.now) = search rules in
    let zeroth : it.count ≡ 0 = search rules in
    (filling_at event_of 64 first zeroth (filling_start event_layout _ c.requires.accepted), onto-start rows _ ∙ ap (paste c.args.periods.now 0 rows) (sym zeroth))

pub bounds-periods-k : goal.bounds-periods-k
bounds-periods-k c =
    let next = filling_turn event_of 64 c.loop-k.invariant.0 c.in-Some.ensures.steps.0 c.in-Some.ensures.steps.1 in
    omega arith

pub loop-k-preserved-in-Some-read : goal.loop-k-preserved-in-Some-read
loop-k-preserved-in-Some-read c =
    let it = c.next.new.self in
    let k = c.in-Some.k in
    let rows : List ℕ = rows_of (told event_layout c.args.text.now) in
    let more : it.count ≡ k + 1 = search rules in
    let next = filling_turn event_of 64 c.loop-k.invariant.0 c.in-Some.ensures.steps.0 c.in-Some.ensures.steps.1 in
    let room : k < length c.args.periods.now = omega arith in
    let row = next_is event_of 64 next c.in-Some-read.ensures 0 in (
      filling_at event_of 64 refl more next.more,
      ap (λ (r : List ℕ). set r k c.in-Some-read.period) (c.loop-k.invariant.1 ∙ ap (paste c.args.periods.now 0 rows) (sym c.in-Some.ensures.steps.1))
          ∙ ap (set (paste c.args.periods.now 0 rows k) k) row ∙ onto_more rows _ k 0 next.inside room ∙ ap (paste c.args.periods.now 0 rows) (sym more),
    )

pub loop-k-preserved : goal.loop-k-preserved
loop-k-preserved c =
    let next = filling_turn event_of 64 c.loop-k.invariant.0 c.in-Some.ensures.steps.0 c.in-Some.ensures.steps.1 in
    absurd (next_read event_of 64 next c.in_default.ensures)

pub returns : goal.returns
returns c =
    let none : lines_left c.loop-k.k-iterator.iter ≡ [] = search rules in
    c.loop-k.invariant.1 ∙ onto-end _ _ _ (filling_end event_of 64 c.loop-k.invariant.0 none)
