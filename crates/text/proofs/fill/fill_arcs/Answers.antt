-- The arc read is the next.
use Rattle.std.proofs.Common.{◌≡◌, ◌+◌, [], rules, arith, refl, inl, FitsSigned, w32}
use Rattle.std.proofs.lemmas.Int.{to_z-of_z}
use Rattle.text.specs.Line.{lines}
use Rattle.text.specs.Text.{arc_of, arc_layout}
use Rattle.text.specs.Cursor.{lines_left, after_first}
use Rattle.text.proofs.Fills.{filling_at, filling_start, filling_end, filling_turn, filling_room, next_is, next_read, arcs-start, arcs_more, arcs-end, arcs_at}
use Rattle.text.proofs.fill.fill_arcs.Goals as goal

pub loop-k-init-derived : goal.loop-k-init-derived
loop-k-init-derived c =
    let it = c.into_iter-k-iterator.result in
    let first : lines_left it.iter ≡ after_first (lines c.args.text.now) = search rules in
    let zeroth : it.count ≡ 0 = search rules in
    let so = filling_at arc_of 256 first zeroth (filling_start arc_layout _ c.requires.accepted) in
    ((tt, tt, inl (omega (arith, filling_room arc_of 256 so))), tt)

pub loop-k-init : goal.loop-k-init
loop-k-init c =
    let it = c.into_iter-k-iterator.result in
    let first : lines_left it.iter ≡ after_first (lines c.args.text.now) = search rules in
    let zeroth : it.count ≡ 0 = search rules in
    (filling_at arc_of 256 first zeroth (filling_start arc_layout _ c.requires.accepted), arcs_at _ _ _ _ _ _ zeroth (arcs-start _ _ _ _ _ _))

pub bounds-tail-k : goal.bounds-tail-k
bounds-tail-k c =
    let next = filling_turn arc_of 256 c.loop-k.invariant.0 c.in-Some.ensures.steps.0 c.in-Some.ensures.steps.1 in
    omega arith

pub bounds-head-k : goal.bounds-head-k
bounds-head-k c =
    let next = filling_turn arc_of 256 c.loop-k.invariant.0 c.in-Some.ensures.steps.0 c.in-Some.ensures.steps.1 in
    omega arith

pub bounds-lower-k : goal.bounds-lower-k
bounds-lower-k c =
    let next = filling_turn arc_of 256 c.loop-k.invariant.0 c.in-Some.ensures.steps.0 c.in-Some.ensures.steps.1 in
    omega arith

pub bounds-upper-k : goal.bounds-upper-k
bounds-upper-k c =
    let next = filling_turn arc_of 256 c.loop-k.invariant.0 c.in-Some.ensures.steps.0 c.in-Some.ensures.steps.1 in
    omega arith

pub bounds-weight-k : goal.bounds-weight-k
bounds-weight-k c =
    let next = filling_turn arc_of 256 c.loop-k.invariant.0 c.in-Some.ensures.steps.0 c.in-Some.ensures.steps.1 in
    omega arith

pub loop-k-preserved-in-Some-read : goal.loop-k-preserved-in-Some-read
loop-k-preserved-in-Some-read c =
    let it = c.next.new.self in
    let more : it.count ≡ c.in-Some.k + 1 = search rules in
    let next = filling_turn arc_of 256 c.loop-k.invariant.0 c.in-Some.ensures.steps.0 c.in-Some.ensures.steps.1 in
    let low : FitsSigned w32 c.in-Some-read.arc.lower = search rules in
    let high : FitsSigned w32 c.in-Some-read.arc.upper = search rules in
    let is = next_is arc_of 256 next c.in-Some-read.ensures in (
      filling_at arc_of 256 refl more next.more,
      arcs_at _ _ _ _ _ _ more (arcs_more _ _ _ _ _ _ (arcs_at _ _ _ _ _ _ c.in-Some.ensures.steps.1 c.loop-k.invariant.1) is (to_z-of_z w32 _ low) (to_z-of_z w32 _ high)
          next.inside (omega arith) (omega arith) (omega arith) (omega arith) (omega arith)),
    )

pub loop-k-preserved : goal.loop-k-preserved
loop-k-preserved c =
    let next = filling_turn arc_of 256 c.loop-k.invariant.0 c.in-Some.ensures.steps.0 c.in-Some.ensures.steps.1 in
    absurd (next_read arc_of 256 next c.in_default.ensures)

pub returns : goal.returns
returns c =
    let none : lines_left c.loop-k.k-iterator.iter ≡ [] = search rules in
    arcs-end _ _ _ _ _ _ c.loop-k.invariant.1 (filling_end arc_of 256 c.loop-k.invariant.0 none)
