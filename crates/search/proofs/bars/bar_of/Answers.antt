-- The five numbers of an arc, whichever end is the later.
use Rattle.std.proofs.Common.{◌≡◌, ap, ◌∙◌, arith}
use mir.Syntax.{w32}
use mir.Val.{to_z, of_z}
use Rattle.network.proofs.Arcs.{kept, in_heads, in_lowers, in_uppers, period_bounds, asks_working, span}
use Rattle.search.proofs.Reducing.{arc_of, tail_small, head_small, low_is, high_is, width_fits, negated_fits, twice, bar_forward, bar_backward}
use Rattle.search.proofs.bars.bar_of.Goals as goal
use Rattle.search.proofs.bars.bar_of.Goals.{then-tail-head, else-tail-head}

pub lower-low-requires : goal.lower-low-requires
lower-low-requires c = in_lowers (arc_of c.args.network.now.well c.requires)

pub upper-requires : goal.upper-requires
upper-requires c = in_uppers (arc_of c.args.network.now.well c.requires)

pub working-high-requires : goal.working-high-requires
working-high-requires c =
    let here = arc_of c.args.network.now.well c.requires in
    asks_working here c.arc_period-period.ensures (low_is here c.lower-low.type_inv c.lower-low.ensures)

pub overflow_sub-run : goal.overflow_sub-run
overflow_sub-run c = omega (arith, c.arc_period-period.ensures, (period_bounds (arc_of c.args.network.now.well c.requires)).some)

pub width-requires : goal.width-requires
width-requires c =
    let here = arc_of c.args.network.now.well c.requires in
    let low = low_is here c.lower-low.type_inv c.lower-low.ensures in
    span here low (high_is here c.arc_period-period.ensures low c.upper.type_inv c.upper.ensures c.working-high.type_inv c.working-high.ensures)

pub overflow_sub-run-2 : goal.overflow_sub-run-2
overflow_sub-run-2 c =
    let here = arc_of c.args.network.now.well c.requires in
    let low = low_is here c.lower-low.type_inv c.lower-low.ensures in
    let high = high_is here c.arc_period-period.ensures low c.upper.type_inv c.upper.ensures c.working-high.type_inv c.working-high.ensures in
    width_fits here c.arc_period-period.ensures low high c.width.ensures

pub head-head-requires : goal.head-head-requires
head-head-requires c = in_heads (arc_of c.args.network.now.well c.requires)

pub overflow_sub-near : goal.overflow_sub-near
overflow_sub-near c =
    let here = arc_of c.args.network.now.well c.requires in
    let low = low_is here c.lower-low.type_inv c.lower-low.ensures in
    negated_fits here (high_is here c.arc_period-period.ensures low c.upper.type_inv c.upper.ensures c.working-high.type_inv c.working-high.ensures)

pub overflow_cast-result : goal.overflow_cast-result
overflow_cast-result c =
    let here = arc_of c.args.network.now.well c.requires in
    elim c.if-tail-head.branch [
      | then-tail-head w ↦ omega (arith, ap (λ p. p.0) w.near-is, c.tail-tail.ensures, tail_small here)
      | else-tail-head w ↦ omega (arith, ap (λ p. p.0) w.near-is, c.head-head.ensures, head_small here)
    ]

pub overflow_cast-result-2 : goal.overflow_cast-result-2
overflow_cast-result-2 c =
    let here = arc_of c.args.network.now.well c.requires in
    elim c.if-tail-head.branch [
      | then-tail-head w ↦ omega (arith, ap (λ p. p.1) w.near-is, c.head-head.ensures, head_small here)
      | else-tail-head w ↦ omega (arith, ap (λ p. p.1) w.near-is, c.tail-tail.ensures, tail_small here)
    ]

pub slack_by-requires : goal.slack_by-requires
slack_by-requires c = omega (arith, c.arc_period-period.ensures, (period_bounds (arc_of c.args.network.now.well c.requires)).some)

pub returns : goal.returns
returns c =
    let here = arc_of c.args.network.now.well c.requires in
    let low = low_is here c.lower-low.type_inv c.lower-low.ensures in
    let high = high_is here c.arc_period-period.ensures low c.upper.type_inv c.upper.ensures c.working-high.type_inv c.working-high.ensures in
    let same : to_z w32 (of_z w32 c.lower-low.result) ≡ c.lower-low.result = kept c.lower-low.type_inv in
    elim c.if-tail-head.branch [
      | then-tail-head w ↦ bar_forward here c.arc_period-period.ensures low high c.width.ensures c.slack_by.ensures
          (ap (λ p. p.0) w.near-is ∙ c.tail-tail.ensures) (ap (λ p. p.1) w.near-is ∙ c.head-head.ensures)
          (omega (arith, ap (λ p. p.0) w.near-is, ap (λ p. p.1) w.near-is, w.if-tail-head.true))
          (ap (λ p. to_z w32 (of_z w32 p.2)) w.near-is ∙ twice (negated_fits here high))
      | else-tail-head w ↦ bar_backward here c.arc_period-period.ensures low high c.width.ensures c.slack_by.ensures
          (ap (λ p. p.0) w.near-is ∙ c.head-head.ensures) (ap (λ p. p.1) w.near-is ∙ c.tail-tail.ensures)
          (omega (arith, ap (λ p. p.0) w.near-is, ap (λ p. p.1) w.near-is, w.if-tail-head.false))
          (ap (λ p. to_z w32 (of_z w32 p.2)) w.near-is ∙ ap (λ z. to_z w32 (of_z w32 z)) same)
    ]
