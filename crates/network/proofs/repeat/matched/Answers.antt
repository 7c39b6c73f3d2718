-- None of the arcs passed is repeated: a link down is the last before it that starts where it does.
use mathlib.Core.Path.{◌≡◌, sym, ap, ◌∙◌}
use mathlib.Core.List.{List}
use Prim.Native.Nat.{ℕ, ◌-◌}
use native.Mathlib.Omega.{arith}
use lib.IntN.{ℤ, pos, ◌+ℤ◌}
use Rattle.numbers.specs.Remainder.{remainder}
use Rattle.network.specs.Network.{Network}
use Rattle.network.specs.PublicRule.{arc_period}
use Rattle.network.specs.Table.{repeats}
use Rattle.network.specs.Trial.{Inside, ArcOf}
use Rattle.network.specs.Pairs.{AsksMatched}
use Rattle.network.proofs.Arcs.{kept, period_bounds, lower_kept}
use Rattle.network.proofs.Links.{asks_width, width_told, two_arcs, rule_is, down_more}
use Rattle.network.proofs.repeat.matched.Goals as goal
use Rattle.network.proofs.repeat.matched.Goals.{After-is_same_rule}

here : {N : Network} {befores : List ℕ} {a k : ℕ} → AsksMatched N befores a k → ArcOf N a
here p = record { sound = p.linked.sound; arc = p.arc }

by : {N : Network} {a g : ℕ} → ArcOf N a → g ≡ arc_period N a → Inside 1 3600 g
by h e = rw e (period_bounds h)

pub offset-left-requires : goal.offset-left-requires
offset-left-requires c =
    let h = here c.requires in
    ((by h c.arc_period-g.ensures).some, lower_kept h (kept c.lower-low.type_inv ∙ c.lower-low.ensures))

pub working_width-wide-requires : goal.working_width-wide-requires
working_width-wide-requires c =
    let h = here c.requires in
    asks_width h (by h c.arc_period-g.ensures) (kept c.lower-low.type_inv ∙ c.lower-low.ensures) (kept c.upper.type_inv ∙ c.upper.ensures)

pub is_same_rule-requires : goal.is_same_rule-requires
is_same_rule-requires c =
    let h = here c.requires in
    two_arcs (c.loop-next.next - 1) h (by h c.arc_period-g.ensures) (omega arith)

-- what the comparison with the arc before the link says
tested : (c : goal.After-is_same_rule) → c.is_same_rule.result ≡ repeats c.args.network.now (c.loop-next.next - 1) c.args.arc
tested c =
    let p = c.arc_period-g.ensures in
    let low = kept c.lower-low.type_inv ∙ c.lower-low.ensures in
    c.is_same_rule.ensures
    ∙ rule_is _ (c.loop-next.next - 1) c.args.arc (by (here c.requires) p).some (c.loop-next.invariant.own c.loop-next-test.true) p
    (c.offset-left.ensures ∙ ap (λ (z : ℤ). remainder (z +ℤ pos 7200) c.arc_period-g.result) low)
    (width_told _ c.args.arc p low (kept c.upper.type_inv ∙ c.upper.ensures) c.working_width-wide.ensures)

pub returns-then-is_same_rule : goal.returns-then-is_same_rule
returns-then-is_same_rule c = (omega arith, sym (tested (goal.at.returns-then-is_same_rule c).After-is_same_rule) ∙ c.if-is_same_rule.true)

pub loop-next-preserved : goal.loop-next-preserved
loop-next-preserved c =
    down_more c.loop-next.invariant c.loop-next-test.true
    (sym (tested (goal.at.loop-next-preserved c).After-is_same_rule) ∙ c.if-is_same_rule.false)
    (c.requires.linked.each (c.loop-next.next - 1) (omega arith))
