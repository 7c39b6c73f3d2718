-- Each tension passed is within its working bounds.
use Rattle.std.proofs.Common.{not, ◌≡◌, ◌<◌, ap, ◌∙◌, arith}
use Rattle.numbers.specs.Row.{at_ℤ}
use Rattle.network.specs.Network.{arcs}
use Rattle.network.specs.Rows.{astray}
use Rattle.network.proofs.Scans.{passed_more, first_hit}
use Rattle.network.proofs.Arcs.{kept, arc_here, working_is}
use Rattle.network.proofs.Ranges.{outside_is}
use Rattle.network.proofs.well_formed.WellFormed.first_astray.Goals as goal
use Rattle.network.proofs.well_formed.WellFormed.first_astray.Goals.{After-contains}

-- what the test of an arc says
tested : (c : goal.After-contains) → astray c.args.self.now.rows c.args.tensions.now c.loop-arc.arc ≡ not c.contains.result
tested c =
    let low = kept c.lower-low.type_inv ∙ c.lower-low.ensures in
    let high = kept c.working-high.type_inv
    ∙ working_is (arc_here c.args.self.now.well c.requires c.loop-arc-test.true) c.arc_period.ensures low (kept c.upper.type_inv ∙ c.upper.ensures)
    c.working-high.ensures in
    outside_is (at_ℤ c.args.tensions.now c.loop-arc.arc) (c.new.ensures.start ∙ low) (c.new.ensures.end ∙ high) c.new.ensures.exhausted c.contains.ensures.value

pub returns-then-not-contains : goal.returns-then-not-contains
returns-then-not-contains c =
    let h : c.loop-arc.arc < arcs c.args.self.now.rows = omega (arith, c.requires) in
    (h, first_hit c.loop-arc.invariant h (tested (goal.at.returns-then-not-contains c).After-contains ∙ ap not c.if-not-contains.true))

pub loop-arc-preserved : goal.loop-arc-preserved
loop-arc-preserved c = passed_more c.loop-arc.invariant (tested (goal.at.loop-arc-preserved c).After-contains ∙ ap not c.if-not-contains.false)
