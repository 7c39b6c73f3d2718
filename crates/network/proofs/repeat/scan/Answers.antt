-- One arc more is linked, and repeats none.
use mathlib.Core.Path.{sym, ◌∙◌}
use native.Mathlib.Omega.{arith}
use Rattle.network.proofs.Scans.{passed_more}
use Rattle.network.proofs.Repeats.{twin_is}
use Rattle.network.proofs.Links.{chained_more}
use Rattle.network.proofs.repeat.scan.Goals as goal

pub loop-arc-preserved : goal.loop-arc-preserved
loop-arc-preserved c =
    let w = c.loop-arc.invariant in
    record {
      chained = chained_more (record { chained = w.chained; arc = omega arith }) c.tail-event.ensures;
      passed = passed_more w.passed (twin_is _ _ _ c.twin.ensures ∙ sym c.is_some.ensures ∙ c.if-is_some.false);
    }
