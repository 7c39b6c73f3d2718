-- The arcs passed have marked their times.
use Rattle.std.proofs.Common.{refl, ◌∙◌}
use Rattle.search.proofs.Marking.{event_first, event_in, event_smaller, event_more}
use Rattle.search.proofs.marks.mark_event.Goals as goal

pub loop-next-init : goal.loop-next-init
loop-next-init c = let t = c.args.threads.now in event_first t.network.sized t.threaded c.requires (c.fill.ensures.len ∙ c.told-blame)

pub bounds-threads-arc : goal.bounds-threads-arc
bounds-threads-arc c = let t = c.args.threads.now in event_in t.network.sized t.threaded c.requires c.loop-next.invariant c.in-Some.is c.from-arc.ensures

pub loop-next-smaller : goal.loop-next-smaller
loop-next-smaller c =
    let t = c.args.threads.now in
    event_smaller t.network.sized t.threaded c.requires c.loop-next.invariant c.in-Some.is c.from-arc.ensures

pub loop-next-preserved : goal.loop-next-preserved
loop-next-preserved c =
    let t = c.args.threads.now in
    event_more t.network.sized t.threaded c.requires c.loop-next.invariant c.in-Some.is c.from-arc.ensures c.mark_arc-fresh.ensures c.mark_arc-fresh.auto.row refl
