-- `place` calls itself on the next event: each way out is a law of the search, and the number of unplaced events falls.
use Rattle.std.proofs.Common.{arith}
use Rattle.search.proofs.Steps.{event_asks, tried_all, try_ready, try_hit, try_over, try_missed}
use Rattle.search.proofs.depth.+place.Goals as goal

pub mark_event-requires : goal.mark_event-requires
mark_event-requires t c = event_asks c.args.threads.now.network.sized c.requires c.if-k-periods.false

pub place-requires : goal.place-requires
place-requires t c =
    let s = c.args.threads.now.network.sized in
    let m = c.mark_event in
    let ready = try_ready s c.requires c.if-k-periods.false m.auto.row m.ensures c.loop-time.invariant c.in-Some.ensures in
    (omega (arith, ready.most, c.decreases), ready)

pub returns-then-place : goal.returns-then-place
returns-then-place t c =
    let s = c.args.threads.now.network.sized in
    let m = c.mark_event in
    try_hit s c.requires c.if-k-periods.false m.auto.row m.ensures c.loop-time.invariant c.in-Some.ensures c.place.ensures c.if-place.true

pub returns-then-not-deeper-k : goal.returns-then-not-deeper-k
returns-then-not-deeper-k t c =
    let s = c.args.threads.now.network.sized in
    let m = c.mark_event in
    try_over s c.requires c.if-k-periods.false m.auto.row m.ensures c.loop-time.invariant c.in-Some.ensures c.place.ensures c.if-place.false
    c.if-not-deeper-k.true

pub loop-time-preserved : goal.loop-time-preserved
loop-time-preserved t c =
    let s = c.args.threads.now.network.sized in
    let m = c.mark_event in
    try_missed s c.requires c.if-k-periods.false m.auto.row m.ensures c.loop-time.invariant c.in-Some.ensures c.place.ensures c.if-place.false
    c.place.auto.times c.join.ensures

pub returns : goal.returns
returns t c =
    let s = c.args.threads.now.network.sized in
    let m = c.mark_event in
    tried_all s c.requires c.if-k-periods.false m.auto.row m.ensures c.loop-time.invariant c.in_default.ensures
