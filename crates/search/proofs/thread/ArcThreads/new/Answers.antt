-- The arcs passed are threaded.
use Rattle.std.proofs.Common.{refl, subst, arith}
use Rattle.search.specs.Lent.{lent}
use Rattle.search.specs.Threads.{ThreadedFrom}
use Rattle.search.proofs.Threads.{link_more}
use Rattle.search.proofs.thread.ArcThreads.new.Goals as goal

pub loop-arc-preserved : goal.loop-arc-preserved
loop-arc-preserved c = link_more _ c.args.network.sized (omega arith) c.loop-arc.invariant (omega arith) refl

pub invariant_of-result : goal.invariant_of-result
invariant_of-result c =
    record { threaded = subst (λ i. ThreadedFrom (lent c.args.network) i c.loop-arc.firsts c.loop-arc.nexts) (omega arith) c.loop-arc.invariant }
