-- The arcs passed are threaded.
use Rattle.search.specs.Lent.{lent}
use Rattle.search.specs.Threads.{ThreadedFrom}
use Rattle.search.proofs.thread.ArcThreads.new.Given as goal

abbrev pub invariant-loop-arc : goal.invariant-loop-arc
invariant-loop-arc l = ThreadedFrom (lent l.network) l.arc l.firsts l.nexts
