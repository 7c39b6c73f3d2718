-- It lends rows of its own, threads the arcs and places event 0.
use Rattle.std.proofs.Common.{subst}
use Rattle.search.specs.Lent.{lent}
use Rattle.search.specs.Looked.{Sought}
use Rattle.search.proofs.Threads.{thread_asks}
use Rattle.search.proofs.Steps.{sought}
use Rattle.search.proofs.least.Goals as goal

pub new-threads-requires : goal.new-threads-requires
new-threads-requires c = thread_asks c.args.network.now.sized

pub returns : goal.returns
returns c = subst (λ r. Sought (lent r) c.place.new.times c.place.result) c.new-threads.ensures (sought _ c.place.ensures)
