-- The run begins where the time at the earlier end says.
use Rattle.search.proofs.Marking.{arc_marked}
use Rattle.search.proofs.marks.mark_arc.Goals as goal

pub returns : goal.returns
returns c = arc_marked c.requires c.mark_runs.ensures
