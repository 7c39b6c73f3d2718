-- The places passed are marked.
use Rattle.std.proofs.Common.{◌≡◌, length, arith}
use Rattle.std.specs.List.{between}
use Rattle.search.proofs.Marking.{run_last}
use Rattle.search.proofs.marks.mark_run.Goals as goal

pub returns : goal.returns
returns c =
    let done : c.loop-place.place-index ≡ length (between c.args.from c.min-end.result c.args.row.now) = omega arith in
    run_last c.min-end.ensures (omega arith) (rw done at c.loop-place.invariant)
