-- The value is that of the digits passed.
use Rattle.text.proofs.Scans.{Reading}
use Rattle.text.proofs.value.U32Field.parse.Given as goal

abbrev pub invariant-loop-b : goal.invariant-loop-b
invariant-loop-b l = Reading l.field l.value l.b-index
