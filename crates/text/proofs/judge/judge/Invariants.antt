-- What is told of the records left is what is told of all.
use Rattle.text.specs.Cursor.{lines_left}
use Rattle.text.proofs.Judges.{Judging}
use Rattle.text.proofs.judge.judge.Given as goal

abbrev pub invariant-loop-line : goal.invariant-loop-line
invariant-loop-line g l = Judging g.R.Record.layout l.text (lines_left l.line-iterator) l.records
