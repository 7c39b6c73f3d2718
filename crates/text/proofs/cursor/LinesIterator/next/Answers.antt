-- An empty text has no line.
use Rattle.std.proofs.Common.{rules}
use Rattle.text.proofs.Lines.{lines_none}
use Rattle.text.proofs.cursor.LinesIterator.next.Goals as goal

pub returns-then-is_empty-clause-steps : goal.returns-then-is_empty-clause-steps
returns-then-is_empty-clause-steps c = let e = lines_none c.args.self.now.rest.now (search rules) in (e, e)
