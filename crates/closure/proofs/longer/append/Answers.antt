-- It writes the arc that the span implies, or keeps the row.
use Rattle.closure.proofs.Tables.{read_is}
use Rattle.closure.proofs.Longers.{appended}
use Rattle.closure.proofs.longer.append.Goals as goal

pub returns : goal.returns
returns c =
    let p = c.requires in
    rw (c.from.ensures, c.from-2.ensures, c.from-3.ensures)
    (appended p c.if-own-count.false (read_is c.args.table.now _ _ _ c.place.ensures p.row.event p.second))
