-- A network in unsigned numbers as it is lent. Definitions alone.
use Rattle.search.specs.Reduced.{Reduced as Numbers, reduced}
use Rattle.search.specs.declared.reduced.Reduced.{Reduced}

abbrev pub lent : Reduced → Numbers
lent r = reduced r.periods.now r.bars.now
