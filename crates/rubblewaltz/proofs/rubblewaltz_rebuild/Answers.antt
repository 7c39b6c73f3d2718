-- The call's own contract.
use Rattle.rubblewaltz.proofs.rubblewaltz_rebuild.Goals as goal

pub returns : goal.returns
returns c = rw (c.from.ensures, ← c.lent-network.ensures) c.rebuild.ensures
