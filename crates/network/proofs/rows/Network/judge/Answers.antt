-- Where no line applies the network is well-formed.
use mathlib.Core.Path.{refl, sym, ap, subst}
use Rattle.network.specs.declared.Answer.{Answer}
use Rattle.network.specs.Table.{WellFormed}
use Rattle.network.proofs.Sound.{clear_with, well_with}
use Rattle.network.proofs.rows.Network.judge.Goals as goal

pub invariant_of-result : goal.invariant_of-result
invariant_of-result c =
    record { well = subst WellFormed (sym c.again.ensures) (well_with _ _ (clear_with _ _ refl (ap (λ (a : Answer). a.code) c.in_default.ensures))) }

pub returns : goal.returns
returns c = (c.again.ensures, c.in_default.ensures)
