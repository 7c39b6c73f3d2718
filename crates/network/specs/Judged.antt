-- What judging a network gives, and lending it a row of times. Definitions alone.
use Rattle.std.specs.Prelude.{◌≡◌, List, Option, Some, None, Result, Ok, Err, ℕ, length}
use Rattle.network.specs.declared.Refused.{Refused}
use Rattle.network.specs.declared.timed.Timed.{Timed}
use Rattle.network.specs.declared.well_formed.WellFormed.{WellFormed}
use Rattle.network.specs.Network.{Network, events}
use Rattle.network.specs.Refusals.{answer, refused_at, answered}
use Rattle.network.specs.declared.Code.TheVariants.{Room}
use Rattle.network.specs.Table.{refusal_of}

-- the first refusal of the table, or none where no line applies; a row of length `further` counts as an arc row
abbrev pub FirstRefusal : Network → ℕ → Option Refused → Type 0
FirstRefusal N further None = refusal_of N further ≡ answer 0 0 0
FirstRefusal N further (Some r) = refusal_of N further ≡ answered (Err r)

-- the network itself where no line of the table applies, else the first refusal; a row of length `further` counts as an arc row
abbrev pub Judged : Network → ℕ → Result WellFormed Refused → Type 0
Judged N further (Ok w) = (w.rows ≡ N) × (refusal_of N further ≡ answer 0 0 0)
Judged N further (Err r) = refusal_of N further ≡ answered (Err r)

-- the network with its times where there is one for each event, else code 9
abbrev pub Given : Network → List ℕ → Result Timed Refused → Type 0
Given N t (Ok d) = (d.network.rows ≡ N) × (d.times.now ≡ t)
Given N t (Err r) = (r ≡ refused_at Room 0) × (length t ≡ events N → ⊥)
