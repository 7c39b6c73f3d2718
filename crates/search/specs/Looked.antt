-- What the search finds: the smallest timetable that fits a network in unsigned numbers, and so the smallest feasible one of the network; or that there is
-- none. Definitions alone.
use Rattle.std.specs.Prelude.{List, Bool, true, false, ℕ}
use Rattle.network.specs.Network.{Network}
use Rattle.network.specs.PublicRule.{Feasible, Smaller, Smallest}
use Rattle.search.specs.Reduced.{Reduced, Fitting, Sized}

-- of a network, the row as it is left, and the answer
pub data Looked (N : Network) (t : List ℕ) : Bool → Type 0 where
  found : Smallest N t → Looked N t true
  nothing : ((u : List ℕ) → Feasible N u → ⊥) → Looked N t false

-- a network in unsigned numbers for the search, whose fitting timetables are the feasible ones of N
pub record Serves (N : Network) (R : Reduced) : Type 0 where
  pub sized : Sized R
  pub fits : (u : List ℕ) → Feasible N u → Fitting R u
  pub back : (u : List ℕ) → Fitting R u → Feasible N u

-- what is found of such a network
pub data Sought (R : Reduced) (t : List ℕ) : Bool → Type 0 where
  least_fits : Fitting R t → ((u : List ℕ) → Fitting R u → Smaller u t → ⊥) → Sought R t true
  none_fits : ((u : List ℕ) → Fitting R u → ⊥) → Sought R t false
