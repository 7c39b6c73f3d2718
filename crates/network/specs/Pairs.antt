-- How two arcs are compared: what the functions of the scan for code 18 ask and say. Definitions alone.
use Rattle.std.specs.Prelude.{◌≡◌, List, Bool, true, false, ◌&&◌, Option, Some, None, ℕ, ◌-◌, ◌≤◌, ◌<◌, ℤ, pos, nat_abs, ◌+ℤ◌, ◌-ℤ◌, ◌≤ℤ◌, length, eqb}
use Rattle.numbers.specs.Remainder.{remainder}
use Rattle.numbers.specs.Row.{at, at_ℤ}
use Rattle.network.specs.Network.{Network, events, arcs, tail}
use Rattle.network.specs.PublicRule.{working_by}
use Rattle.network.specs.Table.{repeats}
use Rattle.network.specs.Trial.{Sound}

-- a period and bounds, of which a width is worked out
pub record AsksWidth (g : ℕ) (low high : ℤ) : Type 0 where
  pub some : 0 < g
  pub most : g ≤ 3600
  pub lower_small : nat_abs low ≤ 7200
  pub ordered : low ≤ℤ high

-- two arcs, in rows of heads and bounds, and a period for the bounds of the first
pub record TwoArcs (heads : List ℕ) (lowers uppers : List ℤ) (g a b : ℕ) : Type 0 where
  pub head_a : a < length heads
  pub head_b : b < length heads
  pub lower_a : a < length lowers
  pub upper_a : a < length uppers
  pub width : AsksWidth g (at_ℤ lowers a) (at_ℤ uppers a)

-- arc a has the head of arc b, and by the period g, counted from the least lower bound, this remainder, and this width
unfoldable pub same_rule : List ℕ → List ℤ → List ℤ → ℕ → ℕ → ℕ → ℕ → ℕ → Bool
same_rule heads lowers uppers g left wide a b =
    eqb (at heads a) (at heads b)
    && (eqb (remainder (at_ℤ lowers a +ℤ pos 7200) g) left && eqb (nat_abs (working_by g (at_ℤ lowers a) (at_ℤ uppers a) -ℤ at_ℤ lowers a)) wide)

-- one more than the last arc below k that starts at event v, or 0
pub record Last (tails : List ℕ) (v k c : ℕ) : Type 0 where
  pub within : c ≤ k
  pub own : 0 < c → at tails (c - 1) ≡ v
  pub none : (a : ℕ) → c ≤ a → a < k → at tails a ≡ v → ⊥

-- the first k arcs are linked, each to the last before it that starts where it does
pub record Linked (N : Network) (befores : List ℕ) (k : ℕ) : Type 0 where
  pub sound : Sound N
  pub long : length befores ≡ arcs N
  pub each : (a : ℕ) → a < k → Last N.tails (tail N a) a (at befores a)

-- and each event to the last of them that starts there
pub record Chained (N : Network) (lasts befores : List ℕ) (k : ℕ) : Type 0 where
  pub linked : Linked N befores k
  pub long : length lasts ≡ events N
  pub each : (v : ℕ) → v < events N → Last N.tails v k (at lasts v)

-- none of the arcs from c to b repeats it, and the one before c starts where it does
pub record Down (N : Network) (b c : ℕ) : Type 0 where
  pub within : c ≤ b
  pub own : 0 < c → tail N (c - 1) ≡ tail N b
  pub none : (a : ℕ) → c ≤ a → a < b → repeats N a b ≡ false

-- to look for an arc that b repeats, those before it are linked
pub record AsksTwin (N : Network) (lasts befores : List ℕ) (b : ℕ) : Type 0 where
  pub chained : Chained N lasts befores b
  pub arc : b < arcs N

-- and to go on from c, where the heads first agree
pub record AsksMatched (N : Network) (befores : List ℕ) (b c : ℕ) : Type 0 where
  pub linked : Linked N befores b
  pub arc : b < arcs N
  pub down : Down N b c

-- an arc before b that b repeats; or b repeats none
abbrev pub Twin : Network → ℕ → Option ℕ → Type 0
Twin N b (Some r) = (r < b) × (repeats N r b ≡ true)
Twin N b None = (a : ℕ) → a < b → repeats N a b ≡ false
