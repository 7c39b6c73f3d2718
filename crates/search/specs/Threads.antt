-- The arcs of each event, threaded in their order: from each event to the first arc that it is the later end of, from each arc to the next one with
-- the same later end. Definitions alone.
use Rattle.std.specs.Prelude.{◌≡◌, List, Option, Some, None, ℕ, ◌+◌, ◌<◌, ◌≤◌, length, get_or}
use Rattle.search.specs.declared.Bar.{Bar}
use Rattle.search.specs.Reduced.{Reduced, arcs_in, events_in, last_in}

-- entry v of a row of links
abbrev pub link : List (Option ℕ) → ℕ → Option ℕ
link row v = get_or row v None

-- r is the first arc from c on whose later end is event v
pub record FirstArc (bars : List Bar) (v c r : ℕ) : Type 0 where
  pub least : c ≤ r
  pub below : r < length bars
  pub none : (a : ℕ) → c ≤ a → a < r → last_in bars a ≡ v → ⊥
  pub here : last_in bars r ≡ v

-- what a link says: that arc, or that there is none
pub record Following (bars : List Bar) (v c : ℕ) (next : Option ℕ) : Type 0 where
  pub some : (r : ℕ) → next ≡ Some r → FirstArc bars v c r
  pub none : next ≡ None → (a : ℕ) → c ≤ a → a < length bars → last_in bars a ≡ v → ⊥

-- rows of links with an entry for each event and for each arc
pub record Room (R : Reduced) (firsts nexts : List (Option ℕ)) : Type 0 where
  pub firsts_long : events_in R ≤ length firsts
  pub nexts_long : arcs_in R ≤ length nexts

-- the threads of the arcs from c on
pub record ThreadedFrom (R : Reduced) (c : ℕ) (firsts nexts : List (Option ℕ)) : Type 0 where
  pub room : Room R firsts nexts
  pub first_is : (v : ℕ) → v < events_in R → Following R.bars v c (link firsts v)
  pub next_is : (a : ℕ) → c ≤ a → a < arcs_in R → Following R.bars (last_in R.bars a) (a + 1) (link nexts a)

abbrev pub Threaded : Reduced → List (Option ℕ) → List (Option ℕ) → Type 0
Threaded R firsts nexts = ThreadedFrom R 0 firsts nexts

-- what the threading asks: no event has an arc yet
pub record ThreadAsks (R : Reduced) (firsts nexts : List (Option ℕ)) : Type 0 where
  pub room : Room R firsts nexts
  pub empty : (v : ℕ) → v < events_in R → link firsts v ≡ None
