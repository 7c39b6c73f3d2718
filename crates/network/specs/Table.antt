-- The refusals of a network: the paper's table, codes 1 to 8 and 18, in its order. Definitions alone.
use Rattle.std.specs.Prelude.{◌≡◌, List, [], ◌∷◌, Bool, true, false, not, ◌||◌, ◌&&◌, ℕ, ◌<◌, ℤ, pos, negsuc, length, ltb, leb, eqb}
use Rattle.std.specs.Int.Signed.{lt_z}
use Rattle.network.specs.declared.Answer.{Answer}
use Rattle.network.specs.Network.{Network, events, arcs, period, tail, head, lower, upper, weight}
use Rattle.network.specs.PublicRule.{width_of, offset_of}
use Rattle.network.specs.First.{first}
use Rattle.network.specs.Refusals.{Refusal, once, each, named, lines_before, answer_of}

-- below the least or above the greatest, of unsigned and of signed numbers
unfoldable pub outside : ℕ → ℕ → ℕ → Bool
outside least greatest x = ltb x least || ltb greatest x

unfoldable pub outside_ℤ : ℤ → ℤ → ℤ → Bool
outside_ℤ least greatest x = lt_z x least || lt_z greatest x

abbrev pub differ : ℕ → ℕ → Bool
differ a b = not (eqb a b)

-- a row's length differs from m, or m is above 256; `further` is the length of a row that counts as an arc row
unfoldable pub uneven : ℕ → ℕ → ℕ → ℕ → ℕ → ℕ → Bool
uneven m heads lowers uppers weights further =
    differ heads m || (differ lowers m || (differ uppers m || (differ weights m || (differ further m || ltb 256 m))))

-- an end is n or more
unfoldable pub strays : ℕ → ℕ → ℕ → Bool
strays n from to = leb n from || leb n to

-- two arcs are one rule: equal tail, equal head, lower bounds that leave the same remainder by g, equal working width. Weights play no part.
unfoldable pub repeats : Network → ℕ → ℕ → Bool
repeats N a b =
    (eqb (tail N a) (tail N b) && eqb (head N a) (head N b)) && (eqb (offset_of N a) (offset_of N b) && eqb (width_of N a) (width_of N b))

-- arc b repeats an arc before it: the first such is below b
unfoldable pub repeated : Network → ℕ → Bool
repeated N b = ltb (first (λ a. repeats N a b) b) b

-- the table, where a row of length `further` counts as an arc row
unfoldable pub refusals_with : Network → ℕ → List Refusal
refusals_with N further =
    -- n is 0 or above 64
    once 1 (outside 1 64 (events N))
    -- a period is 0 or above 3,600
    ∷ each 2 (events N) (λ v. outside 1 3600 (period N v))
    -- arc rows differ in length, or m above 256
    ∷ once 3 (uneven (arcs N) (length N.heads) (length N.lowers) (length N.uppers) (length N.weights) further)
    -- an end is n or more
    ∷ each 4 (arcs N) (λ a. strays (events N) (tail N a) (head N a))
    -- tail equals head
    ∷ each 5 (arcs N) (λ a. eqb (tail N a) (head N a))
    -- lower outside its limits
    ∷ each 6 (arcs N) (λ a. outside_ℤ (negsuc 7199) (pos 7200) (lower N a))
    -- upper below lower
    ∷ each 7 (arcs N) (λ a. lt_z (upper N a) (lower N a))
    -- weight above 10,000
    ∷ each 8 (arcs N) (λ a. outside 0 10000 (weight N a))
    -- the same rule entered twice: at the second arc
    ∷ each 18 (arcs N) (repeated N)
    ∷ []

-- the table where no further row counts
abbrev pub refusals : Network → List Refusal
refusals N = refusals_with N (arcs N)

-- the line of a code
abbrev pub line : Network → ℕ → ℕ → Refusal
line N further code = named code (refusals_with N further)

-- the first refusal; code 0 where there is none
abbrev pub refusal_of : Network → ℕ → Answer
refusal_of N further = answer_of (refusals_with N further) 0

-- a network is well-formed if none of the codes applies
pub record WellFormed (N : Network) : Type 0 where
  pub none : (refusal_of N (arcs N)).code ≡ 0

-- b is the second arc of the first pair that repeats: no pair has a lower second arc
pub record FirstPair (N : Network) (b : ℕ) : Type 0 where
  pub arc : b < arcs N
  pub partner : ℕ
  pub earlier : partner < b
  pub again : repeats N partner b ≡ true
  pub none_before : (c d : ℕ) → c < d → d < b → repeats N c d ≡ false

-- no line before that of 18 applies
pub record OnlyRepeats (N : Network) (further : ℕ) : Type 0 where
  pub none : (answer_of (lines_before 18 (refusals_with N further)) 0).code ≡ 0
