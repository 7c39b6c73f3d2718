-- Lines and their fields: a text taken apart, and put together. Definitions alone.
use Rattle.std.specs.Prelude.{Bool, false, cond, ◌&&◌, List, [], ◌∷◌, ◌++◌, ℕ, eqb}
use Rattle.text.specs.Bytes.{comma, cr, lf}

-- ---- taken apart

-- a text that begins with CR LF
unfoldable pub is_break : List ℕ → Bool
is_break [] = false
is_break (b ∷ []) = false
is_break (b ∷ c ∷ s) = eqb b cr && eqb c lf

-- a byte before the first of some parts
unfoldable pub on_first : ℕ → List (List ℕ) → List (List ℕ)
on_first b [] = (b ∷ []) ∷ []
on_first b (p ∷ ps) = (b ∷ p) ∷ ps

-- each line ends in CR LF; the last line break may be absent
unfoldable pub lines : List ℕ → List (List ℕ)
lines [] = []
lines (b ∷ []) = (b ∷ []) ∷ []
lines (b ∷ c ∷ s) = cond (is_break (b ∷ c ∷ s)) ([] ∷ lines s) (on_first b (lines (c ∷ s)))

-- what stands between a line's commas
unfoldable pub fields : List ℕ → List (List ℕ)
fields [] = [] ∷ []
fields (b ∷ s) = cond (eqb b comma) ([] ∷ fields s) (on_first b (fields s))

-- ---- put together

-- fields with commas between them
unfoldable pub joined : List (List ℕ) → List ℕ
joined [] = []
joined (f ∷ []) = f
joined (f ∷ g ∷ fs) = f ++ comma ∷ joined (g ∷ fs)

-- lines with CR LF after each
unfoldable pub broken : List (List ℕ) → List ℕ
broken [] = []
broken (l ∷ ls) = l ++ cr ∷ lf ∷ broken ls
