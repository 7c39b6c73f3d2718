-- For the inner functions: bytes written at a place of a row, and the lines that are written. Definitions alone.
use Rattle.std.specs.Prelude.{◌≡◌, List, [], ◌∷◌, ◌++◌, ℕ, ◌+◌, ◌≤◌, ℤ, length, take, drop}
use Rattle.text.specs.Bytes.{cr, lf}
use Rattle.text.specs.Number.{decimal}
use Rattle.text.specs.Line.{joined}
use Rattle.text.specs.Text.{Layout}

-- s from a place on; all else keeps its contents
abbrev pub put : ℕ → List ℕ → List ℕ → List ℕ
put at s row = take at row ++ s ++ drop (at + length s) row

-- s was written at a place, and the place after it is handed back
pub record Put (s : List ℕ) (at : ℕ) (before after : List ℕ) (next : ℕ) : Type 0 where
  pub is : after ≡ put at s before
  pub place : next ≡ at + length s

-- the last field of a line, and a header, with the line break after it
abbrev pub break_after : List ℕ → List ℕ
break_after f = f ++ cr ∷ lf ∷ []

-- the line of record k, with its line break
abbrev pub record_line : {R : Type 0} → Layout R → ℕ → R → List ℕ
record_line L k r = break_after (joined (decimal k ∷ L.fields_of r))

-- five rows of one length, and few
pub record FiveRows (t h : List ℕ) (l u : List ℤ) (w : List ℕ) : Type 0 where
  pub heads : length h ≡ length t
  pub lowers : length l ≡ length t
  pub uppers : length u ≡ length t
  pub weights : length w ≡ length t
  pub few : length t ≤ 256

-- the most bytes that a line of the events text may have
abbrev pub longest_event : ℕ
longest_event = 23

-- and a line of the arcs text
abbrev pub longest_arc : ℕ
longest_arc = 69
