-- Entries of a row. Definitions alone.
use Rattle.std.specs.Prelude.{List, ℕ, ℤ, pos, get_or}

-- entry i of a row of unsigned and of signed numbers
abbrev pub at : List ℕ → ℕ → ℕ
at row i = get_or row i 0

abbrev pub at_ℤ : List ℤ → ℕ → ℤ
at_ℤ row i = get_or row i (pos 0)
