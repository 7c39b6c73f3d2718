-- For the inner functions: what the readers of a text and of a line have left, by the definitions of Number, Line and Text. Definitions alone.
use Rattle.std.specs.Prelude.{List, [], ◌∷◌, ℕ, Option, Some, None}
use Rattle.std.specs.Borrow.{Bor}
use Rattle.text.specs.Line.{lines, fields}
use Rattle.text.specs.declared.cursor.Lines.{Lines}
use Rattle.text.specs.declared.fields.Fields.{Fields}

-- ---- a text by its lines

-- the lines that are still to be handed out
abbrev pub lines_left : Lines → List (List ℕ)
lines_left r = lines r.rest.now

-- ---- a line by its fields

-- the fields of what is left of a line; none after the last field
abbrev pub fields_of_rest : Option (Bor (List ℕ)) → List (List ℕ)
fields_of_rest None = []
fields_of_rest (Some rest) = fields rest.now

-- the fields that are still to be read
abbrev pub fields_left : Fields → List (List ℕ)
fields_left r = fields_of_rest r.rest

-- the first of some fields by a rule
abbrev pub first_by : {A : Type 0} → (List ℕ → Option A) → List (List ℕ) → Option A
first_by rule [] = None
first_by rule (f ∷ fs) = rule f

-- all but the first of some fields, or lines
abbrev pub after_first : List (List ℕ) → List (List ℕ)
after_first [] = []
after_first (f ∷ fs) = fs
