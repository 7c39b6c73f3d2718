-- A text written out, as the bytes of its characters, and bytes by their names. Definitions alone.
use Rattle.std.specs.Prelude.{◌≡◌, refl, List, [], ◌∷◌, ℕ}
use Prim.Native.Char.{code}
use Prim.Native.String.{String, [] as nothing, ◌∷◌ as ◌then◌}

abbrev pub bytes : String → List ℕ
bytes nothing = []
bytes (c then s) = code c ∷ bytes s

-- the bytes that the layout knows
abbrev pub comma : ℕ
comma = 44

abbrev pub minus_sign : ℕ
minus_sign = 45

abbrev pub zero_digit : ℕ
zero_digit = 48

abbrev pub nine_digit : ℕ
nine_digit = 57

abbrev pub cr : ℕ
cr = 13

abbrev pub lf : ℕ
lf = 10

-- as they are written
as_written : comma ∷ minus_sign ∷ zero_digit ∷ nine_digit ∷ cr ∷ lf ∷ [] ≡ bytes ",-09\r\n"
as_written = refl
