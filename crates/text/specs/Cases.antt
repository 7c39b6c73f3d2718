-- Texts and what each tells, by the request's words and the readings of it; and rows and how they are printed. Definitions alone.
use Rattle.std.specs.Prelude.{List, [], ◌∷◌, ◌++◌, ℕ, pos, negsuc}
use Prim.Native.String.{String}
use Rattle.text.specs.Bytes.{bytes}
use Rattle.text.specs.Text.{Arc, arc, Told, rows, wrong_header, bad_record}

-- a text, and what it must tell
pub record Case (R : Type 0) : Type 0 where
  pub text : List ℕ
  pub tells : Told R

abbrev whole : {R : Type 0} → String → Told R → Case R
whole s t = record { text = bytes s; tells = t }

-- the records after the right header
abbrev events : String → Told ℕ → Case ℕ
events s t = record { text = bytes "event,period\r\n" ++ bytes s; tells = t }

abbrev arcs : String → Told Arc → Case Arc
arcs s t = record { text = bytes "arc,tail,head,lower,upper,weight\r\n" ++ bytes s; tells = t }

abbrev pub event_cases : List (Case ℕ)
event_cases =
    -- network A; the last line break may be absent
    events "0,60\r\n1,60\r\n2,60\r\n" (rows (60 ∷ 60 ∷ 60 ∷ []))
    ∷ events "0,60\r\n1,20" (rows (60 ∷ 20 ∷ []))
    -- a value is judged by its value, and by nothing else: 0 is read
    ∷ events "00,0000000000000007\r\n" (rows (7 ∷ []))
    ∷ events "0,0" (rows (0 ∷ []))
    ∷ events "0,4294967295" (rows (4294967295 ∷ []))
    ∷ events "0,4294967296" (bad_record 0)
    ∷ events "4294967296,60" (bad_record 0)
    -- no records, and no header
    ∷ events "" (bad_record 0)
    ∷ whole "event,period" (bad_record 0)
    ∷ whole "" wrong_header
    ∷ whole "Event,period\r\n0,60" wrong_header
    ∷ whole "event,period\n0,60" wrong_header
    ∷ whole "event,period\r" wrong_header
    -- no other sign, no quotes, no spaces, no empty field
    ∷ events "0,+5" (bad_record 0)
    ∷ events "0,-0" (bad_record 0)
    ∷ events "0, 5" (bad_record 0)
    ∷ events "0,\"5\"" (bad_record 0)
    ∷ events "0," (bad_record 0)
    ∷ events "0" (bad_record 0)
    ∷ events "0,5," (bad_record 0)
    -- numbers in rising order from 0
    ∷ events "1,60" (bad_record 0)
    ∷ events "0,60\r\n0,60" (bad_record 1)
    ∷ events "0,60\r\n2,60" (bad_record 1)
    -- CR LF, and one at the end
    ∷ events "0,60\n1,60" (bad_record 0)
    ∷ events "0,60\r" (bad_record 0)
    ∷ events "0,60\r\n\r\n" (bad_record 1)
    ∷ []

abbrev pub arc_cases : List (Case Arc)
arc_cases =
    -- network A
    arcs "0,0,1,10,15,3\r\n1,1,2,20,25,1\r\n2,2,0,28,30,2\r\n"
    (rows (arc 0 1 (pos 10) (pos 15) 3 ∷ arc 1 2 (pos 20) (pos 25) 1 ∷ arc 2 0 (pos 28) (pos 30) 2 ∷ []))
    -- no arc
    ∷ arcs "" (rows [])
    ∷ whole "arc,tail,head,lower,upper,weight" (rows [])
    ∷ whole "arc,tail,head,lower,upper" wrong_header
    -- a minus before lower and upper alone
    ∷ arcs "0,7,7,-0,-2147483648,4294967295" (rows (arc 7 7 (pos 0) (negsuc 2147483647) 4294967295 ∷ []))
    ∷ arcs "0,0,1,2147483647,-1,0" (rows (arc 0 1 (pos 2147483647) (negsuc 0) 0 ∷ []))
    ∷ arcs "0,0,1,2147483648,0,0" (bad_record 0)
    ∷ arcs "0,0,1,0,-2147483649,0" (bad_record 0)
    ∷ arcs "0,0,1,--1,0,0" (bad_record 0)
    ∷ arcs "0,0,1,-,0,0" (bad_record 0)
    ∷ arcs "0,0,1,0,0,-1" (bad_record 0)
    ∷ arcs "0,0,1,0,0" (bad_record 0)
    ∷ []

-- rows, and the text that they are printed as
abbrev pub some_periods : List ℕ
some_periods = 60 ∷ 0 ∷ 3600 ∷ []

abbrev pub as_events : List ℕ
as_events = bytes "event,period\r\n0,60\r\n1,0\r\n2,3600\r\n"

abbrev pub some_arcs : List Arc
some_arcs = arc 0 1 (pos 10) (negsuc 7199) 3 ∷ arc 10 2 (negsuc 0) (pos 0) 100 ∷ []

abbrev pub as_arcs : List ℕ
as_arcs = bytes "arc,tail,head,lower,upper,weight\r\n0,0,1,10,-7200,3\r\n1,10,2,-1,0,100\r\n"
