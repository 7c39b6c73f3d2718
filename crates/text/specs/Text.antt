-- The office's two texts: what each tells, and how its records are printed. One rule for both, over the layout. Definitions alone.
use Rattle.std.specs.Prelude.{Bool, true, false, cond, ◌&&◌, List, [], ◌∷◌, ◌++◌, ℕ, zero, suc, ltb, eqb, ℤ, length, Option, Some, None}
use Rattle.numbers.specs.Row.{at, at_ℤ}
use Rattle.text.specs.Bytes.{bytes}
pub use Rattle.text.specs.declared.Arc.{Arc}
use Rattle.text.specs.Number.{plain, signed, decimal, decimal_ℤ}
use Rattle.text.specs.Line.{lines, fields, joined, broken}

-- ---- a record: its fields in turn, each by its rule

unfoldable pub and_then : {A B : Type 0} → Option A → (A → Option B) → Option B
and_then None go = None
and_then (Some a) go = go a

-- the next field by its rule, then the others
unfoldable pub field : {A B : Type 0} → (List ℕ → Option A) → (A → List (List ℕ) → Option B) → List (List ℕ) → Option B
field rule go [] = None
field rule go (f ∷ fs) = and_then (rule f) (λ a. go a fs)

-- no field is left
unfoldable pub end : {B : Type 0} → B → List (List ℕ) → Option B
end b [] = Some b
end b (f ∷ fs) = None

-- the number of the record, which is k
unfoldable pub numbered : {B : Type 0} → ℕ → (List (List ℕ) → Option B) → List (List ℕ) → Option B
numbered k go = field plain (λ n fs. cond (eqb n k) (go fs) None)

-- an arc by its five numbers
abbrev pub arc : ℕ → ℕ → ℤ → ℤ → ℕ → Arc
arc t h l u w = record { tail = t; head = h; lower = l; upper = u; weight = w }

-- the arcs of five rows, as many as the first has entries
abbrev pub arc_at : List ℕ → List ℕ → List ℤ → List ℤ → List ℕ → ℕ → Arc
arc_at t h l u w a = arc (at t a) (at h a) (at_ℤ l a) (at_ℤ u a) (at w a)

-- f at 0, 1, .. up to below n
unfoldable pub listed : {A : Type 0} → (ℕ → A) → ℕ → List A
listed f zero = []
listed f (suc n) = listed f n ++ (f n ∷ [])

unfoldable pub arcs_of : List ℕ → List ℕ → List ℤ → List ℤ → List ℕ → List Arc
arcs_of t h l u w = listed (arc_at t h l u w) (length t)

-- event k's period, and arc k, by their fields
unfoldable pub event_of : ℕ → List (List ℕ) → Option ℕ
event_of k = numbered k (field plain end)

unfoldable pub arc_of : ℕ → List (List ℕ) → Option Arc
arc_of k = numbered k (field plain λ t. field plain λ h. field signed λ l. field signed λ u. field plain λ w. end (arc t h l u w))

-- and the fields after the number, printed
unfoldable pub event_fields : ℕ → List (List ℕ)
event_fields p = decimal p ∷ []

unfoldable pub arc_fields : Arc → List (List ℕ)
arc_fields a = decimal a.tail ∷ decimal a.head ∷ decimal_ℤ a.lower ∷ decimal_ℤ a.upper ∷ decimal a.weight ∷ []

-- ---- the two layouts: a header, records numbered from 0, and how many there may be

pub record Layout (R : Type 0) : Type 0 where
  pub header : List ℕ
  pub record_of : ℕ → List (List ℕ) → Option R
  pub fields_of : R → List (List ℕ)
  pub least : ℕ
  pub most : ℕ

abbrev pub event_layout : Layout ℕ
event_layout = record { header = bytes "event,period"; record_of = event_of; fields_of = event_fields; least = 1; most = 64 }

abbrev pub arc_layout : Layout Arc
arc_layout = record { header = bytes "arc,tail,head,lower,upper,weight"; record_of = arc_of; fields_of = arc_fields; least = 0; most = 256 }

-- ---- what a text tells: its records' rows, or its first fault

pub data Told (R : Type 0) : Type 0 where
  rows : List R → Told R
  wrong_header : Told R
  bad_record : ℕ → Told R

-- one row before those told; a fault stays
unfoldable pub with : {R : Type 0} → R → Told R → Told R
with r (rows rs) = rows (r ∷ rs)
with r wrong_header = wrong_header
with r (bad_record k) = bad_record k

-- record k, before what is told of the rest
unfoldable pub judged : {R : Type 0} → ℕ → Option R → Told R → Told R
judged k None rest = bad_record k
judged k (Some r) rest = with r rest

-- the lines from record k on; a record too many is bad, whatever it holds
unfoldable pub records : {R : Type 0} → (ℕ → List (List ℕ) → Option R) → ℕ → ℕ → List (List ℕ) → Told R
records record_of most k [] = rows []
records record_of most k (l ∷ ls) =
    cond (ltb k most) (judged k (record_of k (fields l)) (records record_of most (suc k) ls)) (bad_record k)

-- too few records: the first that is missing is bad
unfoldable pub enough : {R : Type 0} → ℕ → Told R → Told R
enough least (rows rs) = cond (ltb (length rs) least) (bad_record (length rs)) (rows rs)
enough least wrong_header = wrong_header
enough least (bad_record k) = bad_record k

-- the same bytes
unfoldable pub same : List ℕ → List ℕ → Bool
same [] [] = true
same [] (c ∷ t) = false
same (b ∷ s) [] = false
same (b ∷ s) (c ∷ t) = eqb b c && same s t

-- the first line must be the header
unfoldable pub headed : {R : Type 0} → List ℕ → (List (List ℕ) → Told R) → List (List ℕ) → Told R
headed header go [] = wrong_header
headed header go (l ∷ ls) = cond (same l header) (go ls) wrong_header

unfoldable pub told : {R : Type 0} → Layout R → List ℕ → Told R
told L s = headed L.header (λ ls. enough L.least (records L.record_of L.most 0 ls)) (lines s)

-- ---- how rows are printed

unfoldable pub record_lines : {R : Type 0} → (R → List (List ℕ)) → ℕ → List R → List (List ℕ)
record_lines fields_of k [] = []
record_lines fields_of k (r ∷ rs) = joined (decimal k ∷ fields_of r) ∷ record_lines fields_of (suc k) rs

unfoldable pub printed : {R : Type 0} → Layout R → List R → List ℕ
printed L rs = broken (L.header ∷ record_lines L.fields_of 0 rs)
