-- Rows that are filled from an accepted text: its records in order, and the old entries beyond them. Definitions alone.
use Rattle.std.specs.Prelude.{◌≡◌, List, [], ◌++◌, map, ℕ, ◌≤◌, ℤ, length, drop}
use Rattle.std.specs.Borrow.{MutBor}
use denote.Triple.Both.{Both}
use Rattle.text.specs.Text.{Layout, Arc, arc_layout, Told, rows, wrong_header, bad_record, told}

abbrev pub rows_of : {R : Type 0} → Told R → List R
rows_of (rows rs) = rs
rows_of wrong_header = []
rows_of (bad_record k) = []

-- xs from 0 on; the rest keep their contents
abbrev pub onto : {A : Type 0} → List A → List A → List A
onto xs row = xs ++ drop (length xs) row

-- one number of each arc
abbrev pub tails_of : List Arc → List ℕ
tails_of rs = map (λ a. a.tail) rs

abbrev pub heads_of : List Arc → List ℕ
heads_of rs = map (λ a. a.head) rs

abbrev pub lowers_of : List Arc → List ℤ
lowers_of rs = map (λ a. a.lower) rs

abbrev pub uppers_of : List Arc → List ℤ
uppers_of rs = map (λ a. a.upper) rs

abbrev pub weights_of : List Arc → List ℕ
weights_of rs = map (λ a. a.weight) rs

-- ---- for the inner functions

-- a text is accepted, and there is room for all that it may have
pub record Fillable {R : Type 0} (L : Layout R) (text : List ℕ) (room : ℕ) : Type 0 where
  pub accepted : told L text ≡ rows (rows_of (told L text))
  pub wide : L.most ≤ room

-- the same of the five arc rows
pub record ArcsFillable (text t h : List ℕ) (l u : List ℤ) (w : List ℕ) : Type 0 where
  pub accepted : told arc_layout text ≡ rows (rows_of (told arc_layout text))
  pub tails : arc_layout.most ≤ length t
  pub heads : arc_layout.most ≤ length h
  pub lowers : arc_layout.most ≤ length l
  pub uppers : arc_layout.most ≤ length u
  pub weights : arc_layout.most ≤ length w

-- the five rows at entry and at exit
pub record ArcsFilled (rs : List Arc) (t h : List ℕ) (l u : List ℤ) (w : List ℕ) (t' h' : List ℕ) (l' u' : List ℤ) (w' : List ℕ) : Type 0 where
  pub tails : t' ≡ onto (tails_of rs) t
  pub heads : h' ≡ onto (heads_of rs) h
  pub lowers : l' ≡ onto (lowers_of rs) l
  pub uppers : u' ≡ onto (uppers_of rs) u
  pub weights : w' ≡ onto (weights_of rs) w

-- of the parameters of the call
abbrev pub ArcsFilledBy : List Arc → Both (MutBor (List ℕ)) (MutBor (List ℕ)) → Both (MutBor (List ℕ)) (MutBor (List ℕ)) → Both (MutBor (List ℤ)) (MutBor (List ℤ))
    → Both (MutBor (List ℤ)) (MutBor (List ℤ)) → Both (MutBor (List ℕ)) (MutBor (List ℕ)) → Type 0
ArcsFilledBy rs t h l u w =
    ArcsFilled rs t.entry.now h.entry.now l.entry.now u.entry.now w.entry.now
    t.exit.now h.exit.now l.exit.now u.exit.now w.exit.now
