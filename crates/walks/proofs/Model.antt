-- The answer of `place_arcs` as antt computes it, event by event and arc by arc. Definitions alone.
use mathlib.Core.Bool.{cond}
use mathlib.Core.List.{List, [], ◌∷◌, map}
use Prim.Native.Nat.{ℕ, zero, suc, ◌+◌, ◌-◌, ◌%◌}
use lib.Dec.{ltb, eqb}
use lib.IntN.{ℤ, pos, ◌+ℤ◌, ◌-ℤ◌}
use lib.ListN.{length}
use Rattle.numbers.specs.Remainder.{remainder}
use Rattle.walks.specs.Walk.{Graph, graph_of}
use Rattle.numbers.specs.Row.{at_ℤ}
use Rattle.walks.specs.Label.{mark_of}
use Rattle.walks.specs.declared.Mark.{Mark}

-- n events from v on, each a part of its own, at 0
unfoldable pub own : ℕ → ℕ → List Mark
own zero v = []
own (suc n) v = record { label = v; time = 0 } ∷ own n (suc v)

-- an event labelled hi gets the label lo and a time s later by T
abbrev pub move : ℕ → ℕ → ℕ → ℕ → Mark → Mark
move T hi lo s m = cond {A = Mark} (eqb m.label hi) (record { label = lo; time = (m.time + s) % T }) m

-- the marks after one arc more, or none where no times allow it
pub data Next : Type 0 where
  marks : List Mark → Next
  none : Next

-- arc k joins the head's part to the tail's or the tail's to the head's, the lower label stays; or it closes a walk and is tested
unfoldable pub step : Graph → (ℕ → ℤ) → ℕ → ℕ → List Mark → Next
step G te T k ms =
    let u = mark_of ms (G.tail k) in
    let v = mark_of ms (G.head k) in
    let s = remainder ((pos u.time +ℤ te k) -ℤ pos v.time) T in
    cond {A = Next} (ltb u.label v.label) (marks (map (move T v.label u.label s) ms))
    (cond {A = Next} (ltb v.label u.label) (marks (map (move T u.label v.label ((T - s) % T)) ms))
    (cond {A = Next} (eqb s 0) (marks ms) none))

-- the anchored timetable, or the first arc that no times allow together with those before it
pub data Out : Type 0 where
  timetable : List ℕ → Out
  refused : ℕ → Out

-- j arcs more, from arc k on
unfoldable pub run : Graph → (ℕ → ℤ) → ℕ → ℕ → ℕ → List Mark → Out
run G te T zero k ms = timetable (map (λ m. m.time) ms)
run G te T (suc j) k ms = elim (step G te T k ms) [ marks l ↦ run G te T j (suc k) l | none ↦ refused k ]

-- the answer for n events and m arcs
unfoldable pub answer : Graph → (ℕ → ℤ) → ℕ → ℕ → ℕ → Out
answer G te T n m = run G te T m 0 (own n 0)

-- the answer for the rows of a call, and n events
abbrev pub answer_for : List ℕ → List ℕ → List ℤ → ℕ → ℕ → Out
answer_for tail head tensions T n = answer (graph_of tail head) (at_ℤ tensions) T n (length tail)
