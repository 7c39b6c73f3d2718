-- What the functions ask and say of their rows. `Given` and `Placed` are the contract of `place_arcs`; what follows them is inner. Definitions alone.
use Rattle.std.specs.Prelude.{◌≡◌, Bool, true, false, List, Result, IfOk, IfErr, ℕ, ◌+◌, ◌%◌, ◌≤◌, ◌<◌, ℤ, length}
use Rattle.std.specs.Borrow.{Bor, MutBor}
use denote.Triple.Both.{Both}
use Rattle.walks.specs.Walk.{Graph, graph_of, Between}
use Rattle.numbers.specs.Row.{at, at_ℤ}
use Rattle.walks.specs.Times.{Consistent, Anchored}
use Rattle.walks.specs.Label.{mark_of, labels, times, Labelled}
use Rattle.walks.specs.declared.Mark.{Mark}
use Rattle.walks.specs.declared.Arc.{Arc}

-- rows of arcs that belong together: a head and a tension for each arc, ends that are one of at most 64 events, a period T from 1 to 3,600
pub record Given (tail head : List ℕ) (tensions : List ℤ) (T n : ℕ) : Type 0 where
  pub events : n ≤ 64
  pub heads_long : length head ≡ length tail
  pub tensions_long : length tensions ≡ length tail
  pub positive : 0 < T
  pub most : T ≤ 3600
  pub ends : Between (graph_of tail head) n (length tail)

-- of m arcs, arc k is the first that no times allow together with those before it
pub record Impossible (G : Graph) (te : ℕ → ℤ) (T m k : ℕ) : Type 0 where
  pub inside : k < m
  pub allowed : Consistent G te T k
  pub refused : ¬ Consistent G te T (k + 1)

-- the row of times is the anchored timetable; or the error is the first arc that no times allow together with those before it, and the row is as it was
pub record Placed (tail head : List ℕ) (tensions : List ℤ) (T : ℕ) (times times' : List ℕ) (r : Result (Unit {0}) ℕ) : Type 0 where
  pub times_long : length times' ≡ length times
  pub timetable : IfOk r (λ _. Anchored (graph_of tail head) (at_ℤ tensions) T (length times) (length tail) (at times'))
  pub impossible : IfErr r (λ k. Impossible (graph_of tail head) (at_ℤ tensions) T (length tail) k)
  pub unwritten : IfErr r (λ _. times' ≡ times)

-- of the parameters of the call
abbrev pub PlacedBy : {A B C : Type 0} → Both (Bor (List ℕ)) A → Both (Bor (List ℕ)) B → Both (Bor (List ℤ)) C → ℕ
    → Both (MutBor (List ℕ)) (MutBor (List ℕ)) → Result (Unit {0}) ℕ → Type 0
PlacedBy tail head tensions T times r = Placed tail.entry.now head.entry.now tensions.entry.now T times.entry.now times.exit.now r

-- ---- inner

-- times below a period T of at most 3,600
pub record Timed (marks : List Mark) (T : ℕ) : Type 0 where
  pub most : T ≤ 3600
  pub under : (v : ℕ) → v < length marks → times marks v < T

-- the events below n are parts of their own, at 0
pub record Begun (n : ℕ) (marks marks' : List Mark) : Type 0 where
  pub inside : n ≤ length marks
  pub marks_long : length marks' ≡ length marks
  pub own : (v : ℕ) → v < n → labels marks' v ≡ v
  pub at_zero : (v : ℕ) → v < n → times marks' v ≡ 0

-- of the events below n, those labelled hi are moved to lo and s later by T; the later events are as they were
pub record Moved (n hi lo s T : ℕ) (marks marks' : List Mark) : Type 0 where
  pub inside : n ≤ length marks
  pub marks_long : length marks' ≡ length marks
  pub moved : (v : ℕ) → v < n → labels marks v ≡ hi → mark_of marks' v ≡ record { label = lo; time = (times marks v + s) % T }
  pub kept : (v : ℕ) → v < n → ¬ (labels marks v ≡ hi) → mark_of marks' v ≡ mark_of marks v
  pub later : (v : ℕ) → n ≤ v → mark_of marks' v ≡ mark_of marks v

-- arc k of a graph, with its tension
abbrev pub arc_of : Graph → (ℕ → ℤ) → ℕ → Arc
arc_of G te k = record { tail = G.tail k; head = G.head k; tension = te k }

-- arc k is placed with those below it; or no times allow it together with them
pub data Took (G : Graph) (te : ℕ → ℤ) (T n k : ℕ) (marks : List Mark) : Bool → Type 0 where
  fits : Labelled G te T n (k + 1) (labels marks) (times marks) → Took G te T n k marks true
  fails : ¬ Consistent G te T (k + 1) → Took G te T n k marks false

-- wherever the arc stands in a graph after arcs that are placed, it is placed with them, or no times allow it together with them
pub record Taken (arc : Arc) (T : ℕ) (marks marks' : List Mark) (r : Bool) : Type 0 where
  pub marks_long : length marks' ≡ length marks
  pub took : (G : Graph) (te : ℕ → ℤ) (k : ℕ) → arc_of G te k ≡ arc → Between G (length marks) (k + 1)
      → Labelled G te T (length marks) k (labels marks) (times marks) → Took G te T (length marks) k marks' r

-- the arcs below k are placed: the labels and times are right for them
pub record Placing (tail head : List ℕ) (tensions : List ℤ) (T k : ℕ) (marks : List Mark) : Type 0 where
  pub given : Given tail head tensions T (length marks)
  pub most : k ≤ length tail
  pub labelled : Labelled (graph_of tail head) (at_ℤ tensions) T (length marks) k (labels marks) (times marks)

-- the times of the events below n are written
pub record Noted (n : ℕ) (marks : List Mark) (row : List ℕ) : Type 0 where
  pub is : (v : ℕ) → v < n → at row v ≡ times marks v
