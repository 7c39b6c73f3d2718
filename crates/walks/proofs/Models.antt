-- The computed answer is right: its marks are right for the arcs passed, and where it stops no times allow the arc. Assumes nothing.
use mathlib.Core.Path.{◌≡◌, refl, sym, ◌∙◌, ap, subst, subst₂}
use mathlib.Core.Bool.{Bool, true, false, cond}
use mathlib.Core.List.{List, map}
use Prim.Native.Nat.{ℕ, zero, suc, ◌+◌, ◌-◌, ◌%◌, ◌<◌}
use native.Mathlib.Nat.{le_of_suc-le-suc}
use native.Mathlib.Numerals.{add-one}
use native.Mathlib.Omega.{arith}
use borrow.Author.Tests.{ltb-true, ltb-false, eqb-true, eqb-false, eq-eqb, ne_eqb}
use lib.Dec.{ltb, eqb}
use lib.IntN.{ℤ, pos, ◌+ℤ◌, ◌-ℤ◌}
use lib.ListN.{length, length-map}
use lib.ListN.{get_or-map as at_map}
use Rattle.std.proofs.lemmas.List.{get_or-map}
use Rattle.numbers.specs.Remainder.{IsRemainder, remainder}
use Rattle.numbers.proofs.Remainders.{remainder_is}
use Rattle.walks.specs.Walk.{Graph, Between, Closed}
use Rattle.numbers.specs.Row.{at}
use Rattle.walks.specs.Times.{Consistent}
use Rattle.walks.specs.Label.{mark_of, labels, times, Labelled, Shifted}
use Rattle.walks.specs.declared.Mark.{Mark}
use Rattle.walks.proofs.Model.{own, move, Next, marks, none, step, Out, timetable, refused, run, answer}
use Rattle.walks.proofs.Walks.{fewer_between}
use Rattle.walks.proofs.Labels.{at_first, consistent}
use Rattle.walks.proofs.Arcs.{kept, not_closed, head_moved, tail_moved, shifted}

-- ---- the moved marks

module _ (T hi lo s : ℕ) (ms : List Mark) where
  moved : (v : ℕ) → v < length ms → labels ms v ≡ hi → mark_of (map (move T hi lo s) ms) v ≡ record { label = lo; time = (times ms v + s) % T }
  moved v h e =
      get_or-map (move T hi lo s) ms v _ _ h
      ∙ ap (λ (b : Bool). cond {A = Mark} b (record { label = lo; time = (times ms v + s) % T }) (mark_of ms v)) (eq-eqb (labels ms v) hi e)

  unmoved : (v : ℕ) → v < length ms → ¬ (labels ms v ≡ hi) → mark_of (map (move T hi lo s) ms) v ≡ mark_of ms v
  unmoved v h f =
      get_or-map (move T hi lo s) ms v _ _ h
      ∙ ap (λ (b : Bool). cond {A = Mark} b (record { label = lo; time = (times ms v + s) % T }) (mark_of ms v)) (ne_eqb (labels ms v) hi f)

-- ---- one arc

-- the marks of n events, right for the arcs below k
record Marked (G : Graph) (te : ℕ → ℤ) (T n k : ℕ) (ms : List Mark) : Type 0 where
  events : length ms ≡ n
  labelled : Labelled G te T n k (labels ms) (times ms)

-- one arc more is marked, or it closes a walk that is no multiple of the period
abbrev StepRight : Graph → (ℕ → ℤ) → ℕ → ℕ → ℕ → Next → Type 0
StepRight G te T n k (marks ms) = Marked G te T n (k + 1) ms
StepRight G te T n k none = ¬ Closed G te T (k + 1)

module _ {G : Graph} {te : ℕ → ℤ} {T n k : ℕ} {ms : List Mark} (h : 0 < T) (E : Between G n (k + 1)) (M : Marked G te T n k ms) where
  moved_right : (hi lo s : ℕ) → ((label time : ℕ → ℕ) → Shifted T n hi lo (pos s) (labels ms) (times ms) label time → Labelled G te T n (k + 1) label time)
      → Marked G te T n (k + 1) (map (move T hi lo s) ms)
  moved_right hi lo s f = record {
    events = length-map ms (move T hi lo s) ∙ M.events;
    labelled =
        f _ _
        (subst (λ (n : ℕ). Shifted T n hi lo (pos s) (labels ms) (times ms) (labels (map (move T hi lo s) ms)) (times (map (move T hi lo s) ms)))
        M.events (shifted ms _ h (moved T hi lo s ms) (unmoved T hi lo s ms)));
  }

  step_right : StepRight G te T n k (step G te T k ms)
  unfolding step
  step_right = go (ltb a b) (ltb b a) (eqb s 0) refl refl refl
    where
      a : ℕ
      a = labels ms (G.tail k)

      b : ℕ
      b = labels ms (G.head k)

      s : ℕ
      s = remainder ((pos (times ms (G.tail k)) +ℤ te k) -ℤ pos (times ms (G.head k))) T

      R : IsRemainder ((pos (times ms (G.tail k)) +ℤ te k) -ℤ pos (times ms (G.head k))) T s
      R = remainder_is h refl

      go : (p q r : Bool) → ltb a b ≡ p → ltb b a ≡ q → eqb s 0 ≡ r → StepRight G te T n k
          (cond {A = Next} p (marks (map (move T b a s) ms)) (cond {A = Next} q (marks (map (move T a b ((T - s) % T)) ms)) (cond {A = Next} r (marks ms) none)))
      go true q r e f g = moved_right b a s (λ l t. head_moved E M.labelled R (ltb-true a b e))
      go false true r e f g = moved_right a b ((T - s) % T) (λ l t. tail_moved E M.labelled R (ltb-true b a f))
      go false false true e f g = record { events = M.events; labelled = kept E M.labelled R (omega (arith, ltb-false a b e, ltb-false b a f)) (eqb-true s 0 g) }
      go false false false e f g = not_closed E M.labelled R (omega (arith, ltb-false a b e, ltb-false b a f)) (eqb-false s 0 g)

-- ---- all arcs

-- times for each of n events, right for m arcs
pub record Found (G : Graph) (te : ℕ → ℤ) (T n m : ℕ) (row : List ℕ) : Type 0 where
  pub events : length row ≡ n
  pub label : ℕ → ℕ
  pub labelled : Labelled G te T n m label (at row)

-- the arcs before arc k are consistent, and it closes a walk that is no multiple of the period
pub record Stuck (G : Graph) (te : ℕ → ℤ) (T m k : ℕ) : Type 0 where
  pub inside : k < m
  pub allowed : Consistent G te T k
  pub not_closed : ¬ Closed G te T (k + 1)

abbrev pub Right : Graph → (ℕ → ℤ) → ℕ → ℕ → ℕ → Out → Type 0
Right G te T n m (timetable row) = Found G te T n m row
Right G te T n m (refused k) = Stuck G te T m k

run_right : (G : Graph) (te : ℕ → ℤ) (T n m : ℕ) → 0 < T → Between G n m → (j k : ℕ) (ms : List Mark) → k + j ≡ m → Marked G te T n k ms → Right G te T n m (run G te T j k ms)
unfolding run
run_right G te T n m h E zero k ms e M =
    let all : k ≡ m = omega arith in
    let same : times ms ≡ at (map (λ m. m.time) ms) = λ i v. sym (at_map (λ m. m.time) ms v (record { label = 0; time = 0 })) i in
    record {
      events = length-map ms (λ m. m.time) ∙ M.events;
      label = labels ms;
      labelled = subst₂ (λ (a : ℕ) (t : ℕ → ℕ). Labelled G te T n a (labels ms) t) all same M.labelled;
    }
run_right G te T n m h E (suc j) k ms e M =
    go (step G te T k ms) (step_right h (fewer_between (k + 1) (omega arith) E) M) (λ l. run_right G te T n m h E j (suc k) l (omega arith))
  where
    go : (x : Next) → StepRight G te T n k x → ((l : List Mark) → Marked G te T n (suc k) l → Right G te T n m (run G te T j (suc k) l))
        → Right G te T n m (elim x [ marks l ↦ run G te T j (suc k) l | none ↦ refused k ])
    go (marks l) p f = f l (subst (λ (k : ℕ). Marked G te T n k l) (add-one k) p)
    go none p f = record { inside = omega arith; allowed = consistent M.labelled; not_closed = p }

own_length : (n v : ℕ) → length (own n v) ≡ n
unfolding own
own_length zero v = refl
own_length (suc n) v = ap suc (own_length n (suc v))

own_label : (n v u : ℕ) → u < n → labels (own n v) u ≡ v + u
unfolding own
own_label zero v u h = absurd (omega arith)
own_label (suc n) v zero h = omega arith
own_label (suc n) v (suc u) h = omega (arith, own_label n (suc v) u (le_of_suc-le-suc h))

own_time : (n v u : ℕ) → u < n → times (own n v) u ≡ 0
unfolding own
own_time zero v u h = refl
own_time (suc n) v zero h = refl
own_time (suc n) v (suc u) h = own_time n (suc v) u (le_of_suc-le-suc h)

pub answer_right : (G : Graph) (te : ℕ → ℤ) (T n m : ℕ) → 0 < T → Between G n m → Right G te T n m (answer G te T n m)
unfolding answer
answer_right G te T n m h E =
    run_right G te T n m h E m 0 (own n 0) (omega arith)
    (record { events = own_length n 0; labelled = at_first G te h (λ v l. omega (arith, own_label n 0 v l)) (own_time n 0) })
