-- Demand 1, where it is a fact and not the form of a call: under any code but 0 every lent row is as it was. Check is lent none to write. Assumes nothing.
use mathlib.Core.Path.{◌≡◌, ap, ◌∙◌}
use mathlib.Core.List.{List}
use Prim.Native.Nat.{ℕ}
use lib.IntN.{ℤ}
use Rattle.network.specs.declared.Answer.{Answer}
use Rattle.network.specs.declared.Filled.{Filled}
use Rattle.network.specs.Network.{Network, net}
use Rattle.network.specs.Rows.{ArcRows}
use Rattle.network.proofs.Refusing.{after_kept, filled_code}
use Rattle.timetable.specs.Measure.{Measured}
use Rattle.timetable.specs.PrintText.{print_of, Printed}
use Rattle.timetable.specs.ReadText.{read_of, Read}
use Rattle.timetable.specs.Rebuild.{Rebuilt}
use Rattle.timetable.specs.Rebuild.Restored.{impossible, restored}
use Rattle.timetable.specs.Rebuild.Rebuilt.{refused as not-judged, judged}
use Rattle.timetable.specs.Solve.{Solved}
use Rattle.timetable.specs.Solve.Found.{infeasible, solved}
use Rattle.timetable.specs.Solve.Solved.{refused, searched}

pub measure_kept : {N : Network} {t : List ℕ} {was is : ArcRows} {r : Answer} → (r.code ≡ 0 → ⊥) → Measured N t was is r → is ≡ was
measure_kept {r = r} n p = p.rows ∙ after_kept r _ _ n

pub solve_kept : {N : Network} {times times' : List ℕ} {rows rows' : ArcRows} {r : Answer}
    → (r.code ≡ 0 → ⊥) → Solved N times rows times' rows' r → (times' ≡ times) × (rows' ≡ rows)
solve_kept n (refused m a e f) = (e, f)
solve_kept n (searched z (infeasible m e f a)) = (e, f)
solve_kept n (searched z (solved t p e f a)) = absurd (n (ap (λ (o : Answer). o.code) a))

pub rebuild_kept : {N : Network} {x : List ℤ} {times times' : List ℕ} {r : Answer} → (r.code ≡ 0 → ⊥) → Rebuilt N x times times' r → times' ≡ times
rebuild_kept n (not-judged m a e) = e
rebuild_kept n (judged z (impossible k h c m e a)) = e
rebuild_kept n (judged z (restored t p e a)) = absurd (n (ap (λ (o : Answer). o.code) a))

pub read_kept : {E A : List ℕ} {N N' : Network} {r : Filled} → (r.code ≡ 0 → ⊥) → Read E A N N' r → N' ≡ N
read_kept {E} {A} {N} n p =
    let o : Answer = read_of E A N in
    let m : o.code ≡ 0 → ⊥ = λ z. n (filled_code o _ _ p.answer ∙ z) in
    λ i. net ((p.periods ∙ after_kept o _ _ m) i) ((p.tails ∙ after_kept o _ _ m) i) ((p.heads ∙ after_kept o _ _ m) i)
    ((p.lowers ∙ after_kept o _ _ m) i) ((p.uppers ∙ after_kept o _ _ m) i) ((p.weights ∙ after_kept o _ _ m) i)

pub print_kept : {N : Network} {E A E' A' : List ℕ} {r : Filled} → (r.code ≡ 0 → ⊥) → Printed N E A E' A' r → (E' ≡ E) × (A' ≡ A)
print_kept {N} {E} {A} n p =
    let o : Answer = print_of N E A in
    let m : o.code ≡ 0 → ⊥ = λ z. n (filled_code o _ _ p.answer ∙ z) in
    (p.events ∙ after_kept o _ _ m, p.arcs ∙ after_kept o _ _ m)
