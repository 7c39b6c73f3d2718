-- Demand 3, over the contract of rebuild and the public rule. A sheet is a row of tensions, each within its arc's working bounds, for a well-formed
-- network in which all events share one period. Assumes nothing.
use mathlib.Core.Path.{◌≡◌, sym, ap, ◌∙◌}
use mathlib.Core.List.{List}
use Prim.Native.Nat.{ℕ, ◌+◌, ◌≤◌, ◌<◌}
use native.Mathlib.Omega.{arith}
use lib.IntN.{ℤ, pos}
use lib.ListN.{length}
use lib.Seq.{ext_get_or}
use Rattle.numbers.specs.Row.{at}
use Rattle.network.specs.declared.Answer.{Answer}
use Rattle.network.specs.Network.{Network, events, arcs}
use Rattle.network.specs.PublicRule.{tension}
use Rattle.network.specs.Refusals.{answer}
use Rattle.network.proofs.Arcs.{written_at}
use Rattle.walks.proofs.Walks.{fewer_consistent}
use Rattle.walks.proofs.Theorems.{exactly}
use Rattle.timetable.specs.Rebuild.{Allowed, Sheet, Restored, Rebuilt}
use Rattle.timetable.specs.Rebuild.Restored.{impossible, restored}
use Rattle.timetable.specs.Rebuild.Rebuilt.{refused, judged}
use Rattle.timetable.specs.Demands.{Back, Demand3}
use Rattle.timetable.proofs.Sheets.{common, between, stands_allowed, stands_one}
use Rattle.timetable.proofs.Rebuilds.{judged_sheet, sheet_judged, room_judged}

code_of : {r : Answer} {c p x : ℕ} → r ≡ answer c p x → r.code ≡ c
code_of e = ap (λ (o : Answer). o.code) e

by_walks : {N : Network} {x : List ℤ} {times times' : List ℕ} {r : Answer} → Sheet N x → Restored N x times times' r → Demand3 N x times times' r
by_walks {N} {x} {r = r} s (impossible k h c n e a) = record {
  accepted = (
    λ z. absurd (omega (arith, z, code_of a)),
    λ w. absurd (n (fewer_consistent (k + 1) (omega arith) ((exactly (common s).0 (between s)).1 w))),
  );
  back = λ z. absurd (omega (arith, z, code_of a));
  only = λ t u. stands_one s;
  first = λ z. (code_of a, at_place (λ j. j < arcs N) h, at_place (Allowed N x) c, at_place (λ j. ¬ Allowed N x (j + 1)) n);
}
  where
    at_place : (P : ℕ → Type 0) → P k → P r.place
    at_place P p = rw (ap (λ (o : Answer). o.place) a) p
by_walks {N} s (restored t p e a) = record {
  accepted = (λ z. (exactly (common s).0 (between s)).0 (stands_allowed s p (arcs N) (omega arith)), λ w. code_of a);
  back = λ z. record { table = t; stands = p; times_are = e; answer_is = a };
  only = λ t u. stands_one s;
  first = λ z. absurd (z (code_of a));
}

pub demand_3 : {N : Network} {x : List ℤ} {times times' : List ℕ} {r : Answer} → Sheet N x → events N ≤ length times
    → Rebuilt N x times times' r → Demand3 N x times times' r
demand_3 {N} {x} {times} s l (refused n a e) = absurd (n (ap (λ (o : Answer). o.code) a ∙ judged_sheet N x times s l))
demand_3 s l (judged z p) = by_walks s p

-- ---- two different accepted rows never give the same timetable

accepted_back : {N : Network} {x : List ℤ} {times times' : List ℕ} {r : Answer} → Rebuilt N x times times' r → r.code ≡ 0
    → Sheet N x × (events N ≤ length times) × Back N x times times' r
accepted_back (refused n a e) z = absurd (n z)
accepted_back {N} {x} {times} (judged y p) z =
    let s = sheet_judged N x times y in
    (s, room_judged N x times y, (by_walks s p).back z)

pub rows_differ : {N : Network} {x y : List ℤ} {times times' also also' : List ℕ} {r s : Answer}
    → Rebuilt N x times times' r → r.code ≡ 0 → Rebuilt N y also also' s → s.code ≡ 0
    → ((v : ℕ) → v < events N → at times' v ≡ at also' v) → x ≡ y
rows_differ {N} {x} {y} {times} {times'} {also} {also'} p z q w same =
    let a = accepted_back p z in
    let b = accepted_back q w in
    let t = a.2.table in
    let u = b.2.table in
    let e : t ≡ u = ext_get_or 0 t u (a.2.stands.timetable.long ∙ sym b.2.stands.timetable.long)
    (λ v h. let i : v < events N = omega (arith, a.2.stands.timetable.long) in
    sym (ap (λ (l : List ℕ). at l v) a.2.times_are ∙ written_at 0 (at t) (events N) times v i a.1)
    ∙ same v i
    ∙ ap (λ (l : List ℕ). at l v) b.2.times_are ∙ written_at 0 (at u) (events N) also v i b.1) in
    ext_get_or (pos 0) x y (a.0.long ∙ sym b.0.long)
    (λ k h. let i : k < arcs N = omega (arith, a.0.long) in
    sym (a.2.stands.tensions k i) ∙ ap (λ (l : List ℕ). tension N l k) e ∙ b.2.stands.tensions k i)
