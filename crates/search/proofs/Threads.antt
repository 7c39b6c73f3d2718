-- The laws of the threads: each arc is linked before those that are threaded. Assumes nothing.
use mathlib.Core.Path.{◌≡◌, sym, ap, ◌∙◌, subst}
use mathlib.Core.Logic.{◌⊎◌, inl, inr}
use mathlib.Core.List.{List}
use Rattle.std.specs.Prelude.{Option, Some, None}
use Prim.Native.Nat.{ℕ, ◌+◌, ◌<◌, ◌≤◌}
use native.Mathlib.Nat.{eq-or-lt_of_le}
use native.Mathlib.Decide.{dec_lt}
use native.Mathlib.Omega.{arith}
use lib.ListN.{set, replicate, length-set, length-replicate, get_or-replicate}
use lib.Seq.{get_or-set_same, get_or-set_other}
use Rattle.search.specs.declared.Bar.{Bar}
use Rattle.search.specs.Reduced.{Reduced, arcs_in, events_in, last_in, Sized}
use Rattle.search.specs.Threads.{link, FirstArc, Following, ThreadedFrom, ThreadAsks}

-- rows without a link are long enough
pub thread_asks : {R : Reduced} → Sized R → ThreadAsks R (replicate 64 None) (replicate 2272 None)
thread_asks s = record {
  room = record {
    firsts_long = omega (arith, length-replicate {A = Option ℕ} 64 None, s.few);
    nexts_long = omega (arith, length-replicate {A = Option ℕ} 2272 None, s.barred.few_arcs);
  };
  empty = λ v h. get_or-replicate 64 v None None (omega (arith, s.few));
}

injected : {a b : ℕ} → Some a ≡ Some b → b ≡ a
injected e = cc

-- ---- one arc more

-- the first arc from the next one on is the first from an earlier one on where that has another later end
further : (bars : List Bar) (c : ℕ) {v d : ℕ} (o : Option ℕ) → d ≡ c + 1 → (last_in bars c ≡ v → ⊥) → Following bars v d o → Following bars v c o
further bars c {v} {d} o e n f = record {
  some = λ r q. let g = f.some r q in record { least = omega (arith, g.least); below = g.below; none = λ a l b z. g.none a (skip a l z) b z; here = g.here };
  none = λ q a l b z. f.none q a (skip a l z) b z;
}
  where
    skip : (a : ℕ) → c ≤ a → last_in bars a ≡ v → d ≤ a
    skip a l z = pick (eq-or-lt_of_le l)
      where
        pick : (c ≡ a) ⊎ (c < a) → d ≤ a
        pick (inl p) = absurd (n (rw p z))
        pick (inr p) = omega arith

module _ {R : Reduced} {firsts nexts : List (Option ℕ)} {d last : ℕ} (c : ℕ) (s : Sized R) (h : c < arcs_in R)
    (w : ThreadedFrom R d firsts nexts) (e : d ≡ c + 1) (q : last ≡ last_in R.bars c) where
  link_event : last < events_in R
  link_event = omega (arith, q, s.barred.last_is c h)

  abbrev firsts' : List (Option ℕ)
  firsts' = set firsts last (Some c)

  abbrev nexts' : List (Option ℕ)
  nexts' = set nexts c (link firsts last)

  -- the thread of an event
  first : (v : ℕ) → v < events_in R → Following R.bars v c (link firsts' v)
  first v l = pick (dec_lt v last) (dec_lt last v)
    where
      others : (v ≡ last → ⊥) → Following R.bars v c (link firsts' v)
      others n =
          rw (get_or-set_other firsts last v (Some c) None n) (further R.bars c (link firsts v) e (λ z. n (sym z ∙ sym q)) (w.first_is v l))

      here : v ≡ last → Following R.bars v c (link firsts' v)
      here p =
          subst (Following R.bars v c) (sym (ap (link firsts') p ∙ get_or-set_same firsts last (Some c) None (omega (arith, link_event, w.room.firsts_long))))
          (record { some = λ r j. rw (injected j) first_here; none = λ j. absurd (cc) })
        where
          first_here : FirstArc R.bars v c c
          first_here = record { least = omega arith; below = h; none = λ a x y. absurd (omega arith); here = sym q ∙ sym p }

      pick : Dec (v < last) → Dec (last < v) → Following R.bars v c (link firsts' v)
      pick (yes l) r = others (λ p. omega arith)
      pick (no l) (yes r) = others (λ p. omega arith)
      pick (no l) (no r) = here (omega (arith, l, r))

  -- the thread of an arc
  next : (a : ℕ) → c ≤ a → a < arcs_in R → Following R.bars (last_in R.bars a) (a + 1) (link nexts' a)
  next a l m = pick (eq-or-lt_of_le l)
    where
      pick : (c ≡ a) ⊎ (c < a) → Following R.bars (last_in R.bars a) (a + 1) (link nexts' a)
      pick (inl p) =
          rw (← p) (rw (get_or-set_same nexts c (link firsts last) None (omega (arith, w.room.nexts_long))) (rw (← q) (rw (← e) (w.first_is last link_event))))
      pick (inr k) = rw (get_or-set_other nexts c a (link firsts last) None (λ p. omega arith)) (w.next_is a (omega arith) m)

  pub link_more : ThreadedFrom R c firsts' nexts'
  link_more = record {
    room = record {
      firsts_long = omega (arith, length-set firsts last (Some c), w.room.firsts_long);
      nexts_long = omega (arith, length-set nexts c (link firsts last), w.room.nexts_long);
    };
    first_is = first;
    next_is = next;
  }
