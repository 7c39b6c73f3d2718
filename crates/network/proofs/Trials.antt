-- The laws by which the table is worked down, one line after the other. Assumes nothing.
use mathlib.Core.Path.{◌≡◌, refl, sym, ap, ◌∙◌, subst}
use mathlib.Core.List.{List, ◌∷◌}
use Prim.Native.Nat.{ℕ, zero, suc, ◌+◌, ◌≤◌, ◌<◌}
use native.Mathlib.Omega.{arith}
use borrow.Author.Count.{below_more}
use lib.ListN.{length, drop, get_or}
use lib.Seq.{split_at}
use Rattle.network.specs.Network.{Network, events, arcs}
use Rattle.std.specs.Prelude.{Some, None}
use Rattle.network.specs.First.{FirstOf}
use Rattle.network.specs.Refusals.{Refusal, answer, answer_of, never, named, number}
use Rattle.network.specs.Table.{refusals_with, refusal_of, line}
use Rattle.network.specs.Trial.{order, code_at, places_of, Even, Sound, Asks}
use Rattle.network.proofs.Refusing.{Clear, AllClear, clear_of, refused, all_taken, goes_on}
use Rattle.network.proofs.Sound.{inside, even_of, sound_of}

-- the first k lines apply nowhere
pub record Tried (N : Network) (f k : ℕ) : Type 0 where
  pub clear : (j : ℕ) → j < k → Clear (get_or (refusals_with N f) j never)

-- what is then known of line k
pub record Turn (N : Network) (f k : ℕ) : Type 0 where
  pub same : line N f (number (code_at k)) ≡ get_or (refusals_with N f) k never
  pub code_is : (line N f (number (code_at k))).code ≡ number (code_at k)
  pub few : (line N f (number (code_at k))).places ≤ 256
  pub asks : Asks N f (number (code_at k))

module _ (N : Network) (f : ℕ) where
  -- ---- what the lines passed leave to the next

  early : (c : ℕ) → c ≤ 3 → places_of c (events N) (arcs N) ≡ (line N f c).places → Asks N f c
  early c h p = record { places_are = p; even = λ l. absurd (omega arith); sound = λ e. absurd (omega arith) }

  module _ (k : ℕ) (t : Tried N f k) where
    few_events : 0 < k → events N ≤ 256
    unfolding refusals_with
    few_events h = omega (arith, (inside 1 64 (events N) ((t.clear 0 h).nowhere 0 (omega arith))).most)

    even : 2 < k → Even N
    unfolding refusals_with
    even h = (even_of N f ((t.clear 2 h).nowhere 0 (omega arith))).even

    before_18 : 8 ≤ k → Sound N
    before_18 h = sound_of N f (all_taken 8 (refusals_with N f) (λ j l. t.clear j (omega arith)))

    -- a line of the arcs; 18 comes after eight others
    of_arcs : 2 < k → (number (code_at k) ≡ 18 → 8 ≤ k) → line N f (number (code_at k)) ≡ get_or (refusals_with N f) k never
        → (line N f (number (code_at k))).code ≡ number (code_at k)
        → places_of (number (code_at k)) (events N) (arcs N) ≡ (line N f (number (code_at k))).places
        → (line N f (number (code_at k))).places ≡ arcs N → Turn N f k
    of_arcs h s e i n p = record {
      same = e;
      code_is = i;
      few = omega (arith, p, (even h).few_arcs);
      asks = record { places_are = n; even = λ l. even h; sound = λ q. before_18 (s q) };
    }

  pub turn : (k : ℕ) → k < length order → Tried N f k → Turn N f k
  unfolding named refusals_with places_of
  turn zero h t = record { same = refl; code_is = refl; few = omega arith; asks = early 1 (omega arith) refl }
  turn (suc zero) h t = record { same = refl; code_is = refl; few = few_events 1 t (omega arith); asks = early 2 (omega arith) refl }
  turn (suc (suc zero)) h t = record { same = refl; code_is = refl; few = omega arith; asks = early 3 (omega arith) refl }
  turn (suc (suc (suc zero))) h t = of_arcs 3 t (omega arith) (λ e. omega arith) refl refl refl refl
  turn (suc (suc (suc (suc zero)))) h t = of_arcs 4 t (omega arith) (λ e. omega arith) refl refl refl refl
  turn (suc (suc (suc (suc (suc zero))))) h t = of_arcs 5 t (omega arith) (λ e. omega arith) refl refl refl refl
  turn (suc (suc (suc (suc (suc (suc zero)))))) h t = of_arcs 6 t (omega arith) (λ e. omega arith) refl refl refl refl
  turn (suc (suc (suc (suc (suc (suc (suc zero))))))) h t = of_arcs 7 t (omega arith) (λ e. omega arith) refl refl refl refl
  turn (suc (suc (suc (suc (suc (suc (suc (suc zero)))))))) h t = of_arcs 8 t (omega arith) (λ e. omega arith) refl refl refl refl
  turn (suc (suc (suc (suc (suc (suc (suc (suc (suc k))))))))) h t = absurd (omega arith)

  -- ---- one line after the other

  module _ (k : ℕ) (h : k < length order) (t : Tried N f k) where
    -- its scan found no place
    pub tried_more : FirstOf (line N f (number (code_at k))).applies (line N f (number (code_at k))).places None → Tried N f (k + 1)
    tried_more s = record {
      clear = below_more (λ j. Clear (get_or (refusals_with N f) j never)) k t.clear (subst Clear (turn k h t).same (clear_of s (omega arith)));
    }

    -- its scan found one
    pub tried_refused : {p : ℕ} → FirstOf (line N f (number (code_at k))).applies (line N f (number (code_at k))).places (Some p)
        → refusal_of N f ≡ answer (number (code_at k)) p 0
    unfolding refusals_with
    tried_refused {p} s =
        let w = turn k h t in
        let rs = refusals_with N f in
        ap (λ (l : List Refusal). answer_of l 0) (split_at rs k never h)
        ∙ goes_on (get_or rs k never ∷ drop (suc k) rs) 0 (all_taken k rs t.clear)
        ∙ ap (λ (r : Refusal). answer_of (r ∷ drop (suc k) rs) 0) (sym w.same)
        ∙ refused (drop (suc k) rs) 0 s.1 s.0
        ∙ ap (λ (c : ℕ). answer c p 0) w.code_is

  -- past the last
  pub tried_all : {k : ℕ} → Tried N f k → length order ≤ k → AllClear (refusals_with N f)
  unfolding refusals_with
  tried_all t h = all_taken 9 (refusals_with N f) (λ j l. t.clear j (omega arith))
