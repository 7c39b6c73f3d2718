-- Two arcs that are one rule: what that means, and where code 18 stands. Assumes nothing.
use mathlib.Core.Path.{◌≡◌, refl, sym, ap, ◌∙◌, subst}
use mathlib.Core.List.{List, [], ◌∷◌, ◌++◌}
use mathlib.Core.Bool.{Bool, true, false, ◌&&◌}
use Prim.Native.Nat.{ℕ, ◌<◌}
use native.Mathlib.Omega.{arith}
use borrow.Author.Tests.{ltb-true, ltb-false, eqb-true, eqb-false}
use lib.IntN.{pos, ◌-ℤ◌}
use lib.Dec.{eqb, leb}
use Rattle.std.specs.Prelude.{Option, Some, None}
use Rattle.std.specs.Option.{is_some}
use Rattle.numbers.specs.Divisor.{gcd}
use Rattle.numbers.specs.Remainder.{remainder}
use Rattle.numbers.specs.Row.{at}
use Rattle.numbers.proofs.Congruence.{cong_refl, cong_sub}
use Rattle.numbers.proofs.Remainders.{same-remainder, cong_of_remainders}
use Rattle.network.specs.declared.Answer.{Answer}
use Rattle.network.specs.Network.{Network, arcs, period, tail, head, lower}
use Rattle.network.specs.PublicRule.{arc_period, slack_by, slack, met, width_of, offset_of}
use Rattle.network.specs.First.{First, first}
use Rattle.network.specs.Refusals.{Refusal, answer, each, named, lines_before, answer_of}
use Rattle.network.specs.Table.{repeats, repeated, refusals_with, refusal_of, WellFormed, FirstPair, OnlyRepeats}
use Rattle.network.specs.Trial.{Sound}
use Rattle.network.specs.Pairs.{Twin}
use Rattle.network.proofs.Scans.{first_is, true_false}
use Rattle.network.proofs.Refusing.{coded, quiet, and_left, and_right, clear, goes_on, stops, refused, listed, apart, told, said}
use Rattle.network.proofs.Sound.{table_coded, all_clear, arc-period}
use Rattle.network.proofs.Width.{met_width}

-- ---- what it means

pub record Twins (N : Network) (a b : ℕ) : Type 0 where
  pub tails : tail N a ≡ tail N b
  pub heads : head N a ≡ head N b
  pub lowers : offset_of N a ≡ offset_of N b
  pub widths : width_of N a ≡ width_of N b

pub same-period : (N : Network) (a b : ℕ) → tail N a ≡ tail N b → head N a ≡ head N b → arc_period N a ≡ arc_period N b
unfolding arc_period
same-period N a b e f = λ j. gcd (period N (e j)) (period N (f j))

pub twins : (N : Network) (a b : ℕ) → repeats N a b ≡ true → Twins N a b
unfolding repeats
twins N a b e =
    let t = eqb (tail N a) (tail N b) in
    let h = eqb (head N a) (head N b) in
    let l = eqb (offset_of N a) (offset_of N b) in
    let w = eqb (width_of N a) (width_of N b) in
    record {
      tails = eqb-true (tail N a) (tail N b) (and_left t h (and_left (t && h) (l && w) e));
      heads = eqb-true (head N a) (head N b) (and_right t h (and_left (t && h) (l && w) e));
      lowers = eqb-true (offset_of N a) (offset_of N b) (and_left l w (and_right (t && h) (l && w) e));
      widths = eqb-true (width_of N a) (width_of N b) (and_right l w (and_right (t && h) (l && w) e));
    }

module _ {N : Network} {a b : ℕ} (s : Sound N) (h : a < arcs N) (w : Twins N a b) where
  -- at any times both have the same slack, so that it would count twice
  pub same-slack : (t : List ℕ) → slack N t a ≡ slack N t b
  unfolding slack offset_of
  same-slack t =
      let g = arc_period N a in
      let p = same-period N a b w.tails w.heads in
      let low = cong_of_remainders (lower N a) (lower N b) g (arc-period N a s h).some (w.lowers ∙ ap (remainder (lower N b)) (sym p)) in
      same-remainder (arc-period N a s h).some (cong_sub (cong_refl g (pos (at t (head N a)) -ℤ pos (at t (tail N a)))) low)
      ∙ (λ j. slack_by (p j) (lower N b) (at t (w.tails j)) (at t (w.heads j)))

  -- and one is met exactly if the other is
  pub same_met : (t : List ℕ) → b < arcs N → met N t a ≡ met N t b
  same_met t k = met_width N t a s h ∙ (λ j. leb (same-slack t j) (w.widths j)) ∙ sym (met_width N t b s k)

-- arcs that are not one rule
pub no_repeat : (N : Network) (a b : ℕ) → (Twins N a b → ⊥) → repeats N a b ≡ false
no_repeat N a b n = go (repeats N a b) refl
  where
    go : (r : Bool) → repeats N a b ≡ r → r ≡ false
    go true e = absurd (n (twins N a b e))
    go false e = refl

pub opposite : {N : Network} (a b : ℕ) → Sound N → a < arcs N → tail N b ≡ head N a → repeats N a b ≡ false
opposite {N} a b s h e = no_repeat N a b (λ w. s.no_loop a h (w.tails ∙ e))

pub other-head : (N : Network) (a b : ℕ) → (head N a ≡ head N b → ⊥) → repeats N a b ≡ false
other-head N a b n = no_repeat N a b (λ w. n w.heads)

-- ---- where 18 stands: at the second arc of the first pair

not_repeated : (N : Network) (b : ℕ) → repeated N b ≡ false → (a : ℕ) → a < b → repeats N a b ≡ false
unfolding repeated
not_repeated N b e a h =
    let t : ℕ → Bool = λ a. repeats N a b in
    (first_is t b).before a (omega (arith, h, ltb-false (first t b) b e))

pub first_pair : {N : Network} {b : ℕ} → First (repeated N) (arcs N) b → b < arcs N → FirstPair N b
unfolding repeated
first_pair {N} {b} f h =
    let t : ℕ → Bool = λ a. repeats N a b in
    let l : first t b < b = ltb-true (first t b) b (f.found h) in
    record { arc = h; partner = first t b; earlier = l; again = (first_is t b).found l; none_before = λ c d k m. not_repeated N d (f.before d m) c k }

-- code 18 off the network's table and a call's own lines, none of which has that code
pub pair_said : {N : Network} {r : Answer} (further : ℕ) (own : List Refusal) (x : ℕ) → listed 18 own ≡ false
    → r ≡ answer_of (refusals_with N further ++ own) x → r.code ≡ 18 → FirstPair N r.place
unfolding apart listed named refusals_with
pair_said {N} {r} further own x l q e = go (eqb (answer_of rs 0).code 0) refl
  where
    rs : List Refusal
    rs = refusals_with N further

    code : (answer_of (rs ++ own) x).code ≡ 18
    code = sym (ap (λ (a : Answer). a.code) q) ∙ e

    go : (b : Bool) → eqb (answer_of rs 0).code 0 ≡ b → FirstPair N r.place
    go true z =
        let c = quiet rs 0 (table_coded N further) (eqb-true _ 0 z) in
        absurd (true_false (told own x (sym (ap (λ (a : Answer). a.code) (goes_on own x c)) ∙ code) (λ k. omega arith)) l)
    go false z =
        let s = stops rs own x (eqb-false _ 0 z) in
        let f = said rs 0 refl (sym (ap (λ (a : Answer). a.code) s) ∙ code) (λ k. omega arith) in
        subst (FirstPair N) (sym (ap (λ (a : Answer). a.place) (q ∙ s))) (first_pair f.found f.within)

-- a well-formed network has no such pair
pub distinct : {N : Network} → WellFormed N → (a b : ℕ) → a < b → b < arcs N → repeats N a b ≡ false
unfolding named refusals_with
distinct {N} w a b h k = not_repeated N b ((clear 18 (all_clear N w)).nowhere b k) a h

-- what a search among the arcs before b found
pub twin_is : (N : Network) (b : ℕ) (r : Option ℕ) → Twin N b r → repeated N b ≡ is_some r
unfolding repeated
twin_is N b r w = go (repeated N b) r refl w
  where
    t : ℕ → Bool
    t a = repeats N a b

    go : (q : Bool) (r : Option ℕ) → repeated N b ≡ q → Twin N b r → q ≡ is_some r
    go true (Some a) e w = refl
    go false (Some a) e w = absurd (true_false w.1 (not_repeated N b e a w.0))
    go true None e w =
        let h : first t b < b = ltb-true (first t b) b e in
        absurd (true_false ((first_is t b).found h) (w (first t b) h))
    go false None e w = refl

-- ---- and the other way round: the first pair is refused where none of the lines before 18 applies

pair_is : {N : Network} {b : ℕ} → FirstPair N b → First (repeated N) (arcs N) b
pair_is {N} {b} p = record {
  within = omega (arith, p.arc);
  before = λ d h. twin_is N d None (λ a l. p.none_before a d l h);
  found = λ h. twin_is N b (Some p.partner) (p.earlier, p.again);
}

pub pair_refused : {N : Network} {b : ℕ} (further : ℕ) → OnlyRepeats N further → FirstPair N b → refusal_of N further ≡ answer 18 b 0
unfolding refusals_with lines_before coded
pair_refused {N} further c p =
    goes_on (each 18 (arcs N) (repeated N) ∷ []) 0 (quiet (lines_before 18 (refusals_with N further)) 0 refl c.none) ∙ refused [] 0 (pair_is p) p.arc
