-- What a well-formed network has, and what codes 1 to 8 alone leave. Assumes nothing.
use mathlib.Core.Path.{◌≡◌, refl, sym, ap, ◌∙◌, subst}
use mathlib.Core.List.{List, ◌++◌}
use mathlib.Core.Bool.{Bool, true, false, ◌||◌}
use Prim.Native.Nat.{ℕ, ◌≤◌, ◌<◌}
use native.Mathlib.Omega.{arith}
use borrow.Author.Tests.{ltb-false, leb-false, eqb-true, eqb-false, not-false}
use lib.IntN.{ℤ, pos, negsuc, nat_abs}
use lib.Signed.{lt_z, ◌≤ℤ◌}
use lib.ListN.{length, take, drop}
use lib.Dec.{ltb, leb, eqb}
use Rattle.numbers.proofs.Integers.{abs_ℤ, le_ℤ, of_le, lt_z_false}
use Rattle.numbers.proofs.Divisors.{gcd_pos, gcd_le}
use Rattle.network.specs.declared.Answer.{Answer}
use Rattle.network.specs.Network.{Network, events, arcs, period, tail, head, lower, upper, weight}
use Rattle.network.specs.PublicRule.{arc_period}
use Rattle.network.specs.Refusals.{Refusal, once, named, answer_of}
use Rattle.network.specs.Table.{outside, differ, uneven, strays, outside_ℤ, refusals, refusals_with, line, refusal_of, WellFormed}
use Rattle.network.specs.Trial.{Even, Ends, Inside, Sound}
use Rattle.network.proofs.Scans.{true_false}
use Rattle.network.proofs.Refusing.{AllClear, front, back, coded, coded_both, clear_all, quiet, clear}

-- ---- what each line leaves where it does not apply

-- both sides of `||` say no
pub neither : (a b : Bool) → a || b ≡ false → (a ≡ false) × (b ≡ false)
neither true b e = absurd (true_false refl e)
neither false b e = (refl, e)

pub inside : (least greatest x : ℕ) → outside least greatest x ≡ false → Inside least greatest x
unfolding outside
inside least greatest x e =
    let n = neither (ltb x least) (ltb greatest x) e in
    record { some = ltb-false x least n.0; most = ltb-false greatest x n.1 }

same : (a b : ℕ) → differ a b ≡ false → a ≡ b
same a b e = eqb-true a b (not-false (eqb a b) e)

-- and the further row is as long
pub record EvenWith (N : Network) (further : ℕ) : Type 0 where
  pub even : Even N
  pub further_long : further ≡ arcs N

pub even_of : (N : Network) (further : ℕ)
    → uneven (arcs N) (length N.heads) (length N.lowers) (length N.uppers) (length N.weights) further ≡ false
    → EvenWith N further
unfolding uneven
even_of N further e =
    let m = arcs N in
    let n₁ = neither (differ (length N.heads) m) _ e in
    let n₂ = neither (differ (length N.lowers) m) _ n₁.1 in
    let n₃ = neither (differ (length N.uppers) m) _ n₂.1 in
    let n₄ = neither (differ (length N.weights) m) _ n₃.1 in
    let n₅ = neither (differ further m) _ n₄.1 in
    record {
      even = record {
        heads_long = same _ _ n₁.0;
        lowers_long = same _ _ n₂.0;
        uppers_long = same _ _ n₃.0;
        weights_long = same _ _ n₄.0;
        few_arcs = ltb-false 256 m n₅.1;
      };
      further_long = same _ _ n₅.0;
    }

pub ends_of : (N : Network) (a : ℕ) → strays (events N) (tail N a) (head N a) ≡ false → Ends N a
unfolding strays
ends_of N a e =
    let n = neither (leb (events N) (tail N a)) (leb (events N) (head N a)) e in
    record { tail_in = leb-false (events N) (tail N a) n.0; head_in = leb-false (events N) (head N a) n.1 }

pub inside_ℤ : {least greatest : ℤ} (x : ℤ) → outside_ℤ least greatest x ≡ false → (least ≤ℤ x) × (x ≤ℤ greatest)
unfolding outside_ℤ
inside_ℤ {least} {greatest} x e =
    let n = neither (lt_z x least) (lt_z greatest x) e in
    let a = lt_z_false x least n.0 in
    let b = lt_z_false greatest x n.1 in
    (le_ℤ least x (omega arith), le_ℤ x greatest (omega arith))

small : (low : ℤ) → outside_ℤ (negsuc 7199) (pos 7200) low ≡ false → nat_abs low ≤ 7200
small low e =
    let i = inside_ℤ low e in
    abs_ℤ low (omega (arith, of_le (negsuc 7199) low i.0, of_le low (pos 7200) i.1))

ordered : (low high : ℤ) → lt_z high low ≡ false → low ≤ℤ high
ordered low high e = le_ℤ low high (lt_z_false high low e)

-- ---- the whole

-- no line has code 0, and two of them as they stand
pub table_coded : (N : Network) (further : ℕ) → coded (refusals_with N further) ≡ true
unfolding coded refusals_with
table_coded N further = refl

pub line_1 : (N : Network) (further : ℕ) → line N further 1 ≡ once 1 (outside 1 64 (events N))
unfolding named refusals_with
line_1 N further = refl

pub line_3 : (N : Network) (further : ℕ)
    → line N further 3 ≡ once 3 (uneven (arcs N) (length N.heads) (length N.lowers) (length N.uppers) (length N.weights) further)
unfolding named refusals_with
line_3 N further = refl

-- no line applies anywhere
pub clear_with : (N : Network) (further : ℕ) {r : Answer} → r ≡ refusal_of N further → r.code ≡ 0 → AllClear (refusals_with N further)
clear_with N further e z = quiet (refusals_with N further) 0 (table_coded N further) (sym (ap (λ (a : Answer). a.code) e) ∙ z)

-- and none of a call's own lines behind it
pub judged_clear : (N : Network) (further : ℕ) (own : List Refusal) (x : ℕ) → coded own ≡ true → (answer_of (refusals_with N further ++ own) x).code ≡ 0
    → AllClear (refusals_with N further) × AllClear own
judged_clear N further own x h z =
    let c = quiet (refusals_with N further ++ own) x (coded_both (refusals_with N further) own (table_coded N further) h) z in
    (front (refusals_with N further) own c, back (refusals_with N further) own c)

pub all_clear : (N : Network) → WellFormed N → AllClear (refusals N)
all_clear N w = clear_with N (arcs N) refl w.none

pub well_formed : (N : Network) → AllClear (refusals N) → WellFormed N
well_formed N c = record { none = ap (λ (a : Answer). a.code) (clear_all 0 c) }

-- with a further row: it is as long as the others, and the network is well-formed
pub long_with : (N : Network) (further : ℕ) → AllClear (refusals_with N further) → further ≡ arcs N
unfolding named refusals_with
long_with N further c = (even_of N further ((clear 3 c).nowhere 0 (omega arith))).further_long

pub well_with : (N : Network) (further : ℕ) → AllClear (refusals_with N further) → WellFormed N
well_with N further c = well_formed N (subst (λ (k : ℕ). AllClear (refusals_with N k)) (long_with N further c) c)

-- from the lines before 18
pub sound_of : (N : Network) (further : ℕ) → AllClear (take 8 (refusals_with N further)) → Sound N
unfolding named refusals_with
sound_of N further c = record {
  event_count = inside 1 64 (events N) ((clear 1 c).nowhere 0 (omega arith));
  periods = λ v h. inside 1 3600 (period N v) ((clear 2 c).nowhere v h);
  even = (even_of N further ((clear 3 c).nowhere 0 (omega arith))).even;
  ends = λ a h. ends_of N a ((clear 4 c).nowhere a h);
  no_loop = λ a h. eqb-false (tail N a) (head N a) ((clear 5 c).nowhere a h);
  lower_small = λ a h. small (lower N a) ((clear 6 c).nowhere a h);
  ordered = λ a h. ordered (lower N a) (upper N a) ((clear 7 c).nowhere a h);
  weights = λ a h. inside 0 10000 (weight N a) ((clear 8 c).nowhere a h);
}

pub sound : (N : Network) → WellFormed N → Sound N
unfolding refusals_with
sound N w = sound_of N (arcs N) (front (take 8 (refusals N)) (drop 8 (refusals N)) (all_clear N w))

-- the arc period
pub arc-period : (N : Network) (a : ℕ) → Sound N → a < arcs N → Inside 1 3600 (arc_period N a)
unfolding arc_period
arc-period N a s h =
    let p = s.periods (tail N a) (s.ends a h).tail_in in
    record {
      some = gcd_pos (period N (tail N a)) (period N (head N a)) p.some;
      most = omega (arith, gcd_le (period N (tail N a)) (period N (head N a)) p.some);
    }
