-- The laws of one arc of a sound network, of the cost and of a row that is written in order. Assumes nothing.
use mathlib.Core.Path.{◌≡◌, refl, sym, ap, ◌∙◌}
use mathlib.Core.Logic.{◌⊎◌, inl, inr}
use mathlib.Core.List.{List, ◌∷◌, ◌++◌}
use mathlib.Core.Bool.{false}
use Prim.Native.Nat.{ℕ, zero, suc, ◌+◌, ◌*◌, ◌≤◌, ◌<◌}
use native.Mathlib.Nat.{mul-le-mul, eq-or-lt_of_le}
use native.Mathlib.Numerals.{add-one}
use native.Mathlib.Omega.{arith}
use borrow.Author.Tests.{ltb-false}
use lib.IntN.{ℤ, pos, nat_abs, ◌+ℤ◌, ◌-ℤ◌}
use lib.Signed.{mag}
use mir.Syntax.{w32, w64}
use mir.Val.{Fits, SFits, to_z, of_z}
use lib.ListN.{length, get_or, set, take, drop, length-set}
use lib.Seq.{get_or-set_same, get_or-set_other, set-append_seam, drop-cons, take-suc, take-length, length-take-le}
use Rattle.std.proofs.Common.{append_assoc}
use Rattle.numbers.proofs.Bits.{of}
use Rattle.numbers.specs.Row.{at}
use Rattle.network.specs.Network.{Network, events, arcs, tail, head, lower, upper, weight}
use Rattle.network.specs.PublicRule.{arc_period, slack_by, slack, tension, working_by, working, width_of, arc_cost, cost_to, cost_of}
use Rattle.network.specs.Rows.{written, ArcRows, short, short_for}
use Rattle.network.specs.Trial.{Inside, ArcOf}
use Rattle.network.specs.Inner.{Span, Timed}
use Rattle.network.specs.Table.{WellFormed}
use Rattle.network.proofs.Sound.{sound, arc-period, neither}
use Rattle.network.proofs.Width.{narrow, width_below, slack-below}

-- a signed result of a call is passed on as it is
pub kept : {z : ℤ} → mag z < 2147483648 → to_z w32 (of_z w32 z) ≡ z
kept {z} h = (of {w = w32} {z = z} (record { sfits = h })).is

-- and so is head time less tail time less lower, the lower bound having been handed on itself
pub beyond_kept : {z low : ℤ} (from to : ℕ) → mag z < 9223372036854775808 → SFits w32 low → z ≡ (pos to -ℤ pos from) -ℤ to_z w32 (of_z w32 low)
    → to_z w64 (of_z w64 z) ≡ (pos to -ℤ pos from) -ℤ low
beyond_kept {z} from to h f e = (of {w = w64} {z = z} (record { sfits = h })).is ∙ e ∙ ap (λ (l : ℤ). (pos to -ℤ pos from) -ℤ l) (of f).is

-- weight times slack is small
product_small : {w s : ℕ} → w ≤ 10000 → s < 3600 → w * s ≤ 36000000
product_small h k = mul-le-mul {m₂ = 3600} h (omega arith)

-- ---- an arc

pub arc_told : {N : Network} {a : ℕ} → WellFormed N → a < arcs N → ArcOf N a
arc_told {N} w h = record { sound = sound N w; arc = h }

-- in a loop up to the number of arcs, as a call handed it on
pub arc_here : {N : Network} {a m : ℕ} → WellFormed N → m ≡ arcs N → a < m → ArcOf N a
arc_here w e h = arc_told w (omega arith)

module _ {N : Network} {a : ℕ} (c : ArcOf N a) where
  arc_small : a < 256
  arc_small = omega (arith, c.arc, c.sound.even.few_arcs)

  pub in_heads : a < length N.heads
  in_heads = omega (arith, c.arc, c.sound.even.heads_long)

  pub in_lowers : a < length N.lowers
  in_lowers = omega (arith, c.arc, c.sound.even.lowers_long)

  pub in_uppers : a < length N.uppers
  in_uppers = omega (arith, c.arc, c.sound.even.uppers_long)

  pub period_bounds : Inside 1 3600 (arc_period N a)
  period_bounds = arc-period N a c.sound c.arc

  weight_of : weight N a ≤ 10000
  weight_of = (c.sound.weights a c.arc).most

  -- lower, as a call handed it on
  pub lower_kept : {z : ℤ} → z ≡ lower N a → nat_abs z ≤ 7200
  lower_kept e = rw e (c.sound.lower_small a c.arc)

  -- the working upper bound, from an arc period and bounds that calls handed on
  pub asks_working : {g : ℕ} {low : ℤ} → g ≡ arc_period N a → low ≡ lower N a → (0 < g) × (g ≤ 3600) × (nat_abs low ≤ 7200)
  asks_working p e = (omega (arith, p, period_bounds.some), omega (arith, p, period_bounds.most), lower_kept e)

  pub working_is : {g : ℕ} {low high z : ℤ} → g ≡ arc_period N a → low ≡ lower N a → high ≡ upper N a → z ≡ working_by g low high → z ≡ working N a
  unfolding working
  working_is p e f q = q ∙ (λ j. working_by (p j) (e j) (f j))

  pub span : {low high : ℤ} → low ≡ lower N a → high ≡ working N a → Span low high
  unfolding width_of
  span e f =
      rw (e, f)
      (record { ordered = (narrow N a c.sound c.arc).ordered; small = omega (arith, width_below N a c.sound c.arc, period_bounds.most) })

-- ---- and with times at its ends

module _ {N : Network} {a : ℕ} (c : ArcOf N a) (t : List ℕ) where
  slack_small : slack N t a < 3600
  slack_small = omega (arith, (period_bounds c).most, slack-below N t a c.sound c.arc)

  pub slack_kept : {s : ℕ} → s ≡ slack N t a → s < 3600
  slack_kept e = rw e slack_small

  -- what one arc costs
  cost_small : arc_cost N t a ≤ 36000000
  unfolding arc_cost
  cost_small = product_small (weight_of c) slack_small

-- a well-formed network, fact by fact: how long its rows are, and of each arc its ends, arc period, lower bound and slack
module _ (N : Network) (w : WellFormed N) where
  pub few : length N.tails ≤ 256
  few = (sound N w).even.few_arcs

  pub heads_long : length N.heads ≡ arcs N
  heads_long = (sound N w).even.heads_long

  pub lowers_long : length N.lowers ≡ arcs N
  lowers_long = (sound N w).even.lowers_long

  pub uppers_long : length N.uppers ≡ arcs N
  uppers_long = (sound N w).even.uppers_long

  pub weights_long : length N.weights ≡ arcs N
  weights_long = (sound N w).even.weights_long

  pub tail_event : (a : ℕ) → a < arcs N → tail N a < events N
  tail_event a h = ((sound N w).ends a h).tail_in

  pub head_event : (a : ℕ) → a < arcs N → head N a < events N
  head_event a h = ((sound N w).ends a h).head_in

  pub period_some : (a : ℕ) → a < arcs N → 0 < arc_period N a
  period_some a h = (period_bounds (arc_told w h)).some

  pub period_most : (a : ℕ) → a < arcs N → arc_period N a ≤ 3600
  period_most a h = (period_bounds (arc_told w h)).most

  pub lower_least : (a : ℕ) → a < arcs N → nat_abs (lower N a) ≤ 7200
  lower_least a h = (sound N w).lower_small a h

  pub slack_most : (t : List ℕ) (a : ℕ) → a < arcs N → slack N t a < 3600
  slack_most t a h = slack_kept (arc_told w h) t refl

pub ruleset well_rows = (few, heads_long, lowers_long, uppers_long, weights_long, tail_event, head_event, period_some, period_most, lower_least, slack_most)

-- ---- what calls handed on of it

pub record Worked (N : Network) (t : List ℕ) (a g : ℕ) (low : ℤ) (from to : ℕ) : Type 0 where
  pub period_is : g ≡ arc_period N a
  pub lower_is : low ≡ lower N a
  pub from_is : from ≡ at t (tail N a)
  pub to_is : to ≡ at t (head N a)

pub slack_is : {N : Network} {t : List ℕ} {a g : ℕ} {low : ℤ} {from to s : ℕ} → Worked N t a g low from to → s ≡ slack_by g low from to → s ≡ slack N t a
unfolding slack
slack_is w e = e ∙ (λ j. slack_by (w.period_is j) (w.lower_is j) (w.from_is j) (w.to_is j))

-- ---- the cost, arc by arc

-- the cost of the arcs passed, and that it stays small
pub record Summed (N : Network) (t : List ℕ) (a sum : ℕ) : Type 0 where
  pub is : sum ≡ cost_to N t a
  pub small : sum ≤ a * 36000000

pub summed_none : (N : Network) (t : List ℕ) → Summed N t 0 0
unfolding cost_to
summed_none N t = record { is = refl; small = omega arith }

-- of the weight and the slack, as calls handed them on
module _ {N : Network} {t : List ℕ} {a sum w s : ℕ} (c : ArcOf N a) (p : Summed N t a sum) (e : w ≡ weight N a) (q : s ≡ slack N t a) where
  costs : w * s ≡ arc_cost N t a
  unfolding arc_cost
  costs = λ j. e j * q j

  pub summed_fits : Fits w64 (sum + w * s)
  summed_fits = omega (arith, costs, cost_small c t, p.small, arc_small c)

  pub summed_more : Summed N t (a + 1) (sum + w * s)
  unfolding cost_to
  summed_more = record {
    is = (λ j. p.is j + costs j) ∙ ap (cost_to N t) (sym (add-one a));
    small = omega (arith, costs, cost_small c t, p.small);
  }

-- no cost passes 34 bits
cost_to_most : {N : Network} (t : List ℕ) → WellFormed N → (m : ℕ) → m ≤ arcs N → cost_to N t m ≤ m * 36000000
unfolding cost_to
cost_to_most t w zero h = omega arith
cost_to_most {N} t w (suc m) h =
    let c : ArcOf N m = arc_told w (omega arith) in
    omega (arith, cost_to_most t w m (omega arith), cost_small c t)

pub cost_below : {N : Network} {t : List ℕ} → Timed N t → cost_of N t < 17179869184
cost_below {N} {t} p = omega (arith, cost_to_most t p.well (arcs N) (omega arith), (sound N p.well).even.few_arcs)

pub summed_all : {N : Network} {t : List ℕ} {a m sum : ℕ} → Summed N t a sum → a ≡ m → sum ≡ cost_to N t m
summed_all {N} {t} p e = p.is ∙ ap (cost_to N t) e

-- ---- the row, entry by entry

pub tension_is : (N : Network) (t : List ℕ) (a : ℕ) {z low : ℤ} {s : ℕ} → z ≡ low +ℤ pos s → low ≡ lower N a → s ≡ slack N t a → z ≡ tension N t a
unfolding tension
tension_is N t a e l q = e ∙ (λ j. l j +ℤ pos (q j))

-- both rows have an entry for each arc
pub room_of : (N : Network) (rows : ArcRows) → short_for N rows ≡ false → (arcs N ≤ length rows.tensions) × (arcs N ≤ length rows.turns)
unfolding short
room_of N rows e =
    let n = neither _ _ e in
    (ltb-false _ _ n.0, ltb-false _ _ n.1)

pub written_none : {A : Type 0} (f : ℕ → A) (row : List A) → row ≡ written f 0 row
unfolding written
written_none f row = refl

pub written_more : {A : Type 0} (f : ℕ → A) (k : ℕ) (row : List A) → set (written f k row) k (f k) ≡ written f (k + 1) row
unfolding written
written_more f k row = ap (λ (n : ℕ). written f n row) (sym (add-one k))

pub written-length : {A : Type 0} (f : ℕ → A) (k : ℕ) (row : List A) → length (written f k row) ≡ length row
unfolding written
written-length f zero row = refl
written-length f (suc k) row = length-set (written f k row) k (f k) ∙ written-length f k row

pub written_at : {A : Type 0} (d : A) (f : ℕ → A) (k : ℕ) (row : List A) (i : ℕ) → i < k → k ≤ length row → get_or (written f k row) i d ≡ f i
unfolding written
written_at d f zero row i h l = absurd (omega arith)
written_at d f (suc k) row i h l = go (eq-or-lt_of_le (omega arith)) (written_at d f k row i)
  where
    go : (i ≡ k) ⊎ (i < k) → (i < k → k ≤ length row → get_or (written f k row) i d ≡ f i) → get_or (set (written f k row) k (f k)) i d ≡ f i
    go (inl e) r = rw e (get_or-set_same (written f k row) k (f k) d (omega (arith, written-length f k row)))
    go (inr m) r = get_or-set_other (written f k row) k i (f k) d (λ e. omega arith) ∙ r m (omega arith)

-- a row of which the first entries are written, written one further and as far as k
module _ {A : Type 0} (f : ℕ → A) (i : ℕ) (was : List A) {row : List A} (e : row ≡ written f i was) where
  pub written_next : {x : A} → x ≡ f i → set row i x ≡ written f (i + 1) was
  written_next q = (λ j. set (e j) i (q j)) ∙ written_more f i was

  pub written_whole : {k : ℕ} → i ≡ k → row ≡ written f k was
  written_whole q = e ∙ ap (λ (n : ℕ). written f n was) q

-- a row with another copied over its front
seam : {k : ℕ} (xs : List ℕ) (y : ℕ) (ys : List ℕ) (x : ℕ) → length xs ≡ k → set (xs ++ y ∷ ys) k x ≡ xs ++ x ∷ ys
seam xs y ys x e = rw (← e) (set-append_seam xs y ys x)

copied : (t row : List ℕ) (k : ℕ) → k ≤ length t → k ≤ length row → written (at t) k row ≡ take k t ++ drop k row
unfolding written
copied t row zero h l = refl
copied t row (suc k) h l =
    let r = copied t row k (omega arith) (omega arith) in
    let d = drop-cons row k 0 (omega arith) in
    let s = take-suc t k 0 (omega arith) in
    rw (r, d, s, append_assoc) (seam (take k t) (get_or row k 0) (drop (suc k) row) (at t k) (length-take-le k t (omega arith)))

pub written_copy : (t row : List ℕ) → length t ≤ length row → t ++ drop (length t) row ≡ written (at t) (length t) row
written_copy t row h = sym (copied t row (length t) (omega arith) h ∙ ap (λ (s : List ℕ). s ++ drop (length t) row) (take-length t))
