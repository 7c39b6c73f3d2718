-- The laws of the search, one for each turn and each way out. Assumes nothing.
use mathlib.Core.Path.{◌≡◌, refl, sym, ap, ◌∙◌}
use mathlib.Core.Logic.{◌⊎◌, inl, inr}
use mathlib.Core.List.{List}
use mathlib.Core.Bool.{Bool, true, false}
use Prim.Native.Nat.{ℕ, ◌+◌, ◌<◌, ◌≤◌}
use native.Mathlib.Nat.{eq-or-lt_of_le}
use native.Mathlib.Decide.{dec_lt}
use native.Mathlib.Omega.{arith}
use lib.ListN.{length, set, take, replicate, length-set}
use Rattle.std.specs.Prelude.{Option, Some, None}
use lib.Seq.{get_or-set_same, get_or-set_other, ext_get_or}
use Rattle.numbers.specs.Row.{at}
use Rattle.network.specs.PublicRule.{Smaller}
use Rattle.network.proofs.Scans.{true_false}
use Rattle.search.specs.Reduced.{Reduced, arcs_in, events_in, period_in, near_in, last_in, met_at, met_in, Fitting, Sized}
use Rattle.search.specs.Looked.{Sought}
use Rattle.search.specs.Looked.Sought.{least_fits, none_fits}
use Rattle.search.specs.Marks.{mark, Grown, Joined, EventAsks, AllMarked, Ruled, FreeAt, FirstFree}
use Rattle.search.specs.Steps.{Agree, AgreeOn, Partial, BlockedOn, Ready, LeastFrom, Placed, NoneIn, Turn, Trying, Next, reached}
use Rattle.search.proofs.Agreeing.{agree_none, agree_refl, agree_sym, agree_trans, agree_fewer, agree_more, agree_set, agree_on, agree_ungrown, agree_deeper}
use Rattle.search.proofs.Marking.{fresh, fresh_empty, grown_refl, grown_trans, joined-first, joined_second}

-- ---- the test of an arc goes by the times at its ends

pub met_local : {R : Reduced} {k : ℕ} {t u : List ℕ} → Sized R → (a : ℕ) → a < arcs_in R → last_in R.bars a < k → Agree k t u → met_in R.bars t a ≡ met_in R.bars u a
unfolding met_at
met_local {R} s a m x g =
    rw (g.each (near_in R.bars a) (omega (arith, s.barred.near_is a m)), g.each (last_in R.bars a) x)

partial_local : {R : Reduced} {k : ℕ} {t u : List ℕ} → Sized R → Agree k t u → Partial R t k → Partial R u k
partial_local s g p = record {
  inside = λ i h. rw (← g.each i h) (p.inside i h);
  met = λ a m x. sym (met_local s a m x g) ∙ p.met a m x;
}

-- ---- a time put at event k

module _ {R : Reduced} {t : List ℕ} {k : ℕ} (s : Sized R) (c : Ready R t k) (e : k < events_in R) (x : ℕ) where
  pub put_here : at (set t k x) k ≡ x
  put_here = get_or-set_same t k x 0 (omega (arith, c.long))

  -- an arc whose later end is event k
  met-put : (a : ℕ) → a < arcs_in R → last_in R.bars a ≡ k → met_in R.bars (set t k x) a ≡ met_at R.bars t a x
  unfolding met_at
  met-put a m q =
      rw (q, put_here, get_or-set_other t k (near_in R.bars a) x 0 (λ n. omega (arith, n, q, s.barred.near_is a m)))

  pub fit_all : x < period_in R k → ((a : ℕ) → a < arcs_in R → last_in R.bars a ≡ k → met_in R.bars (set t k x) a ≡ true) → Partial R (set t k x) (k + 1)
  fit_all h p = record {
    inside = λ i l. inside i (eq-or-lt_of_le (omega arith));
    met = λ a m l. met a m (eq-or-lt_of_le (omega arith));
  }
    where
      before : Partial R (set t k x) k
      before = partial_local s (agree_set t k x) c.before

      inside : (i : ℕ) → (i ≡ k) ⊎ (i < k) → at (set t k x) i < period_in R i
      inside i (inl q) = rw q (omega (arith, put_here))
      inside i (inr l) = before.inside i l

      met : (a : ℕ) → a < arcs_in R → (last_in R.bars a ≡ k) ⊎ (last_in R.bars a < k) → met_in R.bars (set t k x) a ≡ true
      met a m (inl q) = p a m q
      met a m (inr l) = before.met a m l

-- ---- what is found at event k, by marks and walk together

module _ {R : Reduced} {t : List ℕ} {k : ℕ} (s : Sized R) (c : Ready R t k) (e : k < events_in R) where
  -- the next possible time
  pub next : {x : ℕ} {row B : List Bool} (o : Option ℕ) → length row ≡ period_in R k → x ≤ period_in R k → AllMarked R t k row B → FirstFree row x o
      → Next R t k B x (reached R k o)
  next (Some r) l h w f = record {
    least = f.least;
    most = omega (arith, l, f.below);
    passed = λ y p m. w.marked y (omega (arith, f.below)) (f.passed y p m);
    fit = λ m. fit_all s c e r m (λ a i q. met-put s c e r a i q ∙ w.clear r f.below f.free a i q);
  }
  next None l h w f = record {
    least = h;
    most = omega arith;
    passed = λ y p m. w.marked y (omega (arith, l)) (f y p (omega (arith, l)));
    fit = λ m. absurd (omega arith);
  }

  -- what is found is decided: no time that fits is passed
  not_passed : {B B' : List Bool} {x r z : ℕ} → Next R t k B x r → Next R t k B' x z → r < z → ⊥
  not_passed {r = r} n o l =
      let p = o.passed r n.least l in
      true_false ((n.fit (omega (arith, o.most))).met p.arc p.below (omega (arith, p.ends))) (met-put s c e r p.arc p.below p.ends ∙ p.unmet)

  pub next_one : {B B' : List Bool} {x r z : ℕ} → Next R t k B x r → Next R t k B' x z → r ≡ z
  next_one n o = omega (arith, not_passed n o, not_passed o n)

-- ---- times that are ruled out at event k

none_empty : {R : Reduced} (t : List ℕ) (B : List Bool) (k x : ℕ) → NoneIn R t B k x x
none_empty t B k x = record { never = λ v f a h l. absurd (omega arith) }

none_grown : {R : Reduced} {t : List ℕ} {B B' : List Bool} {k x y : ℕ} → k ≤ 64 → Grown B B' → NoneIn R t B k x y → NoneIn R t B' k x y
none_grown l g n = record { never = λ v f a h m. n.never v f (agree_ungrown l g a) h m }

none_join : {R : Reduced} {t : List ℕ} {B : List Bool} {k x y z : ℕ} → NoneIn R t B k x y → NoneIn R t B k y z → NoneIn R t B k x z
none_join {R} {t} {B} {k} {x} {y} {z} p q = record { never = λ v f a h l. pick v f a h l (dec_lt (at v k) y) }
  where
    pick : (v : List ℕ) → Fitting R v → AgreeOn B k t v → x ≤ at v k → at v k < z → Dec (at v k < y) → ⊥
    pick v f a h l (yes m) = p.never v f a h m
    pick v f a h l (no m) = q.never v f a (omega (arith, m)) l

-- the row s has the first k times of t and time y at event k, and its placing failed: y is ruled out by the blame of both
none_more : {R : Reduced} {t s : List ℕ} {B D B' : List Bool} {k x y : ℕ} → k < 64 → NoneIn R t B k x y → Agree k t s → at s k ≡ y → BlockedOn R s D (k + 1)
    → Joined B D B'
    → NoneIn R t B' k x (y + 1)
none_more {R} {t} {s} {B} {D} {B'} {k} {x} {y} c none g e b j = record { never = λ u f a h l. pick u f a h (eq-or-lt_of_le (omega arith)) }
  where
    pick : (u : List ℕ) → Fitting R u → AgreeOn B' k t u → x ≤ at u k → (at u k ≡ y) ⊎ (at u k < y) → ⊥
    pick u f a h (inl q) = b.never u f (agree_deeper c g (joined_second j) a (λ _. e ∙ sym q))
    pick u f a h (inr l) = (none_grown (omega arith) (joined-first j) none).never u f a h l

-- where event k isn't blamed for it, no time there would help
passed_over : {R : Reduced} {t s : List ℕ} {D : List Bool} {k : ℕ} → k < 64 → Agree k t s → mark D k ≡ false → BlockedOn R s D (k + 1) → BlockedOn R t D k
passed_over {D = D} c g e b = record { never = λ u f a. b.never u f (agree_deeper c g (grown_refl D) a (λ q. absurd (true_false q e))) }

-- ---- the search at event k

unplaced : {R : Reduced} {t : List ℕ} {k : ℕ} → Ready R t k → (k ≡ events_in R → ⊥) → k < events_in R
unplaced c n = omega (arith, c.most, n)

done : {R : Reduced} {t : List ℕ} {k : ℕ} → Sized R → Ready R t k → k ≡ events_in R → LeastFrom R t k t
done {R} {t} {k} s c e = record {
  feasible = record {
    long = c.long;
    inside = λ i h. c.before.inside i (omega arith);
    met = λ a m. c.before.met a m (omega (arith, s.barred.last_is a m));
  };
  least = λ v f g z. beyond v f g z;
}
  where
    same : (v : List ℕ) → Fitting R v → Agree k t v → t ≡ v
    same v f g = ext_get_or 0 t v (c.long ∙ sym f.long) (λ i h. g.each i (omega (arith, c.long)))

    beyond : (v : List ℕ) → Fitting R v → Agree k t v → Smaller v t → ⊥
    beyond v f g z =
        let q : at t z.event ≡ at v z.event = ap (λ (l : List ℕ). at l z.event) (same v f g) in
        omega (arith, q, z.less)

pub placed_all : {R : Reduced} {t : List ℕ} {B : List Bool} {k : ℕ} → Sized R → Ready R t k → k ≡ events_in R → Placed R t k t B true
placed_all {t = t} {k = k} s c e =
    record { kept = agree_refl k t; found = λ q. done s c e; none_left = λ q. absurd (true_false refl q) }

pub turn_first : {R : Reduced} (t : List ℕ) (B : List Bool) (k : ℕ) → Turn R t k t B 0
turn_first t B k = record { long = refl; same = agree_refl k t; none_in = none_empty t B k 0 }

pub turn_last : {R : Reduced} {t u : List ℕ} {B : List Bool} {k x : ℕ} → k < events_in R → period_in R k ≤ x → Turn R t k u B x → Placed R t k u B false
turn_last {k = k} m h w = record {
  kept = w.same;
  found = λ q. absurd (true_false q refl);
  none_left = λ q. record { never = λ u f a. w.none_in.never u f a (omega arith) (omega (arith, f.inside k m)) };
}

-- ---- a turn: the time r stands at event k of the row v, and the rest is placed

module _ {R : Reduced} {t v z : List ℕ} {B D : List Bool} {k r : ℕ} {b : Bool} (w : Turn R t k v B r) (e : at v k ≡ r) (p : Placed R v (k + 1) z D b) where
  step_kept : Agree k t z
  step_kept = agree_trans w.same (agree_fewer (omega arith) p.kept)

  -- the smallest with the time r there is the smallest: none is smaller before, at or after event k
  hit : LeastFrom R v (k + 1) z → LeastFrom R t k z
  hit l = record { feasible = l.feasible; least = λ u f a s. cases u f a s (dec_lt s.event k) (dec_lt k s.event) }
    where
      here : at v k ≡ at z k
      here = p.kept.each k (omega arith)

      below : (u : List ℕ) → Agree k t u → (s : Smaller u z) → s.event < k → ⊥
      below u a s lt = omega (arith, a.each s.event lt, step_kept.each s.event lt, s.less)

      above : (u : List ℕ) → Fitting R u → (s : Smaller u z) → k < s.event → ⊥
      above u f s lt = l.least u f (agree_trans p.kept (agree_sym (agree_fewer (omega arith) (record { each = s.same })))) s

      equal : (u : List ℕ) → Fitting R u → Agree k t u → (s : Smaller u z) → s.event ≡ k → ⊥
      equal u f a s q = w.none_in.never u f (agree_on B a) (omega arith) (omega (arith, here, e, rw q at s.less))

      cases : (u : List ℕ) → Fitting R u → Agree k t u → (s : Smaller u z) → Dec (s.event < k) → Dec (k < s.event) → ⊥
      cases u f a s (yes lt) d = below u a s lt
      cases u f a s (no n) (yes lt) = above u f s lt
      cases u f a s (no n) (no m) = equal u f a s (omega (arith, n, m))

  pub step_hit : {B' : List Bool} → b ≡ true → Placed R t k z B' true
  step_hit q = record { kept = step_kept; found = λ _. hit (p.found q); none_left = λ d. absurd (true_false refl d) }

  module _ (c : k < 64) (q : b ≡ false) where
    pub step_missed : {B' : List Bool} → length z ≡ length v → Joined B D B' → Turn R t k z B' (r + 1)
    step_missed l j =
        record { long = l ∙ w.long; same = step_kept; none_in = none_more c w.none_in w.same e (p.none_left q) j }

    -- with the blame of the deeper placing alone
    pub step_over : mark D k ≡ false → Placed R t k z D false
    step_over d = record {
      kept = step_kept;
      found = λ o. absurd (true_false o refl);
      none_left = λ _. passed_over c w.same d (p.none_left q);
    }

-- ---- the marks of event k, and the loop over the places that they leave free

pub event_asks : {R : Reduced} {t : List ℕ} {k : ℕ} → Sized R → Ready R t k → (k ≡ events_in R → ⊥) → EventAsks R t k (take (period_in R k) (replicate 3600 false))
event_asks {R} {k = k} s c n =
    let e : k < events_in R = unplaced c n in
    let p : ℕ = period_in R k in
    let h : p ≤ 3600 = s.period_most k e in
    let l = fresh p h in
    record {
      event = e;
      long = c.long;
      times = λ i m. omega (arith, c.before.inside i m, s.period_most i (omega arith));
      few = omega arith;
      empty = λ x m. fresh_empty p x h (omega arith);
    }

module _ {R : Reduced} {t : List ℕ} {k : ℕ} {row B : List Bool} (s : Sized R) (c : Ready R t k) (n : k ≡ events_in R → ⊥)
    (q : length row ≡ length (take (period_in R k) (replicate 3600 false))) (w : AllMarked R t k row B) where
  event_in : k < events_in R
  event_in = unplaced c n

  few : k < 64
  few = omega (arith, event_in, s.few)

  places_are : length row ≡ period_in R k
  places_are = q ∙ fresh _ (s.period_most k event_in)

  -- the arc that rules a time out is not met either in a row with the same time at its earlier end
  none_marked : (x y : ℕ) → y ≤ period_in R k → ((z : ℕ) → x ≤ z → z < y → mark row z ≡ true) → NoneIn R t B k x y
  unfolding met_at
  none_marked x y h f = record {
    never = λ v g a l m.
        let p : Ruled R t k B (at v k) = w.marked (at v k) (omega (arith, places_are)) (f (at v k) l m) in
        let j = near_in R.bars p.arc in
        let near : at t j ≡ at v j = a.each j (omega (arith, s.barred.near_is p.arc p.below, p.ends)) p.blamed in
        true_false (g.met p.arc p.below) (rw (p.ends, ← near) p.unmet);
  }

  -- a time with no mark fits
  fit_free : {r : ℕ} → r < length row → mark row r ≡ false → Partial R (set t k r) (k + 1)
  fit_free {r} h f = fit_all s c event_in r (omega (arith, places_are)) (λ a m z. met-put s c event_in r a m z ∙ w.clear r h f a m z)

  module _ {u : List ℕ} {B' : List Bool} {x : ℕ} (g : Trying R t k B u B' x) where
    -- the marked places passed are ruled out too
    passed_on : {y : ℕ} → y ≤ period_in R k → ((z : ℕ) → x ≤ z → z < y → mark row z ≡ true) → Turn R t k u B' y
    passed_on {y} h f = record {
      long = g.turn.long;
      same = g.turn.same;
      none_in = none_join g.turn.none_in (none_grown (omega (arith, few)) g.grown (none_marked x y h f));
    }

    pub tried_all : FirstFree row x None → Placed R t k u B' false
    tried_all f = turn_last {x = period_in R k} event_in (omega arith) (passed_on (omega arith) (λ z l m. f z l (omega (arith, places_are))))

    -- the time r is put at event k
    module _ {r : ℕ} (f : FreeAt row x r) where
      here : at (set u k r) k ≡ r
      here = get_or-set_same u k r 0 (omega (arith, event_in, c.long, g.turn.long))

      turn : Turn R t k (set u k r) B' r
      turn =
          let p = passed_on (omega (arith, f.below, places_are)) f.passed in
          record { long = length-set u k r ∙ p.long; same = agree_trans p.same (agree_set u k r); none_in = p.none_in }

      pub try_ready : Ready R (set u k r) (k + 1)
      try_ready = record {
        long = turn.long ∙ c.long;
        most = omega (arith, event_in);
        before =
            partial_local s (agree_more (agree_trans (agree_sym (agree_set t k r)) turn.same) (put_here s c event_in r ∙ sym here)) (fit_free f.below f.free);
      }

      -- and the rest is placed
      module _ {z : List ℕ} {D : List Bool} {b : Bool} (p : Placed R (set u k r) (k + 1) z D b) where
        pub try_hit : b ≡ true → Placed R t k z B' true
        try_hit e = step_hit turn here p e

        module _ (e : b ≡ false) where
          pub try_over : mark D k ≡ false → Placed R t k z D false
          try_over o = step_over turn here p few e o

          pub try_missed : {B'' : List Bool} → length z ≡ length (set u k r) → Joined B' D B'' → Trying R t k B z B'' (r + 1)
          try_missed l j = record {
            turn = step_missed turn here p few e l j;
            grown = grown_trans g.grown (joined-first j);
            within = omega (arith, f.below, places_are);
          }

-- ---- the whole search

pub start : {R : Reduced} {t : List ℕ} → length t ≡ events_in R → Ready R t 0
start l = record {
  long = l;
  most = omega arith;
  before = record { inside = λ i h. absurd (omega arith); met = λ a m x. absurd (omega arith) };
}

pub sought : {R : Reduced} {t u : List ℕ} {B : List Bool} (r : Bool) → Placed R t 0 u B r → Sought R u r
sought {t = t} true p = let l = p.found refl in least_fits l.feasible (λ v f s. l.least v f (agree_none t v) s)
sought {t = t} {B = B} false p = none_fits (λ v f. (p.none_left refl).never v f (agree_on B (agree_none t v)))
