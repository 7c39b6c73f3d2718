-- The laws of the marks: of one run, of a run in each lap, of an arc, of an event, of the events that are blamed, and of the walk along them. Assumes nothing.
use mathlib.Core.Path.{◌≡◌, refl, sym, ap, ◌∙◌}
use mathlib.Core.Logic.{◌⊎◌, inl, inr}
use mathlib.Core.List.{List}
use mathlib.Core.Bool.{Bool, true, false, ◌||◌}
use Prim.Native.Nat.{ℕ, ◌+◌, ◌*◌, ◌-◌, ◌%◌, ◌<◌, ◌≤◌, min}
use native.Mathlib.Nat.{eq-or-lt_of_le}
use native.Mathlib.Decide.{dec_lt}
use native.Mathlib.Omega.{arith}
use borrow.Author.Tests.{leb-true, leb-false}
use lib.IntN.{pos, ◌-ℤ◌}
use lib.ListN.{length, set, take, replicate, length-set, length-replicate, get_or-replicate}
use lib.Seq.{get_or-set_same, get_or-set_other, get_or-take, length-take-le}
use borrow.Rule.Slice.PartMut.{put_mid}
use Rattle.std.specs.Prelude.{Option, Some, None}
use Rattle.std.specs.List.{between}
use Rattle.std.proofs.Common.{rules}
use Rattle.std.proofs.lemmas.List.{places}
use Rattle.numbers.specs.Row.{at}
use Rattle.numbers.proofs.Integers.{up, dn, of_sub}
use Rattle.numbers.proofs.Congruence.{cong, parts}
use Rattle.numbers.proofs.Remainders.{remainder_only, same-remainder, mod_cong}
use Rattle.network.proofs.Scans.{true_false}
use Rattle.search.specs.declared.Bar.{Bar}
use Rattle.search.specs.Reduced.{Reduced, Sized, bar_at, arcs_in, near_in, last_in, past, met_at}
use Rattle.search.specs.Threads.{link, Following, Threaded}
use Rattle.search.specs.Marks.{mark, Told, RunMarked, RunTurn, RunsAsk, RunsMarked, RunsTurn, ArcAsks, ArcMarked, Grown}
use Rattle.search.specs.Marks.{Joined, EventAsks, Ruled, passed, EventTurn, FreeAt, FirstFree, SomeFree, Walk}

-- ---- whether a mark is new

told_both : {row row' row'' : List Bool} (a b : Bool) {f : Bool} → f ≡ (a || b) → Told row row' a → Told row' row'' b → Told row row'' f
told_both true b e p q = record { known = λ n z. absurd (true_false e n) }
told_both false b e p q = record { known = λ n z. q.known (sym e ∙ n) z ∙ p.known refl z }

-- ---- one run

-- the run in its row, where it ends at the lesser of `to` and the row's length
module _ {row run' : List Bool} {x y to : ℕ} {fresh : Bool} (e : y ≡ min to (length row)) (l : x ≤ y)
    (w : RunTurn (between x y row) run' fresh (length (between x y row))) where
  pub run_last : RunMarked x to row (put_mid x (y - x) row run') fresh
  run_last = record {
    inside = λ z a b c. here z b (omega arith) ∙ w.marked (z - x) (omega (arith, long));
    before = λ z a. search (rules, places);
    behind = λ z a. past_it z (omega arith);
    told = record { known = λ q z. known q z (dec_lt z x) (dec_lt z y) };
  }
    where
      run : List Bool
      run = between x y row

      row' : List Bool
      row' = put_mid x (y - x) row run'

      long : length run ≡ y - x
      long = search (rules, places)

      here : (z : ℕ) → x ≤ z → z < y → mark row' z ≡ mark run' (z - x)
      here z a b = search (rules, places)

      was : (z : ℕ) → x ≤ z → z < y → mark row z ≡ mark run (z - x)
      was z a b = search (rules, places)

      past_it : (z : ℕ) → y ≤ z → mark row' z ≡ mark row z
      past_it z a = search (rules, places)

      known : fresh ≡ false → (z : ℕ) → Dec (z < x) → Dec (z < y) → mark row' z ≡ mark row z
      known q z (yes a) d = search (rules, places)
      known q z (no a) (yes b) = here z (omega (arith, a)) b ∙ w.told.known q (z - x) ∙ sym (was z (omega (arith, a)) b)
      known q z (no a) (no b) = past_it z (omega (arith, b))

-- ---- a run in each lap: how far a place is past the beginning of its run

module _ {gap start : ℕ} (h : start < gap) where
  past_is : (more less z d : ℕ) → d < gap → z + more * gap ≡ (start + less * gap) + d → past gap start 0 z ≡ d
  past_is more less z d l e =
      sym (remainder_only (record { below = l; cong = cong more less (omega (arith, e, of_sub (pos z) (pos 0), of_sub (pos z -ℤ pos 0) (pos start))) }))

  -- before the first run, and in a lap
  past_before : (z : ℕ) → z < start → past gap start 0 z ≡ (z + gap) - start
  past_before z l = past_is 1 0 z ((z + gap) - start) (omega arith) (omega arith)

  past_lap : (laps z d : ℕ) → d < gap → z ≡ (start + laps * gap) + d → past gap start 0 z ≡ d
  past_lap laps z d l e = past_is 0 laps z d l (omega arith)

-- the row and the answer as the loop leaves them
pub runs_left : {gap start run : ℕ} {row row' row'' : List Bool} {f f' : Bool} {x : ℕ} → RunsTurn gap start run row row' f x → row'' ≡ row' → f' ≡ f
    → RunsTurn gap start run row row'' f' x
runs_left w p q = rw (p, q) w

module _ {gap start run : ℕ} {row : List Bool} (c : RunsAsk gap start run row) where
  module _ {row' : List Bool} {fresh : Bool} {x : ℕ} (w : RunsTurn gap start run row row' fresh x) where
    pub runs_more : {row'' : List Bool} {b f : Bool} → length row'' ≡ length row' → RunMarked x (x + run) row' row'' b → f ≡ (fresh || b)
        → RunsTurn gap start run row row'' f (x + gap)
    runs_more {row''} {b} l m q = record {
      long = l ∙ w.long;
      laps = w.laps + 1;
      begins = omega (arith, w.begins);
      marked = λ z a b d p. marked z a b d p (dec_lt z x);
      clear = λ z d p. clear z d p (dec_lt z x);
      before = λ z a. m.before z (omega (arith, w.begins)) ∙ w.before z a;
      behind = λ z a. m.behind z (omega (arith, c.run_most)) ∙ w.behind z (omega arith);
      told = told_both fresh b q w.told m.told;
    }
      where
        here : (z : ℕ) → x ≤ z → z < x + gap → past gap start 0 z ≡ z - x
        here z a b = past_lap c.start_most w.laps z (z - x) (omega arith) (omega (arith, w.begins))

        marked : (z : ℕ) → z < length row → start ≤ z → z < x + gap → past gap start 0 z < run → Dec (z < x) → mark row'' z ≡ true
        marked z a b d p (yes i) = m.before z i ∙ w.marked z a b i p
        marked z a b d p (no i) = m.inside z (omega (arith, w.long)) (omega (arith, i)) (omega (arith, i, here z (omega (arith, i)) d))

        clear : (z : ℕ) → z < x + gap → run ≤ past gap start 0 z → Dec (z < x) → mark row'' z ≡ mark row z
        clear z d p (yes i) = m.before z i ∙ w.clear z i p
        clear z d p (no i) =
            m.behind z (omega (arith, i, here z (omega (arith, i)) d)) ∙ w.behind z (omega (arith, i))

    -- and what the lap before leaves of its run
    pub runs_last : {row'' : List Bool} {end : ℕ} {b f : Bool} → RunMarked 0 end row' row'' b → end ≡ (start + run) - gap → length row ≤ x → f ≡ (fresh || b)
        → RunsMarked gap start run row row'' f
    runs_last {row''} {b = b} m e h q = record {
      marked = λ z a p. marked z a p (dec_lt z start);
      clear = λ z a p. clear z a p (dec_lt z start);
      told = told_both fresh b q w.told m.told;
    }
      where
        later : (z : ℕ) → start ≤ z → mark row'' z ≡ mark row' z
        later z a = m.behind z (omega (arith, c.run_most))

        marked : (z : ℕ) → z < length row → past gap start 0 z < run → Dec (z < start) → mark row'' z ≡ true
        marked z a p (yes i) = m.inside z (omega (arith, w.long)) (omega arith) (omega (arith, past_before c.start_most z i))
        marked z a p (no i) = later z (omega (arith, i)) ∙ w.marked z a (omega (arith, i)) (omega arith) p

        clear : (z : ℕ) → z < length row → run ≤ past gap start 0 z → Dec (z < start) → mark row'' z ≡ mark row z
        clear z a p (yes i) = m.behind z (omega (arith, past_before c.start_most z i)) ∙ w.before z i
        clear z a p (no i) = later z (omega (arith, i)) ∙ w.clear z (omega arith) p

-- ---- an arc

-- the run that begins where the time at the earlier end and the shift say is the one that begins a shift after that time
past_same : (g near shift x : ℕ) → 0 < g → past g ((near + shift) % g) 0 x ≡ past g shift near x
past_same g near shift x h =
    let s = (near + shift) % g in
    let m = mod_cong (near + shift) g h in
    same-remainder h
    (cong (up m.times) (dn m.times)
    (omega (arith, parts m, of_sub (pos x) (pos 0), of_sub (pos x -ℤ pos 0) (pos s), of_sub (pos x) (pos near), of_sub (pos x -ℤ pos near) (pos shift))))

pub arc_marked : {b : Bar} {t : List ℕ} {row row' : List Bool} {fresh : Bool} → ArcAsks b t row
    → RunsMarked b.gap ((at t b.near + b.shift) % b.gap) b.run row row' fresh
    → ArcMarked b t row row' fresh
arc_marked {b} {t} c w = record {
  marked = λ x h e. w.marked x h (omega (arith, same x, leb-false b.run (far x) e));
  clear = λ x h e. w.clear x h (omega (arith, same x, leb-true b.run (far x) e));
  told = w.told;
}
  where
    far : ℕ → ℕ
    far x = past b.gap b.shift (at t b.near) x

    same : (x : ℕ) → past b.gap ((at t b.near + b.shift) % b.gap) 0 x ≡ far x
    same x = past_same b.gap (at t b.near) b.shift x (omega (arith, c.shift_most))

-- ---- an event

or_true : (z : Bool) → (z || true) ≡ true
or_true true = refl
or_true false = refl

-- the earlier end of an arc with a new mark is blamed, and no other blame is lost
module _ (B : List Bool) (i : ℕ) (h : i < length B) (fresh : Bool) {b : Bool} (q : b ≡ (mark B i || fresh)) where
  blame_grown : Grown B (set B i b)
  blame_grown = record { each = λ j l e. pick j e (dec_lt j i) (dec_lt i j) }
    where
      pick : (j : ℕ) → mark B j ≡ true → Dec (j < i) → Dec (i < j) → mark (set B i b) j ≡ true
      pick j e (yes m) d = get_or-set_other B i j b false (λ n. omega arith) ∙ e
      pick j e (no m) (yes d) = get_or-set_other B i j b false (λ n. omega arith) ∙ e
      pick j e (no m) (no d) =
          let n : j ≡ i = omega (arith, m, d) in
          rw n (get_or-set_same B i b false h ∙ q ∙ ap (λ (z : Bool). z || fresh) (sym (ap (mark B) n) ∙ e))

  blame_here : fresh ≡ true → mark (set B i b) i ≡ true
  blame_here e = get_or-set_same B i b false h ∙ q ∙ ap (λ (z : Bool). mark B i || z) e ∙ or_true (mark B i)

ruled_grown : {R : Reduced} {t : List ℕ} {k x : ℕ} {B B' : List Bool} → Grown B B' → (r : Ruled R t k B x) → near_in R.bars r.arc < 64 → Ruled R t k B' x
ruled_grown {R} g r l =
    record { arc = r.arc; below = r.below; ends = r.ends; unmet = r.unmet; blamed = g.each (near_in R.bars r.arc) l r.blamed }

module _ {R : Reduced} {firsts nexts : List (Option ℕ)} {t : List ℕ} {k : ℕ} {row : List Bool} (s : Sized R) (threads : Threaded R firsts nexts)
    (c : EventAsks R t k row) where
  -- none is passed before the first, and all where there is none
  first_passed : (o : Option ℕ) → Following R.bars k 0 o → (a : ℕ) → a < passed R o → a < arcs_in R → last_in R.bars a ≡ k → ⊥
  first_passed (Some r) f a l m z = (f.some r refl).none a (omega arith) l z
  first_passed None f a l m z = f.none refl a (omega arith) m z

  most_passed : {c : ℕ} (o : Option ℕ) → Following R.bars k c o → passed R o ≤ arcs_in R
  most_passed (Some r) f = omega (arith, (f.some r refl).below)
  most_passed None f = omega arith

  pub event_first : {B : List Bool} → length B ≡ 64 → EventTurn R t k row row B (link firsts k)
  event_first {B} l =
      let f : Following R.bars k 0 (link firsts k) = threads.first_is k c.event in
      record {
        long = refl;
        room = l;
        here = λ a e. ((f.some a e).below, (f.some a e).here);
        marks = record {
          marked = λ x h q. absurd (true_false q (c.empty x h));
          clear = λ x h q a m z. absurd (first_passed (link firsts k) f a m (omega (arith, most_passed (link firsts k) f)) z);
        };
      }

  module _ {row' B : List Bool} {next : Option ℕ} {a l : ℕ} (w : EventTurn R t k row row' B next) (q : next ≡ Some l) (o : a ≡ l) where
    next_is : next ≡ Some a
    next_is = q ∙ ap Some (sym o)

    pub event_in : a < arcs_in R
    event_in = (w.here a next_is).0

    event_end : last_in R.bars a ≡ k
    event_end = (w.here a next_is).1

    following : Following R.bars k (a + 1) (link nexts a)
    following = rw (← event_end) (threads.next_is a (omega arith) event_in)

    -- fewer arcs are left
    pub event_smaller : arcs_in R - passed R (link nexts a) < arcs_in R - passed R next
    event_smaller = omega (arith, event_in, ap (passed R) next_is, later (link nexts a) following)
      where
        later : (o : Option ℕ) → Following R.bars k (a + 1) o → a < passed R o
        later (Some r) f = omega (arith, (f.some r refl).least)
        later None f = event_in

    -- the earlier end of the arc has its place in the row of blame
    near_few : near_in R.bars a < 64
    near_few = omega (arith, s.barred.near_is a event_in, event_end, c.event, s.few)

    -- the arcs of event k that are passed with this one are those passed before it, and it
    more_passed : (o : Option ℕ) → Following R.bars k (a + 1) o → (b : ℕ) → b < passed R o → last_in R.bars b ≡ k → (b ≡ a) ⊎ (b < a)
    more_passed o f b i z = pick (dec_lt a b)
      where
        none : (o : Option ℕ) → Following R.bars k (a + 1) o → b < passed R o → a < b → ⊥
        none (Some r) f i l = (f.some r refl).none b (omega arith) i z
        none None f i l = f.none refl b (omega arith) i z

        pick : Dec (a < b) → (b ≡ a) ⊎ (b < a)
        pick (yes l) = absurd (none o f i l)
        pick (no l) = eq-or-lt_of_le (omega (arith, l))

    pub event_more : {row'' : List Bool} {fresh b : Bool} → ArcMarked (bar_at R.bars a) t row' row'' fresh → length row'' ≡ length row'
        → b ≡ (mark B (near_in R.bars a) || fresh)
        → EventTurn R t k row row'' (set B (near_in R.bars a) b) (link nexts a)
    unfolding met_at
    event_more {row''} {fresh} {b} m e j = record {
      long = e ∙ w.long;
      room = length-set B near b ∙ w.room;
      here = λ i p. ((following.some i p).below, (following.some i p).here);
      marks = record {
        marked = λ x h y. marked x h y (mark row' x) refl;
        clear = λ x h y i l z. clear x h y (more_passed (link nexts a) following i l z) z (met_at R.bars t a x) refl;
      };
    }
      where
        near : ℕ
        near = near_in R.bars a

        here : near < length B
        here = omega (arith, near_few, w.room)

        near_all : {B : List Bool} {x : ℕ} (r : Ruled R t k B x) → near_in R.bars r.arc < 64
        near_all r = omega (arith, s.barred.near_is r.arc r.below, r.ends, c.event, s.few)

        -- a new mark: the arc isn't met there, and said so
        new : (x : ℕ) → x < length row'' → mark row'' x ≡ true → mark row' x ≡ false → (z v : Bool) → met_at R.bars t a x ≡ z → fresh ≡ v
            → Ruled R t k (set B near b) x
        new x h y p true v i u = absurd (true_false y (m.clear x (omega arith) i ∙ p))
        new x h y p false false i u = absurd (true_false y (m.told.known u x ∙ p))
        new x h y p false true i u =
            record { arc = a; below = event_in; ends = event_end; unmet = i; blamed = blame_here B near here fresh j u }

        marked : (x : ℕ) → x < length row'' → mark row'' x ≡ true → (d : Bool) → mark row' x ≡ d → Ruled R t k (set B near b) x
        marked x h y true p = let r = w.marks.marked x (omega arith) p in ruled_grown (blame_grown B near here fresh j) r (near_all r)
        marked x h y false p = new x h y p (met_at R.bars t a x) fresh refl refl

        clear : (x : ℕ) → x < length row'' → mark row'' x ≡ false → {i : ℕ} → (i ≡ a) ⊎ (i < a) → last_in R.bars i ≡ k → (d : Bool) → met_at R.bars t a x ≡ d
            → met_at R.bars t i x ≡ true
        clear x h y p z false d = absurd (true_false (m.marked x (omega arith) d) y)
        clear x h y (inl q) z true d = rw q d
        clear x h y (inr q) z true d = w.marks.clear x (omega arith) (sym (m.clear x (omega arith) d) ∙ y) _ (omega (arith, ap (passed R) next_is)) z

-- ---- the events that are blamed

pub grown_refl : (B : List Bool) → Grown B B
grown_refl B = record { each = λ i h e. e }

pub grown_trans : {B B' B'' : List Bool} → Grown B B' → Grown B' B'' → Grown B B''
grown_trans p q = record { each = λ i h e. q.each i h (p.each i h e) }

-- the joined row has the blame of both
module _ {B D B' : List Bool} (w : Joined B D B') where
  pub joined-first : Grown B B'
  joined-first = record { each = λ i h e. w.each i h ∙ ap (λ (z : Bool). z || mark D i) e }

  pub joined_second : Grown D B'
  joined_second = record { each = λ i h e. w.each i h ∙ ap (λ (z : Bool). mark B i || z) e ∙ or_true (mark B i) }

-- ---- the row of an event: the first places of one without marks

pub fresh : (p : ℕ) → p ≤ 3600 → length (take p (replicate 3600 false)) ≡ p
fresh p h = length-take-le p (replicate 3600 false) (omega (arith, length-replicate 3600 false))

pub fresh_empty : (p x : ℕ) → p ≤ 3600 → x < p → mark (take p (replicate 3600 false)) x ≡ false
fresh_empty p x h l = get_or-take p (replicate 3600 false) x false l ∙ get_or-replicate 3600 x false false (omega arith)

-- ---- the walk

module _ {row : List Bool} {x y : ℕ} (w : Walk row x y) where
  -- a block passed at once
  pub walk_block : {r : Bool} → y + 64 ≤ length row → SomeFree (between y (y + 64) row) r → r ≡ false → Walk row x (y + 64)
  walk_block h f e = record { least = omega (arith, w.least); most = h; passed = λ z a b. pick z a b (dec_lt z y) }
    where
      here : (z : ℕ) → y ≤ z → z < y + 64 → mark row z ≡ mark (between y (y + 64) row) (z - y)
      here z a b = search (rules, places)

      long : length (between y (y + 64) row) ≡ 64
      long = search (rules, places)

      pick : (z : ℕ) → x ≤ z → z < y + 64 → Dec (z < y) → mark row z ≡ true
      pick z a b (yes l) = w.passed z a l
      pick z a b (no n) = here z (omega (arith, n)) b ∙ f.none e (z - y) (omega (arith, n, long))

  pub walk_end : length row ≤ y → Walk row x (length row)
  walk_end h = record { least = omega (arith, w.least, w.most); most = omega arith; passed = λ z a b. w.passed z a (omega arith) }

  -- the rest of the row behind it
  mark_rest : (i : ℕ) → mark row (y + i) ≡ mark (between y (length row) row) i
  mark_rest i = search (rules, places)

  rest_length : length (between y (length row) row) ≡ length row - y
  rest_length = search (rules, places)

  -- its first i places are marked
  walked : {i : ℕ} → ((j : ℕ) → j < i → mark (between y (length row) row) j ≡ true) → (z : ℕ) → x ≤ z → z < y + i → mark row z ≡ true
  walked {i} m z a b = pick (dec_lt z y)
    where
      pick : Dec (z < y) → mark row z ≡ true
      pick (yes l) = w.passed z a l
      pick (no n) =
          let e : z ≡ y + (z - y) = omega (arith, n) in
          ap (mark row) e ∙ mark_rest (z - y) ∙ m (z - y) (omega (arith, n))

  -- and the next one is free
  pub walk_found : {i : ℕ} → i < length (between y (length row) row) → ((j : ℕ) → j < i → mark (between y (length row) row) j ≡ true)
      → mark (between y (length row) row) i ≡ false
      → FreeAt row x (y + i)
  walk_found {i} h m f = record { least = omega (arith, w.least); below = omega (arith, rest_length); passed = walked m; free = mark_rest i ∙ f }

  pub walk_none : ((j : ℕ) → j < length (between y (length row) row) → mark (between y (length row) row) j ≡ true) → FirstFree row x None
  walk_none m z a b = walked m z a (omega (arith, rest_length, w.most))
