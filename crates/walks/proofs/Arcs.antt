-- One arc more, by its excess s: the remainder of (tail time plus tension less head time). Assumes nothing.
use mathlib.Core.Path.{◌≡◌, sym, ap, subst}
use mathlib.Core.List.{List}
use Prim.Native.Nat.{ℕ, ◌+◌, ◌-◌, ◌%◌, ◌<◌}
use native.Mathlib.Nat.{mod-lt}
use native.Mathlib.Omega.{arith}
use lib.IntN.{ℤ, pos, neg_ℤ, ◌+ℤ◌, ◌-ℤ◌}
use Rattle.numbers.specs.Remainder.{Cong, IsRemainder}
use Rattle.numbers.proofs.Integers.{zed, of_sum, of_sub, up_neg, dn_neg}
use Rattle.numbers.proofs.Congruence.{cong, cong_eq, cong_sym, cong_trans, cong_neg}
use Rattle.numbers.proofs.Remainders.{mod_cong, below-same}
use Rattle.walks.specs.Walk.{Graph, Between, ahead, back, Closed}
use Rattle.walks.specs.Label.{mark_of, labels, times, Labelled, Shifted}
use Rattle.walks.specs.declared.Mark.{Mark}
use Rattle.walks.proofs.Labels.{balanced, fits_of_closed, accepted, merged}

-- the way back
back_excess : {T s : ℕ} (x z y : ℤ) → IsRemainder ((x +ℤ z) -ℤ y) T s → Cong T (pos ((T - s) % T)) ((y +ℤ neg_ℤ z) -ℤ x)
back_excess {T} {s} x z y R =
    let l : s < T = R.below in
    let d : ℤ = (x +ℤ z) -ℤ y in
    cong_trans (mod_cong (T - s) T (omega arith))
    (cong_trans (cong {a = pos (T - s)} {b = neg_ℤ (pos s)} 0 1 (omega (arith, up_neg (pos s), dn_neg (pos s))))
    (cong_trans (cong_neg (cong_sym R.cong))
    (cong_eq T (omega (arith, zed, up_neg d, dn_neg d, of_sub (x +ℤ z) y, of_sum x z, of_sub (y +ℤ neg_ℤ z) x, of_sum y (neg_ℤ z), up_neg z, dn_neg z)))))

module _ {G : Graph} {te : ℕ → ℤ} {T n k s : ℕ} {label time : ℕ → ℕ} (E : Between G n (k + 1)) (L : Labelled G te T n k label time)
    (R : IsRemainder ((pos (time (G.tail k)) +ℤ te k) -ℤ pos (time (G.head k))) T s) where
  -- inside one part
  pub kept : label (G.tail k) ≡ label (G.head k) → s ≡ 0 → Labelled G te T n (k + 1) label time
  kept q e = accepted E L q (record { apart = (balanced (pos (time (G.tail k))) (te k) (pos (time (G.head k)))).0 (cong_trans R.cong (cong_eq T (ap pos e))) })

  pub not_closed : label (G.tail k) ≡ label (G.head k) → ¬ (s ≡ 0) → ¬ Closed G te T (k + 1)
  not_closed q f c =
      let p = (balanced (pos (time (G.tail k))) (te k) (pos (time (G.head k)))).1 (fits_of_closed E L q c).apart in
      f (below-same R.below (omega (arith, R.below)) (cong_trans (cong_sym R.cong) p))

  -- the head's part moves, or the tail's
  pub head_moved : {label' time' : ℕ → ℕ} → label (G.tail k) < label (G.head k)
      → Shifted T n (label (G.head k)) (label (G.tail k)) (pos s) label time label' time' → Labelled G te T n (k + 1) label' time'
  head_moved l S = merged (ahead k) (pos s) E L l (cong_sym R.cong) S

  pub tail_moved : {label' time' : ℕ → ℕ} → label (G.head k) < label (G.tail k)
      → Shifted T n (label (G.tail k)) (label (G.head k)) (pos ((T - s) % T)) label time label' time' → Labelled G te T n (k + 1) label' time'
  tail_moved l S = merged (back k) (pos ((T - s) % T)) E L l (back_excess (pos (time (G.tail k))) (te k) (pos (time (G.head k))) R) S

-- a row in which the events labelled hi are moved to lo and s later by T
pub shifted : {T n hi lo s : ℕ} (marks marks' : List Mark) → 0 < T
    → ((v : ℕ) → v < n → labels marks v ≡ hi → mark_of marks' v ≡ record { label = lo; time = (times marks v + s) % T })
    → ((v : ℕ) → v < n → ¬ (labels marks v ≡ hi) → mark_of marks' v ≡ mark_of marks v)
    → Shifted T n hi lo (pos s) (labels marks) (times marks) (labels marks') (times marks')
shifted {T} {s = s} marks marks' t moved kept = record {
  moved_label = λ v h e. ap (λ (m : Mark). m.label) (moved v h e);
  moved_under = λ v h e. subst (λ (m : Mark). m.time < T) (sym (moved v h e)) (mod-lt (times marks v + s) t);
  moved_time = λ v h e. cong_trans (cong_eq T (ap (λ (m : Mark). pos m.time) (moved v h e))) (mod_cong (times marks v + s) T t);
  kept_label = λ v h f. ap (λ (m : Mark). m.label) (kept v h f);
  kept_time = λ v h f. ap (λ (m : Mark). m.time) (kept v h f);
}
