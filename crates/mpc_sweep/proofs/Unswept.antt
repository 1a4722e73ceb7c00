-- What a row has left that isn't swept.
use Rattle.std.proofs.Common.{◌≡◌, ◌≢◌, ℕ, zero, suc, ◌<◌, [], ◌∷◌, length, refl, sym, ◌∙◌, ap, arith}
use Rattle.mpc_exact.specs.Rational.{ℚ, ◌+ℚ◌, ◌*ℚ◌, ◌-ℚ◌, ◌/ℚ◌, neg_ℚ}
use Rattle.mpc_exact.proofs.RationalRing.{reads, by_ring}
use Rattle.mpc_space.specs.Total.{total}
use Rattle.mpc_space.proofs.Total.{total-zero, total-suc, total-same, total-add, total-scale}
use Rattle.mpc_linear.specs.Elimination.{Table, reduced}
use Rattle.mpc_sweep.specs.Sweeps.{swept, pivot_at, before}
use Rattle.mpc_sweep.specs.Theorems.{RowIsReduced}
use Rattle.mpc_sweep.proofs.Steps.{reduced-pivot, reduced-other}
use Rattle.mpc_sweep.proofs.Sequence.{AreSweeps}
use Rattle.mpc_sweep.proofs.Befores.{before-suc, before-all}

row_step : (t_p t_i total_j total_p s_ij s_ip q : ℚ) → t_i ≡ total_j +ℚ s_ij → t_p ≡ total_p +ℚ s_ip → t_i ≡ (total_j +ℚ neg_ℚ q *ℚ total_p +ℚ t_p *ℚ q) +ℚ (s_ij -ℚ s_ip *ℚ q)
row_step t_p t_i total_j total_p s_ij s_ip q e f =
    e ∙ by_ring (total_j ∷ total_p ∷ s_ij ∷ s_ip ∷ q ∷ []) (search reads depth 30) (search reads depth 30) tt
    ∙ ap (λ z. (total_j +ℚ neg_ℚ q *ℚ total_p +ℚ z *ℚ q) +ℚ (s_ij -ℚ s_ip *ℚ q)) (sym f)

module _ (s : ℕ → Table) (p : ℕ → ℕ) (i : ℕ) where
  -- what it has lost of the rows that are swept
  abbrev lost : ℕ → ℕ → ℚ
  lost c j = total c (λ k. s 0 i (p k) *ℚ s c (p k) j)

  module _ (c j : ℕ) (e : s (suc c) ≡ reduced (p c) (s c)) (apart : (k : ℕ) → k < c → p k ≢ p c) where
    abbrev quotient : ℚ
    quotient = s c (p c) j /ℚ s c (p c) (p c)

    term : (k : ℕ) → k < c → s 0 i (p k) *ℚ s (suc c) (p k) j ≡ s 0 i (p k) *ℚ s c (p k) j +ℚ neg_ℚ quotient *ℚ (s 0 i (p k) *ℚ s c (p k) (p c))
    term k h =
        ap (λ z. s 0 i (p k) *ℚ z) (ap (λ z. z (p k) j) e ∙ reduced-other (p c) (s c) (p k) j (apart k h))
        ∙ by_ring (s 0 i (p k) ∷ s c (p k) j ∷ s c (p k) (p c) ∷ quotient ∷ []) (search reads depth 30) (search reads depth 30) tt

    lost_next : lost (suc c) j ≡ lost c j +ℚ neg_ℚ quotient *ℚ lost c (p c) +ℚ s 0 i (p c) *ℚ quotient
    lost_next =
        total-suc c (λ k. s 0 i (p k) *ℚ s (suc c) (p k) j)
        ∙ (λ m.
        (total-same c (λ k. s 0 i (p k) *ℚ s (suc c) (p k) j) (λ k. s 0 i (p k) *ℚ s c (p k) j +ℚ neg_ℚ quotient *ℚ (s 0 i (p k) *ℚ s c (p k) (p c))) term
        ∙ total-add c (λ k. s 0 i (p k) *ℚ s c (p k) j) (λ k. neg_ℚ quotient *ℚ (s 0 i (p k) *ℚ s c (p k) (p c)))
        ∙ ap (λ z. lost c j +ℚ z) (total-scale c (neg_ℚ quotient) (λ k. s 0 i (p k) *ℚ s c (p k) (p c)))) m
        +ℚ ap (λ z. s 0 i (p c) *ℚ z) (ap (λ z. z (p c) j) e ∙ reduced-pivot (p c) (s c) (p c) j refl) m)

  pub row_is : (u : ℕ) → AreSweeps s p u → ((k l : ℕ) → k < l → l < u → p k ≢ p l) → ((k : ℕ) → k < u → i ≢ p k) → (j : ℕ) → s 0 i j ≡ lost u j +ℚ s u i j
  row_is zero sweeps apart other j =
      by_ring (s 0 i j ∷ []) (search reads depth 30) (search reads depth 30) tt
      ∙ ap (λ z. z +ℚ s 0 i j) (sym (total-zero (λ k. s 0 i (p k) *ℚ s 0 (p k) j)))
  row_is (suc c) sweeps apart other j =
      let e = sweeps c (omega arith) in
      let before : (j : ℕ) → s 0 i j ≡ lost c j +ℚ s c i j = row_is c (λ k h. sweeps k (omega arith)) (λ k l a b. apart k l a (omega arith)) (λ k h. other k (omega arith)) in
      row_step (s 0 i (p c)) (s 0 i j) (lost c j) (lost c (p c)) (s c i j) (s c i (p c)) (s c (p c) j /ℚ s c (p c) (p c)) (before j) (before (p c))
      ∙ sym (λ m. lost_next c j e (λ k h. apart k c h (omega arith)) m +ℚ (ap (λ z. z i j) e ∙ reduced-other (p c) (s c) i j (other c (omega arith))) m)

-- ---- in the tables before each sweep
difference_from : (x y z : ℚ) → x ≡ y +ℚ z → z ≡ x -ℚ y
difference_from x y z e = by_ring (y ∷ z ∷ []) (search reads depth 30) (search reads depth 30) tt ∙ ap (λ v. v -ℚ y) (sym e)

pub row_is_reduced : RowIsReduced
unfolding swept
row_is_reduced t ps i j rising pivots other =
    let n = length ps in
    let apart : (k l : ℕ) → k < l → l < n → pivot_at ps k ≢ pivot_at ps l = λ k l a b e. let r = rising k l a b in omega arith in
    difference_from (t i j) (total n (λ k. t i (pivot_at ps k) *ℚ swept t ps (pivot_at ps k) j)) (swept t ps i j)
    (row_is (before t ps) (pivot_at ps) i n (before-suc t ps) apart other j
    ∙ ap (λ z. total n (λ k. t i (pivot_at ps k) *ℚ z (pivot_at ps k) j) +ℚ z i j) (before-all t ps))
