-- Sums of products that stay small.
use Rattle.std.proofs.Common.{◌≡◌, ℕ, ◌+◌, ◌*◌, ◌^◌, ◌<◌, ◌≤◌, List, ℤ, pos, ◌+ℤ◌, ◌*ℤ◌, neg_ℤ, unsigned_abs, sym, ◌∙◌, ap, subst, arith, mul-le-mul_right, le_trans, to_z, of_z, [], ◌∷◌, FitsSigned}
use Rattle.std.specs.Int.{w128, w64}
use lib.Signed.{mag}
use Rattle.std.proofs.lemmas.Int.{to_z-of_z}
use Rattle.mpc_exact.proofs.IntRing.{int_reads, by_ring_ℤ}
use Rattle.mpc_runs.specs.WholeNumbers.{whole_total, HasRoom}
use Rattle.mpc_scaled.specs.Scaled.{whole_cell}
use Rattle.mpc_runs.proofs.WholeSums.{total_at_most, product_at_most, whole_total-next, abs-sum, abs-negated}
use Rattle.mpc_runs.proofs.WholeWidths.{back128, both_back}

module _ (width top : ℕ) (a : List ℤ) (i : ℕ) (f : ℕ → ℤ) (h : HasRoom width top a) (s : (j : ℕ) → unsigned_abs (f j) ≤ top) where
  pub partial_small : (j : ℕ) → j ≤ width → unsigned_abs (whole_total j (λ j. whole_cell width a i j *ℤ f j)) ≤ 2 ^ 124
  partial_small j k =
      le_trans (total_at_most j (h.most * top) (λ j. whole_cell width a i j *ℤ f j) (λ m l. product_at_most (whole_cell width a i m) (f m) h.most top (h.each.each (i * width + m)) (s m)))
      (le_trans (mul-le-mul_right (h.most * top) k) h.room)

  pub term_small : (j : ℕ) → j < width → unsigned_abs (whole_cell width a i j *ℤ f j) ≤ 2 ^ 124
  term_small j k =
      let e : 1 * (h.most * top) ≤ width * (h.most * top) = mul-le-mul_right (h.most * top) (omega arith) in
      let r : width * (h.most * top) ≤ 2 ^ 124 = h.room in
      le_trans (product_at_most (whole_cell width a i j) (f j) h.most top (h.each.each (i * width + j)) (s j)) (omega arith)

  -- the code's sum, one term on
  module _ (j : ℕ) (k : j < width) (old term new : ℤ) (e : old ≡ whole_total j (λ j. whole_cell width a i j *ℤ f j)) where
    pub old_room : unsigned_abs old ≤ 2 ^ 125
    old_room = subst (λ z. unsigned_abs z ≤ 2 ^ 125) (sym e) (let r = partial_small j (omega arith) in omega arith)

    module _ (t : term ≡ whole_cell width a i j *ℤ f j) where
      pub term_room : unsigned_abs term ≤ 2 ^ 126
      term_room = subst (λ z. unsigned_abs z ≤ 2 ^ 126) (sym t) (let r = term_small j k in omega arith)

      pub next_total : new ≡ old +ℤ term → new ≡ whole_total (j + 1) (λ j. whole_cell width a i j *ℤ f j)
      next_total n = n ∙ (λ z. e z +ℤ t z) ∙ sym (whole_total-next j (λ j. whole_cell width a i j *ℤ f j))

-- ---- v q - k x
products_apart : (v q k x : ℤ) → (v *ℤ q) +ℤ (neg_ℤ k *ℤ x) ≡ (v *ℤ q) +ℤ neg_ℤ (k *ℤ x)
products_apart v q k x = by_ring_ℤ (v ∷ q ∷ k ∷ x ∷ []) (search int_reads depth 30) (search int_reads depth 30) tt

pub difference_is : (v k x : ℤ) (q : ℕ) (qs n p₁ p₂ r : ℤ) → FitsSigned w64 v → FitsSigned w64 k → FitsSigned w64 x → FitsSigned w64 qs → FitsSigned w64 n → mag p₁ < 2 ^ 127 → mag p₂ < 2 ^ 127 → mag r < 2 ^ 127 →
    qs ≡ pos q → n ≡ neg_ℤ (to_z w64 (of_z w64 k)) → p₁ ≡ to_z w64 (of_z w64 v) *ℤ to_z w64 (of_z w64 qs) → p₂ ≡ to_z w64 (of_z w64 n) *ℤ to_z w64 (of_z w64 x) → r ≡ to_z w128 (of_z w128 p₁) +ℤ to_z w128 (of_z w128 p₂) →
    to_z w128 (of_z w128 r) ≡ (v *ℤ pos q) +ℤ neg_ℤ (k *ℤ x)
difference_is v k x q qs n p₁ p₂ r fv fk fx fq fn m₁ m₂ m e h a b s =
    let first : p₁ ≡ v *ℤ pos q = both_back p₁ v qs fv fq a ∙ ap (λ z. v *ℤ z) e in
    let second : p₂ ≡ neg_ℤ k *ℤ x = both_back p₂ n x fn fx b ∙ ap (λ z. z *ℤ x) (h ∙ ap neg_ℤ (to_z-of_z w64 k fk)) in
    back128 r m ∙ s ∙ (λ i. (back128 p₁ m₁ ∙ first) i +ℤ (back128 p₂ m₂ ∙ second) i) ∙ products_apart v (pos q) k x

pub difference_small : (v k x : ℤ) (q : ℕ) → unsigned_abs v ≤ 2 ^ 62 → unsigned_abs k ≤ 2 ^ 62 → unsigned_abs x ≤ 2 ^ 62 → q ≤ 2 ^ 62 → unsigned_abs ((v *ℤ pos q) +ℤ neg_ℤ (k *ℤ x)) < 2 ^ 127
difference_small v k x q hv hk hx hq =
    let a : unsigned_abs (v *ℤ pos q) ≤ 2 ^ 62 * 2 ^ 62 = product_at_most v (pos q) (2 ^ 62) (2 ^ 62) hv hq in
    let b : unsigned_abs (k *ℤ x) ≤ 2 ^ 62 * 2 ^ 62 = product_at_most k x (2 ^ 62) (2 ^ 62) hk hx in
    let c : unsigned_abs (neg_ℤ (k *ℤ x)) ≤ 2 ^ 62 * 2 ^ 62 = subst (λ m. m ≤ 2 ^ 62 * 2 ^ 62) (sym (abs-negated (k *ℤ x))) b in
    let d = abs-sum (v *ℤ pos q) (neg_ℤ (k *ℤ x)) in
    omega arith
