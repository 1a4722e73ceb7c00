-- One entry of a sweep in fractions, where the entries of each row are whole numbers over one denominator.
use Rattle.std.proofs.Common.{◌≡◌, ◌≢◌, ℕ, ◌*◌, ◌^◌, ◌<◌, ◌≤◌, ℤ, pos, negsuc, ◌+ℤ◌, ◌*ℤ◌, neg_ℤ, unsigned_abs, [], ◌∷◌, refl, sym, ◌∙◌, ap, subst, subst₂, arith, mul_comm, mul-pos, lit<}
use Rattle.std.proofs.lemmas.Nat.{mul-le}
use Rattle.mpc_exact.specs.Rational.{frac, int, ◌+ℚ◌, ◌*ℚ◌, ◌/ℚ◌, neg_ℚ, inv_ℚ}
use Rattle.mpc_exact.proofs.Rational.{same_frac, frac_same, frac-mul, frac-neg}
use Rattle.mpc_exact.proofs.IntRing.{int_reads, by_ring_ℤ}
use Rattle.mpc_frac.specs.Fits.{FitsFrac, FitsSum}
use Rattle.mpc_linear.specs.Elimination.{Table, reduced}
use Rattle.mpc_bordered.specs.Fronts.{EntryFits}
use Rattle.mpc_runs.specs.WholeNumbers.{turned}
use Rattle.mpc_quotients.specs.OverTheorems.{OverTheorems}
use Rattle.mpc_runs.proofs.WholeSums.{abs-negated, abs_turned, abs_some, product_at_most}
use Rattle.mpc_sweep.proofs.Steps.{reduced-pivot, reduced-other}

-- ---- signs and factors
turned_left : (q k x : ℤ) → k *ℤ turned q x ≡ turned q k *ℤ x
turned_left (pos n) k x = refl
turned_left (negsuc n) k x = by_ring_ℤ (k ∷ x ∷ []) (search int_reads depth 30) (search int_reads depth 30) tt

expanded : (v m d : ℤ) → v *ℤ (d *ℤ m) ≡ (v *ℤ m) *ℤ d
expanded v m d = by_ring_ℤ (v ∷ m ∷ d ∷ []) (search int_reads depth 30) (search int_reads depth 30) tt

one_last : (q : ℤ) → q *ℤ pos 1 ≡ q
one_last q = by_ring_ℤ (q ∷ []) (search int_reads depth 30) (search int_reads depth 30) tt

zero_left : (d : ℤ) → pos 0 *ℤ d ≡ pos 0
zero_left d = by_ring_ℤ (d ∷ []) (search int_reads depth 30) (search int_reads depth 30) tt

-- a number that isn't 0 is none over a denominator
pub over_some : (q : ℤ) (m : ℕ) → 0 < m → q ≢ pos 0 → frac q m ≢ int (pos 0)
over_some q m some h e = h (sym (one_last q) ∙ frac_same q m (pos 0) 1 some (lit< tt) e ∙ zero_left (pos m))

-- ---- the entries of a sweep
-- row p has the numbers q and x over d, and row i the numbers k and v
module _ (laws : OverTheorems) (s : Table) (p i j : ℕ) (q x k v : ℤ) (d : ℕ) (d_some : 0 < d) (d_small : d ≤ 2 ^ 62) (q_some : q ≢ pos 0)
    (q_small : unsigned_abs q ≤ 2 ^ 62) (x_small : unsigned_abs x ≤ 2 ^ 62) (k_small : unsigned_abs k ≤ 2 ^ 62) (v_small : unsigned_abs v ≤ 2 ^ 62)
    (pp : s p p ≡ frac q d) (pj : s p j ≡ frac x d) (ip : s i p ≡ frac k d) (ij : s i j ≡ frac v d) where
  abbrev size : ℕ
  size = unsigned_abs q

  abbrev both : ℕ
  both = d * unsigned_abs q

  size_some : 0 < unsigned_abs q
  size_some = abs_some q q_some

  both_some : 0 < both
  both_some = mul-pos d_some size_some

  both_small : both ≤ 2 ^ 62 * 2 ^ 62
  both_small = mul-le d size (2 ^ 62) (2 ^ 62) d_small q_small

  x_turned : unsigned_abs (turned q x) ≤ 2 ^ 62
  x_turned = subst (λ u. u ≤ 2 ^ 62) (sym (abs_turned q x)) x_small

  quotient_is : s p j /ℚ s p p ≡ frac (turned q x) size
  quotient_is = (λ t. pj t *ℚ inv_ℚ (pp t)) ∙ laws.quotient x q d d_some q_some

  product_is : s i p *ℚ (s p j /ℚ s p p) ≡ frac (k *ℤ turned q x) both
  product_is = (λ t. ip t *ℚ quotient_is t) ∙ frac-mul k d (turned q x) size d_some size_some

  entry_is : s i j ≡ frac (v *ℤ pos size) both
  entry_is = ij ∙ same_frac v d (v *ℤ pos size) both d_some both_some (expanded v (pos size) (pos d))

  negative_is : neg_ℚ (s i p *ℚ (s p j /ℚ s p p)) ≡ frac (neg_ℤ (k *ℤ turned q x)) both
  negative_is = ap neg_ℚ product_is ∙ frac-neg (k *ℤ turned q x) both both_some

  pub entry_fits : EntryFits p s i j
  entry_fits = record {
    quotient = λ _. subst FitsFrac (sym quotient_is) (laws.fits (turned q x) size size_some (let a = x_turned in omega arith) (omega arith));
    product = λ _ _. subst FitsFrac (sym product_is) (laws.fits (k *ℤ turned q x) both both_some (let a = product_small in omega arith) (let b = both_small in omega arith));
    difference = λ _ _. subst₂ (λ a b. FitsSum a b) (sym entry_is) (sym negative_is)
        (laws.sum_fits (v *ℤ pos size) (neg_ℤ (k *ℤ turned q x)) both both_some
        (let a : unsigned_abs (v *ℤ pos size) ≤ 2 ^ 62 * 2 ^ 62 = product_at_most v (pos size) (2 ^ 62) (2 ^ 62) v_small q_small in
        let b : unsigned_abs (neg_ℤ (k *ℤ turned q x)) ≤ 2 ^ 62 * 2 ^ 62 = subst (λ u. u ≤ 2 ^ 62 * 2 ^ 62) (sym (abs-negated (k *ℤ turned q x))) product_small in
        omega arith) (let b = both_small in omega arith));
  }
    where
      product_small : unsigned_abs (k *ℤ turned q x) ≤ 2 ^ 62 * 2 ^ 62
      product_small = product_at_most k (turned q x) (2 ^ 62) (2 ^ 62) k_small x_turned

  -- what stands there over the denominator e, where by is taken out of d times the pivot
  module _ (z : ℤ) (by e : ℕ) (by_some : 0 < by) (e_some : 0 < e) (over : e * by ≡ both) where
    over_less : frac (z *ℤ pos by) both ≡ frac z e
    over_less = ap (frac (z *ℤ pos by)) (sym over) ∙ same_frac (z *ℤ pos by) (e * by) z e (mul-pos e_some by_some) e_some (sym (expanded z (pos by) (pos e)))

    pub own_entry : i ≡ p → z *ℤ pos by ≡ turned q x *ℤ pos d → reduced p s i j ≡ frac z e
    own_entry h w =
        reduced-pivot p s i j h ∙ quotient_is
        ∙ same_frac (turned q x) size (z *ℤ pos by) both size_some both_some
        (ap (λ u. turned q x *ℤ pos u) (mul_comm d size) ∙ expanded (turned q x) (pos d) (pos size) ∙ ap (λ u. u *ℤ pos size) (sym w))
        ∙ over_less

    pub other_entry : i ≢ p → z *ℤ pos by ≡ (v *ℤ pos size) +ℤ neg_ℤ (turned q k *ℤ x) → reduced p s i j ≡ frac z e
    other_entry h w =
        reduced-other p s i j h ∙ (λ t. entry_is t +ℚ negative_is t) ∙ laws.sum (v *ℤ pos size) (neg_ℤ (k *ℤ turned q x)) both both_some
        ∙ ap (λ u. frac u both) (ap (λ u. (v *ℤ pos size) +ℤ neg_ℤ u) (turned_left q k x) ∙ sym w)
        ∙ over_less
