-- The numbers of a pivot, as the code writes them one by one.
use Rattle.std.proofs.Common.{◌≡◌, ℕ, suc, ◌+◌, ◌*◌, ◌<◌, ◌≤◌, List, length, set, ℤ, pos, ◌+ℤ◌, ◌*ℤ◌, neg_ℤ, unsigned_abs, sym, ◌∙◌, ap, subst, arith, refl, [], ◌∷◌, ◌⊎◌, inl, inr, mul-le-mul_right}
use Rattle.std.proofs.lemmas.Bool.{cases_eq}
use Rattle.mpc_exact.proofs.IntRing.{int_mul_cancel, int_reads, by_ring_ℤ}
use Rattle.mpc_whole.specs.Whole.{IsChanged, IsWholePivot}
use Rattle.mpc_runs.specs.WholeNumbers.{turned}
use Rattle.mpc_scaled.specs.Scaled.{whole_at, whole_cell}
use Rattle.mpc_runs.proofs.WholeLists.{set_same, set_other}

-- one number of row j more
module _ (width factor den : ℕ) (old now x : List ℤ) (j e c : ℕ) (z : ℤ) (b : j * width + c < length now) where
  pub row_done : ((k : ℕ) → k < c → IsChanged width factor den old x j e k (whole_cell width now j k)) → IsChanged width factor den old x j e c z →
      (k : ℕ) → k < c + 1 → IsChanged width factor den old x j e k (whole_cell width (set now (j * width + c) z) j k)
  row_done h n k l = by (cases_eq k c)
    where
      by : (k ≡ c) ⊎ (k ≡ c → ⊥) → IsChanged width factor den old x j e k (whole_cell width (set now (j * width + c) z) j k)
      by (inl q) = subst (λ m. IsChanged width factor den old x j e m (whole_cell width (set now (j * width + c) z) j m)) (sym q) (subst (IsChanged width factor den old x j e c) (sym (set_same now (j * width + c) z b)) n)
      by (inr q) = subst (IsChanged width factor den old x j e k) (sym (set_other now (j * width + c) z b (j * width + k) (λ m. q (omega arith)))) (h k (omega arith))

  pub row_kept : ((k : ℕ) → (k < j * width) ⊎ (j * width + c ≤ k) → whole_at now k ≡ whole_at old k) →
      (k : ℕ) → (k < j * width) ⊎ (j * width + (c + 1) ≤ k) → whole_at (set now (j * width + c) z) k ≡ whole_at old k
  row_kept h k (inl l) = set_other now (j * width + c) z b k (λ m. omega arith) ∙ h k (inl l)
  row_kept h k (inr l) = set_other now (j * width + c) z b k (λ m. omega arith) ∙ h k (inr (omega arith))

times_one : (z : ℤ) → z *ℤ pos 1 ≡ z
times_one z = by_ring_ℤ (z ∷ []) (search int_reads depth 30) (search int_reads depth 30) tt

-- what one number is, from what the code computes, where no factor is taken out
pub number_raised : (width den : ℕ) (old x : List ℤ) (j e c : ℕ) (z o f y q d : ℤ) → o ≡ whole_cell width old j c → f ≡ turned (whole_at x e) (whole_cell width old j e) → y ≡ whole_at x c → q ≡ pos (unsigned_abs (whole_at x e)) → d ≡ pos den →
    (c ≡ e → z ≡ f *ℤ d) → ((c ≡ e → ⊥) → z ≡ (o *ℤ q) +ℤ neg_ℤ (f *ℤ y)) → IsChanged width 1 den old x j e c z
number_raised width den old x j e c z o f y q d eo ef ey eq ed enters other = record {
  entering = λ h. times_one z ∙ enters h ∙ (λ i. ef i *ℤ ed i);
  other = λ h. times_one z ∙ other h ∙ (λ i. (eo i *ℤ eq i) +ℤ neg_ℤ (ef i *ℤ ey i));
}

-- and where one is taken out then
pub changed_divided : (width factor den : ℕ) (old x : List ℤ) (j e c : ℕ) (z u : ℤ) → u *ℤ pos factor ≡ z → IsChanged width 1 den old x j e c z → IsChanged width factor den old x j e c u
changed_divided width factor den old x j e c z u q h = record {
  entering = λ k. q ∙ sym (times_one z) ∙ h.entering k;
  other = λ k. q ∙ sym (times_one z) ∙ h.other k;
}

-- a changed number through what the row was before
pub changed_through : (width factor den : ℕ) (old now x : List ℤ) (j e c : ℕ) (z : ℤ) → whole_cell width now j c ≡ whole_cell width old j c → whole_cell width now j e ≡ whole_cell width old j e → IsChanged width factor den now x j e c z → IsChanged width factor den old x j e c z
changed_through width factor den old now x j e c z p q h = record {
  entering = λ k. h.entering k ∙ ap (λ u. turned (whole_at x e) u *ℤ pos den) q;
  other = λ k. h.other k ∙ (λ i. (p i *ℤ pos (unsigned_abs (whole_at x e))) +ℤ neg_ℤ (turned (whole_at x e) (q i) *ℤ whole_at x c));
}

-- one row more
pub row_below : (w j k c : ℕ) → j < k → c < w → j * w + c < k * w
row_below w j k c h l = let m : suc j * w ≤ k * w = mul-le-mul_right w h in omega arith

-- a place of a square, and the end of a row
pub row_inside : (w j c m : ℕ) → m ≡ w * w → j < w → c < w → j * w + c < m
row_inside w j c m e h l = let r = row_below w j w c h l in omega arith

pub rows_in : (w j k m : ℕ) → j < k → m ≡ k * w → j * w + w ≤ m
rows_in w j k m h e = let r : suc j * w ≤ k * w = mul-le-mul_right w h in omega arith

module _ (width factor den : ℕ) (old now new x : List ℤ) (j e : ℕ) (e_in : e < width)
    (done : (r c : ℕ) → r < j → c < width → IsChanged width factor den old x r e c (whole_cell width now r c))
    (kept : (k : ℕ) → j * width ≤ k → whole_at now k ≡ whole_at old k)
    (cells : (c : ℕ) → c < width → IsChanged width factor den now x j e c (whole_cell width new j c))
    (others : (k : ℕ) → (k < j * width) ⊎ (j * width + width ≤ k) → whole_at new k ≡ whole_at now k) where
  pub rows_done : (r c : ℕ) → r < j + 1 → c < width → IsChanged width factor den old x r e c (whole_cell width new r c)
  rows_done r c h l = by (cases_eq r j)
    where
      by : (r ≡ j) ⊎ (r ≡ j → ⊥) → IsChanged width factor den old x r e c (whole_cell width new r c)
      by (inl q) = subst (λ m. IsChanged width factor den old x m e c (whole_cell width new m c)) (sym q) (changed_through width factor den old now x j e c (whole_cell width new j c) (kept (j * width + c) (omega arith)) (kept (j * width + e) (omega arith)) (cells c l))
      by (inr q) = subst (IsChanged width factor den old x r e c) (sym (others (r * width + c) (inl (row_below width r j c (omega arith) l)))) (done r c (omega arith) l)

  pub rows_kept : (k : ℕ) → (j + 1) * width ≤ k → whole_at new k ≡ whole_at old k
  rows_kept k h = others k (inr (omega arith)) ∙ kept k (omega arith)

pub pivot_whole : (width den : ℕ) (old new x : List ℤ) (e : ℕ) → 0 < den → e < width → ((j c : ℕ) → j < width → c < width → IsChanged width den den old x j e c (whole_cell width new j c)) → IsWholePivot width den old new x e
pivot_whole width den old new x e some b h = record {
  column = λ j l. int_mul_cancel den some ((h j e l b).entering refl);
  others = λ j c l k m. (h j c l k).other m;
}
