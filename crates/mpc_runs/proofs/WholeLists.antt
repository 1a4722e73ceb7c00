-- Lists of whole numbers that the code changes.
use Rattle.std.proofs.Common.{◌≡◌, ℕ, ◌+◌, ◌<◌, ◌≤◌, List, length, set, ℤ, pos, ◌*ℤ◌, unsigned_abs, sym, ◌∙◌, ap, subst, subst₂, arith, ◌⊎◌, inl, inr, get_or-set_same, get_or-set_other, le_trans}
use Rattle.std.proofs.lemmas.Bool.{cases_eq, cases_lt}
use Rattle.std.proofs.lemmas.List.{get_or_past}
use Rattle.mpc_scaled.specs.Scaled.{whole_at, IsSmall}

module _ (xs : List ℤ) (j : ℕ) (z : ℤ) (b : j < length xs) where
  pub set_same : whole_at (set xs j z) j ≡ z
  set_same = get_or-set_same xs j z (pos 0) b

  pub set_other : (k : ℕ) → (k ≡ j → ⊥) → whole_at (set xs j z) k ≡ whole_at xs k
  set_other k h = get_or-set_other xs j k z (pos 0) h

  pub set_small : (m : ℕ) → IsSmall m xs → unsigned_abs z ≤ m → IsSmall m (set xs j z)
  set_small m h s = record { each = λ k. by k (cases_eq k j) }
    where
      by : (k : ℕ) → (k ≡ j) ⊎ (k ≡ j → ⊥) → unsigned_abs (whole_at (set xs j z) k) ≤ m
      by k (inl e) = subst (λ u. unsigned_abs u ≤ m) (sym (ap (whole_at (set xs j z)) e ∙ set_same)) s
      by k (inr e) = subst (λ u. unsigned_abs u ≤ m) (sym (set_other k e)) (h.each k)

  -- what is to stand at each place below j, and now also at j
  pub set_below : (f : ℕ → ℤ) → ((k : ℕ) → k < j → whole_at xs k ≡ f k) → z ≡ f j → (k : ℕ) → k < j + 1 → whole_at (set xs j z) k ≡ f k
  set_below f h e k l = by (cases_eq k j)
    where
      by : (k ≡ j) ⊎ (k ≡ j → ⊥) → whole_at (set xs j z) k ≡ f k
      by (inl q) = ap (whole_at (set xs j z)) q ∙ set_same ∙ e ∙ ap f (sym q)
      by (inr q) = set_other k q ∙ h k (omega arith)

  -- a bound of the numbers below j, and now of that at j too
  pub set_bound : (m n : ℕ) → ((k : ℕ) → k < j → unsigned_abs (whole_at xs k) ≤ m) → m ≤ n → unsigned_abs z ≤ n → (k : ℕ) → k < j + 1 → unsigned_abs (whole_at (set xs j z) k) ≤ n
  set_bound m n h l s k i = by (cases_eq k j)
    where
      by : (k ≡ j) ⊎ (k ≡ j → ⊥) → unsigned_abs (whole_at (set xs j z) k) ≤ n
      by (inl e) = subst (λ u. unsigned_abs u ≤ n) (sym (ap (whole_at (set xs j z)) e ∙ set_same)) s
      by (inr e) = subst (λ u. unsigned_abs u ≤ n) (sym (set_other k e)) (le_trans (h k (omega arith)) l)

  pub set_above : (old : List ℤ) → ((k : ℕ) → j ≤ k → whole_at xs k ≡ whole_at old k) → (k : ℕ) → j + 1 ≤ k → whole_at (set xs j z) k ≡ whole_at old k
  set_above old h k l = set_other k (λ e. omega arith) ∙ h k (omega arith)

-- what is past the end of a list is 0
pub small_within : (xs : List ℤ) (m n : ℕ) → length xs ≤ n → ((k : ℕ) → k < n → unsigned_abs (whole_at xs k) ≤ m) → IsSmall m xs
small_within xs m n h each = record { each = λ k. by k (cases_lt k n) }
  where
    by : (k : ℕ) → (k < n) ⊎ (n ≤ k) → unsigned_abs (whole_at xs k) ≤ m
    by k (inl b) = each k b
    by k (inr b) = subst (λ z. unsigned_abs z ≤ m) (sym (get_or_past xs k (pos 0) (omega arith))) (omega arith)

-- what is to hold of the numbers of two lists below j, and now also of those at j
pub both_set : (P : ℕ → ℤ → ℤ → Type 0) (xs ys : List ℤ) (j : ℕ) (x y : ℤ) → j < length xs → j < length ys → ((k : ℕ) → k < j → P k (whole_at xs k) (whole_at ys k)) → P j x y → (k : ℕ) → k < j + 1 → P k (whole_at (set xs j x) k) (whole_at (set ys j y) k)
both_set P xs ys j x y a b h p k l = by (cases_eq k j)
  where
    by : (k ≡ j) ⊎ (k ≡ j → ⊥) → P k (whole_at (set xs j x) k) (whole_at (set ys j y) k)
    by (inl q) = subst (λ m. P m (whole_at (set xs j x) m) (whole_at (set ys j y) m)) (sym q) (subst₂ (P j) (sym (set_same xs j x a)) (sym (set_same ys j y b)) p)
    by (inr q) = subst₂ (P k) (sym (set_other xs j x a k q)) (sym (set_other ys j y b k q)) (h k (omega arith))

-- what the products with d are to be below j, and now also at j
pub set_product : (xs : List ℤ) (j : ℕ) (z : ℤ) → j < length xs → (d : ℤ) (f : ℕ → ℤ) → ((k : ℕ) → k < j → whole_at xs k *ℤ d ≡ f k) → z *ℤ d ≡ f j → (k : ℕ) → k < j + 1 → whole_at (set xs j z) k *ℤ d ≡ f k
set_product xs j z b d f h e k l = by (cases_eq k j)
  where
    by : (k ≡ j) ⊎ (k ≡ j → ⊥) → whole_at (set xs j z) k *ℤ d ≡ f k
    by (inl q) = ap (λ u. u *ℤ d) (ap (whole_at (set xs j z)) q ∙ set_same xs j z b) ∙ e ∙ ap f (sym q)
    by (inr q) = ap (λ u. u *ℤ d) (set_other xs j z b k q) ∙ h k (omega arith)
