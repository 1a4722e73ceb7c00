-- What the table shows of the system once columns are eliminated.
use Rattle.std.proofs.Common.{◌≡◌, ◌≢◌, ℕ, zero, suc, ◌+◌, ◌-◌, ◌<◌, ◌≤◌, cond, ltb, pos, [], ◌∷◌, Some, refl, sym, ◌∙◌, ap, subst, arith, ◌⊎◌, inl, inr}
use Rattle.std.proofs.lemmas.Bool.{cond-true, cond-false, cases_eq, cases_lt}
use Rattle.mpc_exact.specs.Rational.{ℚ, int, ◌+ℚ◌, ◌*ℚ◌, ◌-ℚ◌, ◌/ℚ◌, neg_ℚ, inv_ℚ}
use Rattle.mpc_exact.proofs.Rational.{*ℚ_inv}
use Rattle.mpc_exact.proofs.RationalRing.{reads, by_ring}
use Rattle.mpc_space.specs.Total.{total, unit}
use Rattle.mpc_space.proofs.Total.{total-same, total-zeros, total-suc, total-split, total-unit, unit-same, unit-other}
use Rattle.mpc_linear.specs.Elimination.{Table, exchanged_row, exchanged, reduced, after_column, eliminated, pivot_row}
use Rattle.mpc_linear.proofs.Reduction.{row-first, row-second, row-other, exchanged-at, reduced-pivot, reduced-other, row_dot, InKernel, exchanged-kernel, kernel-exchanged, reduced-kernel, kernel-reduced}
use Rattle.mpc_linear.proofs.Pivots.{IsFirst, pivot_some}

-- each column before column c has a pivot
abbrev pub HasPivots : ℕ → Table → ℕ → Type 0
HasPivots n t c = (k : ℕ) → k < c → (p : ℕ) × (pivot_row n (eliminated n t k) k ≡ Some p)

pub eliminated-suc : (n : ℕ) (t : Table) (c p : ℕ) → pivot_row n (eliminated n t c) c ≡ Some p → eliminated n t (suc c) ≡ reduced c (exchanged c p (eliminated n t c))
unfolding eliminated after_column
eliminated-suc n t c p e = ap (after_column c (eliminated n t c)) e

pub eliminated-zero : (n : ℕ) (t : Table) → eliminated n t zero ≡ t
unfolding eliminated
eliminated-zero n t = refl

-- the pivot of column c is not 0 once it stands in row c
pub pivot-nonzero : (n : ℕ) (t : Table) (c p : ℕ) → IsFirst t c c (n - c) p → exchanged c p t c c ≢ int (pos 0)
pivot-nonzero n t c p f e = f.some (ap (λ i. t i c) (sym (row-first c p)) ∙ sym (exchanged-at c p t c c) ∙ e)

-- ---- the vectors sent to 0 stay the same
module _ (n width : ℕ) (z : ℕ → ℚ) where
  one_column : (t : Table) (c p : ℕ) → c < n → IsFirst t c c (n - c) p → InKernel n width t z → InKernel n width (reduced c (exchanged c p t)) z
  one_column t c p hc f h =
      let b = f.below in
      reduced-kernel n width z c (exchanged c p t) hc (exchanged-kernel n width z c p t hc (omega arith) h)

  column_back : (t : Table) (c p : ℕ) → c < n → IsFirst t c c (n - c) p → InKernel n width (reduced c (exchanged c p t)) z → InKernel n width t z
  column_back t c p hc f h =
      let b = f.below in
      kernel-exchanged n width z c p t hc (omega arith) (kernel-reduced n width z c (exchanged c p t) hc (pivot-nonzero n t c p f) h)

  pub kernel-eliminated : (t : Table) (c : ℕ) → c ≤ n → HasPivots n t c → InKernel n width t z → InKernel n width (eliminated n t c) z
  kernel-eliminated t zero l h k = subst (λ s. InKernel n width s z) (sym (eliminated-zero n t)) k
  kernel-eliminated t (suc c) l h k =
      let s = eliminated n t c in
      let p = h c (omega arith) in
      subst (λ s. InKernel n width s z) (sym (eliminated-suc n t c p.0 p.1))
      (one_column s c p.0 (omega arith) (pivot_some n s c p.0 p.1 (omega arith)) (kernel-eliminated t c (omega arith) (λ k m. h k (omega arith)) k))

  pub eliminated-kernel : (t : Table) (c : ℕ) → c ≤ n → HasPivots n t c → InKernel n width (eliminated n t c) z → InKernel n width t z
  eliminated-kernel t zero l h k = subst (λ s. InKernel n width s z) (eliminated-zero n t) k
  eliminated-kernel t (suc c) l h k =
      let s = eliminated n t c in
      let p = h c (omega arith) in
      eliminated-kernel t c (omega arith) (λ k m. h k (omega arith))
      (column_back s c p.0 (omega arith) (pivot_some n s c p.0 p.1 (omega arith)) (subst (λ s. InKernel n width s z) (eliminated-suc n t c p.0 p.1) k))

-- ---- the eliminated columns are those of the unit matrix
abbrev pub AreUnits : ℕ → Table → ℕ → Type 0
AreUnits n t c = (i k : ℕ) → i < n → k < c → t i k ≡ unit i k

exchanged-units : (n : ℕ) (t : Table) (c p : ℕ) → c ≤ p → p < n → AreUnits n t c → AreUnits n (exchanged c p t) c
exchanged-units n t c p l m h i k hi hk = exchanged-at c p t i k ∙ by (cases_eq i c) (cases_eq i p)
  where
    by : (i ≡ c) ⊎ (i ≡ c → ⊥) → (i ≡ p) ⊎ (i ≡ p → ⊥) → t (exchanged_row c p i) k ≡ unit i k
    by (inl e) x = ap (λ r. t r k) (ap (exchanged_row c p) e ∙ row-first c p) ∙ h p k m hk ∙ unit-other p k (λ q. omega arith) ∙ sym (unit-other i k (λ q. omega arith))
    by (inr d) (inl e) = ap (λ r. t r k) (ap (exchanged_row c p) e ∙ row-second c p) ∙ h c k (omega arith) hk ∙ unit-other c k (λ q. omega arith) ∙ sym (unit-other i k (λ q. omega arith))
    by (inr d) (inr e) = ap (λ r. t r k) (row-other c p i d e) ∙ h i k hi hk

nought_quotient : (a x : ℚ) → x ≡ int (pos 0) → x *ℚ a ≡ int (pos 0)
nought_quotient a x e = ap (λ u. u *ℚ a) e ∙ by_ring (a ∷ []) (search reads depth 30) (search reads depth 30) tt

reduced-units : (n : ℕ) (t : Table) (c : ℕ) → c < n → t c c ≢ int (pos 0) → AreUnits n t c → AreUnits n (reduced c t) (suc c)
reduced-units n t c hc some h i k hi hk = by (cases_eq i c) (cases_eq k c)
  where
    by : (i ≡ c) ⊎ (i ≡ c → ⊥) → (k ≡ c) ⊎ (k ≡ c → ⊥) → reduced c t i k ≡ unit i k
    by (inl e) (inl d) = reduced-pivot c t i k e ∙ ap (λ j. t c j /ℚ t c c) d ∙ *ℚ_inv (t c c) some ∙ sym (unit-same i k (e ∙ sym d))
    by (inl e) (inr d) =
        reduced-pivot c t i k e ∙ nought_quotient (inv_ℚ (t c c)) (t c k) (h c k hc (omega arith) ∙ unit-other c k (λ q. d (sym q))) ∙ sym (unit-other i k (λ q. d (sym q ∙ e)))
    by (inr e) (inl d) =
        reduced-other c t i k e ∙ (λ m. t i (d m) -ℚ t i c *ℚ (t c (d m) /ℚ t c c)) ∙ ap (λ u. t i c -ℚ t i c *ℚ u) (*ℚ_inv (t c c) some)
        ∙ by_ring (t i c ∷ []) (search reads depth 30) (search reads depth 30) tt ∙ sym (unit-other i k (λ q. e (q ∙ d)))
    by (inr e) (inr d) =
        reduced-other c t i k e ∙ ap (λ u. t i k -ℚ t i c *ℚ u) (nought_quotient (inv_ℚ (t c c)) (t c k) (h c k hc (omega arith) ∙ unit-other c k (λ q. d (sym q))))
        ∙ by_ring (t i k ∷ t i c ∷ []) (search reads depth 30) (search reads depth 30) tt ∙ h i k hi (omega arith)

pub eliminated-units : (n : ℕ) (t : Table) (c : ℕ) → c ≤ n → HasPivots n t c → AreUnits n (eliminated n t c) c
eliminated-units n t zero l h i k hi hk = absurd (omega arith)
eliminated-units n t (suc c) l h i k hi hk =
    let s = eliminated n t c in
    let p = h c (omega arith) in
    let f = pivot_some n s c p.0 p.1 (omega arith) in
    let a = f.from in
    let b = f.below in
    subst (λ s. AreUnits n s (suc c)) (sym (eliminated-suc n t c p.0 p.1))
    (reduced-units n (exchanged c p.0 s) c (omega arith) (pivot-nonzero n s c p.0 f)
    (exchanged-units n s c p.0 a (omega arith) (eliminated-units n t c (omega arith) (λ k m. h k (omega arith))))) i k hi hk

-- ---- a column without a pivot
unit-past : (n x : ℕ) (f : ℕ → ℚ) → n ≤ x → total n (λ i. unit x i *ℚ f i) ≡ int (pos 0)
unit-past n x f h =
    total-zeros n (λ i. unit x i *ℚ f i) (λ k l. ap (λ u. u *ℚ f k) (unit-other x k (λ e. omega arith)) ∙ by_ring (f k ∷ []) (search reads depth 30) (search reads depth 30) tt)

-- the sum over the eliminated columns
units-total : (n : ℕ) (s : Table) (c : ℕ) (z : ℕ → ℚ) (i : ℕ) → AreUnits n s c → i < n → total c (λ k. s i k *ℚ z k) ≡ total c (λ k. unit i k *ℚ z k)
units-total n s c z i u hi = total-same c (λ k. s i k *ℚ z k) (λ k. unit i k *ℚ z k) (λ k h. ap (λ v. v *ℚ z k) (u i k hi h))

-- 1 in column c, and what cancels it before
unfoldable pub witness : Table → ℕ → ℕ → ℚ
witness s c k = cond (ltb k c) (neg_ℚ (s k c)) (unit k c)

pub witness-before : (s : Table) (c k : ℕ) → k < c → witness s c k ≡ neg_ℚ (s k c)
unfolding witness
witness-before s c k h = cond-true (ltb k c) (neg_ℚ (s k c)) (unit k c) (grind (arith, Rattle.std.proofs.lemmas.Bool.Decides.nat_tests))

pub witness-from : (s : Table) (c k : ℕ) → c ≤ k → witness s c k ≡ unit k c
unfolding witness
witness-from s c k h = cond-false (ltb k c) (neg_ℚ (s k c)) (unit k c) (grind (arith, Rattle.std.proofs.lemmas.Bool.Decides.nat_tests))

-- the sum over a row, where all past column c is 0
total-front : (c rest : ℕ) (f : ℕ → ℚ) → ((k : ℕ) → c < k → f k ≡ int (pos 0)) → total (suc c + rest) f ≡ total c f +ℚ f c
total-front c rest f h =
    total-split (suc c) rest f
    ∙ (λ i. total-suc c f i +ℚ total-zeros rest (λ k. f (suc c + k)) (λ k l. h (suc c + k) (omega arith)) i)
    ∙ by_ring (total c f ∷ f c ∷ []) (search reads depth 30) (search reads depth 30) tt

pub witness-kernel : (n : ℕ) (s : Table) (c rest : ℕ) → c < n → AreUnits n s c → ((i : ℕ) → c ≤ i → i < n → s i c ≡ int (pos 0)) → InKernel n (suc c + rest) s (witness s c)
witness-kernel n s c rest hc u none i hi =
    let z = witness s c in
    total-front c rest (λ k. s i k *ℚ z k) (λ k l. ap (λ v. s i k *ℚ v) (witness-from s c k (omega arith) ∙ unit-other k c (λ q. omega arith)) ∙ by_ring (s i k ∷ []) (search reads depth 30) (search reads depth 30) tt)
    ∙ (λ m. units-total n s c z i u hi m +ℚ s i c *ℚ (witness-from s c c (omega arith) ∙ unit-same c c refl) m)
    ∙ by (cases_lt i c)
  where
    by : (i < c) ⊎ (c ≤ i) → total c (λ k. unit i k *ℚ witness s c k) +ℚ s i c *ℚ int (pos 1) ≡ int (pos 0)
    by (inl l) =
        ap (λ v. v +ℚ s i c *ℚ int (pos 1)) (total-unit c i (witness s c) l ∙ witness-before s c i l)
        ∙ by_ring (s i c ∷ []) (search reads depth 30) (search reads depth 30) tt
    by (inr l) =
        (λ m. unit-past c i (witness s c) l m +ℚ none i l hi m *ℚ int (pos 1))
        ∙ by_ring [] (search reads depth 30) (search reads depth 30) tt

-- ---- the columns before are independent
pub before-independent : (n : ℕ) (s : Table) (c rest : ℕ) (z : ℕ → ℚ) → c ≤ n → AreUnits n s c → ((k : ℕ) → c ≤ k → z k ≡ int (pos 0)) → InKernel n (c + rest) s z → (i : ℕ) → i < c → z i ≡ int (pos 0)
before-independent n s c rest z hc u past h i hi =
    sym (total-unit c i z hi)
    ∙ sym (units-total n s c z i u (omega arith))
    ∙ by_ring (total c (λ k. s i k *ℚ z k) ∷ []) (search reads depth 30) (search reads depth 30) tt
    ∙ ap (λ v. total c (λ k. s i k *ℚ z k) +ℚ v) (sym (total-zeros rest (λ k. s i (c + k) *ℚ z (c + k)) (λ k l. ap (λ v. s i (c + k) *ℚ v) (past (c + k) (omega arith)) ∙ by_ring (s i (c + k) ∷ []) (search reads depth 30) (search reads depth 30) tt)))
    ∙ sym (total-split c rest (λ k. s i k *ℚ z k))
    ∙ h i (omega arith)

-- ---- the solution
-- y, and behind it the negative of a unit vector
unfoldable pub beside : ℕ → (ℕ → ℚ) → ℕ → ℕ → ℚ
beside n y j k = cond (ltb k n) (y k) (neg_ℚ (unit j (k - n)))

beside-before : (n : ℕ) (y : ℕ → ℚ) (j k : ℕ) → k < n → beside n y j k ≡ y k
unfolding beside
beside-before n y j k h = cond-true (ltb k n) (y k) (neg_ℚ (unit j (k - n))) (grind (arith, Rattle.std.proofs.lemmas.Bool.Decides.nat_tests))

beside-from : (n : ℕ) (y : ℕ → ℚ) (j k : ℕ) → beside n y j (n + k) ≡ neg_ℚ (unit j k)
unfolding beside
beside-from n y j k =
    let e : n + k - n ≡ k = omega arith in
    cond-false (ltb (n + k) n) (y (n + k)) (neg_ℚ (unit j (n + k - n))) (grind (arith, Rattle.std.proofs.lemmas.Bool.Decides.nat_tests)) ∙ ap (λ m. neg_ℚ (unit j m)) e

pub beside-dot : (n w : ℕ) (t : Table) (y : ℕ → ℚ) (i j : ℕ) → j < w → row_dot (n + w) t (beside n y j) i ≡ total n (λ k. t i k *ℚ y k) -ℚ t i (n + j)
beside-dot n w t y i j hj =
    total-split n w (λ k. t i k *ℚ beside n y j k)
    ∙ (λ m. total-same n (λ k. t i k *ℚ beside n y j k) (λ k. t i k *ℚ y k) (λ k h. ap (λ v. t i k *ℚ v) (beside-before n y j k h)) m
    +ℚ (total-same w (λ k. t i (n + k) *ℚ beside n y j (n + k)) (λ k. unit j k *ℚ neg_ℚ (t i (n + k))) (λ k h. ap (λ v. t i (n + k) *ℚ v) (beside-from n y j k) ∙ by_ring (t i (n + k) ∷ unit j k ∷ []) (search reads depth 30) (search reads depth 30) tt)
    ∙ total-unit w j (λ k. neg_ℚ (t i (n + k))) hj) m)

difference_zero : (x y : ℚ) → x -ℚ y ≡ int (pos 0) → x ≡ y
difference_zero x y e = by_ring (x ∷ y ∷ []) (search reads depth 30) (search reads depth 30) tt ∙ ap (λ v. v +ℚ y) e ∙ by_ring (y ∷ []) (search reads depth 30) (search reads depth 30) tt

zero_difference : (x y : ℚ) → x ≡ y → x -ℚ y ≡ int (pos 0)
zero_difference x y e = ap (λ v. v -ℚ y) e ∙ by_ring (y ∷ []) (search reads depth 30) (search reads depth 30) tt

abbrev pub Solves : ℕ → Table → (ℕ → ℚ) → ℕ → Type 0
Solves n t y j = (i : ℕ) → i < n → total n (λ k. t i k *ℚ y k) ≡ t i (n + j)

module _ (n w : ℕ) (t : Table) (y : ℕ → ℚ) (j : ℕ) (hj : j < w) where
  solves-kernel : Solves n t y j → InKernel n (n + w) t (beside n y j)
  solves-kernel h i hi = beside-dot n w t y i j hj ∙ zero_difference (total n (λ k. t i k *ℚ y k)) (t i (n + j)) (h i hi)

  kernel-solves : InKernel n (n + w) t (beside n y j) → Solves n t y j
  kernel-solves h i hi = difference_zero (total n (λ k. t i k *ℚ y k)) (t i (n + j)) (sym (beside-dot n w t y i j hj) ∙ h i hi)

solved-read : (n : ℕ) (s : Table) (y : ℕ → ℚ) (j : ℕ) → AreUnits n s n → Solves n s y j → (i : ℕ) → i < n → y i ≡ s i (n + j)
solved-read n s y j u h i hi = sym (total-unit n i y hi) ∙ sym (units-total n s n y i u hi) ∙ h i hi

solved-write : (n : ℕ) (s : Table) (y : ℕ → ℚ) (j : ℕ) → AreUnits n s n → ((i : ℕ) → i < n → y i ≡ s i (n + j)) → Solves n s y j
solved-write n s y j u h i hi = units-total n s n y i u hi ∙ total-unit n i y hi ∙ h i hi

-- where every column has a pivot, y solves the system for a right side exactly where it is that column of the table at the end
module _ (n w : ℕ) (t : Table) (pivots : HasPivots n t n) (y : ℕ → ℚ) (j : ℕ) (hj : j < w) where
  pub solution_only : Solves n t y j → (i : ℕ) → i < n → y i ≡ eliminated n t n i (n + j)
  solution_only h =
      solved-read n (eliminated n t n) y j (eliminated-units n t n (omega arith) pivots)
      (kernel-solves n w (eliminated n t n) y j hj (kernel-eliminated n (n + w) (beside n y j) t n (omega arith) pivots (solves-kernel n w t y j hj h)))

  pub solution_is : ((i : ℕ) → i < n → y i ≡ eliminated n t n i (n + j)) → Solves n t y j
  solution_is h =
      kernel-solves n w t y j hj
      (eliminated-kernel n (n + w) (beside n y j) t n (omega arith) pivots
      (solves-kernel n w (eliminated n t n) y j hj (solved-write n (eliminated n t n) y j (eliminated-units n t n (omega arith) pivots) h)))
