-- Sums over the numbers below n, of numbers and of pairs.
use Rattle.std.proofs.Common.{◌≡◌, ℕ, zero, suc, ◌+◌, ◌<◌, ◌≤◌, eqb, pos, [], ◌∷◌, refl, sym, ◌∙◌, ap, subst, arith, ◌⊎◌, inl, inr, add-suc, add-zero, eq-eqb, ne_eqb}
use Rattle.std.proofs.lemmas.Bool.{cond-true, cond-false, cases_eq}
use Rattle.mpc_exact.specs.Rational.{ℚ, int, ◌+ℚ◌, ◌-ℚ◌, ◌*ℚ◌, ◌≤ℚ◌, IsNonneg, IsPositive}
use Rattle.mpc_exact.proofs.RationalRing.{reads, by_ring}
use Rattle.mpc_exact.proofs.RationalOrder.{nonneg_int, nonneg-add, positive-add, +ℚ-≤ℚ, ≤ℚ_refl}
use Rattle.mpc_exact.proofs.OrderTheorems.{positive-add_right}
use Rattle.mpc_exact.proofs.Pair.{IsPairPositive, IsPairNonneg, pair_nonneg_of_zero, pair_nonneg_add, pair_positive_add, pair_positive_last}
use Rattle.mpc_space.specs.Total.{total, unit}

pub total-zero : (f : ℕ → ℚ) → total zero f ≡ int (pos 0)
unfolding total
total-zero f = refl

pub total-suc : (n : ℕ) (f : ℕ → ℚ) → total (suc n) f ≡ total n f +ℚ f n
unfolding total
total-suc n f = refl

pub total-same : (n : ℕ) (f g : ℕ → ℚ) → ((i : ℕ) → i < n → f i ≡ g i) → total n f ≡ total n g
unfolding total
total-same zero f g h = refl
total-same (suc n) f g h = λ i. total-same n f g (λ k l. h k (omega arith)) i +ℚ h n (omega arith) i

pub total-zeros : (n : ℕ) (f : ℕ → ℚ) → ((i : ℕ) → i < n → f i ≡ int (pos 0)) → total n f ≡ int (pos 0)
unfolding total
total-zeros zero f h = refl
total-zeros (suc n) f h = (λ i. total-zeros n f (λ k l. h k (omega arith)) i +ℚ h n (omega arith) i) ∙ by_ring [] (search reads depth 30) (search reads depth 30) tt

pub total-add : (n : ℕ) (f g : ℕ → ℚ) → total n (λ i. f i +ℚ g i) ≡ total n f +ℚ total n g
unfolding total
total-add zero f g = by_ring [] (search reads depth 30) (search reads depth 30) tt
total-add (suc n) f g = ap (λ u. u +ℚ (f n +ℚ g n)) (total-add n f g) ∙ by_ring (total n f ∷ total n g ∷ f n ∷ g n ∷ []) (search reads depth 30) (search reads depth 30) tt

pub total-scale : (n : ℕ) (c : ℚ) (f : ℕ → ℚ) → total n (λ i. c *ℚ f i) ≡ c *ℚ total n f
unfolding total
total-scale zero c f = by_ring (c ∷ []) (search reads depth 30) (search reads depth 30) tt
total-scale (suc n) c f = ap (λ u. u +ℚ c *ℚ f n) (total-scale n c f) ∙ by_ring (c ∷ total n f ∷ f n ∷ []) (search reads depth 30) (search reads depth 30) tt

pub unit-same : (x y : ℕ) → x ≡ y → unit x y ≡ int (pos 1)
unfolding unit
unit-same x y e = cond-true (eqb x y) (int (pos 1)) (int (pos 0)) (eq-eqb x y e)

pub unit-other : (x y : ℕ) → (x ≡ y → ⊥) → unit x y ≡ int (pos 0)
unfolding unit
unit-other x y e = cond-false (eqb x y) (int (pos 1)) (int (pos 0)) (ne_eqb x y e)

unit-past : (n x : ℕ) (f : ℕ → ℚ) → n ≤ x → total n (λ i. unit x i *ℚ f i) ≡ int (pos 0)
unit-past n x f h =
    total-zeros n (λ i. unit x i *ℚ f i) (λ k l. ap (λ u. u *ℚ f k) (unit-other x k (λ e. omega arith)) ∙ by_ring (f k ∷ []) (search reads depth 30) (search reads depth 30) tt)

pub total-unit : (n x : ℕ) (f : ℕ → ℚ) → x < n → total n (λ i. unit x i *ℚ f i) ≡ f x
unfolding total
total-unit zero x f h = absurd (omega arith)
total-unit (suc n) x f h = by (cases_eq x n) (total-unit n x f)
  where
    by : ((x ≡ n) ⊎ (x ≡ n → ⊥)) → (x < n → total n (λ i. unit x i *ℚ f i) ≡ f x) → total n (λ i. unit x i *ℚ f i) +ℚ unit x n *ℚ f n ≡ f x
    by (inl e) r = (λ i. unit-past n x f (omega arith) i +ℚ unit-same x n e i *ℚ f (sym e i)) ∙ by_ring (f x ∷ []) (search reads depth 30) (search reads depth 30) tt
    by (inr e) r = (λ i. r (omega arith) i +ℚ unit-other x n e i *ℚ f n) ∙ by_ring (f x ∷ f n ∷ []) (search reads depth 30) (search reads depth 30) tt

pub total-split : (d m : ℕ) (f : ℕ → ℚ) → total (d + m) f ≡ total d f +ℚ total m (λ i. f (d + i))
unfolding total
total-split d zero f = rw (add-zero d) (by_ring (total d f ∷ []) (search reads depth 30) (search reads depth 30) tt)
total-split d (suc m) f =
    rw (add-suc d m) (ap (λ u. u +ℚ f (d + m)) (total-split d m f) ∙ by_ring (total d f ∷ total m (λ i. f (d + i)) ∷ f (d + m) ∷ []) (search reads depth 30) (search reads depth 30) tt)

pub total-nonneg : (n : ℕ) (f : ℕ → ℚ) → ((i : ℕ) → i < n → IsNonneg (f i)) → IsNonneg (total n f)
unfolding total
total-nonneg zero f h = nonneg_int 0
total-nonneg (suc n) f h = nonneg-add (total-nonneg n f (λ k l. h k (omega arith))) (h n (omega arith))

-- sums over two indices, in either order
pub total-swap : (n m : ℕ) (f : ℕ → ℕ → ℚ) → total n (λ i. total m (λ j. f i j)) ≡ total m (λ j. total n (λ i. f i j))
unfolding total
total-swap zero m f = sym (total-zeros m (λ j. int (pos 0)) (λ k l. refl))
total-swap (suc n) m f = ap (λ u. u +ℚ total m (λ j. f n j)) (total-swap n m f) ∙ sym (total-add m (λ j. total n (λ i. f i j)) (λ j. f n j))

pub total-le : (n : ℕ) (f g : ℕ → ℚ) → ((i : ℕ) → i < n → f i ≤ℚ g i) → total n f ≤ℚ total n g
unfolding total
total-le zero f g h = ≤ℚ_refl (int (pos 0))
total-le (suc n) f g h = +ℚ-≤ℚ (total-le n f g (λ k l. h k (omega arith))) (h n (omega arith))

-- where no term is negative and one is positive, so is the sum
pub total-positive : (n r : ℕ) (f : ℕ → ℚ) → r < n → ((i : ℕ) → i < n → IsNonneg (f i)) → IsPositive (f r) → IsPositive (total n f)
unfolding total
total-positive zero r f l h k = absurd (omega arith)
total-positive (suc n) r f l h k = by (cases_eq r n) (λ m. total-positive n r f m (λ i j. h i (omega arith)) k)
  where
    by : (r ≡ n) ⊎ (r ≡ n → ⊥) → (r < n → IsPositive (total n f)) → IsPositive (total n f +ℚ f n)
    by (inl e) m = positive-add_right (total-nonneg n f (λ i j. h i (omega arith))) (subst (λ z. IsPositive (f z)) e k)
    by (inr e) m = positive-add (m (omega arith)) (h n (omega arith))

pub total-sub : (n : ℕ) (f g : ℕ → ℚ) → total n (λ i. f i -ℚ g i) ≡ total n f -ℚ total n g
unfolding total
total-sub zero f g = by_ring [] (search reads depth 30) (search reads depth 30) tt
total-sub (suc n) f g = ap (λ u. u +ℚ (f n -ℚ g n)) (total-sub n f g) ∙ by_ring (total n f ∷ total n g ∷ f n ∷ g n ∷ []) (search reads depth 30) (search reads depth 30) tt

-- the first term apart
pub total-first : (n : ℕ) (f : ℕ → ℚ) → total (suc n) f ≡ f 0 +ℚ total n (λ i. f (suc i))
unfolding total
total-first zero f = by_ring (f 0 ∷ []) (search reads depth 30) (search reads depth 30) tt
total-first (suc n) f = ap (λ u. u +ℚ f (suc n)) (total-first n f) ∙ by_ring (f 0 ∷ total n (λ i. f (suc i)) ∷ f (suc n) ∷ []) (search reads depth 30) (search reads depth 30) tt

-- terms that are 0 from m on
pub total-short : (m k : ℕ) (f : ℕ → ℚ) → ((i : ℕ) → m ≤ i → f i ≡ int (pos 0)) → total (m + k) f ≡ total m f
total-short m k f h =
    total-split m k f ∙ ap (λ u. total m f +ℚ u) (total-zeros k (λ i. f (m + i)) (λ i l. h (m + i) (omega arith)))
    ∙ by_ring (total m f ∷ []) (search reads depth 30) (search reads depth 30) tt

-- ---- sums of pairs
pub pair_total_nonneg : (n : ℕ) (f g : ℕ → ℚ) → ((i : ℕ) → i < n → IsPairNonneg (f i) (g i)) → IsPairNonneg (total n f) (total n g)
unfolding total
pair_total_nonneg zero f g h = pair_nonneg_of_zero
pair_total_nonneg (suc n) f g h = pair_nonneg_add (total n f) (total n g) (f n) (g n) (pair_total_nonneg n f g (λ k l. h k (omega arith))) (h n (omega arith))

-- where each term is at least 0 and one is above, so is the sum
pub pair_total_positive : (n r : ℕ) (f g : ℕ → ℚ) → r < n → ((i : ℕ) → i < n → IsPairNonneg (f i) (g i)) → IsPairPositive (f r) (g r) → IsPairPositive (total n f) (total n g)
unfolding total
pair_total_positive zero r f g l h k = absurd (omega arith)
pair_total_positive (suc n) r f g l h k = by (cases_eq r n) (λ m. pair_total_positive n r f g m (λ i j. h i (omega arith)) k)
  where
    by : (r ≡ n) ⊎ (r ≡ n → ⊥) → (r < n → IsPairPositive (total n f) (total n g)) → IsPairPositive (total n f +ℚ f n) (total n g +ℚ g n)
    by (inl e) m = pair_positive_last (total n f) (total n g) (f n) (g n) (pair_total_nonneg n f g (λ i j. h i (omega arith))) (subst (λ z. IsPairPositive (f z) (g z)) e k)
    by (inr e) m = pair_positive_add (total n f) (total n g) (f n) (g n) (m (omega arith)) (h n (omega arith))
