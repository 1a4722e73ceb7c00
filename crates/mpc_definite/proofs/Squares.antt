-- A symmetric matrix as a sum of squares: each column that is eliminated takes one square of a linear form away.
use Rattle.std.proofs.Common.{◌≡◌, ℕ, zero, suc, ◌+◌, ◌<◌, ◌≤◌, pos, [], ◌∷◌, refl, sym, ◌∙◌, ap, subst, arith, ◌⊎◌, inl, inr, ⊎_elim}
use Rattle.std.proofs.lemmas.Bool.{cases_eq}
use Rattle.mpc_exact.specs.Rational.{ℚ, int, ◌+ℚ◌, ◌-ℚ◌, ◌*ℚ◌, neg_ℚ, inv_ℚ, ◌≤ℚ◌, ◌<ℚ◌, IsNonneg, IsPositive}
use Rattle.mpc_exact.proofs.Rational.{*ℚ_inv}
use Rattle.mpc_exact.proofs.RationalRing.{reads, by_ring, by_equation}
use Rattle.mpc_exact.proofs.RationalField.{product_zero}
use Rattle.mpc_exact.proofs.RationalOrder.{nonneg_int, nonneg-add, nonneg-mul, nonneg_square, inv_positive, le_or_lt, ≤ℚ_antisymm, ≤ℚ_of_<, <ℚ_irrefl}
use Rattle.mpc_exact.proofs.Linear.{linear_le, claims, none, le, eq}
use Rattle.mpc_space.specs.Total.{total}
use Rattle.mpc_definite.specs.Pivots.{left_of, pivot, factor}
use Rattle.mpc_space.proofs.Total.{total-zero, total-suc, total-same, total-zeros, total-add, total-scale}
use Rattle.mpc_definite.proofs.Totals.{total-single}

-- M w, and w' M w
abbrev pub applied : ℕ → (ℕ → ℕ → ℚ) → (ℕ → ℚ) → ℕ → ℚ
applied n m w i = total n (λ k. m i k *ℚ w k)

abbrev pub form : ℕ → (ℕ → ℕ → ℚ) → (ℕ → ℚ) → ℚ
form n m w = total n (λ i. w i *ℚ applied n m w i)

pub positive_not_zero : {x : ℚ} → IsPositive x → x ≡ int (pos 0) → ⊥
positive_not_zero {x} h e = <ℚ_irrefl (subst (λ z. int (pos 0) <ℚ z) e h)

abbrev pub PositiveBelow : (ℕ → ℕ → ℚ) → ℕ → Type 0
PositiveBelow h n = (m : ℕ) → m < n → IsPositive (pivot h m)

-- the linear form of column j
abbrev pub column_form : (ℕ → ℕ → ℚ) → ℕ → ℕ → (ℕ → ℚ) → ℚ
column_form h n j w = total n (λ k. left_of h j k j *ℚ w k)

module _ (h : ℕ → ℕ → ℚ) (sym_h : (i k : ℕ) → h i k ≡ h k i) where
  pub left_of-suc : (j i k : ℕ) → left_of h (suc j) i k ≡ left_of h j i k -ℚ (left_of h j i j *ℚ inv_ℚ (pivot h j)) *ℚ left_of h j k j
  unfolding left_of
  left_of-suc j i k = refl

  pub left_of-sym : (j i k : ℕ) → left_of h j i k ≡ left_of h j k i
  unfolding left_of
  left_of-sym zero i k = sym_h i k
  left_of-sym (suc j) i k =
      ap (λ u. u -ℚ (left_of h j i j *ℚ inv_ℚ (pivot h j)) *ℚ left_of h j k j) (left_of-sym j i k)
      ∙ by_ring (left_of h j k i ∷ left_of h j i j ∷ inv_ℚ (pivot h j) ∷ left_of h j k j ∷ []) (search reads depth 30) (search reads depth 30) tt

  -- the row of the pivot is 0 afterwards
  left_of-at : (j k : ℕ) → (pivot h j ≡ int (pos 0) → ⊥) → left_of h (suc j) j k ≡ int (pos 0)
  left_of-at j k some =
      left_of-suc j j k ∙ ap (λ u. u -ℚ (pivot h j *ℚ inv_ℚ (pivot h j)) *ℚ left_of h j k j) (left_of-sym j j k)
      ∙ by_equation (neg_ℚ (left_of h j k j)) (*ℚ_inv (pivot h j) some) (by_ring (pivot h j ∷ inv_ℚ (pivot h j) ∷ left_of h j k j ∷ []) (search reads depth 30) (search reads depth 30) tt)

  -- and the rows before it stay so
  pub left_of-zero : (j i k : ℕ) → ((m : ℕ) → m < j → pivot h m ≡ int (pos 0) → ⊥) → i < j → left_of h j i k ≡ int (pos 0)
  left_of-zero zero i k some l = absurd (omega arith)
  left_of-zero (suc j) i k some l = by (cases_eq i j) (left_of-zero j i k (λ m p. some m (omega arith))) (left_of-zero j i j (λ m p. some m (omega arith)))
    where
      by : ((i ≡ j) ⊎ (i ≡ j → ⊥)) → (i < j → left_of h j i k ≡ int (pos 0)) → (i < j → left_of h j i j ≡ int (pos 0)) → left_of h (suc j) i k ≡ int (pos 0)
      by (inl e) r s = subst (λ m. left_of h (suc j) m k ≡ int (pos 0)) (sym e) (left_of-at j k (some j (omega arith)))
      by (inr e) r s =
          left_of-suc j i k ∙ (λ t. r (omega arith) t -ℚ (s (omega arith) t *ℚ inv_ℚ (pivot h j)) *ℚ left_of h j k j)
          ∙ by_ring (inv_ℚ (pivot h j) ∷ left_of h j k j ∷ []) (search reads depth 30) (search reads depth 30) tt

  applied-suc : (n j : ℕ) (w : ℕ → ℚ) (i : ℕ) → applied n (left_of h (suc j)) w i ≡ applied n (left_of h j) w i -ℚ (left_of h j i j *ℚ inv_ℚ (pivot h j)) *ℚ column_form h n j w
  applied-suc n j w i =
      let c = left_of h j i j *ℚ inv_ℚ (pivot h j) in
      total-same n (λ k. left_of h (suc j) i k *ℚ w k) (λ k. left_of h j i k *ℚ w k +ℚ neg_ℚ c *ℚ (left_of h j k j *ℚ w k))
      (λ k l. ap (λ u. u *ℚ w k) (left_of-suc j i k) ∙ by_ring (left_of h j i k ∷ c ∷ left_of h j k j ∷ w k ∷ []) (search reads depth 30) (search reads depth 30) tt)
      ∙ total-add n (λ k. left_of h j i k *ℚ w k) (λ k. neg_ℚ c *ℚ (left_of h j k j *ℚ w k))
      ∙ ap (λ u. applied n (left_of h j) w i +ℚ u) (total-scale n (neg_ℚ c) (λ k. left_of h j k j *ℚ w k))
      ∙ by_ring (applied n (left_of h j) w i ∷ c ∷ column_form h n j w ∷ []) (search reads depth 30) (search reads depth 30) tt

  -- one square is taken away
  pub form-suc : (n j : ℕ) (w : ℕ → ℚ) → form n (left_of h j) w ≡ inv_ℚ (pivot h j) *ℚ (column_form h n j w *ℚ column_form h n j w) +ℚ form n (left_of h (suc j)) w
  form-suc n j w =
      let e = inv_ℚ (pivot h j) in
      let s = column_form h n j w in
      let a = applied n (left_of h j) w in
      let next : form n (left_of h (suc j)) w ≡ form n (left_of h j) w +ℚ neg_ℚ (e *ℚ s) *ℚ s =
      total-same n (λ i. w i *ℚ applied n (left_of h (suc j)) w i) (λ i. w i *ℚ a i +ℚ neg_ℚ (e *ℚ s) *ℚ (left_of h j i j *ℚ w i))
      (λ i l. ap (λ u. w i *ℚ u) (applied-suc n j w i) ∙ by_ring (w i ∷ a i ∷ left_of h j i j ∷ e ∷ s ∷ []) (search reads depth 30) (search reads depth 30) tt)
      ∙ total-add n (λ i. w i *ℚ a i) (λ i. neg_ℚ (e *ℚ s) *ℚ (left_of h j i j *ℚ w i))
      ∙ ap (λ u. form n (left_of h j) w +ℚ u) (total-scale n (neg_ℚ (e *ℚ s)) (λ i. left_of h j i j *ℚ w i)) in
      by_ring (e ∷ s ∷ form n (left_of h j) w ∷ []) (search reads depth 30) (search reads depth 30) tt ∙ ap (λ u. e *ℚ (s *ℚ s) +ℚ u) (sym next)

  -- nothing is left after the last column
  pub form-none : (n : ℕ) → ((m : ℕ) → m < n → pivot h m ≡ int (pos 0) → ⊥) → (w : ℕ → ℚ) → form n (left_of h n) w ≡ int (pos 0)
  form-none n some w =
      total-zeros n (λ i. w i *ℚ applied n (left_of h n) w i)
      (λ i l. ap (λ u. w i *ℚ u) (total-zeros n (λ k. left_of h n i k *ℚ w k) (λ k q. ap (λ u. u *ℚ w k) (left_of-zero n i k some l) ∙ by_ring (w k ∷ []) (search reads depth 30) (search reads depth 30) tt)) ∙ by_ring (w i ∷ []) (search reads depth 30) (search reads depth 30) tt)

  -- ---- all pivots positive
  some_of : (n : ℕ) → PositiveBelow h n → (m : ℕ) → m < n → pivot h m ≡ int (pos 0) → ⊥
  some_of n positive m l = positive_not_zero (positive m l)

  square_nonneg : (n j : ℕ) (w : ℕ → ℚ) → IsPositive (pivot h j) → IsNonneg (inv_ℚ (pivot h j) *ℚ (column_form h n j w *ℚ column_form h n j w))
  square_nonneg n j w p = nonneg-mul (≤ℚ_of_< (inv_positive p)) (nonneg_square (column_form h n j w))

  form-nonneg : (m n j : ℕ) → j + m ≡ n → PositiveBelow h n → (w : ℕ → ℚ) → IsNonneg (form n (left_of h j) w)
  form-nonneg zero n j e positive w =
      subst (λ v. IsNonneg (form n (left_of h v) w)) (omega arith) (subst IsNonneg (sym (form-none n (some_of n positive) w)) (nonneg_int 0))
  form-nonneg (suc m) n j e positive w =
      subst IsNonneg (sym (form-suc n j w)) (nonneg-add (square_nonneg n j w (positive j (omega arith))) (form-nonneg m n (suc j) (omega arith) positive w))

  -- the form of column j where w is 0 behind the place j
  column_form-first : (n j : ℕ) → j < n → PositiveBelow h n → (w : ℕ → ℚ) → ((i : ℕ) → suc j ≤ i → i < n → w i ≡ int (pos 0)) → column_form h n j w ≡ pivot h j *ℚ w j
  column_form-first n j l positive w zeros = total-single n j (λ k. left_of h j k j *ℚ w k) l others
    where
      others : (k : ℕ) → k < n → (k ≡ j → ⊥) → left_of h j k j *ℚ w k ≡ int (pos 0)
      others k q other = ⊎_elim
          (λ p. ap (λ u. u *ℚ w k) (left_of-zero j k j (λ m r. some_of n positive m (omega arith)) p) ∙ by_ring (w k ∷ []) (search reads depth 30) (search reads depth 30) tt)
          (λ p. ap (λ u. left_of h j k j *ℚ u) (zeros k p q) ∙ by_ring (left_of h j k j ∷ []) (search reads depth 30) (search reads depth 30) tt)
          (sides k other)
        where
          sides : (k : ℕ) → (k ≡ j → ⊥) → (k < j) ⊎ (suc j ≤ k)
          sides k other = search arith

  -- where the form isn't positive, w is 0
  zero_at : (n j : ℕ) → j < n → PositiveBelow h n → (w : ℕ → ℚ) → IsNonneg (form n (left_of h (suc j)) w) → form n (left_of h j) w ≤ℚ int (pos 0) → ((i : ℕ) → suc j ≤ i → i < n → w i ≡ int (pos 0)) → w j ≡ int (pos 0)
  zero_at n j l positive w rest small zeros =
      ⊎_elim (λ q. absurd (positive_not_zero (positive j l) q)) (λ q. q) (product_zero (pivot h j) (w j) (sym (column_form-first n j l positive w zeros) ∙ no_form))
    where
      square : ℚ
      square = inv_ℚ (pivot h j) *ℚ (column_form h n j w *ℚ column_form h n j w)

      square_small : (a b c : ℚ) → a ≡ b +ℚ c → a ≤ℚ int (pos 0) → int (pos 0) ≤ℚ c → b ≤ℚ int (pos 0)
      square_small a b c e p k = linear_le (a ∷ b ∷ c ∷ []) (eq e (le p (le k none))) (search claims depth 40) tt

      no_square : square ≡ int (pos 0)
      no_square = ≤ℚ_antisymm (square_small (form n (left_of h j) w) square (form n (left_of h (suc j)) w) (form-suc n j w) small rest) (square_nonneg n j w (positive j l))

      zero_of_square : (x : ℚ) → x *ℚ x ≡ int (pos 0) → x ≡ int (pos 0)
      zero_of_square x e = ⊎_elim (λ p. p) (λ p. p) (product_zero x x e)

      no_form : column_form h n j w ≡ int (pos 0)
      no_form = zero_of_square (column_form h n j w) (⊎_elim (λ p. absurd (positive_not_zero (inv_positive (positive j l)) p)) (λ p. p) (product_zero (inv_ℚ (pivot h j)) (column_form h n j w *ℚ column_form h n j w) no_square))

  rest_small : (a b c : ℚ) → a ≡ b +ℚ c → a ≤ℚ int (pos 0) → int (pos 0) ≤ℚ b → c ≤ℚ int (pos 0)
  rest_small a b c e p k = linear_le (a ∷ b ∷ c ∷ []) (eq e (le p (le k none))) (search claims depth 40) tt

  form-zero : (m n j : ℕ) → j + m ≡ n → PositiveBelow h n → (w : ℕ → ℚ) → form n (left_of h j) w ≤ℚ int (pos 0) → (i : ℕ) → j ≤ i → i < n → w i ≡ int (pos 0)
  form-zero zero n j e positive w small i low high = absurd (omega arith)
  form-zero (suc m) n j e positive w small i low high =
      let rest : form n (left_of h (suc j)) w ≤ℚ int (pos 0) =
      rest_small (form n (left_of h j) w) (inv_ℚ (pivot h j) *ℚ (column_form h n j w *ℚ column_form h n j w)) (form n (left_of h (suc j)) w) (form-suc n j w) small (square_nonneg n j w (positive j (omega arith))) in
      by (form-zero m n (suc j) (omega arith) positive w rest) (cases_eq i j)
    where
      by : ((k : ℕ) → suc j ≤ k → k < n → w k ≡ int (pos 0)) → (i ≡ j) ⊎ (i ≡ j → ⊥) → w i ≡ int (pos 0)
      by zeros (inl p) = subst (λ v. w v ≡ int (pos 0)) (sym p) (zero_at n j (omega arith) positive w (form-nonneg m n (suc j) (omega arith) positive w) small zeros)
      by zeros (inr p) = zeros i (omega arith) high

  pub form_positive : (n : ℕ) → PositiveBelow h n → (w : ℕ → ℚ) → (((i : ℕ) → i < n → w i ≡ int (pos 0)) → ⊥) → int (pos 0) <ℚ form n h w
  unfolding left_of
  form_positive n positive w some = ⊎_elim (λ p. absurd (some (λ i l. form-zero n n 0 (omega arith) positive w p i (omega arith) l))) (λ p. p) (le_or_lt (form n h w) (int (pos 0)))

  -- ---- h = L D L'
  pub sum_of_columns : (j i k : ℕ) → PositiveBelow h j → h i k ≡ left_of h j i k +ℚ total j (λ m. factor h i m *ℚ pivot h m *ℚ factor h k m)
  unfolding left_of
  sum_of_columns zero i k positive = rw total-zero (by_ring (h i k ∷ []) (search reads depth 30) (search reads depth 30) tt)
  sum_of_columns (suc j) i k positive =
      sum_of_columns j i k (λ m l. positive m (omega arith))
      ∙ step (left_of h j i k) (left_of h j i j) (left_of h j k j) (pivot h j) (inv_ℚ (pivot h j)) (total j (λ m. factor h i m *ℚ pivot h m *ℚ factor h k m)) (*ℚ_inv (pivot h j) (some_of (suc j) positive j (omega arith)))
      ∙ ap (λ u. left_of h (suc j) i k +ℚ u) (sym (total-suc j (λ m. factor h i m *ℚ pivot h m *ℚ factor h k m)))
    where
      step : (x a b p e s : ℚ) → p *ℚ e ≡ int (pos 1) → x +ℚ s ≡ (x -ℚ (a *ℚ e) *ℚ b) +ℚ (s +ℚ (a *ℚ e) *ℚ p *ℚ (b *ℚ e))
      step x a b p e s q = by_equation (neg_ℚ (a *ℚ e *ℚ b)) q (by_ring (x ∷ a ∷ b ∷ p ∷ e ∷ s ∷ []) (search reads depth 30) (search reads depth 30) tt)

  pub decomposed : (n i k : ℕ) → PositiveBelow h n → i < n → h i k ≡ total n (λ m. factor h i m *ℚ pivot h m *ℚ factor h k m)
  decomposed n i k positive l =
      sum_of_columns n i k positive ∙ ap (λ u. u +ℚ total n (λ m. factor h i m *ℚ pivot h m *ℚ factor h k m)) (left_of-zero n i k (some_of n positive) l)
      ∙ by_ring (total n (λ m. factor h i m *ℚ pivot h m *ℚ factor h k m) ∷ []) (search reads depth 30) (search reads depth 30) tt
