-- A pivot that isn't positive gives numbers, not all 0, at which the form isn't positive: by back substitution.
use Rattle.std.proofs.Common.{◌≡◌, ℕ, zero, suc, ◌+◌, ◌<◌, pos, [], ◌∷◌, refl, sym, ◌∙◌, ap, subst, arith, ◌⊎◌, inl, inr}
use Rattle.std.proofs.lemmas.Bool.{cases_eq}
use Rattle.mpc_exact.specs.Rational.{ℚ, int, ◌+ℚ◌, ◌-ℚ◌, ◌*ℚ◌, neg_ℚ, inv_ℚ, ◌≤ℚ◌}
use Rattle.mpc_exact.proofs.Rational.{*ℚ_inv}
use Rattle.mpc_exact.proofs.RationalRing.{reads, by_ring, by_equation}
use Rattle.mpc_space.specs.Total.{unit}
use Rattle.mpc_definite.specs.Pivots.{left_of, pivot}
use Rattle.mpc_space.proofs.Total.{total-same, total-zeros, total-add, total-scale, unit-same, unit-other}
use Rattle.mpc_definite.proofs.Totals.{total-unit_right}
use Rattle.mpc_definite.proofs.Squares.{applied, form, form-suc, left_of-sym, left_of-zero, column_form, PositiveBelow, positive_not_zero}

module _ (h : ℕ → ℕ → ℚ) (sym_h : (i k : ℕ) → h i k ≡ h k i) where
  pub record NotPositive (n i j : ℕ) : Type 0 where
    pub at : ℕ → ℚ
    pub one : at j ≡ int (pos 1)
    pub small : form n (left_of h i) at ≤ℚ int (pos 0)

  form-unit : (n j : ℕ) (m : ℕ → ℕ → ℚ) → j < n → form n m (unit j) ≡ m j j
  form-unit n j m l =
      total-same n (λ i. unit j i *ℚ applied n m (unit j) i) (λ i. m i j *ℚ unit j i)
      (λ i k. ap (λ u. unit j i *ℚ u) (total-unit_right n j (m i) l) ∙ by_ring (unit j i ∷ m i j ∷ []) (search reads depth 30) (search reads depth 30) tt)
      ∙ total-unit_right n j (λ i. m i j) l

  -- w with c taken away at the place i
  lowered : (ℕ → ℚ) → ℕ → ℚ → ℕ → ℚ
  lowered w i c k = w k -ℚ c *ℚ unit i k

  lowered-other : (w : ℕ → ℚ) (i : ℕ) (c : ℚ) (k : ℕ) → (k ≡ i → ⊥) → lowered w i c k ≡ w k
  unfolding lowered
  lowered-other w i c k other = ap (λ u. w k -ℚ c *ℚ u) (unit-other i k (λ e. other (sym e))) ∙ by_ring (w k ∷ c ∷ []) (search reads depth 30) (search reads depth 30) tt

  column_form-lowered : (n i : ℕ) (w : ℕ → ℚ) (c : ℚ) → i < n → column_form h n i (lowered w i c) ≡ column_form h n i w -ℚ c *ℚ pivot h i
  unfolding lowered
  column_form-lowered n i w c l =
      total-same n (λ k. left_of h i k i *ℚ (w k -ℚ c *ℚ unit i k)) (λ k. left_of h i k i *ℚ w k +ℚ neg_ℚ c *ℚ (left_of h i k i *ℚ unit i k))
      (λ k q. by_ring (left_of h i k i ∷ w k ∷ c ∷ unit i k ∷ []) (search reads depth 30) (search reads depth 30) tt)
      ∙ total-add n (λ k. left_of h i k i *ℚ w k) (λ k. neg_ℚ c *ℚ (left_of h i k i *ℚ unit i k))
      ∙ ap (λ u. column_form h n i w +ℚ u) (total-scale n (neg_ℚ c) (λ k. left_of h i k i *ℚ unit i k) ∙ ap (λ u. neg_ℚ c *ℚ u) (total-unit_right n i (λ k. left_of h i k i) l))
      ∙ by_ring (column_form h n i w ∷ c ∷ pivot h i ∷ []) (search reads depth 30) (search reads depth 30) tt

  -- where row and column i of m are 0, the value at i doesn't count
  form-lowered : (n i : ℕ) (m : ℕ → ℕ → ℚ) (w : ℕ → ℚ) (c : ℚ) → ((k : ℕ) → m i k ≡ int (pos 0)) → ((k : ℕ) → m k i ≡ int (pos 0)) → form n m (lowered w i c) ≡ form n m w
  form-lowered n i m w c row column =
      total-same n (λ k. lowered w i c k *ℚ applied n m (lowered w i c) k) (λ k. w k *ℚ applied n m w k)
      (λ k l. ap (λ u. lowered w i c k *ℚ u) (total-same n (λ q. m k q *ℚ lowered w i c q) (λ q. m k q *ℚ w q) (λ q p. inner k q (cases_eq q i))) ∙ outer k (cases_eq k i))
    where
      zero_times : (a b d : ℚ) → a ≡ int (pos 0) → a *ℚ b ≡ a *ℚ d
      zero_times a b d e = ap (λ u. u *ℚ b) e ∙ by_ring (b ∷ d ∷ []) (search reads depth 30) (search reads depth 30) tt ∙ ap (λ u. u *ℚ d) (sym e)

      times_zero : (a b d : ℚ) → a ≡ int (pos 0) → b *ℚ a ≡ d *ℚ a
      times_zero a b d e = ap (λ u. b *ℚ u) e ∙ by_ring (b ∷ d ∷ []) (search reads depth 30) (search reads depth 30) tt ∙ ap (λ u. d *ℚ u) (sym e)

      inner : (k q : ℕ) → (q ≡ i) ⊎ (q ≡ i → ⊥) → m k q *ℚ lowered w i c q ≡ m k q *ℚ w q
      inner k q (inl e) = zero_times (m k q) (lowered w i c q) (w q) (ap (m k) e ∙ column k)
      inner k q (inr e) = ap (λ u. m k q *ℚ u) (lowered-other w i c q e)

      no_row : applied n m w i ≡ int (pos 0)
      no_row = total-zeros n (λ q. m i q *ℚ w q) (λ q p. ap (λ u. u *ℚ w q) (row q) ∙ by_ring (w q ∷ []) (search reads depth 30) (search reads depth 30) tt)

      outer : (k : ℕ) → (k ≡ i) ⊎ (k ≡ i → ⊥) → lowered w i c k *ℚ applied n m w k ≡ w k *ℚ applied n m w k
      outer k (inl e) = times_zero (applied n m w k) (lowered w i c k) (w k) (ap (applied n m w) e ∙ no_row)
      outer k (inr e) = ap (λ u. u *ℚ applied n m w k) (lowered-other w i c k e)

  back : (n i j : ℕ) → i < j → j < n → PositiveBelow h j → NotPositive n (suc i) j → NotPositive n i j
  back n i j l k positive r = record {
    at = lowered r.at i c;
    one = lowered-other r.at i c j (λ e. omega arith) ∙ r.one;
    small = subst (λ u. u ≤ℚ int (pos 0)) (sym same) r.small;
  }
    where
      e : ℚ
      e = inv_ℚ (pivot h i)

      c : ℚ
      c = e *ℚ column_form h n i r.at

      some : (m : ℕ) → m < j → pivot h m ≡ int (pos 0) → ⊥
      some m q = positive_not_zero (positive m q)

      row : (q : ℕ) → left_of h (suc i) i q ≡ int (pos 0)
      row q = left_of-zero h sym_h (suc i) i q (λ m p. some m (omega arith)) (omega arith)

      cleared : column_form h n i (lowered r.at i c) ≡ int (pos 0)
      cleared =
          column_form-lowered n i r.at c (omega arith)
          ∙ by_equation (neg_ℚ (column_form h n i r.at)) (*ℚ_inv (pivot h i) (some i l)) (by_ring (pivot h i ∷ e ∷ column_form h n i r.at ∷ []) (search reads depth 30) (search reads depth 30) tt)

      same : form n (left_of h i) (lowered r.at i c) ≡ form n (left_of h (suc i)) r.at
      same =
          form-suc h sym_h n i (lowered r.at i c)
          ∙ (λ t. e *ℚ (cleared t *ℚ cleared t) +ℚ form-lowered n i (left_of h (suc i)) r.at c row (λ q. left_of-sym h sym_h (suc i) q i ∙ row q) t)
          ∙ by_ring (e ∷ form n (left_of h (suc i)) r.at ∷ []) (search reads depth 30) (search reads depth 30) tt

  down_to : (m n i j : ℕ) → i + m ≡ j → j < n → PositiveBelow h j → pivot h j ≤ℚ int (pos 0) → NotPositive n i j
  down_to zero n i j e l positive small =
      subst (λ v. NotPositive n v j) (omega arith)
      (let at_j : NotPositive n j j = record { at = unit j; one = unit-same j j refl; small = subst (λ u. u ≤ℚ int (pos 0)) (sym (form-unit n j (left_of h j) l)) small } in at_j)
  down_to (suc m) n i j e l positive small = back n i j (omega arith) l positive (down_to m n (suc i) j (omega arith) l positive small)

  pub not_positive : (n j : ℕ) → j < n → PositiveBelow h j → pivot h j ≤ℚ int (pos 0) → NotPositive n 0 j
  not_positive n j l positive small = down_to j n 0 j (omega arith) l positive small
