-- The entries after a pivot, as the code takes them case by case.
use Rattle.std.proofs.Common.{◌≡◌, ℕ, true, [], ◌∷◌, ◌⊎◌, inl, inr, pos, sym, ◌∙◌, ap, subst}
use Rattle.std.proofs.lemmas.Bool.{cases_eq}
use Rattle.mpc_exact.specs.Rational.{ℚ, int, ◌+ℚ◌, ◌*ℚ◌, neg_ℚ, inv_ℚ}
use Rattle.mpc_space.specs.Total.{unit}
use Rattle.mpc_exact.proofs.RationalRing.{reads, by_ring}
use Rattle.mpc_rows.specs.Run.{Position, IsTableau, entering_row, other_row, pivot}
use Rattle.mpc_runs.proofs.Pivot.{entering-at_leaving, entering-at_entering, entering-other, other-at_entering, other-at_leaving, other-other, pivot-at_leaving, pivot-at_entering, pivot-other}

module _ (p : Position) (l e : ℕ) where
  pub entering_leaving : (y : ℕ) → y ≡ l → inv_ℚ (p.coefficient l e) ≡ entering_row p l e y
  entering_leaving y h = sym (ap (entering_row p l e) h ∙ entering-at_leaving p l e)

  pub entering_zero : (y : ℕ) → (y ≡ l → ⊥) → y ≡ e → int (pos 0) ≡ entering_row p l e y
  entering_zero y h k = sym (ap (entering_row p l e) k ∙ entering-at_entering p l e (λ q. h (k ∙ q)))

  pub entering_else : (y : ℕ) → (y ≡ l → ⊥) → (y ≡ e → ⊥) → neg_ℚ (p.coefficient l y) *ℚ inv_ℚ (p.coefficient l e) ≡ entering_row p l e y
  entering_else y h k = sym (entering-other p l e y h k)

  pub other_zero : (x y : ℕ) → y ≡ e → int (pos 0) ≡ other_row p l e x y
  other_zero x y h = sym (ap (other_row p l e x) h ∙ other-at_entering p l e x)

  pub other_leaving : (x y : ℕ) → (y ≡ e → ⊥) → y ≡ l → p.coefficient x e *ℚ entering_row p l e y ≡ other_row p l e x y
  other_leaving x y h k = ap (λ z. p.coefficient x e *ℚ entering_row p l e z) k ∙ sym (ap (other_row p l e x) k ∙ other-at_leaving p l e x (λ q. h (k ∙ q)))

  pub other_else : (x y : ℕ) → (y ≡ e → ⊥) → (y ≡ l → ⊥) → p.coefficient x y +ℚ p.coefficient x e *ℚ entering_row p l e y ≡ other_row p l e x y
  other_else x y h k = sym (other-other p l e x y k h)

  pub new_leaving : (x y : ℕ) → x ≡ l → unit l y ≡ (pivot p l e).coefficient x y
  new_leaving x y h = sym (ap (λ z. (pivot p l e).coefficient z y) h ∙ pivot-at_leaving p l e y)

  pub new_entering : (x y : ℕ) → (x ≡ l → ⊥) → x ≡ e → entering_row p l e y ≡ (pivot p l e).coefficient x y
  new_entering x y h k = sym (ap (λ z. (pivot p l e).coefficient z y) k ∙ pivot-at_entering p l e y (λ q. h (k ∙ q)))

  pub new_other : (x y : ℕ) → (x ≡ l → ⊥) → (x ≡ e → ⊥) → other_row p l e x y ≡ (pivot p l e).coefficient x y
  new_other x y h k = sym (pivot-other p l e x y h k)

-- ---- where nothing has to be formed
nothing : (c i : ℚ) → c ≡ int (pos 0) → int (pos 0) ≡ neg_ℚ c *ℚ i
nothing c i e = by_ring (i ∷ []) (search reads depth 30) (search reads depth 30) tt ∙ ap (λ z. neg_ℚ z *ℚ i) (sym e)

still : (c k r : ℚ) → k ≡ int (pos 0) → c ≡ c +ℚ k *ℚ r
still c k r e = by_ring (c ∷ r ∷ []) (search reads depth 30) (search reads depth 30) tt ∙ ap (λ z. c +ℚ z *ℚ r) (sym e)

both_nothing : (c k r : ℚ) → c ≡ int (pos 0) → r ≡ int (pos 0) → int (pos 0) ≡ c +ℚ k *ℚ r
both_nothing c k r e f = by_ring (k ∷ []) (search reads depth 30) (search reads depth 30) tt ∙ (λ i. sym e i +ℚ k *ℚ sym f i)

zero_product : (c k r : ℚ) → c ≡ int (pos 0) → k ≡ int (pos 0) → c ≡ k *ℚ r
zero_product c k r e f = e ∙ by_ring (r ∷ []) (search reads depth 30) (search reads depth 30) tt ∙ ap (λ z. z *ℚ r) (sym f)

module _ (p : Position) (t : IsTableau p) (l e : ℕ) (basic : p.is_basic l ≡ true) where
  pub entering_empty : (y : ℕ) → (y ≡ l → ⊥) → (y ≡ e → ⊥) → p.is_basic y ≡ true → int (pos 0) ≡ entering_row p l e y
  entering_empty y h k b = nothing (p.coefficient l y) (inv_ℚ (p.coefficient l e)) (t.empty l y b) ∙ entering_else p l e y h k

  pub other_still : (x y : ℕ) → (y ≡ e → ⊥) → p.coefficient x e ≡ int (pos 0) → p.coefficient x y ≡ other_row p l e x y
  other_still x y h k = by (cases_eq y l)
    where
      by : (y ≡ l) ⊎ (y ≡ l → ⊥) → p.coefficient x y ≡ other_row p l e x y
      by (inl q) = zero_product (p.coefficient x y) (p.coefficient x e) (entering_row p l e y) (t.empty x y (subst (λ z. p.is_basic z ≡ true) (sym q) basic)) k ∙ other_leaving p l e x y h q
      by (inr q) = still (p.coefficient x y) (p.coefficient x e) (entering_row p l e y) k ∙ other_else p l e x y h q

  pub other_empty : (x y : ℕ) → (y ≡ e → ⊥) → (y ≡ l → ⊥) → p.is_basic y ≡ true → int (pos 0) ≡ other_row p l e x y
  other_empty x y h k b = both_nothing (p.coefficient x y) (p.coefficient x e) (entering_row p l e y) (t.empty x y b) (sym (entering_empty y k h b)) ∙ other_else p l e x y h k
