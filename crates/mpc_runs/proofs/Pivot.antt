use Rattle.std.proofs.Common.{◌≡◌, ◌≢◌, ℕ, true, false, eqb, pos, [], ◌∷◌, refl, sym, ◌∙◌, ap, subst, ◌⊎◌, inl, inr, eq-eqb, ne_eqb}
use Rattle.std.proofs.lemmas.Bool.{cond-true, cond-false, cases_eq, both_ways}
use Rattle.mpc_exact.specs.Rational.{ℚ, int, ◌+ℚ◌, ◌-ℚ◌, ◌*ℚ◌, ◌/ℚ◌, neg_ℚ, inv_ℚ}
use Rattle.mpc_exact.proofs.Rational.{*ℚ_inv}
use Rattle.mpc_exact.proofs.RationalRing.{reads, by_ring, by_equation}
use Rattle.mpc_space.specs.Total.{unit}
use Rattle.mpc_rows.specs.Run.{Position, IsTableau, entering_row, other_row, pivot}
use Rattle.mpc_space.proofs.Total.{unit-same, unit-other}

-- ---- the definition, case by case
module _ (p : Position) (l e : ℕ) where
  pub entering-at_leaving : entering_row p l e l ≡ inv_ℚ (p.coefficient l e)
  unfolding entering_row
  entering-at_leaving = cond-true (eqb l l) _ _ (eq-eqb l l refl)

  pub entering-at_entering : (e ≡ l → ⊥) → entering_row p l e e ≡ int (pos 0)
  unfolding entering_row
  entering-at_entering h = cond-false (eqb e l) _ _ (ne_eqb e l h) ∙ cond-true (eqb e e) _ _ (eq-eqb e e refl)

  pub entering-other : (y : ℕ) → (y ≡ l → ⊥) → (y ≡ e → ⊥) → entering_row p l e y ≡ neg_ℚ (p.coefficient l y) /ℚ p.coefficient l e
  unfolding entering_row
  entering-other y h k = cond-false (eqb y l) _ _ (ne_eqb y l h) ∙ cond-false (eqb y e) _ _ (ne_eqb y e k)

  pub other-at_entering : (x : ℕ) → other_row p l e x e ≡ int (pos 0)
  unfolding other_row
  other-at_entering x = cond-true (eqb e e) _ _ (eq-eqb e e refl)

  pub other-at_leaving : (x : ℕ) → (l ≡ e → ⊥) → other_row p l e x l ≡ p.coefficient x e *ℚ entering_row p l e l
  unfolding other_row
  other-at_leaving x h = cond-false (eqb l e) _ _ (ne_eqb l e h) ∙ cond-true (eqb l l) _ _ (eq-eqb l l refl)

  pub other-other : (x y : ℕ) → (y ≡ l → ⊥) → (y ≡ e → ⊥) → other_row p l e x y ≡ p.coefficient x y +ℚ p.coefficient x e *ℚ entering_row p l e y
  unfolding other_row
  other-other x y h k = cond-false (eqb y e) _ _ (ne_eqb y e k) ∙ cond-false (eqb y l) _ _ (ne_eqb y l h)

  pub pivot-at_leaving : (y : ℕ) → (pivot p l e).coefficient l y ≡ unit l y
  unfolding pivot
  pivot-at_leaving y = cond-true (eqb l l) _ _ (eq-eqb l l refl)

  pub pivot-at_entering : (y : ℕ) → (e ≡ l → ⊥) → (pivot p l e).coefficient e y ≡ entering_row p l e y
  unfolding pivot
  pivot-at_entering y h = cond-false (eqb e l) _ _ (ne_eqb e l h) ∙ cond-true (eqb e e) _ _ (eq-eqb e e refl)

  pub pivot-other : (x y : ℕ) → (x ≡ l → ⊥) → (x ≡ e → ⊥) → (pivot p l e).coefficient x y ≡ other_row p l e x y
  unfolding pivot
  pivot-other x y h k = cond-false (eqb x l) _ _ (ne_eqb x l h) ∙ cond-false (eqb x e) _ _ (ne_eqb x e k)

  pub basic-at_leaving : (pivot p l e).is_basic l ≡ false
  unfolding pivot
  basic-at_leaving = cond-true (eqb l l) _ _ (eq-eqb l l refl)

  pub basic-at_entering : (e ≡ l → ⊥) → (pivot p l e).is_basic e ≡ true
  unfolding pivot
  basic-at_entering h = cond-false (eqb e l) _ _ (ne_eqb e l h) ∙ cond-true (eqb e e) _ _ (eq-eqb e e refl)

  pub basic-other : (x : ℕ) → (x ≡ l → ⊥) → (x ≡ e → ⊥) → (pivot p l e).is_basic x ≡ p.is_basic x
  unfolding pivot
  basic-other x h k = cond-false (eqb x l) _ _ (ne_eqb x l h) ∙ cond-false (eqb x e) _ _ (ne_eqb x e k)

-- ---- one law for all rows: to each row is added its coefficient on the entering variable, times one vector
abbrev pub Update : ℚ → ℚ → ℚ → ℚ → ℚ → ℚ
Update c k u r i = c +ℚ k *ℚ ((u -ℚ r) *ℚ i)

update-leaving : (q i u r : ℚ) → q *ℚ i ≡ int (pos 1) → u ≡ Update r q u r i
update-leaving q i u r e = by_equation (r -ℚ u) e (by_ring (q ∷ i ∷ u ∷ r ∷ []) (search reads depth 30) (search reads depth 30) tt)

-- the row of the entering variable itself, at the leaving one, at itself and elsewhere
update-new_leaving : (c k u r i : ℚ) → c ≡ int (pos 0) → k ≡ int (pos 1) → u ≡ int (pos 1) → r ≡ int (pos 0) → i ≡ Update c k u r i
update-new_leaving c k u r i e f g h = by_ring (i ∷ []) (search reads depth 30) (search reads depth 30) tt ∙ sym (λ j. Update (e j) (f j) (g j) (h j) i)

update-new_entering : (c k u r i : ℚ) → c ≡ int (pos 1) → k ≡ int (pos 1) → u ≡ int (pos 0) → r *ℚ i ≡ int (pos 1) → int (pos 0) ≡ Update c k u r i
update-new_entering c k u r i e f g h =
    by_equation {l = int (pos 0)} {r = Update (int (pos 1)) (int (pos 1)) (int (pos 0)) r i} (int (pos 1)) h (by_ring (r ∷ i ∷ []) (search reads depth 30) (search reads depth 30) tt)
    ∙ sym (λ j. Update (e j) (f j) (g j) r i)

update-new_other : (c k u r i : ℚ) → c ≡ int (pos 0) → k ≡ int (pos 1) → u ≡ int (pos 0) → neg_ℚ r *ℚ i ≡ Update c k u r i
update-new_other c k u r i e f g = by_ring (r ∷ i ∷ []) (search reads depth 30) (search reads depth 30) tt ∙ sym (λ j. Update (e j) (f j) (g j) r i)

update-old_entering : (k u r i : ℚ) → u ≡ int (pos 0) → r *ℚ i ≡ int (pos 1) → int (pos 0) ≡ Update k k u r i
update-old_entering k u r i g h =
    by_equation {l = int (pos 0)} {r = Update k k (int (pos 0)) r i} k h (by_ring (k ∷ r ∷ i ∷ []) (search reads depth 30) (search reads depth 30) tt)
    ∙ sym (λ j. Update k k (g j) r i)

update-old_leaving : (c k u r i : ℚ) → c ≡ int (pos 0) → u ≡ int (pos 1) → r ≡ int (pos 0) → k *ℚ i ≡ Update c k u r i
update-old_leaving c k u r i e g h = by_ring (k ∷ i ∷ []) (search reads depth 30) (search reads depth 30) tt ∙ sym (λ j. Update (e j) k (g j) (h j) i)

update-old_other : (c k u r i : ℚ) → u ≡ int (pos 0) → c +ℚ k *ℚ (neg_ℚ r *ℚ i) ≡ Update c k u r i
update-old_other c k u r i g = by_ring (c ∷ k ∷ r ∷ i ∷ []) (search reads depth 30) (search reads depth 30) tt ∙ sym (λ j. Update c k (g j) r i)

module _ (p : Position) (t : IsTableau p) (l e : ℕ) (basic : p.is_basic l ≡ true) (free : p.is_basic e ≡ false) (some : p.coefficient l e ≢ int (pos 0)) where
  apart : e ≡ l → ⊥
  apart h = both_ways (p.is_basic e) free (subst (λ x. p.is_basic x ≡ true) (sym h) basic)

  abbrev factor : ℕ → ℚ
  factor y = (unit l y -ℚ p.coefficient l y) *ℚ inv_ℚ (p.coefficient l e)

  -- rows of the leaving, the entering and any other variable
  update_leaving : (y : ℕ) → (pivot p l e).coefficient l y ≡ p.coefficient l y +ℚ p.coefficient l e *ℚ factor y
  update_leaving y = pivot-at_leaving p l e y ∙ update-leaving (p.coefficient l e) (inv_ℚ (p.coefficient l e)) (unit l y) (p.coefficient l y) (*ℚ_inv (p.coefficient l e) some)

  entering_cases : (y : ℕ) → (y ≡ l) ⊎ (y ≡ l → ⊥) → (y ≡ e) ⊎ (y ≡ e → ⊥) → entering_row p l e y ≡ p.coefficient e y +ℚ p.coefficient e e *ℚ factor y
  entering_cases y (inl f) d =
      subst (λ z. entering_row p l e z ≡ p.coefficient e z +ℚ p.coefficient e e *ℚ factor z) (sym f)
      (entering-at_leaving p l e ∙ update-new_leaving (p.coefficient e l) (p.coefficient e e) (unit l l) (p.coefficient l l) (inv_ℚ (p.coefficient l e)) (t.empty e l basic) (t.own e e free ∙ unit-same e e refl) (unit-same l l refl) (t.empty l l basic))
  entering_cases y (inr f) (inl g) =
      subst (λ z. entering_row p l e z ≡ p.coefficient e z +ℚ p.coefficient e e *ℚ factor z) (sym g)
      (entering-at_entering p l e apart ∙ update-new_entering (p.coefficient e e) (p.coefficient e e) (unit l e) (p.coefficient l e) (inv_ℚ (p.coefficient l e)) (t.own e e free ∙ unit-same e e refl) (t.own e e free ∙ unit-same e e refl) (unit-other l e (λ h. apart (sym h))) (*ℚ_inv (p.coefficient l e) some))
  entering_cases y (inr f) (inr g) =
      entering-other p l e y f g
      ∙ update-new_other (p.coefficient e y) (p.coefficient e e) (unit l y) (p.coefficient l y) (inv_ℚ (p.coefficient l e)) (t.own e y free ∙ unit-other e y (λ h. g (sym h))) (t.own e e free ∙ unit-same e e refl) (unit-other l y (λ h. f (sym h)))

  update_entering : (y : ℕ) → (pivot p l e).coefficient e y ≡ p.coefficient e y +ℚ p.coefficient e e *ℚ factor y
  update_entering y = pivot-at_entering p l e y apart ∙ entering_cases y (cases_eq y l) (cases_eq y e)

  other_cases : (x y : ℕ) → (y ≡ l) ⊎ (y ≡ l → ⊥) → (y ≡ e) ⊎ (y ≡ e → ⊥) → other_row p l e x y ≡ p.coefficient x y +ℚ p.coefficient x e *ℚ factor y
  other_cases x y (inl f) d =
      subst (λ z. other_row p l e x z ≡ p.coefficient x z +ℚ p.coefficient x e *ℚ factor z) (sym f)
      (other-at_leaving p l e x (λ h. apart (sym h)) ∙ ap (λ u. p.coefficient x e *ℚ u) (entering-at_leaving p l e)
      ∙ update-old_leaving (p.coefficient x l) (p.coefficient x e) (unit l l) (p.coefficient l l) (inv_ℚ (p.coefficient l e)) (t.empty x l basic) (unit-same l l refl) (t.empty l l basic))
  other_cases x y (inr f) (inl g) =
      subst (λ z. other_row p l e x z ≡ p.coefficient x z +ℚ p.coefficient x e *ℚ factor z) (sym g)
      (other-at_entering p l e x ∙ update-old_entering (p.coefficient x e) (unit l e) (p.coefficient l e) (inv_ℚ (p.coefficient l e)) (unit-other l e (λ h. apart (sym h))) (*ℚ_inv (p.coefficient l e) some))
  other_cases x y (inr f) (inr g) =
      other-other p l e x y f g ∙ ap (λ u. p.coefficient x y +ℚ p.coefficient x e *ℚ u) (entering-other p l e y f g)
      ∙ update-old_other (p.coefficient x y) (p.coefficient x e) (unit l y) (p.coefficient l y) (inv_ℚ (p.coefficient l e)) (unit-other l y (λ h. f (sym h)))

  update_cases : (x y : ℕ) → (x ≡ l) ⊎ (x ≡ l → ⊥) → (x ≡ e) ⊎ (x ≡ e → ⊥) → (pivot p l e).coefficient x y ≡ p.coefficient x y +ℚ p.coefficient x e *ℚ factor y
  update_cases x y (inl f) d = subst (λ z. (pivot p l e).coefficient z y ≡ p.coefficient z y +ℚ p.coefficient z e *ℚ factor y) (sym f) (update_leaving y)
  update_cases x y (inr f) (inl g) = subst (λ z. (pivot p l e).coefficient z y ≡ p.coefficient z y +ℚ p.coefficient z e *ℚ factor y) (sym g) (update_entering y)
  update_cases x y (inr f) (inr g) = pivot-other p l e x y f g ∙ other_cases x y (cases_eq y l) (cases_eq y e)

  pub update : (x y : ℕ) → (pivot p l e).coefficient x y ≡ p.coefficient x y +ℚ p.coefficient x e *ℚ ((unit l y -ℚ p.coefficient l y) *ℚ inv_ℚ (p.coefficient l e))
  update x y = update_cases x y (cases_eq x l) (cases_eq x e)
