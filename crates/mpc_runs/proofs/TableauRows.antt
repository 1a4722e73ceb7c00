use Rattle.std.proofs.Common.{◌≡◌, ◌≢◌, ℕ, ◌-◌, ◌<◌, true, false, pos, negsuc, [], ◌∷◌, refl, sym, ◌∙◌, ap, subst, ◌⊎◌, inl, inr}
use Rattle.std.proofs.lemmas.Bool.{cond-true, cond-false, cases_eq, cases_Bool, both_ways, not-true, not-false}
use Rattle.mpc_exact.specs.Rational.{ℚ, int, ◌+ℚ◌, ◌-ℚ◌, ◌*ℚ◌, neg_ℚ, inv_ℚ}
use Rattle.mpc_exact.proofs.Rational.{*ℚ_inv}
use Rattle.mpc_exact.proofs.RationalRing.{reads, by_ring, by_equation, by_equations}
use Rattle.mpc_space.specs.Total.{total, unit}
use Rattle.mpc_rows.specs.LinearSystem.{LinearSystem, entry}
use Rattle.mpc_rows.specs.Run.{Position, IsTableau, pivot, opening, is_unknown}
use Rattle.mpc_space.proofs.Total.{unit-same, unit-other, total-same, total-add, total-scale, total-unit}
use Rattle.mpc_runs.proofs.Pivot.{update, basic-at_leaving, basic-at_entering, basic-other}

-- the left side of a variable's row, at the values x of all n variables
abbrev pub row_value : ℕ → Position → (ℕ → ℚ) → ℕ → ℚ
row_value n p x i = total n (λ y. p.coefficient i y *ℚ x y)

-- the values x of all n variables meet the rows of the position
pub record Meets (n : ℕ) (p : Position) (x : ℕ → ℚ) : Type 0 where
  pub at : (i : ℕ) → i < n → x i ≡ row_value n p x i

zero_update : (c k u r i : ℚ) → c ≡ int (pos 0) → u ≡ int (pos 0) → r ≡ int (pos 0) → c +ℚ k *ℚ ((u -ℚ r) *ℚ i) ≡ int (pos 0)
zero_update c k u r i e f g = (λ j. e j +ℚ k *ℚ ((f j -ℚ g j) *ℚ i)) ∙ by_ring (k ∷ i ∷ []) (search reads depth 30) (search reads depth 30) tt

cancelled : (k u r i : ℚ) → u ≡ int (pos 0) → r *ℚ i ≡ int (pos 1) → k +ℚ k *ℚ ((u -ℚ r) *ℚ i) ≡ int (pos 0)
cancelled k u r i f h = ap (λ z. k +ℚ k *ℚ ((z -ℚ r) *ℚ i)) f ∙ by_equation (neg_ℚ k) h (by_ring (k ∷ r ∷ i ∷ []) (search reads depth 30) (search reads depth 30) tt)

same_update : (c k w : ℚ) → k ≡ int (pos 0) → c +ℚ k *ℚ w ≡ c
same_update c k w e = ap (λ z. c +ℚ z *ℚ w) e ∙ by_ring (c ∷ w ∷ []) (search reads depth 30) (search reads depth 30) tt

term_update : (c k u r i x : ℚ) → (c +ℚ k *ℚ ((u -ℚ r) *ℚ i)) *ℚ x ≡ c *ℚ x +ℚ (k *ℚ i) *ℚ (u *ℚ x +ℚ int (negsuc 0) *ℚ (r *ℚ x))
term_update c k u r i x = by_ring (c ∷ k ∷ u ∷ r ∷ i ∷ x ∷ []) (search reads depth 30) (search reads depth 30) tt

sum_update : (c k i x r : ℚ) → c +ℚ (k *ℚ i) *ℚ (x +ℚ int (negsuc 0) *ℚ r) ≡ c +ℚ k *ℚ ((x -ℚ r) *ℚ i)
sum_update c k i x r = by_ring (c ∷ k ∷ x ∷ r ∷ i ∷ []) (search reads depth 30) (search reads depth 30) tt

no_change : (c k x r i : ℚ) → x ≡ r → c +ℚ k *ℚ ((x -ℚ r) *ℚ i) ≡ c
no_change c k x r i e = ap (λ z. c +ℚ k *ℚ ((z -ℚ r) *ℚ i)) e ∙ by_ring (c ∷ k ∷ r ∷ i ∷ []) (search reads depth 30) (search reads depth 30) tt

-- from c = c + 1 ((x - r) i) and q i = 1
must_hold : (c k x r i q : ℚ) → c ≡ c +ℚ k *ℚ ((x -ℚ r) *ℚ i) → k ≡ int (pos 1) → q *ℚ i ≡ int (pos 1) → x ≡ r
must_hold c k x r i q e f h =
    by_equations {l = x} {r = r} {s = c} {t = c +ℚ int (pos 1) *ℚ ((x -ℚ r) *ℚ i)} {u = q *ℚ i} {v = int (pos 1)} (neg_ℚ q) (r -ℚ x) (e ∙ ap (λ z. c +ℚ z *ℚ ((x -ℚ r) *ℚ i)) f) h
    (by_ring (c ∷ x ∷ r ∷ i ∷ q ∷ []) (search reads depth 30) (search reads depth 30) tt)

module _ (p : Position) (t : IsTableau p) (l e : ℕ) (basic : p.is_basic l ≡ true) (free : p.is_basic e ≡ false) (some : p.coefficient l e ≢ int (pos 0)) where
  apart : e ≡ l → ⊥
  apart h = both_ways (p.is_basic e) free (subst (λ x. p.is_basic x ≡ true) (sym h) basic)

  empty_cases : (x y : ℕ) → (pivot p l e).is_basic y ≡ true → (y ≡ l) ⊎ (y ≡ l → ⊥) → (y ≡ e) ⊎ (y ≡ e → ⊥) → (pivot p l e).coefficient x y ≡ int (pos 0)
  empty_cases x y h (inl f) d = absurd (both_ways ((pivot p l e).is_basic l) (basic-at_leaving p l e) (subst (λ z. (pivot p l e).is_basic z ≡ true) f h))
  empty_cases x y h (inr f) (inl g) =
      subst (λ z. (pivot p l e).coefficient x z ≡ int (pos 0)) (sym g)
      (update p t l e basic free some x e ∙ cancelled (p.coefficient x e) (unit l e) (p.coefficient l e) (inv_ℚ (p.coefficient l e)) (unit-other l e (λ h. apart (sym h))) (*ℚ_inv (p.coefficient l e) some))
  empty_cases x y h (inr f) (inr g) =
      let b : p.is_basic y ≡ true = sym (basic-other p l e y f g) ∙ h in
      update p t l e basic free some x y
      ∙ zero_update (p.coefficient x y) (p.coefficient x e) (unit l y) (p.coefficient l y) (inv_ℚ (p.coefficient l e)) (t.empty x y b) (unit-other l y (λ h. f (sym h))) (t.empty l y b)

  own_cases : (x y : ℕ) → (pivot p l e).is_basic x ≡ false → (x ≡ l) ⊎ (x ≡ l → ⊥) → (x ≡ e) ⊎ (x ≡ e → ⊥) → (pivot p l e).coefficient x y ≡ unit x y
  unfolding pivot
  own_cases x y h (inl f) d =
      subst (λ z. (pivot p l e).coefficient z y ≡ unit z y) (sym f)
      (update p t l e basic free some l y ∙ sym (own_update (p.coefficient l e) (inv_ℚ (p.coefficient l e)) (unit l y) (p.coefficient l y) (*ℚ_inv (p.coefficient l e) some)))
    where
      own_update : (q i u r : ℚ) → q *ℚ i ≡ int (pos 1) → u ≡ r +ℚ q *ℚ ((u -ℚ r) *ℚ i)
      own_update q i u r e = by_equation (r -ℚ u) e (by_ring (q ∷ i ∷ u ∷ r ∷ []) (search reads depth 30) (search reads depth 30) tt)
  own_cases x y h (inr f) (inl g) = absurd (both_ways ((pivot p l e).is_basic e) (subst (λ z. (pivot p l e).is_basic z ≡ false) g h) (basic-at_entering p l e apart))
  own_cases x y h (inr f) (inr g) =
      let b : p.is_basic x ≡ false = sym (basic-other p l e x f g) ∙ h in
      update p t l e basic free some x y
      ∙ same_update (p.coefficient x y) (p.coefficient x e) ((unit l y -ℚ p.coefficient l y) *ℚ inv_ℚ (p.coefficient l e)) (t.own x e b ∙ unit-other x e g) ∙ t.own x y b

  pub tableau_pivot : IsTableau (pivot p l e)
  tableau_pivot = record { empty = λ x y h. empty_cases x y h (cases_eq y l) (cases_eq y e); own = λ x y h. own_cases x y h (cases_eq x l) (cases_eq x e) }

  module _ (n : ℕ) (l_below : l < n) (e_below : e < n) (x : ℕ → ℚ) where
    pub row_pivot : (i : ℕ) → row_value n (pivot p l e) x i ≡ row_value n p x i +ℚ p.coefficient i e *ℚ ((x l -ℚ row_value n p x l) *ℚ inv_ℚ (p.coefficient l e))
    row_pivot i =
        let k = p.coefficient i e in
        let v = inv_ℚ (p.coefficient l e) in
        let m = int (negsuc 0) in
        total-same n (λ y. (pivot p l e).coefficient i y *ℚ x y) (λ y. p.coefficient i y *ℚ x y +ℚ (k *ℚ v) *ℚ (unit l y *ℚ x y +ℚ m *ℚ (p.coefficient l y *ℚ x y)))
        (λ y h. ap (λ c. c *ℚ x y) (update p t l e basic free some i y) ∙ term_update (p.coefficient i y) k (unit l y) (p.coefficient l y) v (x y))
        ∙ total-add n (λ y. p.coefficient i y *ℚ x y) (λ y. (k *ℚ v) *ℚ (unit l y *ℚ x y +ℚ m *ℚ (p.coefficient l y *ℚ x y)))
        ∙ ap (λ u. row_value n p x i +ℚ u)
        (total-scale n (k *ℚ v) (λ y. unit l y *ℚ x y +ℚ m *ℚ (p.coefficient l y *ℚ x y))
        ∙ ap (λ u. (k *ℚ v) *ℚ u)
        (total-add n (λ y. unit l y *ℚ x y) (λ y. m *ℚ (p.coefficient l y *ℚ x y))
        ∙ (λ j. total-unit n l x l_below j +ℚ total-scale n m (λ y. p.coefficient l y *ℚ x y) j)))
        ∙ sum_update (row_value n p x i) k v (x l) (row_value n p x l)

    pub meets_pivot : Meets n p x → Meets n (pivot p l e) x
    meets_pivot h = record {
      at = λ i b. h.at i b ∙ sym (row_pivot i ∙ no_change (row_value n p x i) (p.coefficient i e) (x l) (row_value n p x l) (inv_ℚ (p.coefficient l e)) (h.at l l_below));
    }

    own_row : x e ≡ row_value n p x e
    own_row = sym (total-same n (λ y. p.coefficient e y *ℚ x y) (λ y. unit e y *ℚ x y) (λ y h. ap (λ c. c *ℚ x y) (t.own e y free)) ∙ total-unit n e x e_below)

    leaving_met : Meets n (pivot p l e) x → x l ≡ row_value n p x l
    leaving_met h =
        must_hold (row_value n p x e) (p.coefficient e e) (x l) (row_value n p x l) (inv_ℚ (p.coefficient l e)) (p.coefficient l e) (sym own_row ∙ h.at e e_below ∙ row_pivot e) (t.own e e free ∙ unit-same e e refl) (*ℚ_inv (p.coefficient l e) some)

    pub pivot_meets : Meets n (pivot p l e) x → Meets n p x
    pivot_meets h = record {
      at = λ i b. h.at i b ∙ row_pivot i ∙ no_change (row_value n p x i) (p.coefficient i e) (x l) (row_value n p x l) (inv_ℚ (p.coefficient l e)) (leaving_met h);
    }

-- ---- the values of a position meet its rows: r says where the nonbasic variables stand
module _ (n : ℕ) (p : Position) (t : IsTableau p) (r : ℕ → ℚ) where
  pub stands : (y : ℕ) → y < n → p.is_basic y ≡ false → row_value n p r y ≡ r y
  stands y h b = total-same n (λ z. p.coefficient y z *ℚ r z) (λ z. unit y z *ℚ r z) (λ z k. ap (λ c. c *ℚ r z) (t.own y z b)) ∙ total-unit n y r h

  same_term : (x y : ℕ) → y < n → (p.is_basic y ≡ true) ⊎ (p.is_basic y ≡ false) → p.coefficient x y *ℚ r y ≡ p.coefficient x y *ℚ row_value n p r y
  same_term x y h (inl b) = ap (λ c. c *ℚ r y) (t.empty x y b) ∙ by_ring (r y ∷ row_value n p r y ∷ []) (search reads depth 30) (search reads depth 30) tt ∙ sym (ap (λ c. c *ℚ row_value n p r y) (t.empty x y b))
  same_term x y h (inr b) = ap (λ u. p.coefficient x y *ℚ u) (sym (stands y h b))

  pub values_meet : Meets n p (row_value n p r)
  values_meet = record { at = λ i b. total-same n (λ y. p.coefficient i y *ℚ r y) (λ y. p.coefficient i y *ℚ row_value n p r y) (λ y h. same_term i y h (cases_Bool (p.is_basic y))) }

-- ---- the opening
module _ (s : LinearSystem) where
  pub opening_known : (x y : ℕ) → is_unknown s x ≡ true → (opening s).coefficient x y ≡ unit x y
  unfolding opening
  opening_known x y h = cond-true (is_unknown s x) _ _ h

  pub opening_row : (x y : ℕ) → is_unknown s x ≡ false → is_unknown s y ≡ true → (opening s).coefficient x y ≡ entry s (x - s.width) y
  unfolding opening
  opening_row x y h k = cond-false (is_unknown s x) _ _ h ∙ cond-true (is_unknown s y) _ _ k

  pub opening_rest : (x y : ℕ) → is_unknown s x ≡ false → is_unknown s y ≡ false → (opening s).coefficient x y ≡ int (pos 0)
  unfolding opening
  opening_rest x y h k = cond-false (is_unknown s x) _ _ h ∙ cond-false (is_unknown s y) _ _ k

  opening_basic : (x : ℕ) → (opening s).is_basic x ≡ true → is_unknown s x ≡ false
  unfolding opening
  opening_basic x h = not-true (is_unknown s x) h

  pub opening_free : (x : ℕ) → (opening s).is_basic x ≡ false → is_unknown s x ≡ true
  unfolding opening
  opening_free x h = not-false (is_unknown s x) h

  opening_empty : (x y : ℕ) → is_unknown s y ≡ false → (is_unknown s x ≡ true) ⊎ (is_unknown s x ≡ false) → (opening s).coefficient x y ≡ int (pos 0)
  opening_empty x y h (inl k) = opening_known x y k ∙ unit-other x y (λ e. both_ways (is_unknown s y) h (subst (λ z. is_unknown s z ≡ true) e k))
  opening_empty x y h (inr k) = opening_rest x y k h

  pub tableau_opening : IsTableau (opening s)
  tableau_opening = record { empty = λ x y h. opening_empty x y (opening_basic y h) (cases_Bool (is_unknown s x)); own = λ x y h. opening_known x y (opening_free x h) }
