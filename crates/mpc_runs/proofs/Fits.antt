-- What the code knows of the numbers that fit, over plain variables.
use Rattle.std.proofs.Common.{◌≡◌, ℕ, ◌+◌, ◌<◌, ◌≤◌, Bool, false, pos, [], ◌∷◌, sym, ◌∙◌, ap, subst, subst₂, arith, ⊎_elim, add-one, lt-ltb}
use Rattle.std.proofs.lemmas.Bool.{cases_eq}
use Rattle.mpc_exact.specs.Rational.{ℚ, int, ◌+ℚ◌, ◌*ℚ◌}
use Rattle.mpc_frac.specs.Fits.{FitsFrac, FitsSum}
use Rattle.mpc_linear.specs.Dot.{TermFits as Part}
use Rattle.mpc_linear.specs.ZeroTheorems.{ZeroTheorems}
use Rattle.mpc_exact.specs.Pair.{Pair}
use Rattle.mpc_runs.proofs.Read.{rest_unknown}
use Rattle.mpc_exact.proofs.RationalRing.{reads, by_ring}
use Rattle.mpc_space.specs.Total.{total}
use Rattle.mpc_rows.specs.LinearSystem.{LinearSystem}
use Rattle.mpc_rows.specs.Run.{Position, IsTableau, count, value, rest}
use Rattle.mpc_runs.proofs.TableauRows.{stands}
use Rattle.mpc_rows.specs.RunWidth.{TermFits, ValueFits}
use Rattle.mpc_space.proofs.Total.{total-suc, total-zeros}
use Rattle.mpc_runs.proofs.Table.{first_terms, second_terms}

zero_end : (a x : ℚ) → a +ℚ int (pos 0) *ℚ x ≡ a
zero_end a x = by_ring (a ∷ x ∷ []) (search reads depth 30) (search reads depth 30) tt

-- a term with the coefficient 0
pub skip_term : (c f : ℕ → ℚ) (y : ℕ) (sum : ℚ) → sum ≡ total y (λ z. c z *ℚ f z) → c y ≡ int (pos 0) → sum ≡ total (y + 1) (λ z. c z *ℚ f z)
skip_term c f y sum e h =
    e ∙ sym (ap (λ m. total m (λ z. c z *ℚ f z)) (add-one y) ∙ total-suc y (λ z. c z *ℚ f z) ∙ ap (λ u. total y (λ z. c z *ℚ f z) +ℚ u *ℚ f y) h ∙ zero_end (total y (λ z. c z *ℚ f z)) (f y))

-- what holds of each nonbasic number below y, and of y where it is one
pub below_free : (P : ℕ → Type 0) (basic : ℕ → Bool) (y : ℕ) → ((z : ℕ) → z < y → basic z ≡ false → P z) → (basic y ≡ false → P y) → (z : ℕ) → z < y + 1 → basic z ≡ false → P z
below_free P basic y h k z l b = ⊎_elim (λ e. subst P (sym e) (k (subst (λ m. basic m ≡ false) e b))) (λ e. h z (omega arith) b) (cases_eq z y)

module _ (s : LinearSystem) (n : ℕ) (p : Position) (x y : ℕ) (c r₁ r₂ f₁ f₂ : ℚ) (ec : c ≡ p.coefficient x y) (e₁ : r₁ ≡ (rest s y).first) (e₂ : r₂ ≡ (rest s y).second) (i₁ : f₁ ≡ total y (first_terms s p x)) (i₂ : f₂ ≡ total y (second_terms s p x)) where
  product₁ : c *ℚ r₁ ≡ p.coefficient x y *ℚ (rest s y).first
  product₁ = λ i. ec i *ℚ e₁ i

  product₂ : c *ℚ r₂ ≡ p.coefficient x y *ℚ (rest s y).second
  product₂ = λ i. ec i *ℚ e₂ i

  pub term_fits : Part f₁ c r₁ → Part f₂ c r₂ → TermFits s p x y
  term_fits a b = record {
    first_product = subst (λ z. FitsFrac z) product₁ a.product;
    first_sum = subst₂ (λ u v. FitsSum u v) i₁ product₁ a.sum;
    second_product = subst (λ z. FitsFrac z) product₂ b.product;
    second_sum = subst₂ (λ u v. FitsSum u v) i₂ product₂ b.sum;
  }

module _ (s : LinearSystem) (n : ℕ) (p : Position) (x y : ℕ) (l : y < n) (b : p.is_basic y ≡ false) (c : ℚ) (ec : c ≡ p.coefficient x y) where
  pub wide_first : (r f : ℚ) → r ≡ (rest s y).first → f ≡ total y (first_terms s p x) → (Part f c r → ⊥) → ValueFits s n p x → ⊥
  wide_first r f e i h w =
      let q : c *ℚ r ≡ p.coefficient x y *ℚ (rest s y).first = λ j. ec j *ℚ e j in
      h (record { product = subst (λ z. FitsFrac z) (sym q) (w.terms y l b).first_product; sum = subst₂ (λ u v. FitsSum u v) (sym i) (sym q) (w.terms y l b).first_sum })

  pub wide_second : (r f : ℚ) → r ≡ (rest s y).second → f ≡ total y (second_terms s p x) → (Part f c r → ⊥) → ValueFits s n p x → ⊥
  wide_second r f e i h w =
      let q : c *ℚ r ≡ p.coefficient x y *ℚ (rest s y).second = λ j. ec j *ℚ e j in
      h (record { product = subst (λ z. FitsFrac z) (sym q) (w.terms y l b).second_product; sum = subst₂ (λ u v. FitsSum u v) (sym i) (sym q) (w.terms y l b).second_sum })

-- ---- the unknowns, which rest at 0, add nothing
module _ (s : LinearSystem) (p : Position) (x : ℕ) where
  rests : (y : ℕ) → y < s.width → rest s y ≡ record { first = int (pos 0); second = int (pos 0) }
  rests y h = rest_unknown s y (lt-ltb y s.width h)

  times_nought : (c r : ℚ) → r ≡ int (pos 0) → c *ℚ r ≡ int (pos 0)
  times_nought c r e = ap (λ u. c *ℚ u) e ∙ by_ring (c ∷ []) (search reads depth 30) (search reads depth 30) tt

  pub first_nought : (y : ℕ) → y < s.width → first_terms s p x y ≡ int (pos 0)
  first_nought y h = times_nought (p.coefficient x y) (rest s y).first (ap (λ (z : Pair). z.first) (rests y h))

  pub second_nought : (y : ℕ) → y < s.width → second_terms s p x y ≡ int (pos 0)
  second_nought y h = times_nought (p.coefficient x y) (rest s y).second (ap (λ (z : Pair). z.second) (rests y h))

  pub first_unknowns : (y : ℕ) → y ≤ s.width → int (pos 0) ≡ total y (first_terms s p x)
  first_unknowns y h = sym (total-zeros y (first_terms s p x) (λ z k. first_nought z (omega arith)))

  pub second_unknowns : (y : ℕ) → y ≤ s.width → int (pos 0) ≡ total y (second_terms s p x)
  second_unknowns y h = sym (total-zeros y (second_terms s p x) (λ z k. second_nought z (omega arith)))

  none : ZeroTheorems → FitsSum (int (pos 0)) (int (pos 0))
  none laws = laws.zero_added_fits (int (pos 0)) laws.zero_fits

  pub unknown_fits : ZeroTheorems → (y : ℕ) → y < s.width → TermFits s p x y
  unknown_fits laws y h = record {
    first_product = subst (λ z. FitsFrac z) (sym (first_nought y h)) laws.zero_fits;
    first_sum = subst₂ (λ u v. FitsSum u v) (first_unknowns y (omega arith)) (sym (first_nought y h)) (none laws);
    second_product = subst (λ z. FitsFrac z) (sym (second_nought y h)) laws.zero_fits;
    second_sum = subst₂ (λ u v. FitsSum u v) (second_unknowns y (omega arith)) (sym (second_nought y h)) (none laws);
  }

pub value_free : (s : LinearSystem) (p : Position) → IsTableau p → (y : ℕ) → y < count s → p.is_basic y ≡ false → value s p y ≡ rest s y
unfolding value
value_free s p t y h b = λ i. record {
  first = stands (count s) p t (λ y. (rest s y).first) y h b i;
  second = stands (count s) p t (λ y. (rest s y).second) y h b i;
}
