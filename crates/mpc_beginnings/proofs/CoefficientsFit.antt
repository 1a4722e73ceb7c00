-- The coefficients at each position of a run fit where the system's numbers and all that was formed before do.
use Rattle.std.proofs.Common.{◌≡◌, ℕ, zero, suc, ◌-◌, ◌<◌, ◌≤◌, true, false, pos, [], ◌∷◌, refl, sym, ◌∙◌, ap, subst, arith, ◌⊎◌, inl, inr, lt-ltb, le-ltb, lit<}
use Rattle.std.proofs.lemmas.Bool.{cases_eq, cases_lt, cases_Bool, both_ways}
use Rattle.mpc_exact.specs.Rational.{ℚ, int, ◌+ℚ◌, ◌*ℚ◌, neg_ℚ, inv_ℚ}
use Rattle.mpc_exact.proofs.RationalRing.{reads, by_ring}
use Rattle.mpc_frac.specs.Fits.{FitsFrac}
use Rattle.mpc_frac.specs.FitTheorems.{FitTheorems}
use Rattle.mpc_space.specs.Total.{unit}
use Rattle.mpc_space.proofs.Total.{unit-same, unit-other}
use Rattle.mpc_rows.specs.LinearSystem.{LinearSystem}
use Rattle.mpc_rows.specs.Run.{Position, IsTableau, Turn, has_point, is_refuted, goes_on, count, is_zero, turn, pivot, opening, position, entering_row, is_pivot, leaving, entering, GoesOn, steps}
use Rattle.mpc_rows.specs.RunWidth.{EnteringFits, RowsFit, PositionFits}
use Rattle.mpc_beginnings.specs.Beginnings.{NumbersFit}
use Rattle.mpc_runs.proofs.Pivot.{pivot-at_entering, pivot-other, entering-at_leaving, entering-other, other-at_leaving, other-other, basic-at_leaving, basic-at_entering, basic-other}
use Rattle.mpc_runs.proofs.TableauRows.{tableau_pivot, opening_row, opening_rest, opening_known}
use Rattle.mpc_runs.proofs.Turn.{Goes, is_zero-true, zero-is_zero}
use Rattle.mpc_runs.proofs.Positions.{tableau, goes_at, next_position, left_at, entered_at}
use Rattle.mpc_runs.proofs.Ends.{run_ends, position-zero}
use Rattle.mpc_beginnings.proofs.NumberFits.{fits_as}

pub record CoefficientsFit (s : LinearSystem) (p : Position) : Type 0 where
  pub each : (x y : ℕ) → x < count s → y < count s → FitsFrac (p.coefficient x y)

pub zero_or : (c : ℚ) → (c ≡ int (pos 0)) ⊎ (c ≡ int (pos 0) → ⊥)
zero_or c = by (cases_Bool (is_zero c))
  where
    by : (is_zero c ≡ true) ⊎ (is_zero c ≡ false) → (c ≡ int (pos 0)) ⊎ (c ≡ int (pos 0) → ⊥)
    by (inl e) = inl (is_zero-true c e)
    by (inr e) = inr (λ z. both_ways (is_zero c) e (zero-is_zero c z))

none_times : (c x : ℚ) → c ≡ int (pos 0) → int (pos 0) ≡ c *ℚ x
none_times c x e = by_ring (x ∷ []) (search reads depth 30) (search reads depth 30) tt ∙ ap (λ u. u *ℚ x) (sym e)

none_added : (a c x : ℚ) → c ≡ int (pos 0) → a ≡ a +ℚ c *ℚ x
none_added a c x e = by_ring (a ∷ x ∷ []) (search reads depth 30) (search reads depth 30) tt ∙ ap (λ u. a +ℚ u *ℚ x) (sym e)

module _ (laws : FitTheorems) where
  pub fits_zero : FitsFrac (int (pos 0))
  fits_zero = laws.whole (pos 0) (lit< tt)

  pub fits_one : FitsFrac (int (pos 1))
  fits_one = laws.whole (pos 1) (lit< tt)

  pub fits_unit : (x y : ℕ) → FitsFrac (unit x y)
  fits_unit x y = by (cases_eq x y)
    where
      by : (x ≡ y) ⊎ (x ≡ y → ⊥) → FitsFrac (unit x y)
      by (inl e) = fits_as (int (pos 1)) (unit x y) (sym (unit-same x y e)) fits_one
      by (inr f) = fits_as (int (pos 0)) (unit x y) (sym (unit-other x y f)) fits_zero

  module _ (s : LinearSystem) (p : Position) (t : IsTableau p) (l e : ℕ) (g : Goes s p l e) (c : CoefficientsFit s p) (f : EnteringFits (count s) p l e) (r : RowsFit (count s) p l e) where
    apart : e ≡ l → ⊥
    apart h = both_ways (p.is_basic e) g.eligible.free (subst (λ x. p.is_basic x ≡ true) (sym h) g.leaves.violated.basic)

    l_below : l < count s
    l_below = g.leaves.below

    e_below : e < count s
    e_below = g.below

    pub pivot_fits : FitsFrac (inv_ℚ (p.coefficient l e))
    pivot_fits = laws.inverse (p.coefficient l e) g.eligible.some (c.each l e l_below e_below)

    -- the row of the entering variable
    new_cases : (y : ℕ) → y < count s → (y ≡ l) ⊎ (y ≡ l → ⊥) → (y ≡ e → ⊥) → ((y ≡ l → ⊥) → p.is_basic y ≡ false) → FitsFrac (entering_row p l e y)
    new_cases y h (inl d) k b = subst (λ z. FitsFrac (entering_row p l e z)) (sym d) (fits_as (inv_ℚ (p.coefficient l e)) (entering_row p l e l) (sym (entering-at_leaving p l e)) pivot_fits)
    new_cases y h (inr d) k b = fits_as (neg_ℚ (p.coefficient l y) *ℚ inv_ℚ (p.coefficient l e)) (entering_row p l e y) (sym (entering-other p l e y d k)) (f.quotients y h (b d) k)

    -- another row
    other_leaving : (x : ℕ) → x < count s → p.is_basic x ≡ true → (x ≡ l → ⊥) → (p.coefficient x e ≡ int (pos 0)) ⊎ (p.coefficient x e ≡ int (pos 0) → ⊥) → FitsFrac (p.coefficient x e *ℚ entering_row p l e l)
    other_leaving x h b d (inl z) = fits_as (int (pos 0)) _ (none_times (p.coefficient x e) (entering_row p l e l) z) fits_zero
    other_leaving x h b d (inr z) = (r.rows x h b d z).leaving

    other_entry : (x y : ℕ) → x < count s → y < count s → p.is_basic x ≡ true → (x ≡ l → ⊥) → p.is_basic y ≡ false → (y ≡ e → ⊥) → (p.coefficient x e ≡ int (pos 0)) ⊎ (p.coefficient x e ≡ int (pos 0) → ⊥) → FitsFrac (p.coefficient x y +ℚ p.coefficient x e *ℚ entering_row p l e y)
    other_entry x y h k b d i j (inl z) = fits_as (p.coefficient x y) _ (none_added (p.coefficient x y) (p.coefficient x e) (entering_row p l e y) z) (c.each x y h k)
    other_entry x y h k b d i j (inr z) = laws.sum (p.coefficient x y) (p.coefficient x e *ℚ entering_row p l e y) ((r.rows x h b d z).entries y k i j).sum

    other_cases : (x y : ℕ) → x < count s → y < count s → p.is_basic x ≡ true → (x ≡ l → ⊥) → (x ≡ e → ⊥) → (y ≡ l) ⊎ (y ≡ l → ⊥) → (y ≡ e → ⊥) → ((y ≡ l → ⊥) → p.is_basic y ≡ false) → FitsFrac ((pivot p l e).coefficient x y)
    other_cases x y h k b d d' (inl i) j m =
        subst (λ z. FitsFrac ((pivot p l e).coefficient x z)) (sym i)
        (fits_as _ ((pivot p l e).coefficient x l) (sym (pivot-other p l e x l d d' ∙ other-at_leaving p l e x (λ q. apart (sym q)))) (other_leaving x h b d (zero_or (p.coefficient x e))))
    other_cases x y h k b d d' (inr i) j m =
        fits_as _ ((pivot p l e).coefficient x y) (sym (pivot-other p l e x y d d' ∙ other-other p l e x y i j)) (other_entry x y h k b d (m i) j (zero_or (p.coefficient x e)))

    tab : IsTableau (pivot p l e)
    tab = tableau_pivot p t l e g.leaves.violated.basic g.eligible.free g.eligible.some

    basic_before : (x : ℕ) → (x ≡ l → ⊥) → (x ≡ e → ⊥) → (pivot p l e).is_basic x ≡ p.is_basic x
    basic_before x d k = basic-other p l e x d k

    row_cases : (x y : ℕ) → x < count s → y < count s → (x ≡ e) ⊎ (x ≡ e → ⊥) → (x ≡ l → ⊥) → (pivot p l e).is_basic x ≡ true → (y ≡ e → ⊥) → (pivot p l e).is_basic y ≡ false → FitsFrac ((pivot p l e).coefficient x y)
    row_cases x y h k (inl i) d b j m =
        subst (λ z. FitsFrac ((pivot p l e).coefficient z y)) (sym i)
        (fits_as _ ((pivot p l e).coefficient e y) (sym (pivot-at_entering p l e y apart)) (new_cases y k (cases_eq y l) j (λ q. sym (basic_before y q j) ∙ m)))
    row_cases x y h k (inr i) d b j m = other_cases x y h k (sym (basic_before x d i) ∙ b) d i (cases_eq y l) j (λ q. sym (basic_before y q j) ∙ m)

    basis_cases : (x y : ℕ) → x < count s → y < count s → ((pivot p l e).is_basic x ≡ true) ⊎ ((pivot p l e).is_basic x ≡ false) → ((pivot p l e).is_basic y ≡ true) ⊎ ((pivot p l e).is_basic y ≡ false) → FitsFrac ((pivot p l e).coefficient x y)
    basis_cases x y h k b (inl m) = fits_as (int (pos 0)) _ (sym (tab.empty x y m)) fits_zero
    basis_cases x y h k (inr b) (inr m) = fits_as (unit x y) _ (sym (tab.own x y b)) (fits_unit x y)
    basis_cases x y h k (inl b) (inr m) =
        row_cases x y h k (cases_eq x e)
        (λ q. both_ways ((pivot p l e).is_basic x) (ap (pivot p l e).is_basic q ∙ leaving_free) b)
        b
        (λ q. both_ways ((pivot p l e).is_basic y) m (ap (pivot p l e).is_basic q ∙ entering_basic))
        m
      where
        leaving_free : (pivot p l e).is_basic l ≡ false
        leaving_free = basic-at_leaving p l e

        entering_basic : (pivot p l e).is_basic e ≡ true
        entering_basic = basic-at_entering p l e apart

    pub coefficients_next : CoefficientsFit s (pivot p l e)
    coefficients_next = record { each = λ x y h k. basis_cases x y h k (cases_Bool ((pivot p l e).is_basic x)) (cases_Bool ((pivot p l e).is_basic y)) }

  -- ---- the run
  module _ (s : LinearSystem) (w : NumbersFit s) where
    opening_cases : (x y : ℕ) → x < count s → (x < s.width) ⊎ (s.width ≤ x) → (y < s.width) ⊎ (s.width ≤ y) → FitsFrac ((opening s).coefficient x y)
    opening_cases x y h (inl k) d = fits_as (unit x y) _ (sym (opening_known s x y (lt-ltb x s.width k))) (fits_unit x y)
    opening_cases x y h (inr k) (inl d) = fits_as _ _ (sym (opening_row s x y (le-ltb x s.width k) (lt-ltb y s.width d))) (w.entries (x - s.width) y (omega arith) d)
    opening_cases x y h (inr k) (inr d) = fits_as (int (pos 0)) _ (sym (opening_rest s x y (le-ltb x s.width k) (le-ltb y s.width d))) fits_zero

    pivot_form : (t : Turn) → is_pivot t ≡ true → t ≡ goes_on (leaving t) (entering t)
    pivot_form has_point h = absurd (both_ways false refl h)
    pivot_form (is_refuted l) h = absurd (both_ways false refl h)
    pivot_form (goes_on l e) h = refl

    step : (k : ℕ) → GoesOn s k → PositionFits s (position s k) → CoefficientsFit s (position s k) → CoefficientsFit s (position s (suc k))
    step k g f c =
        let t : turn s (position s k) ≡ goes_on (left_at s k) (entered_at s k) = pivot_form (turn s (position s k)) g.pivots in
        subst (CoefficientsFit s) (sym (next_position s k g))
        (coefficients_next s (position s k) (tableau s k) (left_at s k) (entered_at s k) (goes_at s k g) c (f.entering (left_at s k) (entered_at s k) t) (f.rows (left_at s k) (entered_at s k) t))

    pub coefficients_fit : (k : ℕ) → k ≤ steps s → ((j : ℕ) → j < k → PositionFits s (position s j)) → CoefficientsFit s (position s k)
    coefficients_fit zero h f = subst (CoefficientsFit s) (sym (position-zero s)) (record { each = λ x y h k. opening_cases x y h (cases_lt x s.width) (cases_lt y s.width) })
    coefficients_fit (suc k) h f = step k ((run_ends s).goes k (omega arith)) (f k (omega arith)) (coefficients_fit k (omega arith) (λ j l. f j (omega arith)))
