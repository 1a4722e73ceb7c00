-- A row that the system has already, put behind it the other way round, forms nothing that is wider than what is formed without it.
use Rattle.std.proofs.Common.{◌≡◌, ℕ, ◌+◌, ◌<◌, ◌≤◌, Bool, true, false, cond, List, pos, negsuc, [], ◌∷◌, refl, sym, ◌∙◌, ap, subst, arith, ◌⊎◌, inl, inr, ◌↔◌}
use Rattle.std.proofs.lemmas.Bool.{cases_eq, cases_lt, cases_Bool, both_ways}
use Rattle.mpc_exact.specs.Rational.{ℚ, int, ◌*ℚ◌, neg_ℚ, inv_ℚ}
use Rattle.mpc_exact.specs.Pair.{Pair}
use Rattle.mpc_exact.proofs.Rational.{*ℚ_inv}
use Rattle.mpc_exact.proofs.RationalRing.{reads, by_ring, by_equation}
use Rattle.mpc_frac.specs.Fits.{FitsFrac, FitsSum}
use Rattle.mpc_frac.specs.FitTheorems.{FitTheorems}
use Rattle.mpc_space.specs.Total.{total, unit}
use Rattle.mpc_space.specs.Vector.{coordinate, vec_scale}
use Rattle.mpc_space.proofs.Entries.{coordinate-scale}
use Rattle.mpc_space.proofs.Total.{total-same, total-scale, total-zeros, total-unit, unit-same, unit-other}
use Rattle.mpc_rows.specs.declared.systems.Row.{Row}
use Rattle.mpc_rows.specs.LinearSystem.{LinearSystem, height, row_at}
use Rattle.mpc_rows.specs.SetRuns.{turned}
use Rattle.mpc_rows.specs.Run.{Position, IsTableau, goes_on, count, rest, turn, position, entering_row}
use Rattle.mpc_rows.specs.RunWidth.{RowFits, PositionFits, RunFits}
use Rattle.mpc_beginnings.specs.Beginnings.{lengthened, late, SideTermFits, SideValueFits, SideRowFits, AppendedFits, BeginningFits, LaterFits, AllAppendedFit, NumbersFit, AreTurned}
use Rattle.mpc_runs.proofs.Pivot.{entering-at_leaving, entering-other}
use Rattle.mpc_runs.proofs.Turn.{Goes, turn-at}
use Rattle.mpc_runs.proofs.Positions.{tableau, rest_side}
use Rattle.mpc_runs.proofs.LeftSides.{is_side, bound-first, bound-second}
use Rattle.mpc_beginnings.proofs.LateRows.{side_row}
use Rattle.mpc_beginnings.proofs.NumberFits.{fits_as, fits_sum_as, fits_sum_neg, fits_sum_own}
use Rattle.mpc_beginnings.proofs.CoefficientsFit.{CoefficientsFit, fits_zero, fits_one, coefficients_fit}
use Rattle.mpc_beginnings.proofs.SharedFits.{fits_split}

neg_product : (c r : ℚ) → neg_ℚ (c *ℚ r) ≡ neg_ℚ c *ℚ r
neg_product c r = by_ring (c ∷ r ∷ []) (search reads depth 30) (search reads depth 30) tt

neg_zero : (c : ℚ) → c ≡ int (pos 0) → neg_ℚ c ≡ int (pos 0)
neg_zero c e = ap neg_ℚ e ∙ by_ring [] (search reads depth 30) (search reads depth 30) tt

scale_neg : (x : ℚ) → int (negsuc 0) *ℚ x ≡ neg_ℚ x
scale_neg x = by_ring (x ∷ []) (search reads depth 30) (search reads depth 30) tt

neg_total : (n : ℕ) (c f : ℕ → ℚ) → neg_ℚ (total n (λ z. c z *ℚ f z)) ≡ total n (λ z. neg_ℚ (c z) *ℚ f z)
neg_total n c f =
    sym (scale_neg (total n (λ z. c z *ℚ f z))) ∙ sym (total-scale n (int (negsuc 0)) (λ z. c z *ℚ f z))
    ∙ total-same n (λ z. int (negsuc 0) *ℚ (c z *ℚ f z)) (λ z. neg_ℚ (c z) *ℚ f z) (λ z h. by_ring (c z ∷ f z ∷ []) (search reads depth 30) (search reads depth 30) tt)

module _ (laws : FitTheorems) where
  fits_zero_add : (x y : ℚ) → x ≡ int (pos 0) → FitsFrac y → FitsSum x y
  fits_zero_add x y e h = fits_sum_as (int (pos 0)) y x y (sym e) refl (laws.behind_zero y h)

  -- ---- the negatives of what fits
  module _ (s : LinearSystem) (c : ℕ → ℚ) (y : ℕ) (h : SideTermFits s c y) where
    neg_term : SideTermFits s (λ z. neg_ℚ (c z)) y
    neg_term = record {
      first_product = fits_as _ _ (neg_product (c y) (rest s y).first) (laws.negative _ h.first_product);
      first_sum = fits_sum_as _ _ _ _ (neg_total y c (λ z. (rest s z).first)) (neg_product (c y) (rest s y).first) (fits_sum_neg _ _ h.first_sum);
      second_product = fits_as _ _ (neg_product (c y) (rest s y).second) (laws.negative _ h.second_product);
      second_sum = fits_sum_as _ _ _ _ (neg_total y c (λ z. (rest s z).second)) (neg_product (c y) (rest s y).second) (fits_sum_neg _ _ h.second_sum);
    }

  -- ---- a value whose coefficients are the negative of a unit vector, at a number that fits
  module _ (x y : ℕ) (f : ℕ → ℚ) (small : FitsFrac (f x)) where
    unit_product : FitsFrac (neg_ℚ (unit x y) *ℚ f y)
    unit_product = by (cases_eq x y)
      where
        by : (x ≡ y) ⊎ (x ≡ y → ⊥) → FitsFrac (neg_ℚ (unit x y) *ℚ f y)
        by (inl e) = fits_as (neg_ℚ (f x)) _ (one_times (f x) (unit x y) (unit-same x y e) ∙ ap (λ z. neg_ℚ (unit x y) *ℚ f z) e) (laws.negative (f x) small)
          where
            one_times : (v u : ℚ) → u ≡ int (pos 1) → neg_ℚ v ≡ neg_ℚ u *ℚ v
            one_times v u e = by_ring (v ∷ []) (search reads depth 30) (search reads depth 30) tt ∙ ap (λ w. neg_ℚ w *ℚ v) (sym e)
        by (inr d) = fits_as (int (pos 0)) _ (none (unit x y) (f y) (unit-other x y d)) (fits_zero laws)
          where
            none : (u v : ℚ) → u ≡ int (pos 0) → int (pos 0) ≡ neg_ℚ u *ℚ v
            none u v e = by_ring (v ∷ []) (search reads depth 30) (search reads depth 30) tt ∙ ap (λ w. neg_ℚ w *ℚ v) (sym e)

    unit_total : (x < y) ⊎ (y ≤ x) → FitsFrac (total y (λ z. neg_ℚ (unit x z) *ℚ f z))
    unit_total (inl l) = fits_as (neg_ℚ (f x)) _ (ap neg_ℚ (sym (total-unit y x f l)) ∙ neg_total y (unit x) f) (laws.negative (f x) small)
    unit_total (inr l) = fits_as (int (pos 0)) _ (sym (unit_empty l)) (fits_zero laws)
      where
        none : (u v : ℚ) → u ≡ int (pos 0) → neg_ℚ u *ℚ v ≡ int (pos 0)
        none u v e = ap (λ w. neg_ℚ w *ℚ v) e ∙ by_ring (v ∷ []) (search reads depth 30) (search reads depth 30) tt

        unit_empty : y ≤ x → total y (λ z. neg_ℚ (unit x z) *ℚ f z) ≡ int (pos 0)
        unit_empty l = total-zeros y (λ z. neg_ℚ (unit x z) *ℚ f z) (λ z m. none (unit x z) (f z) (unit-other x z (λ e. omega arith)))

    empty_before : y ≤ x → total y (λ z. neg_ℚ (unit x z) *ℚ f z) ≡ int (pos 0)
    empty_before l = total-zeros y (λ z. neg_ℚ (unit x z) *ℚ f z) (λ z m. none (unit x z) (f z) (unit-other x z (λ e. omega arith)))
      where
        none : (u v : ℚ) → u ≡ int (pos 0) → neg_ℚ u *ℚ v ≡ int (pos 0)
        none u v e = ap (λ w. neg_ℚ w *ℚ v) e ∙ by_ring (v ∷ []) (search reads depth 30) (search reads depth 30) tt

    unit_sum : (x < y) ⊎ (y ≤ x) → FitsSum (total y (λ z. neg_ℚ (unit x z) *ℚ f z)) (neg_ℚ (unit x y) *ℚ f y)
    unit_sum (inr l) = fits_zero_add (total y (λ z. neg_ℚ (unit x z) *ℚ f z)) (neg_ℚ (unit x y) *ℚ f y) (empty_before l) unit_product
    unit_sum (inl l) =
        fits_sum_as _ _ _ _ refl (sym (none (unit x y) (f y) (unit-other x y (λ e. omega arith))))
        (laws.before_zero (total y (λ z. neg_ℚ (unit x z) *ℚ f z)) (unit_total (inl l)))
      where
        none : (u v : ℚ) → u ≡ int (pos 0) → neg_ℚ u *ℚ v ≡ int (pos 0)
        none u v e = ap (λ w. neg_ℚ w *ℚ v) e ∙ by_ring (v ∷ []) (search reads depth 30) (search reads depth 30) tt

  unit_term : (s : LinearSystem) (x y : ℕ) → FitsFrac (rest s x).first → FitsFrac (rest s x).second → SideTermFits s (λ z. neg_ℚ (unit x z)) y
  unit_term s x y f g = record {
    first_product = unit_product x y (λ z. (rest s z).first) f;
    first_sum = unit_sum x y (λ z. (rest s z).first) f (cases_lt x y);
    second_product = unit_product x y (λ z. (rest s z).second) g;
    second_sum = unit_sum x y (λ z. (rest s z).second) g (cases_lt x y);
  }

  -- ---- a position with a tableau, and the coefficients c of side i there
  module _ (s : LinearSystem) (k i : ℕ) (below : i < height s) where
    x : ℕ
    x = s.width + i

    p : Position
    p = position s k

    -- the row of the turned side is the negative of that of the side
    late_turned : (y : ℕ) → late s (turned (row_at s i)) (position s k) y ≡ neg_ℚ ((position s k).coefficient (s.width + i) y)
    unfolding late
    late_turned y =
        total-same s.width (λ j. coordinate (vec_scale (int (negsuc 0)) (row_at s i).a) j *ℚ (position s k).coefficient j y) (λ j. int (negsuc 0) *ℚ (coordinate (row_at s i).a j *ℚ (position s k).coefficient j y))
        (λ j h. ap (λ u. u *ℚ (position s k).coefficient j y) (coordinate-scale (int (negsuc 0)) (row_at s i).a j) ∙ regroup (coordinate (row_at s i).a j) ((position s k).coefficient j y))
        ∙ total-scale s.width (int (negsuc 0)) (λ j. coordinate (row_at s i).a j *ℚ (position s k).coefficient j y)
        ∙ scale_neg (total s.width (λ j. coordinate (row_at s i).a j *ℚ (position s k).coefficient j y))
        ∙ ap neg_ℚ (sym (side_row s k i y below))
      where
        regroup : (a c : ℚ) → (int (negsuc 0) *ℚ a) *ℚ c ≡ int (negsuc 0) *ℚ (a *ℚ c)
        regroup a c = by_ring (a ∷ c ∷ []) (search reads depth 30) (search reads depth 30) tt

    module _ (w : NumbersFit s) (f : PositionFits s (position s k)) (c : CoefficientsFit s (position s k)) where
      x_below : s.width + i < count s
      x_below = omega arith

      tab : IsTableau (position s k)
      tab = tableau s k

      -- where the side rests
      rest_first : FitsFrac (rest s (s.width + i)).first
      rest_first = fits_as ((row_at s i).b) _ (sym (ap (λ (r : Pair). r.first) (rest_side s (s.width + i) (is_side s i)) ∙ bound-first s i)) (w.sides i below)

      fits_strict : (b : Bool) → FitsFrac (cond b (int (negsuc 0)) (int (pos 0)))
      fits_strict true = fits_as (neg_ℚ (int (pos 1))) (int (negsuc 0)) (by_ring [] (search reads depth 30) (search reads depth 30) tt) (laws.negative (int (pos 1)) (fits_one laws))
      fits_strict false = fits_zero laws

      rest_second : FitsFrac (rest s (s.width + i)).second
      rest_second = fits_as _ _ (sym (ap (λ (r : Pair). r.second) (rest_side s (s.width + i) (is_side s i)) ∙ bound-second s i)) (fits_strict (row_at s i).strict)

      -- ---- its value
      value_cases : ((position s k).is_basic (s.width + i) ≡ true) ⊎ ((position s k).is_basic (s.width + i) ≡ false) → SideValueFits s (position s k) (λ z. neg_ℚ ((position s k).coefficient (s.width + i) z))
      value_cases (inl b) = record {
        terms = λ y h g. neg_term s ((position s k).coefficient (s.width + i)) y
            (let t = (f.values.values (s.width + i) x_below b).terms y h g in
            record { first_product = t.first_product; first_sum = t.first_sum; second_product = t.second_product; second_sum = t.second_sum });
      }
      value_cases (inr b) =
          subst (SideValueFits s (position s k)) (λ j z. neg_ℚ (sym (tab.own (s.width + i) z b) j))
          (record { terms = λ y h g. unit_term s (s.width + i) y rest_first rest_second })

      -- ---- its new row
      module _ (l e : ℕ) (turns : turn s (position s k) ≡ goes_on l e) where
        g : Goes s (position s k) l e
        g = turn-at s (position s k) (goes_on l e) turns

        inverse_is : (position s k).coefficient l e *ℚ inv_ℚ ((position s k).coefficient l e) ≡ int (pos 1)
        inverse_is = *ℚ_inv ((position s k).coefficient l e) g.eligible.some

        not_leaving : (y : ℕ) → (position s k).is_basic y ≡ false → y ≡ l → ⊥
        not_leaving y m d = both_ways ((position s k).is_basic y) m (ap (position s k).is_basic d ∙ g.leaves.violated.basic)

        entry_is : (y : ℕ) → (position s k).is_basic y ≡ false → (y ≡ e → ⊥) → entering_row (position s k) l e y ≡ neg_ℚ ((position s k).coefficient l y) *ℚ inv_ℚ ((position s k).coefficient l e)
        entry_is y m d = entering-other (position s k) l e y (not_leaving y m) d

        -- another basic side
        other_row : (RowFits (count s) (position s k) l e (s.width + i)) → SideRowFits s (position s k) l e (λ z. neg_ℚ ((position s k).coefficient (s.width + i) z))
        other_row r = record {
          leaving = fits_as _ _ (neg_product ((position s k).coefficient (s.width + i) e) (entering_row (position s k) l e l)) (laws.negative _ r.leaving);
          entries = λ y h m d. record {
            product = fits_as _ _ (neg_product ((position s k).coefficient (s.width + i) e) (entering_row (position s k) l e y)) (laws.negative _ (r.entries y h m d).product);
            sum = fits_sum_as _ _ _ _ refl (neg_product ((position s k).coefficient (s.width + i) e) (entering_row (position s k) l e y)) (fits_sum_neg _ _ (r.entries y h m d).sum);
          };
        }

        -- the side that leaves itself
        cancelled : (q v j : ℚ) → q *ℚ v ≡ int (pos 1) → j ≡ neg_ℚ q *ℚ (neg_ℚ j *ℚ v)
        cancelled q v j h = by_equation (neg_ℚ j) h (by_ring (q ∷ v ∷ j ∷ []) (search reads depth 30) (search reads depth 30) tt)

        own_product : (y : ℕ) → (position s k).is_basic y ≡ false → (y ≡ e → ⊥) → (position s k).coefficient l y ≡ neg_ℚ ((position s k).coefficient l e) *ℚ entering_row (position s k) l e y
        own_product y m d =
            cancelled ((position s k).coefficient l e) (inv_ℚ ((position s k).coefficient l e)) ((position s k).coefficient l y) inverse_is
            ∙ ap (λ u. neg_ℚ ((position s k).coefficient l e) *ℚ u) (sym (entry_is y m d))

        leaver_row : SideRowFits s (position s k) l e (λ z. neg_ℚ ((position s k).coefficient l z))
        leaver_row = record {
          leaving = fits_as (neg_ℚ (int (pos 1))) _
              (ap neg_ℚ (sym inverse_is) ∙ neg_product ((position s k).coefficient l e) (inv_ℚ ((position s k).coefficient l e)) ∙ ap (λ u. neg_ℚ ((position s k).coefficient l e) *ℚ u) (sym (entering-at_leaving (position s k) l e)))
              (laws.negative (int (pos 1)) (fits_one laws));
          entries = λ y h m d. record {
            product = fits_as _ _ (own_product y m d) (c.each l y g.leaves.below h);
            sum = fits_sum_as _ _ _ _ refl (own_product y m d) (fits_sum_own ((position s k).coefficient l y) (c.each l y g.leaves.below h));
          };
        }

        -- a side that enters
        one_times : (v u : ℚ) → u ≡ int (pos 1) → neg_ℚ v ≡ neg_ℚ u *ℚ v
        one_times v u d = by_ring (v ∷ []) (search reads depth 30) (search reads depth 30) tt ∙ ap (λ w. neg_ℚ w *ℚ v) (sym d)

        entering_side : s.width + i ≡ e → SideRowFits s (position s k) l e (λ z. neg_ℚ (unit (s.width + i) z))
        entering_side d = record {
          leaving = fits_as _ _ (ap neg_ℚ (sym (entering-at_leaving (position s k) l e)) ∙ one_times (entering_row (position s k) l e l) (unit (s.width + i) e) (unit-same (s.width + i) e d))
              (laws.negative _ (laws.inverse ((position s k).coefficient l e) g.eligible.some (c.each l e g.leaves.below g.below)));
          entries = λ y h m o. (let small : FitsFrac (neg_ℚ (unit (s.width + i) e) *ℚ entering_row (position s k) l e y) =
              fits_as _ _ (ap neg_ℚ (sym (entry_is y m o)) ∙ one_times (entering_row (position s k) l e y) (unit (s.width + i) e) (unit-same (s.width + i) e d)) (laws.negative _ ((f.entering l e turns).quotients y h m o))
              in
              record { product = small; sum = fits_zero_add (neg_ℚ (unit (s.width + i) y)) _ (neg_zero (unit (s.width + i) y) (unit-other (s.width + i) y (λ z. o (sym z ∙ d)))) small });
        }

        free_cases : (position s k).is_basic (s.width + i) ≡ false → (neg_ℚ ((position s k).coefficient (s.width + i) e) ≡ int (pos 0) → ⊥) → (s.width + i ≡ e) ⊎ (s.width + i ≡ e → ⊥) → SideRowFits s (position s k) l e (λ z. neg_ℚ (unit (s.width + i) z))
        free_cases b o (inl d) = entering_side d
        free_cases b o (inr d) = absurd (o (neg_zero ((position s k).coefficient (s.width + i) e) (tab.own (s.width + i) e b ∙ unit-other (s.width + i) e d)))

        basic_cases : (position s k).is_basic (s.width + i) ≡ true → (neg_ℚ ((position s k).coefficient (s.width + i) e) ≡ int (pos 0) → ⊥) → (s.width + i ≡ l) ⊎ (s.width + i ≡ l → ⊥) → SideRowFits s (position s k) l e (λ z. neg_ℚ ((position s k).coefficient (s.width + i) z))
        basic_cases b o (inl d) = subst (λ v. SideRowFits s (position s k) l e (λ z. neg_ℚ ((position s k).coefficient v z))) (sym d) leaver_row
        basic_cases b o (inr d) = other_row ((f.rows l e turns).rows (s.width + i) x_below b d (λ z. o (neg_zero _ z)))

        row_cases : ((position s k).is_basic (s.width + i) ≡ true) ⊎ ((position s k).is_basic (s.width + i) ≡ false) → (neg_ℚ ((position s k).coefficient (s.width + i) e) ≡ int (pos 0) → ⊥) → SideRowFits s (position s k) l e (λ z. neg_ℚ ((position s k).coefficient (s.width + i) z))
        row_cases (inl b) o = basic_cases b o (cases_eq (s.width + i) l)
        row_cases (inr b) o = subst (SideRowFits s (position s k) l e) (λ j z. neg_ℚ (sym (tab.own (s.width + i) z b) j)) (free_cases b o (cases_eq (s.width + i) e))

      turned_same : late s (turned (row_at s i)) (position s k) ≡ (λ z. neg_ℚ ((position s k).coefficient (s.width + i) z))
      turned_same = λ j z. late_turned z j

      pub turned_adds : AppendedFits s (turned (row_at s i)) (position s k)
      turned_adds = record {
        value = subst (SideValueFits s (position s k)) (sym turned_same) (value_cases (cases_Bool ((position s k).is_basic (s.width + i))));
        row = λ l e t o. subst (SideRowFits s (position s k) l e) (sym turned_same) (row_cases l e t (cases_Bool ((position s k).is_basic (s.width + i))) (λ z. o (late_turned e ∙ z)));
      }

  -- ---- the runs
  module _ (s : LinearSystem) (more : List Row) (w : NumbersFit s) (a : AreTurned s more) where
    pub turned_all : RunFits s → AllAppendedFit s more
    turned_all f = record {
      each = λ k i h m. (let r = a.each i m in
          subst (λ z. AppendedFits s z (position s k)) (sym r.2)
          (turned_adds s k r.0 r.1 w (f.fits k h) (coefficients_fit laws s w k h (λ j l. f.fits j (omega arith)))));
    }

    pub turned_beginning : RunFits s → BeginningFits s more
    turned_beginning f = record { each = λ k i h m. (turned_all f).each k i (omega arith) m }

    -- so only what comes from the shorter run's last position on is left
    pub turned_fits : RunFits (lengthened s more) ↔ (RunFits s × LaterFits s more)
    turned_fits = (λ h. (let z = (fits_split s more).0 h in (z.0, z.2)), λ h. (fits_split s more).1 (h.0, turned_beginning h.0, h.1))
