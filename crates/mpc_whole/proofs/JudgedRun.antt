-- One turn of a run whose positions are judged row by row.
use Rattle.std.proofs.Common.{◌≡◌, ℕ, ◌+◌, ◌-◌, ◌*◌, ◌^◌, ◌<◌, ◌≤◌, false, List, set, ℤ, unsigned_abs, Some, None, suc, refl, sym, ◌∙◌, ap, subst, subst₂, arith, inl, inr, ⊎_elim, le_trans}
use Rattle.std.proofs.lemmas.Bool.{both_ways, cases_eq}
use Rattle.mpc_rows.specs.Least.{least}
use Rattle.mpc_rows.specs.LinearSystem.{LinearSystem, height}
use Rattle.mpc_rows.specs.Run.{Position, goes_on, leaving, entering, count, may_leave, may_enter, turn, is_pivot, position, steps}
use Rattle.mpc_rows.specs.RunWidth.{PositionFits}
use Rattle.mpc_runs.specs.declared.variables.Seat.{Seat}
use Rattle.mpc_runs.specs.declared.variables.Seat.TheVariants.{Row, Column}
use Rattle.mpc_whole.specs.declared.whole.Ending.{Ending}
use Rattle.mpc_whole.specs.declared.whole.Ending.TheVariants.{Point, Refuted}
use Rattle.mpc_runs.specs.Table.{seat_at, IsSeated}
use Rattle.mpc_whole.specs.Norms.{Over}
use Rattle.mpc_whole.specs.Moved.{AreFormed}
use Rattle.mpc_whole.specs.Underway.{turn_of, HasEnded}
use Rattle.mpc_whole.specs.Judged.{coefficient_of, IsJudged, IsPivotJudged, IsRowWithin, IsDividedRow, IsReducedPivot, IsWeighedAt, IsMildForm, AreMildBefore, IsMildlyUnderway, IsPositionKept, IsLeavingRow}
use Rattle.mpc_scaled.specs.Scaled.{whole_at, whole_cell, scale_at, IsSmall, IsWholeSystem}
use Rattle.mpc_runs.proofs.Positions.{tableau}
use Rattle.mpc_runs.proofs.Turn.{Leaves, turn-at}
use Rattle.mpc_whole.proofs.DividedRows.{times_row, side_of_divided}
use Rattle.mpc_whole.proofs.WholeForm.{divided_is, divided_over, judged_over, judged_divided}
use Rattle.mpc_whole.proofs.StatedRows.{judged_by_rows}
use Rattle.mpc_whole.proofs.WholeSizes.{wider_form, small_form, small_after}
use Rattle.mpc_whole.proofs.Standing.{reached_of, point_here, is_at_end, has_ended, leaves_here, refuted_here, goes_here, next_form, next_underway}

module _ (s : LinearSystem) (k : List ℕ) where
  -- greater sizes
  wider_weighed : (e top size y : ℕ) (z : ℤ) (m weight : ℕ) → m ≤ weight → IsWeighedAt s k e top size y z m → IsWeighedAt s k e top size y z weight
  wider_weighed e top size y z m weight h q = record {
    entering = λ i. le_trans (q.entering i) h;
    other = λ i. le_trans (q.other i) h;
    first = λ i x f. le_trans (q.first i x f) h;
    second = le_trans q.second h;
  }

  module _ (m m_den f most most_den product : ℕ) (before weight : ℕ → ℕ) (h : m ≤ most) (l : m_den ≤ most_den) (o : (j : ℕ) → before j ≤ weight j) (r : f ≤ product) where
    wider_mild : (p : Position) → IsMildForm s k p m m_den before f → IsMildForm s k p most most_den weight product
    wider_mild p z = record {
      form = wider_form s k p m m_den most most_den h l z.form;
      divisor = z.divisor;
      left = z.left;
      split = z.split;
      enters = z.enters;
      top = z.top;
      size = z.size;
      row = z.row;
      weighed = λ j y c i q e. wider_weighed z.enters z.top z.size y (whole_cell s.width z.form.numbers j c) (before j) (weight j) (o j) (z.weighed j y c i q e);
      dens = le_trans z.dens r;
    }

    -- one position more
    mild_after : (q : ℕ) → AreMildBefore s k q m m_den before f → IsMildForm s k (position s q) most most_den weight product → AreMildBefore s k (suc q) most most_den weight product
    mild_after q b z = record {
      each = λ i below. ⊎_elim (λ e. subst (λ j. IsMildForm s k (position s j) most most_den weight product) (sym e) z) (λ e. wider_mild (position s i) (b.each i (omega arith))) (cases_eq i q);
    }

module _ (s : LinearSystem) (n : ℕ) (seats : List Seat) (seated : IsSeated (height s) s.width n seats) (k : List ℕ) (d : ℕ) (v a b : List ℤ) (w : IsWholeSystem s k a b) (c_1 c_2 : List ℤ) (most most_den : ℕ) (weight : ℕ → ℕ) (product first : ℕ)
    (u : IsMildlyUnderway s n seats k d v c_1 c_2 most most_den weight product first) where
  abbrev here : Position
  here = position s u.underway.stands.at

  module _ (f₀ top size : ℕ) (g : IsJudged s n seats k a b d v f₀ top size) where
    -- ---- an end
    module _ (end : Ending) (t : turn s here ≡ turn_of end) (stops : is_pivot (turn_of end) ≡ false) where
      end_fits : PositionFits s here
      end_fits =
          judged_over s here (reached_of s n seats k d v u.underway.stands) k a b w n (sym seated.count) seats d v u.underway.stands.form f₀ top size g
          (λ l e q. absurd (both_ways (is_pivot (turn s here)) (ap is_pivot t ∙ stops) (ap is_pivot q)))

      kept_end : HasEnded s n seats k d v c_1 c_2 most most_den end
      kept_end = has_ended s n seats seated k d v a b w u.underway.stands end_fits end t stops c_1 c_2 u.underway.values most most_den u.underway.before

      mild_end : product < 2 ^ 127 → AreMildBefore s k (steps s) most most_den weight product
      mild_end known = subst (λ q. AreMildBefore s k q most most_den weight product) (is_at_end s n seats seated k d v a b w u.underway.stands end_fits end t stops) (u.before known)

    module _ (e : None ≡ least (may_leave s here) n) where
      pub judged_point : HasEnded s n seats k d v c_1 c_2 most most_den Point
      judged_point = kept_end Point (point_here s n seats seated k d v a b w u.underway.stands e) refl

      pub mild_point : product < 2 ^ 127 → AreMildBefore s k (steps s) most most_den weight product
      mild_point = mild_end Point (point_here s n seats seated k d v a b w u.underway.stands e) refl

    module _ (l : ℕ) (e : Some l ≡ least (may_leave s here) n) (o : None ≡ least (may_enter s here l) n) where
      pub judged_refuted : HasEnded s n seats k d v c_1 c_2 most most_den (Refuted l)
      judged_refuted = kept_end (Refuted l) (refuted_here s n seats seated k d v a b w u.underway.stands l e o) refl

      pub mild_refuted : product < 2 ^ 127 → AreMildBefore s k (steps s) most most_den weight product
      mild_refuted = mild_end (Refuted l) (refuted_here s n seats seated k d v a b w u.underway.stands l e o) refl

  -- ---- a pivot, where f enters and the row that leaves is over a divisor
  module _ (l : ℕ) (e : Some l ≡ least (may_leave s here) n) (f : ℕ) (o : Some f ≡ least (may_enter s here l) n) (divisor left : ℕ) (part : List ℤ) (parted : IsDividedRow s a v (l - s.width) d divisor left part) (top size : ℕ)
      (g : IsPivotJudged s n seats k a b d v l f left part top size) (h : IsRowWithin n seats k l f part top size) where
    goes : turn s here ≡ goes_on l f
    goes = goes_here s n seats seated k d v a b w u.underway.stands l e f o

    leaves : Leaves s here l
    leaves = leaves_here s n seats seated k d v a b w u.underway.stands l e

    part_there : (m y : ℕ) → ((c : ℕ) → y < n → seat_at seats y ≡ Column c → unsigned_abs (whole_at part c) * scale_at k y ≤ m) → y < count s → Over (left * scale_at k l) m (here.coefficient l y)
    part_there m y within below =
        let h₁ : l < count s = leaves.below in
        let h₂ : s.width ≤ l = leaves.violated.side in
        let back : s.width + (l - s.width) ≡ l = omega arith in
        subst (λ i. Over (left * scale_at k i) m (here.coefficient i y)) back
        (divided_over s here (reached_of s n seats k d v u.underway.stands) k a b w n (sym seated.count) seats d v u.underway.stands.form (l - s.width) divisor left part parted m y (omega arith)
        (λ c q e. ((seated.columns y c q e).0, within c q e)) below)

    leaving_row : IsLeavingRow s here k left f top size l f
    leaving_row = record {
      entering = refl;
      pivot = part_there size f (λ c q e. h.entering f c q e refl) (turn-at s here (goes_on l f) goes).below;
      others = λ y below apart. part_there top y (λ c q e. h.others y c q e apart) below;
      own = h.own;
    }

    -- no other turn is made there
    rows_there : (m i : ℕ) → turn s here ≡ goes_on m i → IsLeavingRow s here k left f top size m i
    rows_there m i q = subst₂ (λ y z. IsLeavingRow s here k left f top size y z) (ap leaving (sym goes ∙ q)) (ap entering (sym goes ∙ q)) leaving_row

    numbers_there : (y c : ℕ) → y < n → seat_at seats y ≡ Column c → here.coefficient l y ≡ coefficient_of k left l y (whole_at part c)
    numbers_there y c q e =
        let h₁ : l < count s = leaves.below in
        let h₂ : s.width ≤ l = leaves.violated.side in
        let back : s.width + (l - s.width) ≡ l = omega arith in
        subst (λ i. here.coefficient i y ≡ coefficient_of k left i y (whole_at part c)) back
        (divided_is s here (reached_of s n seats k d v u.underway.stands) k a b w n (sym seated.count) seats d v u.underway.stands.form (l - s.width) divisor left part parted y c (omega arith) q e (seated.columns y c q e).0)

    fits_by : IsPivotJudged s n seats k a b d v l f left part top size → PositionFits s here
    fits_by (inl j) =
        judged_divided s here (reached_of s n seats k d v u.underway.stands) k a b w n (sym seated.count) seats d v u.underway.stands.form f top size j divisor left parted.split rows_there
    fits_by (inr j) =
        judged_by_rows s here (reached_of s n seats k d v u.underway.stands) k a b w n (sym seated.count) seats d v u.underway.stands.form l f left part top size (turn-at s here (goes_on l f) goes) numbers_there divisor parted.split leaving_row j goes

    fits_here : PositionFits s here
    fits_here = fits_by g

    -- what is kept of the position
    module _ (more more_den : ℕ) (more_weight : ℕ → ℕ) (more_product : ℕ) (small_v : IsSmall more v) (den_small : d ≤ more_den) where
      mild_here : d * size ≤ more_product → ((j y c : ℕ) → j < s.width → y < n → seat_at seats y ≡ Column c → IsWeighedAt s k f top size y (whole_cell s.width v j c) (more_weight j)) → IsMildForm s k here more more_den more_weight more_product
      mild_here dens weighed = record {
        form = small_form s k n seats seated d v here u.underway.stands.form more more_den small_v den_small;
        divisor = divisor;
        left = left;
        split = parted.split;
        enters = f;
        top = top;
        size = size;
        row = rows_there;
        weighed = λ j y c h q. weighed j y c h (subst (λ m. y < m) (sym seated.count) q);
        dens = dens;
      }

      pub position_kept : most ≤ more → most_den ≤ more_den → product ≤ more_product → (more_product < 2 ^ 127 → (j : ℕ) → weight j ≤ more_weight j) → (more_product < 2 ^ 127 → d * size ≤ more_product)
          → (more_product < 2 ^ 127 → (j y c : ℕ) → j < s.width → y < n → seat_at seats y ≡ Column c → IsWeighedAt s k f top size y (whole_cell s.width v j c) (more_weight j))
          → IsPositionKept s n seats k d v more more_den more_weight more_product l f
      position_kept wide wide_den wide_product wide_weight dens weighed = record {
        stands = u.underway.stands;
        leaves = e;
        enters = o;
        fits = fits_here;
        small = small_after s k u.underway.stands.at most most_den more more_den wide wide_den u.underway.before (small_form s k n seats seated d v here u.underway.stands.form more more_den small_v den_small);
        before = λ known. mild_after s k most most_den product more more_den more_product weight more_weight wide wide_den (wide_weight known) wide_product u.underway.stands.at (u.before (omega arith)) (mild_here (dens known) (weighed known));
      }

-- ---- the position after the pivot, where the row that leaves is over a divisor
module _ (s : LinearSystem) (n : ℕ) (seats : List Seat) (seated : IsSeated (height s) s.width n seats) (k : List ℕ) (d : ℕ) (v a b : List ℤ) (w : IsWholeSystem s k a b) (most most_den : ℕ) (weight : ℕ → ℕ) (product l f : ℕ)
    (u : IsPositionKept s n seats k d v most most_den weight product l f) (divisor left : ℕ) (part : List ℤ) (parted : IsDividedRow s a v (l - s.width) d divisor left part) (r₀ c₀ : ℕ) (sl : seat_at seats l ≡ Row r₀) (sf : seat_at seats f ≡ Column c₀) where
  pub next_mildly : (new : List ℤ) (after : ℕ) → IsReducedPivot s.width d v new (times_row divisor part) c₀ after → (n_1 n_2 : List ℤ) → AreFormed s n (set (set seats l (Column c₀)) f (Row r₀)) k b new n_1 n_2
      → IsMildlyUnderway s n (set (set seats l (Column c₀)) f (Row r₀)) k after new n_1 n_2 most most_den weight product s.width
  next_mildly new after piv n_1 n_2 formed =
      let z = u.stands in
      let x = times_row divisor part in
      let row = side_of_divided s a v (l - s.width) d divisor left part parted in
      let values = formed.each (position s (suc z.at)) after (tableau s (suc z.at)) (next_form s n seats seated k d v a b w z l u.leaves f u.enters r₀ c₀ sl sf x row new after piv) w.sides in
      record {
        underway = next_underway s n seats seated k d v a b w z l u.leaves f u.enters r₀ c₀ sl sf x row new after piv u.fits n_1 n_2 values most most_den u.small;
        before = u.before;
      }
