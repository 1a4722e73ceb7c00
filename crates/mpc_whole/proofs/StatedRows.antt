-- A pivot that is judged row by row: where the stated operations on a row were made, or the sizes of its numbers show that they fit.
use Rattle.std.proofs.Common.{◌≡◌, ℕ, ◌+◌, ◌-◌, ◌*◌, ◌/◌, ◌^◌, ◌<◌, ◌≤◌, ◌⊎◌, inl, inr, false, List, ℤ, pos, ◌*ℤ◌, unsigned_abs, refl, sym, ◌∙◌, ap, subst, subst₂, arith, lt-ltb, le-ltb}
use Rattle.std.proofs.lemmas.Bool.{cond-true, cond-false, cases_Bool, cases_lt, both_ways}
use Rattle.std.proofs.lemmas.Int.{unsigned_abs-mul}
use Rattle.std.proofs.lemmas.Nat.{le-div}
use Rattle.mpc_exact.specs.Rational.{frac, ◌*ℚ◌, inv_ℚ}
use Rattle.mpc_frac.specs.Fits.{FitsFrac, FitsSum}
use Rattle.mpc_rows.specs.LinearSystem.{LinearSystem, height}
use Rattle.mpc_rows.specs.Run.{Position, goes_on, leaving, entering, count, turn}
use Rattle.mpc_rows.specs.RunWidth.{PositionFits}
use Rattle.mpc_runs.specs.declared.variables.Seat.{Seat}
use Rattle.mpc_runs.specs.declared.variables.Seat.TheVariants.{Column}
use Rattle.mpc_runs.specs.Table.{seat_at}
use Rattle.mpc_whole.specs.Norms.{Over}
use Rattle.mpc_whole.specs.Whole.{side_cell, IsForm}
use Rattle.mpc_scaled.specs.Scaled.{whole_at, whole_cell, scale_at, IsWholeSystem}
use Rattle.mpc_whole.specs.Judged.{row_cell, coefficient_of, IsRowBelow, IsTermStated, IsRowStated, IsJudgedByRows, IsLeavingRow}
use Rattle.mpc_runs.proofs.Ends.{Reached}
use Rattle.mpc_runs.proofs.Pivot.{entering-at_leaving, entering-other}
use Rattle.mpc_runs.proofs.Seats.{column_seat}
use Rattle.mpc_runs.proofs.Turn.{Goes}
use Rattle.mpc_whole.proofs.WholeNorms.{HasRowRoom, HasFittingRow, HasPivotRoom}
use Rattle.mpc_whole.proofs.WholeForm.{equal_share, reached_tableau, side_entry, row_den, den_some, own_den, by_seat, top_some, size_some, pivot_room, judged_with}

module _ (s : LinearSystem) (a v : List ℤ) (x c : ℕ) where
  pub row_cell-unknown : x < s.width → row_cell s a v x c ≡ whole_cell s.width v x c
  row_cell-unknown h = cond-true _ _ _ (lt-ltb x s.width h)

  pub row_cell-side : s.width ≤ x → row_cell s a v x c ≡ side_cell s a v (x - s.width) c
  row_cell-side h = cond-false _ _ _ (le-ltb x s.width h)

module _ (s : LinearSystem) (p : Position) (r : Reached s p) (k : List ℕ) (a b : List ℤ) (w : IsWholeSystem s k a b) (n : ℕ) (whole : count s ≡ n) (seats : List Seat) (d : ℕ) (v : List ℤ) (f : IsForm s n seats k d v p) where
  abbrev den_of : ℕ → ℕ
  den_of = row_den s p r k a b w n whole seats d v f

  some_den : (x : ℕ) → x < count s → 0 < den_of x
  some_den = den_some s p r k a b w n whole seats d v f

  y_in : (y : ℕ) → y < count s → y < n
  y_in y h = subst (λ m. y < m) whole h

  -- the coefficients of all rows
  cell_by : (x y c : ℕ) → x < count s → y < n → seat_at seats y ≡ Column c → (x < s.width) ⊎ (s.width ≤ x) → p.coefficient x y ≡ frac (row_cell s a v x c *ℤ pos (scale_at k y)) (den_of x)
  unfolding row_den
  cell_by x y c l h e (inl o) =
      f.entries x y c o h e ∙ ap (λ z. frac (z *ℤ pos (scale_at k y)) d) (sym (row_cell-unknown s a v x c o))
      ∙ ap (frac (row_cell s a v x c *ℤ pos (scale_at k y))) (sym (own_den s p r k a b w n whole seats d v f x o))
  cell_by x y c l h e (inr o) =
      let i = x - s.width in
      let i_in : i < height s = omega arith in
      let q : s.width + i ≡ x = omega arith in
      subst (λ z. p.coefficient z y ≡ frac (side_cell s a v i c *ℤ pos (scale_at k y)) (d * scale_at k z)) q (side_entry s p r k a b w n whole seats d v f i y c i_in h e)
      ∙ ap (λ z. frac (z *ℤ pos (scale_at k y)) (d * scale_at k x)) (sym (row_cell-side s a v x c o))

  cell_is : (x y c : ℕ) → x < count s → y < n → seat_at seats y ≡ Column c → p.coefficient x y ≡ coefficient_of k d x y (row_cell s a v x c)
  unfolding row_den
  cell_is x y c l h e = cell_by x y c l h e (cases_lt x s.width)

  cell_over : (m x y : ℕ) → x < count s → y < count s → ((c : ℕ) → seat_at seats y ≡ Column c → unsigned_abs (row_cell s a v x c) * scale_at k y ≤ m) → Over (den_of x) m (p.coefficient x y)
  cell_over m x y l h size =
      by_seat s p r k a b w n whole seats d v f y m (den_of x) (p.coefficient x y) (some_den x l) (y_in y h) ((reached_tableau s p r).empty x y)
      (λ c e. record {
        at = row_cell s a v x c *ℤ pos (scale_at k y);
        is = cell_by x y c l (y_in y h) e (cases_lt x s.width);
        size = subst (λ q. q ≤ m) (sym (unsigned_abs-mul (row_cell s a v x c) (pos (scale_at k y)))) (size c e);
      })
      (cases_Bool (p.is_basic y))

  -- where l leaves, with these numbers over a rest of the denominator, and e enters
  module _ (l e rest : ℕ) (row : List ℤ) (top size : ℕ) (goes : Goes s p l e) (numbers : (y c : ℕ) → y < n → seat_at seats y ≡ Column c → p.coefficient l y ≡ coefficient_of k rest l y (whole_at row c)) where
    below_room : 0 < top → 0 < size → (x : ℕ) → x < count s → IsRowBelow s n seats k a d v e top size x → HasRowRoom (count s) p e top size (den_of x) x
    unfolding row_den
    below_room top_in size_in x h o = record {
      factor = 2 ^ 125 / top;
      factors = cell_over (2 ^ 125 / top) x e h goes.below (λ c q. le-div (unsigned_abs (row_cell s a v x c) * scale_at k e) (2 ^ 125) top top_in (o.entering e c (y_in e goes.below) q refl));
      factor_room = equal_share top top_in;
      most = 2 ^ 125 / size;
      entries = λ y l apart. cell_over (2 ^ 125 / size) x y h l (λ c q. le-div (unsigned_abs (row_cell s a v x c) * scale_at k y) (2 ^ 125) size size_in (o.others y c (y_in y l) q apart));
      room = equal_share size size_in;
      den_room = o.room;
    }

    column_at : (y : ℕ) → y < count s → p.is_basic y ≡ false → (c : ℕ) × (seat_at seats y ≡ Column c)
    column_at y h free = column_seat (seat_at seats y) (sym (f.basic y (y_in y h)) ∙ free)

    not_leaving : (y : ℕ) → p.is_basic y ≡ false → y ≡ l → ⊥
    not_leaving y free h = both_ways (p.is_basic l) (subst (λ z. p.is_basic z ≡ false) h free) goes.leaves.violated.basic

    module _ (x : ℕ) (x_in : x < count s) (o : IsRowStated s n seats k a d v l e rest row x) where
      factor_column : (c : ℕ) × (seat_at seats e ≡ Column c)
      factor_column = column_at e goes.below goes.eligible.free

      factor_is : coefficient_of k d x e (row_cell s a v x factor_column.0) ≡ p.coefficient x e
      factor_is = sym (cell_is x e factor_column.0 x_in (y_in e goes.below) factor_column.1)

      pivot_is : coefficient_of k rest l e (whole_at row factor_column.0) ≡ p.coefficient l e
      pivot_is = sym (numbers e factor_column.0 (y_in e goes.below) factor_column.1)

      term : (y : ℕ) → y < count s → p.is_basic y ≡ false → (y ≡ e → ⊥) → IsTermStated (p.coefficient x y) (p.coefficient x e) (p.coefficient l y) (p.coefficient l e)
      term y h free apart =
          let q = column_at y h free in
          subst₂ (λ u z. IsTermStated u (p.coefficient x e) z (p.coefficient l e)) (sym (cell_is x y q.0 x_in (y_in y h) q.1)) (sym (numbers y q.0 (y_in y h) q.1))
          (subst₂ (λ u z. IsTermStated (coefficient_of k d x y (row_cell s a v x q.0)) u (coefficient_of k rest l y (whole_at row q.0)) z) factor_is pivot_is (o.terms y factor_column.0 q.0 (y_in y h) apart factor_column.1 q.1))

      stated_row : HasFittingRow (count s) p l e x
      stated_row = record {
        entering = record { quotients = λ y h free apart. (term y h free apart).quotient };
        row = record {
          leaving = subst (λ u. FitsFrac (p.coefficient x e *ℚ u)) (sym (entering-at_leaving p l e)) (subst₂ (λ u z. FitsFrac (u *ℚ inv_ℚ z)) factor_is pivot_is (o.leaving factor_column.0 factor_column.1));
          entries = λ y h free apart. let own = sym (entering-other p l e y (not_leaving y free) apart) in record {
            product = subst (λ u. FitsFrac (p.coefficient x e *ℚ u)) own (term y h free apart).product;
            sum = subst (λ u. FitsSum (p.coefficient x y) (p.coefficient x e *ℚ u)) own (term y h free apart).sum;
          };
        };
      }

    row_by : 0 < top → 0 < size → (x : ℕ) → x < count s → IsRowBelow s n seats k a d v e top size x ⊎ IsRowStated s n seats k a d v l e rest row x → HasRowRoom (count s) p e top size (den_of x) x ⊎ HasFittingRow (count s) p l e x
    row_by top_in size_in x h (inl o) = inl (below_room top_in size_in x h o)
    row_by top_in size_in x h (inr o) = inr (stated_row x h o)

    module _ (g₀ : ℕ) (split : g₀ * rest ≡ d) (o : IsLeavingRow s p k rest e top size l e) (j : IsJudgedByRows s n seats k a b d v l e rest row top size) where
      room_here : HasPivotRoom s p den_of l e
      room_here =
          pivot_room s p r k a b w n whole seats d v f e top size g₀ rest split l e goes o
          (λ x h basic. row_by (top_some s p r k a b w n whole seats d v f e top size g₀ rest split l e goes o) (size_some s p r k a b w n whole seats d v f e top size g₀ rest split l e goes o) x h
          (j.rows x (y_in x h) (sym (f.basic x (y_in x h)) ∙ basic)))

      pub judged_by_rows : turn s p ≡ goes_on l e → PositionFits s p
      judged_by_rows t =
          judged_with s p r k a b w n whole seats d v f 0 0 0 j.values
          (λ m i q. subst₂ (λ y z. HasPivotRoom s p den_of y z) (ap leaving (sym t ∙ q)) (ap entering (sym t ∙ q)) room_here)
