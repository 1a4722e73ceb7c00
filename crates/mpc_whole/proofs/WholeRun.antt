-- One turn of the run on whole numbers, at a position of the run.
use Rattle.std.proofs.Common.{◌≡◌, ℕ, ◌+◌, ◌-◌, ◌*◌, ◌^◌, ◌<◌, ◌≤◌, List, length, set, ℤ, pos, ◌*ℤ◌, unsigned_abs, Some, None, refl, suc, sym, ◌∙◌, ap, subst, arith, ◌⊎◌, inl, inr}
use Rattle.std.proofs.lemmas.Bool.{cases_lt}
use Rattle.std.proofs.lemmas.List.{get_or_past}
use Rattle.mpc_exact.specs.Rational.{ℚ, frac}
use Rattle.mpc_rows.specs.Least.{least}
use Rattle.mpc_rows.specs.LinearSystem.{LinearSystem, height}
use Rattle.mpc_rows.specs.Run.{Position, IsTableau, is_refuted, count, value, may_leave, may_enter, turn, last_position, position, steps}
use Rattle.mpc_rows.specs.RunWidth.{PositionFits}
use Rattle.mpc_runs.specs.declared.variables.Seat.{Seat}
use Rattle.mpc_runs.specs.declared.variables.Seat.TheVariants.{Row, Column}
use Rattle.mpc_whole.specs.declared.whole.Ending.TheVariants.{Point, Refuted}
use Rattle.mpc_runs.specs.Table.{seat_at, IsSeated}
use Rattle.mpc_whole.specs.SharedSizes.{AreSmallBefore}
use Rattle.mpc_whole.specs.Underway.{IsUnderway, HasEnded}
use Rattle.mpc_whole.specs.Moved.{AreFollowed}
use Rattle.mpc_runs.specs.RunEnd.{IsValues}
use Rattle.mpc_whole.specs.Whole.{HasSideBound, IsNarrow, IsForm, HasSideValues, AreValues, IsRowOf, IsSideRow, IsWholePivot, ArePairs, Stands, side_cell}
use Rattle.mpc_scaled.specs.Scaled.{whole_at, scale_at, IsSmall, IsWholeSystem}
use Rattle.mpc_runs.proofs.Positions.{tableau}
use Rattle.mpc_runs.proofs.Turn.{Leaves, turn-at}
use Rattle.mpc_runs.proofs.Ends.{Reached}
use Rattle.mpc_whole.proofs.WholeForm.{reached_tableau, side_first, side_second, side_total, side_entry, narrow_fits}
use Rattle.mpc_whole.proofs.WholeScales.{less_with_scale}
use Rattle.mpc_whole.proofs.WholePivot.{whole_reduced}
use Rattle.mpc_whole.proofs.WholeSizes.{small_form, small_after}
use Rattle.mpc_whole.proofs.WholeMoves.{values_moved}
use Rattle.mpc_whole.proofs.Standing.{reached_of, some_scale, point_here, has_ended, side_in, refuted_here, goes_side, seat_side, next_is, next_form, next_underway as underway_next}

pub side_values_at : (s : LinearSystem) (k : List ℕ) (a b : List ℤ) → IsWholeSystem s k a b → (q : ℕ) → q ≤ steps s → (n : ℕ) (seats : List Seat) (d : ℕ) (v : List ℤ) → IsForm s n seats k d v (position s q) → (c_1 c_2 : List ℤ) → AreValues s (position s q) d c_1 c_2 → HasSideValues s k a (position s q) d c_1 c_2
side_values_at s k a b w q order n seats d v f c_1 c_2 h =
    let r : Reached s (position s q) = record { after = q; order = order; is = refl } in
    record {
      first = λ i l. side_first s (position s q) r i l ∙ side_total s (position s q) r k a b w i d (λ j. (value s (position s q) j).first) (whole_at c_1) l f.some h.first;
      second = λ i l. side_second s (position s q) r i l ∙ side_total s (position s q) r k a b w i d (λ j. (value s (position s q) j).second) (whole_at c_2) l f.some h.second;
    }

pub run_tableau : (s : LinearSystem) (k : ℕ) → k ≤ steps s → IsTableau (position s k)
run_tableau s k order = reached_tableau s (position s k) (record { after = k; order = order; is = refl })

pub row_small : (s : LinearSystem) (a v : List ℤ) (i : ℕ) (x : List ℤ) → IsSideRow s a v i x → ((c : ℕ) → c < s.width → unsigned_abs (side_cell s a v i c) ≤ 2 ^ 62) → IsSmall (2 ^ 62) x
row_small s a v i x r h = record { each = λ k. by k (cases_lt k s.width) }
  where
    by : (k : ℕ) → (k < s.width) ⊎ (s.width ≤ k) → unsigned_abs (whole_at x k) ≤ 2 ^ 62
    by k (inl l) = subst (λ z. unsigned_abs z ≤ 2 ^ 62) (sym (r.cells k l)) (h k l)
    by k (inr l) = subst (λ z. unsigned_abs z ≤ 2 ^ 62) (sym (get_or_past x k (pos 0) (let q : length x ≡ s.width = r.size in omega arith))) (omega arith)

module _ (s : LinearSystem) (n : ℕ) (seats : List Seat) (seated : IsSeated (height s) s.width n seats) (k : List ℕ) (d : ℕ) (v a b : List ℤ) (most_side : ℕ)
    (w : IsWholeSystem s k a b) (g : HasSideBound s b most_side) (narrow : IsNarrow s n seats k a d v) (z : Stands s n seats k d v) where
  stands_fit : PositionFits s (position s z.at)
  stands_fit = narrow_fits s (position s z.at) (reached_of s n seats k d v z) k a b w n (sym seated.count) seats d v z.form narrow most_side g

  pub side_cells_small : (i c : ℕ) → i < height s → c < s.width → unsigned_abs (side_cell s a v i c) ≤ 2 ^ 62
  side_cells_small i c h l =
      let u = seated.columns_full c l in
      less_with_scale (unsigned_abs (side_cell s a v i c)) (scale_at k (seated.of_column c)) (some_scale s n seats seated k d v a b w z (seated.of_column c) u.0) (narrow.rows i (seated.of_column c) c h u.0 u.1)

  pub point_kept : None ≡ least (may_leave s (position s z.at)) n → (c_1 c_2 : List ℤ) → AreValues s (position s z.at) d c_1 c_2 → (most most_den : ℕ) → AreSmallBefore s k z.at most most_den → HasEnded s n seats k d v c_1 c_2 most most_den Point
  point_kept e = has_ended s n seats seated k d v a b w z stands_fit Point (point_here s n seats seated k d v a b w z e) refl

  -- l leaves
  module _ (l : ℕ) (e : Some l ≡ least (may_leave s (position s z.at)) n) (x : List ℤ) (row : IsSideRow s a v (l - s.width) x) where
    pub refuted_kept : None ≡ least (may_enter s (position s z.at) l) n → (c_1 c_2 : List ℤ) → AreValues s (position s z.at) d c_1 c_2 → (most most_den : ℕ) → AreSmallBefore s k z.at most most_den → HasEnded s n seats k d v c_1 c_2 most most_den (Refuted l)
    refuted_kept o = has_ended s n seats seated k d v a b w z stands_fit (Refuted l) (refuted_here s n seats seated k d v a b w z l e o) refl

    -- f enters
    module _ (f : ℕ) (o : Some f ≡ least (may_enter s (position s z.at) l) n) (r₀ c₀ : ℕ) (sl : seat_at seats l ≡ Row r₀) (sf : seat_at seats f ≡ Column c₀) (new : List ℤ) (piv : IsWholePivot s.width d v new x c₀) where
      -- the values there, moved or formed anew
      next_values : (c_1 c_2 n_1 n_2 : List ℤ) → AreValues s (position s z.at) d c_1 c_2
          → AreFollowed s n (set (set seats l (Column c₀)) f (Row r₀)) k a b new (l - s.width) c₀ d (unsigned_abs (whole_at x c₀)) c_1 c_2 n_1 n_2 → AreValues s (position s (suc z.at)) (unsigned_abs (whole_at x c₀)) n_1 n_2
      next_values c_1 c_2 n_1 n_2 values (inl m) =
          subst (λ p. AreValues s p (unsigned_abs (whole_at x c₀)) n_1 n_2) (sym (next_is s n seats seated k d v a b w z l e f o r₀ c₀ sl sf))
          (values_moved s (position s z.at) (reached_of s n seats k d v z) k a b w n (sym seated.count) seats seated d v z.form (l - s.width) f (goes_side s n seats seated k d v a b w z l e f o r₀ c₀ sl sf) (side_in s n seats seated k d v a b w z l e) x row r₀ c₀ (seat_side s n seats seated k d v a b w z l e f o r₀ c₀ sl sf) sf new piv
          m.0 c_1 c_2 n_1 n_2 values (side_values_at s k a b w z.at z.order n seats d v z.form c_1 c_2 values) m.1 m.2)
      next_values c_1 c_2 n_1 n_2 values (inr m) = m.each (position s (suc z.at)) (unsigned_abs (whole_at x c₀)) (tableau s (suc z.at)) (next_form s n seats seated k d v a b w z l e f o r₀ c₀ sl sf x row new (unsigned_abs (whole_at x c₀)) (whole_reduced s.width d v new x c₀ z.form.some piv)) w.sides

      pub next_underway : (c_1 c_2 n_1 n_2 : List ℤ) → AreValues s (position s z.at) d c_1 c_2
          → AreFollowed s n (set (set seats l (Column c₀)) f (Row r₀)) k a b new (l - s.width) c₀ d (unsigned_abs (whole_at x c₀)) c_1 c_2 n_1 n_2
          → (m m_den most most_den : ℕ) → m ≤ most → m_den ≤ most_den → IsSmall most v → d ≤ most_den → AreSmallBefore s k z.at m m_den
          → IsUnderway s n (set (set seats l (Column c₀)) f (Row r₀)) k (unsigned_abs (whole_at x c₀)) new n_1 n_2 most most_den s.width
      next_underway c_1 c_2 n_1 n_2 values followed m m_den most most_den wide wide_den small small_den h =
          underway_next s n seats seated k d v a b w z l e f o r₀ c₀ sl sf x row new (unsigned_abs (whole_at x c₀)) (whole_reduced s.width d v new x c₀ z.form.some piv) stands_fit n_1 n_2 (next_values c_1 c_2 n_1 n_2 values followed)
          most most_den (small_after s k z.at m m_den most most_den wide wide_den h (small_form s k n seats seated d v (position s z.at) z.form most most_den small small_den))

-- ---- the end
pub values_paired : (s : LinearSystem) (p : Position) (d : ℕ) (c_1 c_2 : List ℤ) (values : List (ℚ × ℚ)) → length c_1 ≡ s.width → AreValues s p d c_1 c_2 → ArePairs d c_1 c_2 values → IsValues s p values
values_paired s p d c_1 c_2 values long h q = record {
  size = q.size ∙ long;
  at = λ j l. let u = q.at j (subst (λ m. j < m) (sym long) l) in (u.0, u.1, u.2 ∙ sym (h.first j l), u.3 ∙ sym (h.second j l));
}

module _ (s : LinearSystem) (n : ℕ) (seats : List Seat) (k : List ℕ) (d : ℕ) (v : List ℤ) (f : IsForm s n seats k d v (last_position s)) where
  form_last : IsForm s n seats k d v (position s (steps s))
  unfolding last_position
  form_last = f

  reached_last : Reached s (last_position s)
  unfolding last_position
  reached_last = record { after = steps s; order = omega arith; is = refl }

  module _ (seated : IsSeated (height s) s.width n seats) (a b : List ℤ) (w : IsWholeSystem s k a b) (l : ℕ) (t : turn s (last_position s) ≡ is_refuted l) where
    last_leaves : Leaves s (last_position s) l
    last_leaves = (turn-at s (last_position s) (is_refuted l) t).0

    pub last_side : s.width ≤ l
    last_side = last_leaves.violated.side

    pub last_below : l < n
    last_below = let h : l < count s = last_leaves.below in let q = seated.count in omega arith

    pub last_in : l - s.width < height s
    last_in = let h : l < count s = last_leaves.below in let q : s.width ≤ l = last_side in omega arith

    last_back : s.width + (l - s.width) ≡ l
    last_back = let q : s.width ≤ l = last_side in omega arith

    pub last_scale : (y : ℕ) → y < n → 0 < scale_at k y
    last_scale y h = w.scales.some y (subst (λ m. y < m) seated.count h)

    pub last_entry : (y c : ℕ) → y < n → seat_at seats y ≡ Column c → (last_position s).coefficient l y ≡ frac (side_cell s a v (l - s.width) c *ℤ pos (scale_at k y)) (d * scale_at k l)
    last_entry y c h q = subst (λ m. (last_position s).coefficient m y ≡ frac (side_cell s a v (l - s.width) c *ℤ pos (scale_at k y)) (d * scale_at k m)) last_back (side_entry s (last_position s) reached_last k a b w n (sym seated.count) seats d v f (l - s.width) y c last_in h q)

    pub last_row : (x : List ℤ) → IsSideRow s a v (l - s.width) x → IsRowOf n seats k (last_position s) d l x
    last_row x row = record {
      own = last_scale l last_below;
      some = last_scale;
      coefficients = λ y c h q. last_entry y c h q ∙ ap (λ u. frac (u *ℤ pos (scale_at k y)) (d * scale_at k l)) (sym (row.cells c (seated.columns y c h q).0));
    }
