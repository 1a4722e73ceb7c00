-- The columns of the state, as the code writes them, are those of the stated run.
use Rattle.std.proofs.Common.{◌≡◌, ◌≢◌, ℕ, suc, ◌+◌, ◌-◌, ◌*◌, ◌<◌, ◌≤◌, List, [], ◌∷◌, length, get_or, map, pos, refl, sym, ◌∙◌, ap, subst, arith, ⊎_elim, add-one, Some, slice_get, ◌++◌}
use Rattle.std.proofs.Math.Nat.{mul-le-mul_left}
use Rattle.std.proofs.lemmas.Bool.{cases_eq, cases_lt}
use Rattle.std.proofs.lemmas.List.{length-replicate, get_or-replicate, length-set, get_or-map, length-append, get_or_append_left}
use Rattle.std.proofs.Math.Seq.{get_or-append_seam}
use Rattle.std.proofs.lemmas.Option.{get_or_from_slice_get, slice_get_within}
use Rattle.mpc_exact.specs.Rational.{ℚ, int, ◌+ℚ◌}
use Rattle.mpc_frac.specs.Fits.{FitsSum}
use Rattle.mpc_space.specs.Vector.{coordinate, column, zeros, dot, vec_add, mat_vec}
use Rattle.mpc_space.specs.Matrix.{RationalMatrix, height, IsRectangular, entry}
use Rattle.mpc_space.proofs.Entries.{same_entries, coordinate-add, coordinate-zeros, coordinate-listed, length-add, length-listed}
use Rattle.mpc_space.proofs.Matrix.{length-mat_vec, coordinate-mat_vec, length-column, coordinate-column}
use Rattle.mpc_linear.specs.Dot.{DotFits}
use Rattle.mpc_linear.specs.Entries.{with_entry, zero_matrix}
use Rattle.mpc_plant.specs.declared.lists.Coordinate.{Coordinate}
use Rattle.mpc_plant.specs.declared.plants.Plant.{Plant}
use Rattle.mpc_linear.specs.Shape.{HasShape}
use Rattle.mpc_condense.specs.Motion.{first_move, lows, steps, first_entry, motion, StateFits}
use Rattle.mpc_condense.specs.Blocks.{row_at, WritesBlock, AllInBlock}
use Rattle.mpc_condense.specs.Stages.{HoldsColumns, IsMotion}
use Rattle.mpc_condense.specs.declared.motions.Motion.{Motion}
use Rattle.mpc_condense.specs.MotionList.{AreMotions}
use Rattle.mpc_condense.specs.Causes.{StatesFit}
use Rattle.mpc_condense.proofs.StateColumns.{motion-first, motion-drift, motion-image, motion-input, motion-later, motion-zero, first-grows, first_entry-low, first_entry-step, first_entry-other}
use Rattle.mpc_condense.proofs.Writing.{with_entry-same, with_entry-row, with_entry-others, with_entry-rectangular}

-- ---- matrices of zeros
pub zero_matrix-height : (n w : ℕ) → height (zero_matrix n w) ≡ n
zero_matrix-height n w = length-replicate n (zeros w)

pub zero_matrix-row : (n w i : ℕ) → i < n → row_at (zero_matrix n w) i ≡ zeros w
zero_matrix-row n w i l = get_or-replicate n i (zeros w) [] l

pub zero_matrix-entry : (n w i k : ℕ) → i < n → entry (zero_matrix n w) i k ≡ int (pos 0)
zero_matrix-entry n w i k l = ap (λ r. coordinate r k) (zero_matrix-row n w i l) ∙ coordinate-zeros w k

pub zero_matrix-shape : (n w : ℕ) → HasShape (zero_matrix n w) n w
zero_matrix-shape n w = record {
  rows_are = zero_matrix-height n w;
  columns_are = refl;
  rectangular = λ k d l. ap length (get_or-replicate n k (zeros w) d (omega (arith, zero_matrix-height n w))) ∙ length-replicate w (int (pos 0));
}

pub row_length : (m : RationalMatrix) (r c i : ℕ) → HasShape m r c → i < r → length (row_at m i) ≡ c
row_length m r c i s l = s.rectangular i [] (omega (arith, s.rows_are)) ∙ s.columns_are

-- a row with the entries of a vector is the vector
pub row_is : (m : RationalMatrix) (r c i : ℕ) (x : List ℚ) → HasShape m r c → i < r → length x ≡ c → ((j : ℕ) → j < c → entry m i j ≡ coordinate x j) → row_at m i ≡ x
row_is m r c i x s l e h =
    same_entries (row_at m i) x (row_length m r c i s l ∙ sym e) (λ j k. h j (omega (arith, row_length m r c i s l)))

pub shape_of_block : (old new : RationalMatrix) (r c r0 r1 c0 c1 : ℕ) (f : ℕ → ℕ → ℚ) → HasShape old r c → WritesBlock old new r0 r1 c0 c1 f → HasShape new r c
shape_of_block old new r c r0 r1 c0 c1 f s w = record { rows_are = w.height_is ∙ s.rows_are; columns_are = w.columns_is ∙ s.columns_are; rectangular = w.rectangular }

-- ---- the first state
pub record StartsSome (plant : Plant) (x : RationalMatrix) (i : ℕ) : Type 0 where
  pub shape : HasShape x (plant.n + 1) plant.n
  pub done : (j l : ℕ) → j < plant.n + 1 → l < i → entry x j l ≡ first_entry plant j l
  pub left : (j l : ℕ) → j < plant.n + 1 → i ≤ l → entry x j l ≡ int (pos 0)

pub starts_none : (plant : Plant) (x : RationalMatrix) → x ≡ zero_matrix (plant.n + 1) plant.n → StartsSome plant x 0
starts_none plant x e = subst (λ z. StartsSome plant z 0) (sym e) (record {
  shape = zero_matrix-shape (plant.n + 1) plant.n;
  done = λ j l a b. absurd (omega arith);
  left = λ j l a b. zero_matrix-entry (plant.n + 1) plant.n j l a;
})

mapped : (f : Coordinate → ℚ) (xs : List Coordinate) (i : ℕ) (x : Coordinate) → slice_get xs i ≡ Some x → coordinate (map f xs) i ≡ f x
mapped f xs i x e = ⊎_elim
    (λ l. get_or-map f xs i x (int (pos 0)) l ∙ ap f (get_or_from_slice_get xs i x x e))
    (λ l. absurd (none_past xs i x l e))
    (cases_lt i (length xs))
  where
    none_past : (xs : List Coordinate) (i : ℕ) (x : Coordinate) → length xs ≤ i → slice_get xs i ≡ Some x → ⊥
    none_past xs i x l e = omega (arith, slice_get_within xs i x e)

pub low_is : (plant : Plant) (i : ℕ) (axis : Coordinate) → slice_get plant.grid i ≡ Some axis → coordinate (lows plant.grid) i ≡ axis.low
low_is plant i axis e = mapped (λ a. a.low) plant.grid i axis e

pub step_is : (plant : Plant) (i : ℕ) (axis : Coordinate) → slice_get plant.grid i ≡ Some axis → coordinate (steps plant.grid) i ≡ axis.step
step_is plant i axis e = mapped (λ a. a.step) plant.grid i axis e

pub starts_more : (plant : Plant) (x a b : RationalMatrix) (i : ℕ) (axis : Coordinate) → i < plant.n → slice_get plant.grid i ≡ Some axis →
    a ≡ with_entry x 0 i axis.low → b ≡ with_entry a (i + 1) i axis.step → StartsSome plant x i → StartsSome plant b (i + 1)
starts_more plant x a b i axis l g ea eb w = record {
  shape = record {
    rows_are = ap height eb ∙ length-set a.rows (i + 1) _ ∙ ap height ea ∙ length-set x.rows 0 _ ∙ w.shape.rows_are;
    columns_are = ap (λ m. m.columns) eb ∙ ap (λ m. m.columns) ea ∙ w.shape.columns_are;
    rectangular = subst IsRectangular (sym eb) (with_entry-rectangular a (i + 1) i axis.step (omega (arith, a_height)) a_rectangular);
  };
  done = λ j q k m. ⊎_elim (λ p. subst (λ z. entry b j z ≡ first_entry plant j z) (sym p) (column_now j k)) (λ p. others j q p ∙ w.done j q k (omega arith)) (cases_eq q i);
  left = λ j q k m. others j q (λ p. omega arith) ∙ w.left j q k (omega arith);
}
  where
    a_height : height a ≡ plant.n + 1
    a_height = ap height ea ∙ length-set x.rows 0 _ ∙ w.shape.rows_are

    a_rectangular : IsRectangular a
    a_rectangular = subst IsRectangular (sym ea) (with_entry-rectangular x 0 i axis.low (omega (arith, w.shape.rows_are)) w.shape.rectangular)

    a_columns : a.columns ≡ plant.n
    a_columns = ap (λ m. m.columns) ea ∙ w.shape.columns_are

    others : (j q : ℕ) → q ≢ i → entry b j q ≡ entry x j q
    others j q h =
        ap (λ m. entry m j q) eb ∙ other_column a (i + 1) i axis.step j q h (omega (arith, a_height))
        ∙ ap (λ m. entry m j q) ea ∙ other_column x 0 i axis.low j q h (omega (arith, w.shape.rows_are))
      where
        other_column : (m : RationalMatrix) (r c : ℕ) (v : ℚ) (j q : ℕ) → q ≢ c → r < height m → entry (with_entry m r c v) j q ≡ entry m j q
        other_column m r c v j q h k = ⊎_elim
            (λ p. subst (λ z. entry (with_entry m r c v) z q ≡ entry m z q) (sym p) (with_entry-row m r c v q k h))
            (λ p. with_entry-others m r c v j q p)
            (cases_eq j r)

    first : entry a 0 i ≡ axis.low
    first = ap (λ m. entry m 0 i) ea ∙ with_entry-same x 0 i axis.low (omega (arith, w.shape.rows_are)) (omega (arith, w.shape.columns_are)) w.shape.rectangular

    column_now : (j : ℕ) → j < plant.n + 1 → entry b j i ≡ first_entry plant j i
    column_now j k = ⊎_elim
        (λ p. subst (λ z. entry b z i ≡ first_entry plant z i) (sym p)
        (ap (λ m. entry m 0 i) eb ∙ with_entry-others a (i + 1) i axis.step 0 i (λ q. omega arith) ∙ first ∙ sym (low_is plant i axis g) ∙ sym (first_entry-low plant i)))
        (λ p. ⊎_elim
        (λ q. subst (λ z. entry b z i ≡ first_entry plant z i) (sym q)
        (ap (λ m. entry m (i + 1) i) eb ∙ with_entry-same a (i + 1) i axis.step (omega (arith, a_height)) (omega (arith, a_columns)) a_rectangular ∙ sym (step_is plant i axis g) ∙ sym (first_entry-step plant i)))
        (λ q.
        ap (λ m. entry m j i) eb ∙ with_entry-others a (i + 1) i axis.step j i q
        ∙ ap (λ m. entry m j i) ea ∙ with_entry-others x 0 i axis.low j i p
        ∙ w.left j i k (omega arith) ∙ sym (first_entry-other plant j i p q))
        (cases_eq j (i + 1)))
        (cases_eq j 0)

pub starts_all : (plant : Plant) (x z : RationalMatrix) (i : ℕ) → i ≡ plant.n → z ≡ zero_matrix (plant.p * plant.horizon) plant.n → StartsSome plant x i → IsMotion plant 0 x z
starts_all plant x z i e f w = subst (IsMotion plant 0 x) (sym f) (record {
  x_shape = w.shape;
  z_shape = zero_matrix-shape (plant.p * plant.horizon) plant.n;
  x_is = λ j l. row_is x (plant.n + 1) plant.n j (motion plant 0 j) w.shape l (size j)
      (λ q m. w.done j q l (omega arith) ∙ sym (ap (λ r. coordinate r q) (motion-first plant j) ∙ coordinate-listed plant.n (first_entry plant j) q m));
  z_is = λ j l. row_is (zero_matrix (plant.p * plant.horizon) plant.n) (plant.p * plant.horizon) plant.n j (motion plant 0 (plant.n + 1 + j)) (zero_matrix-shape (plant.p * plant.horizon) plant.n) l (size (plant.n + 1 + j))
      (λ q m. zero_matrix-entry (plant.p * plant.horizon) plant.n j q l ∙ sym (motion-zero plant 0 (plant.n + 1 + j) q (omega arith)));
})
  where
    size : (j : ℕ) → length (motion plant 0 j) ≡ plant.n
    size j = ap length (motion-first plant j) ∙ length-listed plant.n (first_entry plant j)

-- ---- the next state
module _ (plant : Plant) (k : ℕ) (x z nx nz mx mz : RationalMatrix) (ds : List ℚ) (w : IsMotion plant k x z) (ed : ds ≡ plant.drift)
    (xw : WritesBlock (zero_matrix (height x) (height plant.a)) mx 0 (plant.n + 1) 0 (height plant.a) (λ j i. dot (row_at plant.a i) (row_at x j)))
    (dw : WritesBlock mx nx 0 (0 + 1) 0 (length ds) (λ j i. entry mx j i +ℚ coordinate ds i))
    (zw : WritesBlock (zero_matrix (height z) (height plant.a)) mz 0 (plant.p * k) 0 (height plant.a) (λ j i. dot (row_at plant.a i) (row_at z j)))
    (bw : WritesBlock mz nz (plant.p * k) (plant.p * k + plant.b.columns) 0 (height plant.b) (λ j i. entry plant.b i (j - plant.p * k))) where
  a_rows : height plant.a ≡ plant.n
  a_rows = plant.is_plant.a_shape.rows_are

  b_rows : height plant.b ≡ plant.n
  b_rows = plant.is_plant.b_shape.rows_are

  b_columns : plant.b.columns ≡ plant.p
  b_columns = plant.is_plant.b_shape.columns_are

  shape_mx : HasShape mx (plant.n + 1) plant.n
  shape_mx = record {
    rows_are = xw.height_is ∙ zero_matrix-height (height x) (height plant.a) ∙ w.x_shape.rows_are;
    columns_are = xw.columns_is ∙ a_rows;
    rectangular = xw.rectangular;
  }

  shape_x : HasShape nx (plant.n + 1) plant.n
  shape_x = shape_of_block mx nx _ _ _ _ _ _ _ shape_mx dw

  shape_z : HasShape nz (plant.p * plant.horizon) plant.n
  shape_z = record {
    rows_are = bw.height_is ∙ zw.height_is ∙ zero_matrix-height (height z) (height plant.a) ∙ w.z_shape.rows_are;
    columns_are = bw.columns_is ∙ zw.columns_is ∙ a_rows;
    rectangular = bw.rectangular;
  }

  image_length : (j : ℕ) → length (mat_vec plant.a.rows (motion plant k j)) ≡ plant.n
  image_length j = length-mat_vec plant.a.rows (motion plant k j) ∙ a_rows

  drift_length : length ds ≡ plant.n
  drift_length = ap length ed ∙ plant.is_plant.drift_size

  -- A times a column
  image_entry : (j i : ℕ) → j < plant.n + 1 → i < plant.n → entry mx j i ≡ coordinate (mat_vec plant.a.rows (motion plant k j)) i
  image_entry j i l m =
      xw.inside j i (record { from_row = omega arith; to_row = l; from_column = omega arith; to_column = omega (arith, a_rows) })
      ∙ ap (dot (row_at plant.a i)) (w.x_is j l) ∙ sym (coordinate-mat_vec plant.a.rows (motion plant k j) i)

  first_row : row_at nx 0 ≡ motion plant (suc k) 0
  first_row =
      let ds_size : length (mat_vec plant.a.rows (motion plant k 0)) ≡ length plant.drift = image_length 0 ∙ sym plant.is_plant.drift_size in
      row_is nx (plant.n + 1) plant.n 0 (vec_add (mat_vec plant.a.rows (motion plant k 0)) plant.drift) shape_x (omega arith) (length-add (mat_vec plant.a.rows (motion plant k 0)) plant.drift ds_size ∙ image_length 0)
      (λ i m. dw.inside 0 i (record { from_row = omega arith; to_row = omega arith; from_column = omega arith; to_column = omega (arith, drift_length) })
      ∙ (λ t. image_entry 0 i (omega arith) m t +ℚ coordinate (ed t) i)
      ∙ sym (coordinate-add (mat_vec plant.a.rows (motion plant k 0)) plant.drift i))
      ∙ sym (motion-drift plant k)

  later_row : (j : ℕ) → 0 < j → j < plant.n + 1 → row_at nx j ≡ motion plant (suc k) j
  later_row j some l =
      row_is nx (plant.n + 1) plant.n j (mat_vec plant.a.rows (motion plant k j)) shape_x l (image_length j)
      (λ i m. dw.outside j i (λ h. omega (arith, h.to_row)) ∙ image_entry j i l m)
      ∙ sym (motion-image plant k j some (omega arith))

  x_row : (j : ℕ) → j < plant.n + 1 → row_at nx j ≡ motion plant (suc k) j
  x_row j l = ⊎_elim (λ e. subst (λ q. row_at nx q ≡ motion plant (suc k) q) (sym e) first_row) (λ e. later_row j (omega arith) l) (cases_eq j 0)

  z_before : (j : ℕ) → j < plant.p * plant.horizon → j < plant.p * k → row_at nz j ≡ motion plant (suc k) (plant.n + 1 + j)
  z_before j l m =
      row_is nz (plant.p * plant.horizon) plant.n j (mat_vec plant.a.rows (motion plant k (plant.n + 1 + j))) shape_z l (image_length (plant.n + 1 + j))
      (λ i q. bw.outside j i (λ h. omega (arith, h.from_row))
      ∙ zw.inside j i (record { from_row = omega arith; to_row = m; from_column = omega arith; to_column = omega (arith, a_rows) })
      ∙ ap (dot (row_at plant.a i)) (w.z_is j l) ∙ sym (coordinate-mat_vec plant.a.rows (motion plant k (plant.n + 1 + j)) i))
      ∙ sym (motion-image plant k (plant.n + 1 + j) (omega arith) (omega arith))

  z_now : (j : ℕ) → j < plant.p * plant.horizon → plant.p * k ≤ j → j < plant.p * k + plant.p → row_at nz j ≡ motion plant (suc k) (plant.n + 1 + j)
  z_now j l m n =
      let e : plant.n + 1 + j - first_move plant k ≡ j - plant.p * k = omega arith in
      row_is nz (plant.p * plant.horizon) plant.n j (column plant.b.rows (j - plant.p * k)) shape_z l (length-column plant.b.rows (j - plant.p * k) ∙ b_rows)
      (λ i q. bw.inside j i (record { from_row = m; to_row = omega (arith, b_columns); from_column = omega arith; to_column = omega (arith, b_rows) })
      ∙ sym (coordinate-column plant.b.rows i (j - plant.p * k)))
      ∙ ap (column plant.b.rows) (sym e)
      ∙ sym (motion-input plant k (plant.n + 1 + j) (omega arith) (omega (arith, first-grows plant k)))

  z_behind : (j : ℕ) → j < plant.p * plant.horizon → plant.p * k + plant.p ≤ j → row_at nz j ≡ motion plant (suc k) (plant.n + 1 + j)
  z_behind j l m =
      row_is nz (plant.p * plant.horizon) plant.n j (zeros plant.n) shape_z l (length-replicate plant.n (int (pos 0)))
      (λ i q. bw.outside j i (λ h. omega (arith, h.to_row, b_columns)) ∙ zw.outside j i (λ h. omega (arith, h.to_row))
      ∙ zero_matrix-entry (height z) (height plant.a) j i (omega (arith, w.z_shape.rows_are)) ∙ sym (coordinate-zeros plant.n i))
      ∙ sym (motion-later plant k (plant.n + 1 + j) (omega (arith, first-grows plant k)))

  pub next_motion : IsMotion plant (k + 1) nx nz
  next_motion = subst (λ s. IsMotion plant s nx nz) (sym (add-one k)) (record {
    x_shape = shape_x;
    z_shape = shape_z;
    x_is = x_row;
    z_is = λ j l. ⊎_elim (λ m. z_before j l m) (λ m. ⊎_elim (λ n. z_now j l m n) (λ n. z_behind j l n) (cases_lt j (plant.p * k + plant.p))) (cases_lt j (plant.p * k));
  })

-- ---- what fits: the dots of the rows of a with the columns
module _ (plant : Plant) (columns : ℕ → List ℚ) (k : ℕ) (a x z : RationalMatrix) (rows_of_a : height a ≡ plant.n) (w : HoldsColumns plant columns x z) (within : plant.p * k ≤ plant.p * plant.horizon) where
  pub dots_fit : AllInBlock 0 (plant.n + 1) 0 (height a) (λ j i. DotFits (row_at a i) (row_at x j)) →
      AllInBlock 0 (plant.p * k) 0 (height a) (λ j i. DotFits (row_at a i) (row_at z j)) →
      (j i : ℕ) → j < first_move plant k → i < plant.n → DotFits (row_at a i) (columns j)
  dots_fit xf zf j i l m = ⊎_elim
      (λ h. subst (DotFits (row_at a i)) (w.x_is j h) (xf.each j i (record { from_row = omega arith; to_row = h; from_column = omega arith; to_column = omega (arith, rows_of_a) })))
      (λ h. let e : plant.n + 1 + (j - (plant.n + 1)) ≡ j = omega arith in
      subst (DotFits (row_at a i)) (w.z_is (j - (plant.n + 1)) (omega arith) ∙ ap columns e)
      (zf.each (j - (plant.n + 1)) i (record { from_row = omega arith; to_row = omega arith; from_column = omega arith; to_column = omega (arith, rows_of_a) })))
      (cases_lt j (plant.n + 1))

pub products_within : (p k n : ℕ) → k ≤ n → p * k ≤ p * n
products_within p k n l = mul-le-mul_left p l

-- the sum of the first column with the drift
module _ (plant : Plant) (k : ℕ) (x z mx : RationalMatrix) (ds : List ℚ) (w : IsMotion plant k x z) (ed : ds ≡ plant.drift)
    (xw : WritesBlock (zero_matrix (height x) (height plant.a)) mx 0 (plant.n + 1) 0 (height plant.a) (λ j i. dot (row_at plant.a i) (row_at x j))) where
  drift_entry : (i : ℕ) → i < plant.n → entry mx 0 i ≡ coordinate (mat_vec plant.a.rows (motion plant k 0)) i
  drift_entry i l =
      xw.inside 0 i (record { from_row = omega arith; to_row = omega arith; from_column = omega arith; to_column = omega (arith, plant.is_plant.a_shape.rows_are) })
      ∙ ap (dot (row_at plant.a i)) (w.x_is 0 (omega arith)) ∙ sym (coordinate-mat_vec plant.a.rows (motion plant k 0) i)

  size_of_drift : length ds ≡ plant.n
  size_of_drift = ap length ed ∙ plant.is_plant.drift_size

  pub state_fits : ((j i : ℕ) → j < first_move plant k → i < plant.n → DotFits (row_at plant.a i) (motion plant k j)) →
      AllInBlock 0 (0 + 1) 0 (length ds) (λ j i. FitsSum (entry mx j i) (coordinate ds i)) → StateFits plant k
  state_fits h d = record {
    dots = h;
    drift = λ i l. subst (λ v. FitsSum (coordinate (mat_vec plant.a.rows (motion plant k 0)) i) (coordinate v i)) ed
        (subst (λ q. FitsSum q (coordinate ds i)) (drift_entry i l) (d.each 0 i (record { from_row = omega arith; to_row = omega arith; from_column = omega arith; to_column = omega (arith, size_of_drift) })));
  }

  pub drift_fits : StateFits plant k → AllInBlock 0 (0 + 1) 0 (length ds) (λ j i. FitsSum (entry mx j i) (coordinate ds i))
  drift_fits s = record {
    each = λ j i b.
        let e : 0 ≡ j = omega (arith, b.to_row) in
        let l : i < plant.n = omega (arith, b.to_column, size_of_drift) in
        subst (λ q. FitsSum (entry mx q i) (coordinate ds i)) e
        (subst (λ v. FitsSum (entry mx 0 i) (coordinate v i)) (sym ed) (subst (λ q. FitsSum q (coordinate plant.drift i)) (sym (drift_entry i l)) (s.drift i l)));
  }

-- ---- the list of the states
pub are_more : (plant : Plant) (xs ys : List Motion) (m : Motion) (n : ℕ) → ys ≡ xs ++ m ∷ [] → IsMotion plant n m.x m.z → AreMotions plant xs n → AreMotions plant ys (n + 1)
are_more plant xs ys m n e w h = record {
  length_is = ap length e ∙ length-append xs (m ∷ []) ∙ ap (λ z. z + 1) h.length_is;
  each = λ k d l. ⊎_elim
      (λ p. subst (λ z. IsMotion plant z (get_or ys k d).x (get_or ys k d).z) (sym p)
      (subst (λ v. IsMotion plant n v.x v.z) (sym (ap (λ zs. get_or zs k d) e ∙ ap (λ z. get_or (xs ++ m ∷ []) z d) (p ∙ sym h.length_is) ∙ get_or-append_seam xs m [] d)) w))
      (λ p. subst (λ v. IsMotion plant k v.x v.z) (sym (ap (λ zs. get_or zs k d) e ∙ get_or_append_left xs (m ∷ []) d k (omega (arith, h.length_is)))) (h.each k d (omega arith)))
      (cases_eq k n);
}

pub states_more : (plant : Plant) (n : ℕ) → StateFits plant n → StatesFit plant n → StatesFit plant (n + 1)
states_more plant n x h = λ k l. ⊎_elim (λ p. subst (StateFits plant) (sym p) x) (λ p. h k (omega arith)) (cases_eq k n)

pub block_within : (p k n : ℕ) → k < n → p * k + p ≤ p * n
block_within p k n l = let h : p * suc k ≤ p * n = mul-le-mul_left p l in omega arith
