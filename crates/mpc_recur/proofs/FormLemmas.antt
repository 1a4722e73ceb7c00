-- The point behind one step as affine forms of the point before it.
use Rattle.std.proofs.Common.{◌≡◌, ℕ, zero, suc, ◌+◌, ◌*◌, ◌<◌, ◌≤◌, nat_lt, cond, List, [], ◌∷◌, ◌++◌, length, get_or, map, pos, refl, sym, ◌∙◌, ap, subst, arith, ◌⊎◌, inl, inr, Some, zero-add}
use Rattle.std.specs.Prelude.{slice_get}
use Rattle.std.proofs.lemmas.Bool.{cond-true, cond-false, lt-ltb, le-ltb, cases_order}
use Rattle.std.proofs.lemmas.List.{get_or-map, get_or-take, length-map}
use Rattle.std.proofs.lemmas.List.FromFn.{get_or-map-range_with_len, length-map-range_with_len, map-range_with_len_more}
use Rattle.std.proofs.lemmas.List.Elements.{All-get_or}
use Rattle.std.proofs.lemmas.Option.{get_or_from_slice_get, slice_get_within}
use Rattle.mpc_exact.specs.Rational.{ℚ, int, ◌+ℚ◌, ◌-ℚ◌, ◌*ℚ◌, ◌/ℚ◌, neg_ℚ, inv_ℚ}
use Rattle.mpc_exact.proofs.RationalRing.{reads, by_ring}
use Rattle.mpc_space.specs.Vector.{coordinate, column, dot, listed, vec_add, vec_scale, mat_vec, vec_mat}
use Rattle.mpc_space.specs.Matrix.{height}
use Rattle.mpc_space.specs.Total.{unit}
use Rattle.std.proofs.Math.Nat.{mul-le-mul_left}
use Rattle.mpc_space.proofs.Total.{total-same, total-unit, unit-same, unit-other}
use Rattle.mpc_space.proofs.Vector.{dot_comm, dot-add, dot-scale}
use Rattle.mpc_space.proofs.Matrix.{coordinate-mat_vec, coordinate-vec_mat, dot-vec_mat, coordinate-column, length-column, length-mat_vec}
use Rattle.mpc_space.proofs.Entries.{coordinate-listed, coordinate-add, coordinate-scale, length-listed, length-add, dot_same, dot-total_within, same_entries}
use Rattle.mpc_plant.specs.declared.lists.Coordinate.{Coordinate}
use Rattle.mpc_plant.specs.declared.plants.Plant.{Plant}
use Rattle.mpc_plant.specs.Trajectory.{values_at, state_of}
use Rattle.mpc_rows.specs.declared.laws.Law.{Law}
use Rattle.mpc_rows.specs.ActiveSets.{extended}
use Rattle.mpc_rows.specs.Laws.{moves_at}
use Rattle.mpc_rows.specs.SetRuns.{axis}
use Rattle.mpc_controller.specs.Parts.{IsLawFor}
use Rattle.mpc_controller.specs.Replies.{first_move}
use Rattle.mpc_recur.specs.declared.answers.StageError.{StageError}
use Rattle.mpc_recur.specs.declared.answers.StageError.TheVariants.{TooWide, OutOfMemory}
use Rattle.mpc_recur.specs.Stages.{IfTooWide}
use Rattle.mpc_recur.specs.Successors.{successor, steps_from_low, next}
use Rattle.mpc_recur.specs.Forms.{lows, steps, state_form, state_forms, image, shifted, from_low, next_coefficient, next_form, next_forms, ShiftFits, CoefficientFits, FormFits}
use Rattle.mpc_frac.specs.Fits.{FitsFrac, FitsSum}
use Rattle.mpc_linear.specs.Dot.{DotFits, SumFits}
use Rattle.mpc_space.proofs.Outcomes.{below_next}
use Rattle.std.specs.List.{range_with_len}

-- ---- a vector with one entry
axis_entry : (i j : ℕ) (x : ℚ) → cond (nat_lt i j) (int (pos 0)) (cond (nat_lt j i) (int (pos 0)) x) ≡ unit i j *ℚ x
axis_entry i j x = by (cases_order i j)
  where
    none_of : int (pos 0) ≡ int (pos 0) *ℚ x
    none_of = by_ring (x ∷ []) (search reads depth 30) (search reads depth 30) tt

    by : (i ≡ j) ⊎ ((i < j) ⊎ (j < i)) → cond (nat_lt i j) (int (pos 0)) (cond (nat_lt j i) (int (pos 0)) x) ≡ unit i j *ℚ x
    by (inl e) =
        cond-false (nat_lt i j) (int (pos 0)) (cond (nat_lt j i) (int (pos 0)) x) (le-ltb i j (omega arith))
        ∙ cond-false (nat_lt j i) (int (pos 0)) x (le-ltb j i (omega arith))
        ∙ by_ring (x ∷ []) (search reads depth 30) (search reads depth 30) tt ∙ ap (λ u. u *ℚ x) (sym (unit-same i j e))
    by (inr (inl h)) =
        cond-true (nat_lt i j) (int (pos 0)) (cond (nat_lt j i) (int (pos 0)) x) (lt-ltb i j h) ∙ none_of ∙ ap (λ u. u *ℚ x) (sym (unit-other i j (λ e. omega arith)))
    by (inr (inr h)) =
        cond-false (nat_lt i j) (int (pos 0)) (cond (nat_lt j i) (int (pos 0)) x) (le-ltb i j (omega arith))
        ∙ cond-true (nat_lt j i) (int (pos 0)) x (lt-ltb j i h) ∙ none_of ∙ ap (λ u. u *ℚ x) (sym (unit-other i j (λ e. omega arith)))

abbrev entry_at : ℕ → ℚ → ℕ → ℚ
entry_at i x j = cond (nat_lt i j) (int (pos 0)) (cond (nat_lt j i) (int (pos 0)) x)

axis_at : (width i j : ℕ) (x : ℚ) → j < width → coordinate (axis width i x) j ≡ unit i j *ℚ x
axis_at width i j x h = coordinate-listed width (entry_at i x) j h ∙ axis_entry i j x

dot-axis : (width i : ℕ) (x : ℚ) (v : List ℚ) → i < width → dot (axis width i x) v ≡ x *ℚ coordinate v i
dot-axis width i x v h =
    dot-total_within width (axis width i x) v (omega (arith, length-listed width (entry_at i x)))
    ∙ total-same width (λ j. coordinate (axis width i x) j *ℚ coordinate v j) (λ j. unit i j *ℚ (x *ℚ coordinate v j)) (λ j l. ap (λ u. u *ℚ coordinate v j) (axis_at width i j x l) ∙ regroup (unit i j) x (coordinate v j))
    ∙ total-unit width i (λ j. x *ℚ coordinate v j) h
  where
    regroup : (u x y : ℚ) → (u *ℚ x) *ℚ y ≡ u *ℚ (x *ℚ y)
    regroup u x y = by_ring (u ∷ x ∷ y ∷ []) (search reads depth 30) (search reads depth 30) tt

-- ---- the grid
pub low_there : (grid : List Coordinate) (k : ℕ) (axis : Coordinate) → slice_get grid k ≡ Some axis → coordinate (lows grid) k ≡ axis.low
low_there grid k axis at = get_or-map (λ (a : Coordinate). a.low) grid k axis (int (pos 0)) (slice_get_within grid k axis at) ∙ ap (λ (a : Coordinate). a.low) (get_or_from_slice_get grid k axis axis at)

pub step_there : (grid : List Coordinate) (k : ℕ) (axis : Coordinate) → slice_get grid k ≡ Some axis → coordinate (steps grid) k ≡ axis.step
step_there grid k axis at = get_or-map (λ (a : Coordinate). a.step) grid k axis (int (pos 0)) (slice_get_within grid k axis at) ∙ ap (λ (a : Coordinate). a.step) (get_or_from_slice_get grid k axis axis at)

state_entry : (grid : List Coordinate) (t : List ℚ) (k : ℕ) → length t ≡ length grid → k < length grid → coordinate (values_at grid t) k ≡ coordinate (lows grid) k +ℚ coordinate (steps grid) k *ℚ coordinate t k
state_entry [] t k e h = absurd (omega arith)
state_entry (a ∷ grid) [] k e h = absurd (omega arith)
state_entry (a ∷ grid) (x ∷ t) zero e h = refl
state_entry (a ∷ grid) (x ∷ t) (suc k) e h = state_entry grid t k (omega arith) (omega arith)

point_entry : (grid : List Coordinate) (x : List ℚ) (k : ℕ) → length x ≡ length grid → k < length grid → coordinate (steps_from_low grid x) k ≡ (coordinate x k -ℚ coordinate (lows grid) k) /ℚ coordinate (steps grid) k
point_entry [] x k e h = absurd (omega arith)
point_entry (a ∷ grid) [] k e h = absurd (omega arith)
point_entry (a ∷ grid) (x ∷ xs) zero e h = refl
point_entry (a ∷ grid) (x ∷ xs) (suc k) e h = point_entry grid xs k (omega arith) (omega arith)

pub length_points : (grid : List Coordinate) (x : List ℚ) → length x ≡ length grid → length (steps_from_low grid x) ≡ length grid
length_points [] x e = refl
length_points (a ∷ grid) [] e = absurd (omega arith)
length_points (a ∷ grid) (x ∷ xs) e = ap suc (length_points grid xs (omega arith))

-- ---- the state behind one step
pub successor_size : (plant : Plant) (x u : List ℚ) → length (successor plant x u) ≡ plant.n
successor_size plant x u =
    let a = length-mat_vec plant.a.rows x ∙ plant.is_plant.a_shape.rows_are in
    let b = length-mat_vec plant.b.rows u ∙ plant.is_plant.b_shape.rows_are in
    let both : length (vec_add (mat_vec plant.a.rows x) (mat_vec plant.b.rows u)) ≡ plant.n = length-add (mat_vec plant.a.rows x) (mat_vec plant.b.rows u) (a ∙ sym b) ∙ a in
    length-add (vec_add (mat_vec plant.a.rows x) (mat_vec plant.b.rows u)) plant.drift (both ∙ sym plant.is_plant.drift_size) ∙ both

pub next_size : (plant : Plant) (t u : List ℚ) → length (next plant t u) ≡ plant.n
next_size plant t u =
    length_points plant.grid (successor plant (state_of plant t) u) (successor_size plant (state_of plant t) u ∙ sym plant.is_plant.grid_size) ∙ plant.is_plant.grid_size

-- ---- rows
pub a_row_size : (plant : Plant) (i : ℕ) → i < plant.n → length (get_or plant.a.rows i []) ≡ plant.n
a_row_size plant i h =
    All-get_or (λ row. length row ≡ plant.a.columns) plant.a.rows i [] (omega (arith, plant.is_plant.a_shape.rows_are)) plant.is_plant.a_shape.rectangular ∙ plant.is_plant.a_shape.columns_are

pub b_row_size : (plant : Plant) (i : ℕ) → i < plant.n → length (get_or plant.b.rows i []) ≡ plant.p
b_row_size plant i h =
    All-get_or (λ row. length row ≡ plant.b.columns) plant.b.rows i [] (omega (arith, plant.is_plant.b_shape.rows_are)) plant.is_plant.b_shape.rectangular ∙ plant.is_plant.b_shape.columns_are

-- a law has a row for each input of the first step
pub law_inputs : (plant : Plant) (law : Law) → IsLawFor plant law → plant.p ≤ height law.moves
law_inputs plant law h =
    let steps : 1 ≤ plant.horizon = plant.is_plant.steps.from_low in
    let more : plant.p * 1 ≤ plant.p * plant.horizon = mul-le-mul_left plant.p steps in
    omega (arith, more, h.moves_shape.rows_are)

pub moves_column_size : (plant : Plant) (law : Law) (j : ℕ) → length (column law.moves.rows j) ≡ height law.moves
moves_column_size plant law j = length-column law.moves.rows j

-- ---- the state as forms
module _ (plant : Plant) where
  state_form_at : (k : ℕ) → k < plant.n → get_or (state_forms plant) k [] ≡ state_form plant k
  unfolding state_forms
  state_form_at k h = get_or-map-range_with_len (state_form plant) 0 plant.n k k [] h (zero-add k)

  state_column_at : (k j : ℕ) → k < plant.n → coordinate (column (state_forms plant) j) k ≡ coordinate (state_form plant k) j
  state_column_at k j h = coordinate-column (state_forms plant) k j ∙ ap (λ row. coordinate row j) (state_form_at k h)

  pub state_columns_size : (j : ℕ) → length (column (state_forms plant) j) ≡ plant.n
  unfolding state_forms
  state_columns_size j = length-map (state_forms plant) (λ row. coordinate row j) ∙ length-map-range_with_len (state_form plant) 0 plant.n

  pub state_columns_room : (j : ℕ) → plant.n ≤ length (column (state_forms plant) j)
  state_columns_room j = omega (arith, state_columns_size j)

  module _ (k : ℕ) (a : Coordinate) (h : k < plant.n) (at : slice_get plant.grid k ≡ Some a) where
    pub low_coefficient : (j : ℕ) → j ≡ 0 → a.low ≡ coordinate (column (state_forms plant) j) k
    low_coefficient j e = sym (state_column_at k j h ∙ ap (coordinate (state_form plant k)) e ∙ low_there plant.grid k a at)

    behind_low : (j : ℕ) → coordinate (state_form plant k) (suc j) ≡ coordinate (axis plant.n k (coordinate (steps plant.grid) k)) j
    behind_low j = refl

    pub step_coefficient : (j : ℕ) → j ≡ k + 1 → a.step ≡ coordinate (column (state_forms plant) j) k
    step_coefficient j e =
        let place : j ≡ suc k = omega arith in
        sym (state_column_at k j h ∙ ap (coordinate (state_form plant k)) place ∙ axis_at plant.n k k (coordinate (steps plant.grid) k) h
        ∙ ap (λ u. u *ℚ coordinate (steps plant.grid) k) (unit-same k k refl) ∙ one_of (coordinate (steps plant.grid) k) ∙ step_there plant.grid k a at)
      where
        one_of : (x : ℚ) → int (pos 1) *ℚ x ≡ x
        one_of x = by_ring (x ∷ []) (search reads depth 30) (search reads depth 30) tt

    pub no_coefficient : (j : ℕ) → j < plant.n + 1 → ¬ (j ≡ 0) → ¬ (j ≡ k + 1) → int (pos 0) ≡ coordinate (column (state_forms plant) j) k
    no_coefficient zero l e f = absurd (e refl)
    no_coefficient (suc j) l e f =
        sym (state_column_at k (suc j) h ∙ axis_at plant.n k j (coordinate (steps plant.grid) k) (omega arith)
        ∙ ap (λ u. u *ℚ coordinate (steps plant.grid) k) (unit-other k j (λ g. f (omega arith))) ∙ none_of (coordinate (steps plant.grid) k))
      where
        none_of : (x : ℚ) → int (pos 0) *ℚ x ≡ int (pos 0)
        none_of x = by_ring (x ∷ []) (search reads depth 30) (search reads depth 30) tt

  -- ---- values
  module _ (law : Law) (fits : IsLawFor plant law) (t : List ℚ) (size : length t ≡ plant.n) where
    abbrev counts : List ℚ
    counts = extended t

    counts_size : length counts ≡ plant.n + 1
    counts_size = omega (arith, size)

    on_grid : length t ≡ length plant.grid
    on_grid = size ∙ sym plant.is_plant.grid_size

    within_grid : (k : ℕ) → k < plant.n → k < length plant.grid
    within_grid k h = omega (arith, plant.is_plant.grid_size)

    state_value : (k : ℕ) → k < plant.n → dot (state_form plant k) counts ≡ coordinate (state_of plant t) k
    state_value k h =
        ap (λ d. coordinate (lows plant.grid) k *ℚ int (pos 1) +ℚ d) (dot-axis plant.n k (coordinate (steps plant.grid) k) t h)
        ∙ one_of (coordinate (lows plant.grid) k) (coordinate (steps plant.grid) k *ℚ coordinate t k) ∙ sym (state_entry plant.grid t k on_grid (within_grid k h))
      where
        one_of : (x y : ℚ) → x *ℚ int (pos 1) +ℚ y ≡ x +ℚ y
        one_of x y = by_ring (x ∷ y ∷ []) (search reads depth 30) (search reads depth 30) tt

    module _ (i : ℕ) (within : i < plant.n) where
      abbrev row_a : List ℚ
      row_a = get_or plant.a.rows i []

      abbrev row_b : List ℚ
      row_b = get_or plant.b.rows i []

      row_a_size : length row_a ≡ plant.n
      row_a_size = a_row_size plant i within

      row_b_size : length row_b ≡ plant.p
      row_b_size = b_row_size plant i within

      from_state : dot row_a (mat_vec (state_forms plant) counts) ≡ dot row_a (state_of plant t)
      from_state =
          dot_same row_a (mat_vec (state_forms plant) counts) (state_of plant t)
          (λ k h.
          let inside : k < plant.n = omega (arith, row_a_size) in
          coordinate-mat_vec (state_forms plant) counts k ∙ ap (λ row. dot row counts) (state_form_at k inside) ∙ state_value k inside)

      abbrev u : List ℚ
      u = first_move plant.p law t

      from_moves : dot row_b (moves_at law t) ≡ dot row_b u
      from_moves =
          dot_same row_b (moves_at law t) u
          (λ q h.
          let inside : q < plant.p = omega (arith, row_b_size) in
          sym (get_or-take plant.p (moves_at law t) q (int (pos 0)) inside))

      -- the sum of A's and B's rows
      abbrev summed : List ℚ
      summed = vec_add (vec_mat row_a (state_forms plant)) (vec_mat row_b law.moves.rows)

      summed_at : (j : ℕ) → coordinate summed j ≡ image plant law i j
      summed_at j =
          coordinate-add (vec_mat row_a (state_forms plant)) (vec_mat row_b law.moves.rows) j
          ∙ (λ z. coordinate-vec_mat row_a (state_forms plant) j z +ℚ coordinate-vec_mat row_b law.moves.rows j z)

      across : (row : List ℚ) (m : List (List ℚ)) → dot (vec_mat row m) counts ≡ dot row (mat_vec m counts)
      across row m = dot_comm (vec_mat row m) counts ∙ sym (dot-vec_mat m counts row) ∙ dot_comm (mat_vec m counts) row

      summed_value : dot summed counts ≡ dot row_a (state_of plant t) +ℚ dot row_b u
      summed_value =
          dot-add (vec_mat row_a (state_forms plant)) (vec_mat row_b law.moves.rows) counts
          ∙ (λ z. (across row_a (state_forms plant) ∙ from_state) z +ℚ (across row_b law.moves.rows ∙ from_moves) z)

      abbrev low : ℚ
      low = coordinate (lows plant.grid) i

      abbrev step : ℚ
      step = coordinate (steps plant.grid) i

      abbrev shift : ℚ
      shift = coordinate plant.drift i -ℚ low

      abbrev whole : List ℚ
      whole = vec_scale (inv_ℚ step) (vec_add summed (shift ∷ []))

      first_at : (x d l s : ℚ) → s *ℚ (x +ℚ (d -ℚ l)) ≡ ((x +ℚ d) -ℚ l) *ℚ s
      first_at x d l s = by_ring (x ∷ d ∷ l ∷ s ∷ []) (search reads depth 30) (search reads depth 30) tt

      later_at : (x s : ℚ) → s *ℚ (x +ℚ int (pos 0)) ≡ x *ℚ s
      later_at x s = by_ring (x ∷ s ∷ []) (search reads depth 30) (search reads depth 30) tt

      scaled_at : (j : ℕ) → coordinate whole j ≡ inv_ℚ step *ℚ (image plant law i j +ℚ coordinate (shift ∷ []) j)
      scaled_at j =
          coordinate-scale (inv_ℚ step) (vec_add summed (shift ∷ [])) j
          ∙ ap (λ x. inv_ℚ step *ℚ x) (coordinate-add summed (shift ∷ []) j ∙ ap (λ x. x +ℚ coordinate (shift ∷ []) j) (summed_at j))

      whole_at : (j : ℕ) → coordinate whole j ≡ next_coefficient plant law i j
      whole_at zero = scaled_at 0 ∙ first_at (image plant law i 0) (coordinate plant.drift i) low (inv_ℚ step)
      whole_at (suc j) = scaled_at (suc j) ∙ later_at (image plant law i (suc j)) (inv_ℚ step)

      form_by_whole : dot (next_form plant law i) counts ≡ dot whole counts
      unfolding next_form
      form_by_whole =
          dot_comm (next_form plant law i) counts
          ∙ dot_same counts (next_form plant law i) whole
          (λ j h. coordinate-listed (plant.n + 1) (next_coefficient plant law i) j (subst (λ m. j < m) counts_size h) ∙ sym (whole_at j))
          ∙ dot_comm counts whole

      abbrev image_at : ℚ
      image_at = dot row_a (state_of plant t) +ℚ dot row_b u

      whole_value : dot whole counts ≡ ((image_at +ℚ coordinate plant.drift i) -ℚ low) /ℚ step
      whole_value =
          dot-scale (inv_ℚ step) (vec_add summed (shift ∷ [])) counts
          ∙ ap (λ x. inv_ℚ step *ℚ x) (dot-add summed (shift ∷ []) counts ∙ ap (λ x. x +ℚ dot (shift ∷ []) counts) summed_value)
          ∙ put image_at (coordinate plant.drift i) low (inv_ℚ step)
        where
          put : (x d l s : ℚ) → s *ℚ (x +ℚ ((d -ℚ l) *ℚ int (pos 1) +ℚ int (pos 0))) ≡ ((x +ℚ d) -ℚ l) *ℚ s
          put x d l s = by_ring (x ∷ d ∷ l ∷ s ∷ []) (search reads depth 30) (search reads depth 30) tt

      successor_at : coordinate (successor plant (state_of plant t) u) i ≡ image_at +ℚ coordinate plant.drift i
      successor_at =
          coordinate-add (vec_add (mat_vec plant.a.rows (state_of plant t)) (mat_vec plant.b.rows u)) plant.drift i
          ∙ ap (λ x. x +ℚ coordinate plant.drift i)
          (coordinate-add (mat_vec plant.a.rows (state_of plant t)) (mat_vec plant.b.rows u) i
          ∙ (λ z. coordinate-mat_vec plant.a.rows (state_of plant t) i z +ℚ coordinate-mat_vec plant.b.rows u i z))

      pub next_value : dot (next_form plant law i) counts ≡ coordinate (next plant t u) i
      next_value =
          form_by_whole ∙ whole_value ∙ ap (λ x. (x -ℚ low) /ℚ step) (sym successor_at)
          ∙ sym (point_entry plant.grid (successor plant (state_of plant t) u) i (successor_size plant (state_of plant t) u ∙ sym plant.is_plant.grid_size) (within_grid i within))

    pub next_forms_value : mat_vec (next_forms plant law) counts ≡ next plant t (first_move plant.p law t)
    next_forms_value =
        same_entries (mat_vec (next_forms plant law) counts) (next plant t (first_move plant.p law t)) (forms_size ∙ sym (next_size plant t (first_move plant.p law t)))
        (λ i h.
        let inside : i < plant.n = omega (arith, forms_size) in
        coordinate-mat_vec (next_forms plant law) counts i ∙ ap (λ row. dot row counts) (get_or-map-range_with_len (next_form plant law) 0 plant.n i i [] inside (zero-add i)) ∙ next_value i inside)
      where
        forms_size : length (mat_vec (next_forms plant law) counts) ≡ plant.n
        forms_size = length-mat_vec (next_forms plant law) counts ∙ length-map-range_with_len (next_form plant law) 0 plant.n

-- ---- sizes
pub form_size : (plant : Plant) (law : Law) (i : ℕ) → length (next_form plant law i) ≡ plant.n + 1
unfolding next_form
form_size plant law i = length-listed (plant.n + 1) (next_coefficient plant law i)

pub forms_size : (plant : Plant) (law : Law) → length (next_forms plant law) ≡ plant.n
forms_size plant law = length-map-range_with_len (next_form plant law) 0 plant.n

-- ---- one coefficient
module _ (plant : Plant) (law : Law) (i j : ℕ) (a : Coordinate) (at : slice_get plant.grid i ≡ Some a) (state moved : ℚ) (es : state ≡ dot (get_or plant.a.rows i []) (column (state_forms plant) j))
    (em : moved ≡ state +ℚ dot (get_or plant.b.rows i []) (column law.moves.rows j)) (fs : DotFits (get_or plant.a.rows i []) (column (state_forms plant) j)) (fm : SumFits state (get_or plant.b.rows i []) (column law.moves.rows j)) where
  image_is : moved ≡ image plant law i j
  image_is = em ∙ ap (λ x. x +ℚ dot (get_or plant.b.rows i []) (column law.moves.rows j)) es

  moves_fit : SumFits (dot (get_or plant.a.rows i []) (column (state_forms plant) j)) (get_or plant.b.rows i []) (column law.moves.rows j)
  moves_fit = subst (λ x. SumFits x (get_or plant.b.rows i []) (column law.moves.rows j)) es fm

  later : (j : ℕ) → 0 < j → from_low plant law i j ≡ image plant law i j
  later zero h = absurd (omega arith)
  later (suc j) h = refl

  first : (j : ℕ) → j ≡ 0 → from_low plant law i j ≡ shifted plant i (image plant law i j)
  first zero h = refl
  first (suc j) h = absurd (omega arith)

  over_step : (x y : ℚ) → x ≡ y → x *ℚ inv_ℚ a.step ≡ y /ℚ coordinate (steps plant.grid) i
  over_step x y e = λ z. e z *ℚ inv_ℚ (sym (step_there plant.grid i a at) z)

  pub later_value : 0 < j → moved *ℚ inv_ℚ a.step ≡ next_coefficient plant law i j
  later_value h = over_step moved (from_low plant law i j) (image_is ∙ sym (later j h))

  pub later_fits : 0 < j → FitsFrac (moved *ℚ inv_ℚ a.step) → CoefficientFits plant law i j
  later_fits h f = record { from_state = fs; from_moves = moves_fit; shift = λ e. absurd (omega arith); quotient = subst FitsFrac (later_value h) f }

  pub later_fits_back : 0 < j → CoefficientFits plant law i j → FitsFrac (moved *ℚ inv_ℚ a.step)
  later_fits_back h f = subst FitsFrac (sym (later_value h)) f.quotient

  module _ (placed : ℚ) (ep : placed ≡ shifted plant i moved) (zero_is : j ≡ 0) where
    pub first_value : placed *ℚ inv_ℚ a.step ≡ next_coefficient plant law i j
    first_value = over_step placed (from_low plant law i j) (ep ∙ ap (shifted plant i) image_is ∙ sym (first j zero_is))

    pub first_fits : ShiftFits plant i moved → FitsFrac (placed *ℚ inv_ℚ a.step) → CoefficientFits plant law i j
    first_fits g f = record { from_state = fs; from_moves = moves_fit; shift = λ e. subst (ShiftFits plant i) image_is g; quotient = subst FitsFrac first_value f }

    pub first_fits_back : CoefficientFits plant law i j → FitsFrac (placed *ℚ inv_ℚ a.step)
    first_fits_back f = subst FitsFrac (sym first_value) f.quotient

  pub not_shifted : j ≡ 0 → (ShiftFits plant i moved → ⊥) → CoefficientFits plant law i j → ⊥
  not_shifted e h f = h (subst (ShiftFits plant i) (sym image_is) (f.shift e))

-- ---- the shift of the first coefficient
module _ (plant : Plant) (i : ℕ) (a : Coordinate) (at : slice_get plant.grid i ≡ Some a) (sum drift drifted : ℚ) (ed : drift ≡ coordinate plant.drift i) (es : drifted ≡ sum +ℚ drift) where
  drifted_is : drifted ≡ sum +ℚ coordinate plant.drift i
  drifted_is = es ∙ ap (λ d. sum +ℚ d) ed

  pub shift_value : drifted +ℚ neg_ℚ a.low ≡ shifted plant i sum
  shift_value = λ z. drifted_is z +ℚ neg_ℚ (sym (low_there plant.grid i a at) z)

  pub shift_fits : FitsSum sum drift → FitsSum drifted (neg_ℚ a.low) → ShiftFits plant i sum
  shift_fits f g = record { drift = subst (FitsSum sum) ed f; low = (let there : FitsSum (sum +ℚ coordinate plant.drift i) (neg_ℚ a.low) = subst (λ x. FitsSum x (neg_ℚ a.low)) drifted_is g in subst (λ l. FitsSum (sum +ℚ coordinate plant.drift i) (neg_ℚ l)) (sym (low_there plant.grid i a at)) there) }

  pub shift_fits_back : ShiftFits plant i sum → FitsSum drifted (neg_ℚ a.low)
  shift_fits_back f =
      subst (λ x. FitsSum x (neg_ℚ a.low)) (sym drifted_is) (subst (λ l. FitsSum (sum +ℚ coordinate plant.drift i) (neg_ℚ l)) (low_there plant.grid i a at) f.low)

-- ---- form by form
pub record FormSo (plant : Plant) (law : Law) (i j : ℕ) (form : List ℚ) : Type 0 where
  pub entries : form ≡ listed j (next_coefficient plant law i)
  pub fits : (k : ℕ) → k < j → CoefficientFits plant law i k

pub form_none : (plant : Plant) (law : Law) (i : ℕ) (form : List ℚ) → form ≡ [] → FormSo plant law i 0 form
form_none plant law i form e = record { entries = e; fits = λ k h. absurd (omega arith) }

pub form_more : (plant : Plant) (law : Law) (i j : ℕ) (form new : List ℚ) (x : ℚ) → FormSo plant law i j form → new ≡ form ++ x ∷ [] → x ≡ next_coefficient plant law i j → CoefficientFits plant law i j → FormSo plant law i (j + 1) new
form_more plant law i j form new x so e ex f = record {
  entries = e ∙ (λ z. so.entries z ++ ex z ∷ []) ∙ sym (map-range_with_len_more (next_coefficient plant law i) 0 j j (zero-add j));
  fits = below_next (CoefficientFits plant law i) j so.fits f;
}

pub form_done : (plant : Plant) (law : Law) (i j : ℕ) (form : List ℚ) → j ≡ plant.n + 1 → FormSo plant law i j form → form ≡ next_form plant law i
unfolding next_form
form_done plant law i j form e so = so.entries ∙ ap (λ m. listed m (next_coefficient plant law i)) e

pub record FormsSo (plant : Plant) (law : Law) (i : ℕ) (forms : List (List ℚ)) : Type 0 where
  pub entries : forms ≡ map (next_form plant law) (range_with_len 0 i)
  pub fits : (k : ℕ) → k < i → FormFits plant law k

pub forms_none : (plant : Plant) (law : Law) (forms : List (List ℚ)) → forms ≡ [] → FormsSo plant law 0 forms
forms_none plant law forms e = record { entries = e; fits = λ k h. absurd (omega arith) }

pub forms_more : (plant : Plant) (law : Law) (i : ℕ) (forms new : List (List ℚ)) (form : List ℚ) → FormsSo plant law i forms → new ≡ forms ++ form ∷ [] → form ≡ next_form plant law i → FormFits plant law i → FormsSo plant law (i + 1) new
forms_more plant law i forms new form so e ef f = record {
  entries = e ∙ (λ z. so.entries z ++ ef z ∷ []) ∙ sym (map-range_with_len_more (next_form plant law) 0 i i (zero-add i));
  fits = below_next (FormFits plant law) i so.fits f;
}

pub moves_entry : (rows : List (List ℚ)) (q j : ℕ) (x : ℚ) → x ≡ coordinate (get_or rows q []) j → x ≡ coordinate (column rows j) q
moves_entry rows q j x e = e ∙ sym (coordinate-column rows q j)

-- ---- errors
pub wide_weaker : (e : StageError) (P Q : Type 0) → (P → Q) → IfTooWide P e → IfTooWide Q e
wide_weaker TooWide P Q f h = f h
wide_weaker OutOfMemory P Q f h = tt
