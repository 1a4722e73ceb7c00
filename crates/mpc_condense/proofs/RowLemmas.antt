-- The rows of the program, as the code writes them.
use Rattle.std.proofs.Common.{◌≡◌, ℕ, suc, ◌+◌, ◌-◌, ◌*◌, ◌<◌, ◌≤◌, List, length, get_or, pos, refl, sym, ◌∙◌, ap, subst, arith, ◌⊎◌, inl, inr, ⊎_elim, cond, leb, ltb, Some, slice_get}
use Rattle.std.proofs.Math.Nat.{mul-le-mul_right}
use Rattle.std.proofs.lemmas.Option.{get_or_from_slice_get, slice_get_within}
use Rattle.std.proofs.lemmas.Bool.{cases_Bool, cases_eq, cases_lt, cases_order, cond-true, cond-false, lt-ltb, le-ltb}
use Rattle.mpc_exact.specs.Rational.{ℚ, int, ◌-ℚ◌, neg_ℚ}
use Rattle.mpc_frac.specs.Fits.{FitsSum}
use Rattle.mpc_space.specs.Vector.{coordinate, dot}
use Rattle.mpc_space.specs.Matrix.{RationalMatrix, height, entry}
use Rattle.mpc_space.proofs.Vector.{dot_comm}
use Rattle.mpc_space.proofs.Entries.{coordinate_past}
use Rattle.mpc_linear.specs.Dot.{DotFits}
use Rattle.mpc_linear.specs.Entries.{zero_matrix}
use Rattle.mpc_plant.specs.declared.lists.PlantRow.{PlantRow}
use Rattle.mpc_plant.specs.declared.plants.Plant.{Plant}
use Rattle.mpc_plant.specs.Limits.{row_limit}
use Rattle.mpc_linear.specs.Shape.{HasShape}
use Rattle.mpc_condense.specs.Motion.{motion, bound_of, RowFits}
use Rattle.mpc_condense.specs.Blocks.{row_at, IsInBlock, WritesBlock, AllInBlock}
use Rattle.mpc_condense.specs.Stages.{IsMotion, IsRow}
use Rattle.mpc_condense.specs.Condensed.{stage_row, terminal_row}
use Rattle.mpc_condense.specs.Rows.{right_entry, left_entry, HasRow, AddsRow, RowsDone}
use Rattle.mpc_condense.specs.Causes.{StatesFit, CostsFit, RowsFit, IsWideRow, row_count}
use Rattle.mpc_condense.proofs.Advance.{shape_of_block, zero_matrix-shape, zero_matrix-entry}

module _ (plant : Plant) (k : ℕ) (row : PlantRow) (i : ℕ) (x z : RationalMatrix) where
  -- ---- the entries
  pub adds_row : (g w g1 g2 w1 : RationalMatrix) (xs : List ℚ) → IsMotion plant k x z → plant.p * k ≤ plant.p * plant.horizon → xs ≡ row.x → length row.u ≤ plant.p → ((j : ℕ) → entry g i j ≡ int (pos 0)) →
      WritesBlock g g1 i (i + 1) 0 (plant.p * k) (λ _ b. dot (row_at z b) xs) →
      WritesBlock g1 g2 i (i + 1) (plant.p * k) (plant.p * k + length row.u) (λ _ b. coordinate row.u (b - plant.p * k)) →
      WritesBlock w w1 i (i + 1) 0 (height x) (λ _ b. bound_of row b -ℚ dot (row_at x b) row.x) →
      AddsRow plant k row i g w g2 w1
  adds_row g w g1 g2 w1 xs m within ex u_size empty dw mw rw' = record {
    has_row = record { left_is = left; right_is = right };
    g_shape = λ r c s. shape_of_block g1 g2 r c _ _ _ _ _ (shape_of_block g g1 r c _ _ _ _ _ s dw) mw;
    w_shape = λ r c s. shape_of_block w w1 r c _ _ _ _ _ s rw';
    g_others = λ r j h. mw.outside r j (λ q. h (omega (arith, q.from_row, q.to_row))) ∙ dw.outside r j (λ q. h (omega (arith, q.from_row, q.to_row)));
    w_others = λ r j h. rw'.outside r j (λ q. h (omega (arith, q.from_row, q.to_row)));
  }
    where
      right : (j : ℕ) → j < plant.n + 1 → entry w1 i j ≡ right_entry plant k row j
      right j l =
          rw'.inside i j (record { from_row = omega arith; to_row = omega arith; from_column = omega arith; to_column = omega (arith, m.x_shape.rows_are) })
          ∙ (λ t. bound_of row j -ℚ (ap (λ r. dot r row.x) (m.x_is j l) ∙ dot_comm (motion plant k j) row.x) t)

      left : (j : ℕ) → j < plant.p * plant.horizon → entry g2 i j ≡ left_entry plant k row j
      left j l = ⊎_elim (λ a. before a) (λ a. ⊎_elim (λ b. ⊎_elim (λ c. now a c) (λ c. past a b c) (cases_lt j (plant.p * k + length row.u))) (λ b. behind a b) (cases_lt j (plant.p * k + plant.p))) (cases_lt j (plant.p * k))
        where
          before : j < plant.p * k → entry g2 i j ≡ left_entry plant k row j
          before a =
              mw.outside i j (λ q. omega (arith, q.from_column))
              ∙ dw.inside i j (record { from_row = omega arith; to_row = omega arith; from_column = omega arith; to_column = a })
              ∙ (λ t. dot (m.z_is j l t) (ex t)) ∙ dot_comm (motion plant k (plant.n + 1 + j)) row.x
              ∙ sym (cond-true (ltb j (plant.p * k)) _ _ (lt-ltb j (plant.p * k) a))

          none : plant.p * k ≤ j → (IsInBlock i (i + 1) (plant.p * k) (plant.p * k + length row.u) i j → ⊥) → entry g2 i j ≡ int (pos 0)
          none a h = mw.outside i j h ∙ dw.outside i j (λ q. omega (arith, q.to_column)) ∙ empty j

          now : plant.p * k ≤ j → j < plant.p * k + length row.u → entry g2 i j ≡ left_entry plant k row j
          now a c =
              mw.inside i j (record { from_row = omega arith; to_row = omega arith; from_column = a; to_column = c })
              ∙ sym (cond-false (ltb j (plant.p * k)) _ _ (le-ltb j (plant.p * k) a) ∙ cond-true (ltb j (plant.p * k + plant.p)) _ _ (lt-ltb j (plant.p * k + plant.p) (omega arith)))

          past : plant.p * k ≤ j → j < plant.p * k + plant.p → plant.p * k + length row.u ≤ j → entry g2 i j ≡ left_entry plant k row j
          past a b c =
              none a (λ q. omega (arith, q.to_column))
              ∙ sym (cond-false (ltb j (plant.p * k)) _ _ (le-ltb j (plant.p * k) a) ∙ cond-true (ltb j (plant.p * k + plant.p)) _ _ (lt-ltb j (plant.p * k + plant.p) b) ∙ coordinate_past row.u (j - plant.p * k) (omega arith))

          behind : plant.p * k ≤ j → plant.p * k + plant.p ≤ j → entry g2 i j ≡ left_entry plant k row j
          behind a b =
              none a (λ q. omega (arith, q.to_column))
              ∙ sym (cond-false (ltb j (plant.p * k)) _ _ (le-ltb j (plant.p * k) a) ∙ cond-false (ltb j (plant.p * k + plant.p)) _ _ (le-ltb j (plant.p * k + plant.p) b))

  -- ---- what fits
  module _ (xs : List ℚ) (m : IsMotion plant k x z) (within : plant.p * k ≤ plant.p * plant.horizon) (ex : xs ≡ row.x) where
    pub row_fits : AllInBlock i (i + 1) 0 (plant.p * k) (λ _ b. DotFits (row_at z b) xs) →
        AllInBlock i (i + 1) 0 (height x) (λ _ b. DotFits (row_at x b) row.x × FitsSum (bound_of row b) (neg_ℚ (dot (row_at x b) row.x))) → RowFits plant k row
    row_fits zf xf = record {
      dots = λ j l. ⊎_elim
          (λ h. subst (λ r. DotFits r row.x) (m.x_is j h) (x_pair j h).0)
          (λ h. let e : plant.n + 1 + (j - (plant.n + 1)) ≡ j = omega arith in
          subst (λ r. DotFits r row.x) (m.z_is (j - (plant.n + 1)) (omega arith) ∙ ap (motion plant k) e)
          (subst (DotFits (row_at z (j - (plant.n + 1)))) ex (zf.each i (j - (plant.n + 1)) (record { from_row = omega arith; to_row = omega arith; from_column = omega arith; to_column = omega arith }))))
          (cases_lt j (plant.n + 1));
      bounds = λ j l. subst (λ r. FitsSum (bound_of row j) (neg_ℚ (dot r row.x))) (m.x_is j l) (x_pair j l).1;
    }
      where
        x_pair : (j : ℕ) → j < plant.n + 1 → DotFits (row_at x j) row.x × FitsSum (bound_of row j) (neg_ℚ (dot (row_at x j) row.x))
        x_pair j l = xf.each i j (record { from_row = omega arith; to_row = omega arith; from_column = omega arith; to_column = omega (arith, m.x_shape.rows_are) })

    pub dots_of_row : RowFits plant k row → AllInBlock i (i + 1) 0 (plant.p * k) (λ _ b. DotFits (row_at z b) xs)
    dots_of_row q = record {
      each = λ a b r.
          subst (DotFits (row_at z b)) (sym ex) (subst (λ v. DotFits v row.x) (sym (m.z_is b (omega (arith, r.to_column)))) (q.dots (plant.n + 1 + b) (omega (arith, r.to_column))));
    }

    pub bounds_of_row : RowFits plant k row → AllInBlock i (i + 1) 0 (height x) (λ _ b. DotFits (row_at x b) row.x × FitsSum (bound_of row b) (neg_ℚ (dot (row_at x b) row.x)))
    bounds_of_row q = record {
      each = λ a b r.
          let l : b < plant.n + 1 = omega (arith, r.to_column, m.x_shape.rows_are) in
          (subst (λ v. DotFits v row.x) (sym (m.x_is b l)) (q.dots b (omega arith)), subst (λ v. FitsSum (bound_of row b) (neg_ℚ (dot v row.x))) (sym (m.x_is b l)) (q.bounds b l));
    }

-- ---- a row of the program is a row of the plant at one step only
same_place : (m k r k' r' : ℕ) → r < m → r' < m → k * m + r ≡ k' * m + r' → (k ≡ k') × (r ≡ r')
same_place m k r k' r' l l' e = by (cases_order k k')
  where
    by : (k ≡ k') ⊎ ((k < k') ⊎ (k' < k)) → (k ≡ k') × (r ≡ r')
    by (inl p) = let q : k * m ≡ k' * m = ap (λ z. z * m) p in (p, omega arith)
    by (inr (inl p)) = let q : suc k * m ≤ k' * m = mul-le-mul_right m p in absurd (omega arith)
    by (inr (inr p)) = let q : suc k' * m ≤ k * m = mul-le-mul_right m p in absurd (omega arith)

same_item : {X : Type 0} (xs : List X) (r r' : ℕ) (a b : X) → slice_get xs r ≡ Some a → slice_get xs r' ≡ Some b → r ≡ r' → a ≡ b
same_item xs r r' a b e f p = sym (get_or_from_slice_get xs r a a e) ∙ ap (λ z. get_or xs z a) p ∙ get_or_from_slice_get xs r' b a f

module _ (plant : Plant) where
  before_end : (k r : ℕ) → k < plant.horizon → r < length plant.rows → k * length plant.rows + r < plant.horizon * length plant.rows
  before_end k r l m = let q : suc k * length plant.rows ≤ plant.horizon * length plant.rows = mul-le-mul_right (length plant.rows) l in omega arith

  pub row_unique : (i k k' : ℕ) (row row' : PlantRow) → IsRow plant i k row → IsRow plant i k' row' → (k ≡ k') × (row ≡ row')
  row_unique i k k' row row' (inl (r, a, b, c)) (inl (r', a', b', c')) =
      let p = same_place (length plant.rows) k r k' r' (slice_get_within plant.rows r row b) (slice_get_within plant.rows r' row' b') (sym c ∙ c') in
      (p.0, same_item plant.rows r r' row row' b b' p.1)
  row_unique i k k' row row' (inl (r, a, b, c)) (inr (r', a', b', c')) =
      let l = before_end k r a (slice_get_within plant.rows r row b) in absurd (omega arith)
  row_unique i k k' row row' (inr (r, a, b, c)) (inl (r', a', b', c')) =
      let l = before_end k' r' a' (slice_get_within plant.rows r' row' b') in absurd (omega arith)
  row_unique i k k' row row' (inr (r, a, b, c)) (inr (r', a', b', c')) =
      let p : r ≡ r' = omega arith in
      (a ∙ sym a', same_item plant.terminal r r' row row' b b' p)

  -- ---- one more row
  pub rows_more : (g w g' w' : RationalMatrix) (i j k : ℕ) (row : PlantRow) → j ≡ i + 1 → IsRow plant i k row → RowsDone plant g w i → AddsRow plant k row i g w g' w' → RowsDone plant g' w' j
  rows_more g w g' w' i j k row ej is d a = record {
    g_shape = a.g_shape _ _ d.g_shape;
    w_shape = a.w_shape _ _ d.w_shape;
    rows = λ q k' row' l is'. ⊎_elim
        (λ p. let u = row_unique i k k' row row' is (subst (λ z. IsRow plant z k' row') p is') in
        subst (λ z. HasRow plant k' row' (row_at g' z) (row_at w' z)) (sym p) (subst (λ z. HasRow plant z row' (row_at g' i) (row_at w' i)) u.0 (subst (λ z. HasRow plant k z (row_at g' i) (row_at w' i)) u.1 a.has_row)))
        (λ p. let h = d.rows q k' row' (omega arith) is' in
        let kept : HasRow plant k' row' (row_at g' q) (row_at w' q) = record { left_is = λ c m. a.g_others q c p ∙ h.left_is c m; right_is = λ c m. a.w_others q c p ∙ h.right_is c m } in kept)
        (cases_eq q i);
    empty = λ q c l m. a.g_others q c (λ p. omega arith) ∙ d.empty q c (omega arith) m;
  }

  pub rows_fit_more : (i j k : ℕ) (row : PlantRow) → j ≡ i + 1 → IsRow plant i k row → RowFits plant k row → RowsFit plant i → RowsFit plant j
  rows_fit_more i j k row ej is f h = λ q k' row' l is'. ⊎_elim
      (λ p. let u = row_unique i k k' row row' is (subst (λ z. IsRow plant z k' row') p is') in subst (λ z. RowFits plant z row') u.0 (subst (RowFits plant k) u.1 f))
      (λ p. h q k' row' (omega arith) is')
      (cases_eq q i)

  pub no_rows : (g w : RationalMatrix) (n : ℕ) → n ≡ 0 → g ≡ zero_matrix (row_count plant) (plant.p * plant.horizon) → w ≡ zero_matrix (row_count plant) (plant.n + 1) → RowsDone plant g w n
  no_rows g w n e eg ew = record {
    g_shape = subst (λ m. HasShape m (row_count plant) (plant.p * plant.horizon)) (sym eg) (zero_matrix-shape (row_count plant) (plant.p * plant.horizon));
    w_shape = subst (λ m. HasShape m (row_count plant) (plant.n + 1)) (sym ew) (zero_matrix-shape (row_count plant) (plant.n + 1));
    rows = λ i k row l is. absurd (omega arith);
    empty = λ i j l m. ap (λ z. entry z i j) eg ∙ zero_matrix-entry (row_count plant) (plant.p * plant.horizon) i j m;
  }

  pub no_rows_fit : (n : ℕ) → n ≡ 0 → RowsFit plant n
  no_rows_fit n e = λ i k row l is. absurd (omega arith)

  pub stage_place : (k r : ℕ) (row : PlantRow) → k < plant.horizon → slice_get plant.rows r ≡ Some row → IsRow plant (stage_row plant k r) k row
  stage_place k r row l e = inl (r, l, e, refl)

  pub terminal_place : (r : ℕ) (row : PlantRow) → slice_get plant.terminal r ≡ Some row → IsRow plant (terminal_row plant r) plant.horizon row
  terminal_place r row e = inr (r, refl, e, refl)

  pub stage_within : (k r : ℕ) → k < plant.horizon → r < length plant.rows → stage_row plant k r < row_count plant
  stage_within k r l m = let q = before_end k r l m in omega arith

  pub terminal_within : (r : ℕ) → r < length plant.terminal → terminal_row plant r < row_count plant
  terminal_within r l = omega arith

  pub next_stage : (k : ℕ) → stage_row plant k (length plant.rows) ≡ stage_row plant (k + 1) 0
  next_stage k = omega arith

  pub few_rows : row_count plant ≤ 60
  few_rows = omega (arith, plant.is_plant.rows_few, limit (plant.p * plant.horizon))
    where
      limit : (k : ℕ) → row_limit k ≤ 60
      limit k = ⊎_elim (λ e. subst (λ b. cond b 60 40 ≤ 60) (sym e) (omega arith)) (λ e. subst (λ b. cond b 60 40 ≤ 60) (sym e) (omega arith)) (cases_Bool (leb k 4))

  -- ---- the same at the number that the code computes
  pub stage_step : (g w g' w' : RationalMatrix) (k r i : ℕ) (row : PlantRow) → i ≡ stage_row plant k r → k < plant.horizon → slice_get plant.rows r ≡ Some row →
      RowsDone plant g w (stage_row plant k r) → AddsRow plant k row i g w g' w' → RowsDone plant g' w' (stage_row plant k (r + 1))
  stage_step g w g' w' k r i row e l is d a =
      rows_more g w g' w' (stage_row plant k r) (stage_row plant k (r + 1)) k row (omega arith) (stage_place k r row l is) d (subst (λ z. AddsRow plant k row z g w g' w') e a)

  pub stage_fits_step : (k r : ℕ) (row : PlantRow) → k < plant.horizon → slice_get plant.rows r ≡ Some row → RowFits plant k row → RowsFit plant (stage_row plant k r) → RowsFit plant (stage_row plant k (r + 1))
  stage_fits_step k r row l is f h = rows_fit_more (stage_row plant k r) (stage_row plant k (r + 1)) k row (omega arith) (stage_place k r row l is) f h

  pub end_step : (g w g' w' : RationalMatrix) (r i : ℕ) (row : PlantRow) → i ≡ terminal_row plant r → slice_get plant.terminal r ≡ Some row →
      RowsDone plant g w (terminal_row plant r) → AddsRow plant plant.horizon row i g w g' w' → RowsDone plant g' w' (terminal_row plant (r + 1))
  end_step g w g' w' r i row e is d a =
      rows_more g w g' w' (terminal_row plant r) (terminal_row plant (r + 1)) plant.horizon row (omega arith) (terminal_place r row is) d (subst (λ z. AddsRow plant plant.horizon row z g w g' w') e a)

  pub end_fits_step : (r : ℕ) (row : PlantRow) → slice_get plant.terminal r ≡ Some row → RowFits plant plant.horizon row → RowsFit plant (terminal_row plant r) → RowsFit plant (terminal_row plant (r + 1))
  end_fits_step r row is f h = rows_fit_more (terminal_row plant r) (terminal_row plant (r + 1)) plant.horizon row (omega arith) (terminal_place r row is) f h

  pub wide_row : (j i k : ℕ) (row : PlantRow) → j ≡ i → IsRow plant i k row → StatesFit plant plant.horizon → CostsFit plant (plant.horizon + 1) → RowsFit plant i → (RowFits plant k row → ⊥) → IsWideRow plant (j + 1)
  wide_row j i k row e is states costs before here =
      let back : i ≡ j + 1 - 1 = omega arith in
      record {
        some = omega arith;
        states = states;
        costs = costs;
        before = subst (RowsFit plant) back before;
        step = k;
        row = row;
        is_row = subst (λ z. IsRow plant z k row) back is;
        here = here;
      }

  pub rows_fit_to : (i j : ℕ) → j ≤ i → RowsFit plant i → RowsFit plant j
  rows_fit_to i j l h = λ q k row m is. h q k row (omega arith) is

  pub stage_end : (k r : ℕ) → r ≡ length plant.rows → stage_row plant (k + 1) 0 ≤ stage_row plant k r
  stage_end k r e = omega arith
