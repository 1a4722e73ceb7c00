-- The cost of the move with its target, as the code adds it, is that of the stated run.
use Rattle.std.proofs.Common.{◌≡◌, ℕ, suc, ◌+◌, ◌-◌, ◌*◌, ◌<◌, ◌≤◌, false, List, [], ◌∷◌, length, pos, negsuc, sym, ◌∙◌, ap, subst, arith, ⊎_elim, add-one}
use Rattle.std.proofs.lemmas.Bool.{cases_eq, cases_lt}
use Rattle.mpc_exact.specs.Rational.{ℚ, int, ◌+ℚ◌, ◌-ℚ◌, ◌*ℚ◌, neg_ℚ}
use Rattle.mpc_exact.proofs.RationalRing.{reads, by_ring}
use Rattle.mpc_frac.specs.Fits.{FitsSum}
use Rattle.mpc_space.specs.Vector.{coordinate, dot, mat_vec, quadratic}
use Rattle.mpc_space.specs.Matrix.{RationalMatrix, height, entry}
use Rattle.mpc_space.proofs.Matrix.{length-mat_vec, coordinate-mat_vec}
use Rattle.mpc_linear.specs.Dot.{DotFits}
use Rattle.mpc_linear.specs.Entries.{zero_matrix}
use Rattle.mpc_plant.specs.declared.plants.Plant.{Plant}
use Rattle.mpc_linear.specs.Shape.{HasShape}
use Rattle.mpc_condense.specs.Motion.{first_move, is_move, move_gram, kernel, kernel_with, GoalFits, MovesFit}
use Rattle.mpc_condense.specs.Blocks.{row_at, IsInBlock, WritesBlock, AllInBlock}
use Rattle.mpc_condense.specs.Stages.{IsGoal, HoldsSums}
use Rattle.mpc_condense.proofs.StateColumns.{first-grows}
use Rattle.mpc_condense.proofs.CostForm.{is_move-at, is_move-before, is_move-behind, no_left, no_right, two_moves, move_and_target, target_alone}
use Rattle.mpc_condense.proofs.Advance.{zero_matrix-shape, row_is, shape_of_block}
use Rattle.mpc_condense.proofs.Sums.{same_plus}

r_rows : (plant : Plant) → height plant.r ≡ plant.p
r_rows plant = plant.is_plant.r_weight.shape.rows_are

r_columns : (plant : Plant) → plant.r.columns ≡ plant.p
r_columns plant = plant.is_plant.r_weight.shape.columns_are

-- ---- R times the target
module _ (plant : Plant) (m : RationalMatrix) (target : List ℚ) (et : target ≡ plant.ugoal) where
  module _ (blank : RationalMatrix) (eb : blank ≡ zero_matrix 1 plant.p) (w : WritesBlock blank m 0 (0 + 1) 0 plant.p (λ _ b. dot (row_at plant.r b) target)) where
    shape : HasShape m 1 plant.p
    shape = shape_of_block blank m _ _ _ _ _ _ _ (subst (λ z. HasShape z 1 plant.p) (sym eb) (zero_matrix-shape 1 plant.p)) w

    only_row : row_at m 0 ≡ mat_vec plant.r.rows plant.ugoal
    only_row =
        row_is m 1 plant.p 0 (mat_vec plant.r.rows plant.ugoal) shape (omega arith) (length-mat_vec plant.r.rows plant.ugoal ∙ r_rows plant)
        (λ b l. w.inside 0 b (record { from_row = omega arith; to_row = omega arith; from_column = omega arith; to_column = l })
        ∙ ap (dot (row_at plant.r b)) et ∙ sym (coordinate-mat_vec plant.r.rows plant.ugoal b))

    pub is_goal : (row : List ℚ) (square : ℚ) → row ≡ row_at m 0 → square ≡ dot target row → IsGoal plant m square
    is_goal row square er es = record { some = omega (arith, shape.rows_are); weighted_is = only_row; square_is = es ∙ (λ t. dot (et t) ((er ∙ only_row) t)) }

    pub goal_fits : (row : List ℚ) → row ≡ row_at m 0 → AllInBlock 0 (0 + 1) 0 plant.p (λ _ b. DotFits (row_at plant.r b) target) → DotFits target row → GoalFits plant
    goal_fits row er f d = record {
      dots = λ i l. subst (DotFits (row_at plant.r i)) et (f.each 0 i (record { from_row = omega arith; to_row = omega arith; from_column = omega arith; to_column = l }));
      square = subst (DotFits plant.ugoal) (er ∙ only_row) (subst (λ x. DotFits x row) et d);
    }

    pub square_fits : (row : List ℚ) → row ≡ row_at m 0 → GoalFits plant → DotFits target row
    square_fits row er g = subst (λ x. DotFits x row) (sym et) (subst (DotFits plant.ugoal) (sym (er ∙ only_row)) g.square)

  pub images_fit : GoalFits plant → AllInBlock 0 (0 + 1) 0 plant.p (λ _ b. DotFits (row_at plant.r b) target)
  images_fit g = record { each = λ a b r. subst (DotFits (row_at plant.r b)) (sym et) (g.dots b r.to_column) }

pub goal_size : (plant : Plant) (m : RationalMatrix) (square : ℚ) (row : List ℚ) → IsGoal plant m square → row ≡ row_at m 0 → length row ≡ plant.p
goal_size plant m square row g e = ap length (e ∙ g.weighted_is) ∙ length-mat_vec plant.r.rows plant.ugoal ∙ r_rows plant

-- ---- the cost of the move
module _ (plant : Plant) (k : ℕ) (h f y nh nf ny m : RationalMatrix) (target : List ℚ) (square : ℚ) (s : HoldsSums plant (kernel_with plant k) h f y) (g : IsGoal plant m square) (et : target ≡ row_at m 0)
    (hw : WritesBlock h nh (plant.p * k) (plant.p * k + height plant.r) (plant.p * k) (plant.p * k + plant.r.columns) (λ a b. entry h a b +ℚ entry plant.r (a - plant.p * k) (b - plant.p * k)))
    (fw : WritesBlock f nf (plant.p * k) (plant.p * k + length target) 0 1 (λ a b. entry f a b -ℚ coordinate target (a - plant.p * k)))
    (yw : WritesBlock y ny 0 1 0 1 (λ a b. entry y a b +ℚ square)) where
  target_is : target ≡ mat_vec plant.r.rows plant.ugoal
  target_is = et ∙ g.weighted_is

  target_size : length target ≡ plant.p
  target_size = goal_size plant m square target g et

  Sum : ℕ → ℕ → ℚ
  Sum j l = kernel_with plant k j l +ℚ move_gram plant k j l

  out_of : (i : ℕ) → (plant.p * k ≤ i → i < plant.p * k + plant.p → ⊥) → is_move plant k (plant.n + 1 + i) ≡ false
  out_of i h = ⊎_elim (λ p. is_move-before plant k (plant.n + 1 + i) (omega arith))
      (λ p. ⊎_elim (λ q. absurd (h p q)) (λ q. is_move-behind plant k (plant.n + 1 + i) (omega (arith, first-grows plant k))) (cases_lt i (plant.p * k + plant.p)))
      (cases_lt i (plant.p * k))

  h_move : (i l : ℕ) → i < plant.p * plant.horizon → l < plant.p * plant.horizon → entry nh i l ≡ Sum (plant.n + 1 + i) (plant.n + 1 + l)
  unfolding Sum
  h_move i l a b = ⊎_elim (λ p. outside_row p)
      (λ p. ⊎_elim (λ q. ⊎_elim (λ r. outside_column r) (λ r. ⊎_elim (λ t. within p q r t) (λ t. outside_column_above t) (cases_lt l (plant.p * k + plant.p))) (cases_lt l (plant.p * k))) (λ q. outside_row_above q) (cases_lt i (plant.p * k + plant.p)))
      (cases_lt i (plant.p * k))
    where
      kept : (IsInBlock (plant.p * k) (plant.p * k + height plant.r) (plant.p * k) (plant.p * k + plant.r.columns) i l → ⊥) → move_gram plant k (plant.n + 1 + i) (plant.n + 1 + l) ≡ int (pos 0) → entry nh i l ≡ Sum (plant.n + 1 + i) (plant.n + 1 + l)
      kept n e = same_plus (entry nh i l) (kernel_with plant k (plant.n + 1 + i) (plant.n + 1 + l)) (move_gram plant k (plant.n + 1 + i) (plant.n + 1 + l)) (hw.outside i l n ∙ s.h_is i l a b) e

      outside_row : i < plant.p * k → entry nh i l ≡ Sum (plant.n + 1 + i) (plant.n + 1 + l)
      outside_row p = kept (λ q. omega (arith, q.from_row)) (no_left plant k (plant.n + 1 + i) (plant.n + 1 + l) (omega arith) (out_of i (λ q r. omega arith)))

      outside_row_above : plant.p * k + plant.p ≤ i → entry nh i l ≡ Sum (plant.n + 1 + i) (plant.n + 1 + l)
      outside_row_above p = kept (λ q. omega (arith, q.to_row, r_rows plant)) (no_left plant k (plant.n + 1 + i) (plant.n + 1 + l) (omega arith) (out_of i (λ q r. omega arith)))

      outside_column : l < plant.p * k → entry nh i l ≡ Sum (plant.n + 1 + i) (plant.n + 1 + l)
      outside_column p = kept (λ q. omega (arith, q.from_column)) (no_right plant k (plant.n + 1 + i) (plant.n + 1 + l) (omega arith) (out_of l (λ q r. omega arith)))

      outside_column_above : plant.p * k + plant.p ≤ l → entry nh i l ≡ Sum (plant.n + 1 + i) (plant.n + 1 + l)
      outside_column_above p = kept (λ q. omega (arith, q.to_column, r_columns plant)) (no_right plant k (plant.n + 1 + i) (plant.n + 1 + l) (omega arith) (out_of l (λ q r. omega arith)))

      within : plant.p * k ≤ i → i < plant.p * k + plant.p → plant.p * k ≤ l → l < plant.p * k + plant.p → entry nh i l ≡ Sum (plant.n + 1 + i) (plant.n + 1 + l)
      within p q r t =
          let ei : i - plant.p * k ≡ plant.n + 1 + i - first_move plant k = omega arith in
          let el : l - plant.p * k ≡ plant.n + 1 + l - first_move plant k = omega arith in
          hw.inside i l (record { from_row = p; to_row = omega (arith, r_rows plant); from_column = r; to_column = omega (arith, r_columns plant) })
          ∙ (λ d. s.h_is i l a b d +ℚ (ap (λ n. entry plant.r n (l - plant.p * k)) ei ∙ ap (entry plant.r (plant.n + 1 + i - first_move plant k)) el
          ∙ sym (two_moves plant k (plant.n + 1 + i) (plant.n + 1 + l) (omega arith) (omega arith) (is_move-at plant k (plant.n + 1 + i) (omega arith) (omega (arith, first-grows plant k))) (is_move-at plant k (plant.n + 1 + l) (omega arith) (omega (arith, first-grows plant k))))) d)

  f_move : (i l : ℕ) → i < plant.p * plant.horizon → l < plant.n + 1 → entry nf i l ≡ Sum (plant.n + 1 + i) l
  unfolding Sum
  f_move i l a b = ⊎_elim
      (λ e. subst (λ q. entry nf i q ≡ Sum (plant.n + 1 + i) q) (sym e) first)
      (λ e. kept l b (λ r. e (omega (arith, r.to_column))) (no_right plant k (plant.n + 1 + i) l (omega arith) (is_move-before plant k l (omega arith))))
      (cases_eq l 0)
    where
      kept : (l : ℕ) → l < plant.n + 1 → (IsInBlock (plant.p * k) (plant.p * k + length target) 0 1 i l → ⊥) → move_gram plant k (plant.n + 1 + i) l ≡ int (pos 0) → entry nf i l ≡ Sum (plant.n + 1 + i) l
      kept l b n e = same_plus (entry nf i l) (kernel_with plant k (plant.n + 1 + i) l) (move_gram plant k (plant.n + 1 + i) l) (fw.outside i l n ∙ s.f_is i l a b) e

      minus : (x u v q : ℚ) → u ≡ v → q ≡ int (negsuc 0) *ℚ v → x -ℚ u ≡ x +ℚ q
      minus x u v q e d = ap (λ z. x -ℚ z) e ∙ by_ring (x ∷ v ∷ []) (search reads depth 30) (search reads depth 30) tt ∙ ap (λ z. x +ℚ z) (sym d)

      within : plant.p * k ≤ i → i < plant.p * k + plant.p → entry nf i 0 ≡ Sum (plant.n + 1 + i) 0
      within p q =
          let ei : i - plant.p * k ≡ plant.n + 1 + i - first_move plant k = omega arith in
          fw.inside i 0 (record { from_row = p; to_row = omega (arith, target_size); from_column = omega arith; to_column = omega arith })
          ∙ ap (λ z. z -ℚ coordinate target (i - plant.p * k)) (s.f_is i 0 a (omega arith))
          ∙ minus (kernel_with plant k (plant.n + 1 + i) 0) (coordinate target (i - plant.p * k)) (coordinate (mat_vec plant.r.rows plant.ugoal) (plant.n + 1 + i - first_move plant k)) (move_gram plant k (plant.n + 1 + i) 0)
          (λ t. coordinate (target_is t) (ei t))
          (move_and_target plant k (plant.n + 1 + i) (omega arith) (is_move-at plant k (plant.n + 1 + i) (omega arith) (omega (arith, first-grows plant k))))

      first : entry nf i 0 ≡ Sum (plant.n + 1 + i) 0
      first = ⊎_elim
          (λ p. kept 0 (omega arith) (λ r. omega (arith, r.from_row)) (no_left plant k (plant.n + 1 + i) 0 (omega arith) (out_of i (λ q r. omega arith))))
          (λ p. ⊎_elim (λ q. within p q) (λ o. kept 0 (omega arith) (λ r. omega (arith, r.to_row, target_size)) (no_left plant k (plant.n + 1 + i) 0 (omega arith) (out_of i (λ q r. omega arith)))) (cases_lt i (plant.p * k + plant.p)))
          (cases_lt i (plant.p * k))

  y_move : (i l : ℕ) → i < plant.n + 1 → l < plant.n + 1 → entry ny i l ≡ Sum i l
  unfolding Sum
  y_move i l a b = ⊎_elim
      (λ d. ⊎_elim
      (λ e. subst (λ p. entry ny p l ≡ Sum p l) (sym d) (subst (λ q. entry ny 0 q ≡ Sum 0 q) (sym e) corner))
      (λ e. kept (λ r. e (omega (arith, r.to_column))) (no_right plant k i l (omega arith) (is_move-before plant k l (omega arith))))
      (cases_eq l 0))
      (λ d. kept (λ r. d (omega (arith, r.to_row))) (no_left plant k i l (omega arith) (is_move-before plant k i (omega arith))))
      (cases_eq i 0)
    where
      kept : (IsInBlock 0 1 0 1 i l → ⊥) → move_gram plant k i l ≡ int (pos 0) → entry ny i l ≡ Sum i l
      kept n e = same_plus (entry ny i l) (kernel_with plant k i l) (move_gram plant k i l) (yw.outside i l n ∙ s.y_is i l a b) e

      corner : entry ny 0 0 ≡ Sum 0 0
      corner =
          yw.inside 0 0 (record { from_row = omega arith; to_row = omega arith; from_column = omega arith; to_column = omega arith })
          ∙ (λ t. s.y_is 0 0 (omega arith) (omega arith) t +ℚ (g.square_is ∙ sym (target_alone plant k)) t)

  with_move_sum : HoldsSums plant Sum nh nf ny
  with_move_sum = record {
    h_shape = shape_of_block h nh _ _ _ _ _ _ _ s.h_shape hw;
    f_shape = shape_of_block f nf _ _ _ _ _ _ _ s.f_shape fw;
    y_shape = shape_of_block y ny _ _ _ _ _ _ _ s.y_shape yw;
    h_is = h_move;
    f_is = f_move;
    y_is = y_move;
  }

  pub with_move : HoldsSums plant (kernel plant (k + 1)) nh nf ny
  unfolding Sum kernel
  with_move = subst (λ n. HoldsSums plant (kernel plant n) nh nf ny) (sym (add-one k)) (let next : HoldsSums plant (kernel plant (suc k)) nh nf ny = with_move_sum in next)

-- ---- what fits of it
module _ (plant : Plant) (k : ℕ) (h f y m : RationalMatrix) (target : List ℚ) (square : ℚ) (step : plant.p * k + plant.p ≤ plant.p * plant.horizon) (s : HoldsSums plant (kernel_with plant k) h f y) (g : IsGoal plant m square) (et : target ≡ row_at m 0) where
  rows_of_r : height plant.r ≡ plant.p
  rows_of_r = r_rows plant

  columns_of_r : plant.r.columns ≡ plant.p
  columns_of_r = r_columns plant

  weighted_is : target ≡ mat_vec plant.r.rows plant.ugoal
  weighted_is = et ∙ g.weighted_is

  weighted_size : length target ≡ plant.p
  weighted_size = goal_size plant m square target g et

  abbrev BlockFits : Type 0
  BlockFits = AllInBlock (plant.p * k) (plant.p * k + height plant.r) (plant.p * k) (plant.p * k + plant.r.columns) (λ a b. FitsSum (entry h a b) (entry plant.r (a - plant.p * k) (b - plant.p * k)))

  abbrev ColumnFits : Type 0
  ColumnFits = AllInBlock (plant.p * k) (plant.p * k + length target) 0 1 (λ a b. FitsSum (entry f a b) (neg_ℚ (coordinate target (a - plant.p * k))))

  pub moves_fit : BlockFits → ColumnFits → FitsSum (entry y 0 0) square → MovesFit plant k
  moves_fit w c q = record {
    sums = λ i l a b.
        let ei : plant.p * k + i - plant.p * k ≡ i = omega arith in
        let el : plant.p * k + l - plant.p * k ≡ l = omega arith in
        let fi : plant.n + 1 + (plant.p * k + i) ≡ first_move plant k + i = omega arith in
        let fl : plant.n + 1 + (plant.p * k + l) ≡ first_move plant k + l = omega arith in
        subst (λ q. FitsSum q (entry plant.r i l)) (s.h_is (plant.p * k + i) (plant.p * k + l) (omega arith) (omega arith) ∙ (λ t. kernel_with plant k (fi t) (fl t)))
        (subst (FitsSum (entry h (plant.p * k + i) (plant.p * k + l))) (λ t. entry plant.r (ei t) (el t))
        (w.each (plant.p * k + i) (plant.p * k + l) (record { from_row = omega arith; to_row = omega (arith, rows_of_r); from_column = omega arith; to_column = omega (arith, columns_of_r) })));
    taken = λ i a.
        let ei : plant.p * k + i - plant.p * k ≡ i = omega arith in
        let fi : plant.n + 1 + (plant.p * k + i) ≡ first_move plant k + i = omega arith in
        subst (λ q. FitsSum q (neg_ℚ (coordinate (mat_vec plant.r.rows plant.ugoal) i))) (s.f_is (plant.p * k + i) 0 (omega arith) (omega arith) ∙ ap (λ n. kernel_with plant k n 0) fi)
        (subst (FitsSum (entry f (plant.p * k + i) 0)) (λ t. neg_ℚ (coordinate (weighted_is t) (ei t)))
        (c.each (plant.p * k + i) 0 (record { from_row = omega arith; to_row = omega (arith, weighted_size); from_column = omega arith; to_column = omega arith })));
    constant = subst (λ z. FitsSum z (quadratic plant.r.rows plant.ugoal)) (s.y_is 0 0 (omega arith) (omega arith)) (subst (FitsSum (entry y 0 0)) g.square_is q);
  }

  pub block_fits : MovesFit plant k → BlockFits
  block_fits w = record {
    each = λ a b r.
        let ia : a - plant.p * k < plant.p = omega (arith, r.from_row, r.to_row, rows_of_r) in
        let ib : b - plant.p * k < plant.p = omega (arith, r.from_column, r.to_column, columns_of_r) in
        let la : a < plant.p * plant.horizon = omega (arith, r.from_row, r.to_row, rows_of_r) in
        let lb : b < plant.p * plant.horizon = omega (arith, r.from_column, r.to_column, columns_of_r) in
        let fa : first_move plant k + (a - plant.p * k) ≡ plant.n + 1 + a = omega (arith, r.from_row) in
        let fb : first_move plant k + (b - plant.p * k) ≡ plant.n + 1 + b = omega (arith, r.from_column) in
        subst (λ q. FitsSum q (entry plant.r (a - plant.p * k) (b - plant.p * k))) ((λ t. kernel_with plant k (fa t) (fb t)) ∙ sym (s.h_is a b la lb))
        (w.sums (a - plant.p * k) (b - plant.p * k) ia ib);
  }

  pub column_fits : MovesFit plant k → ColumnFits
  column_fits w = record {
    each = λ a b r.
        let zero_column : 0 ≡ b = omega (arith, r.to_column) in
        let ia : a - plant.p * k < plant.p = omega (arith, r.from_row, r.to_row, weighted_size) in
        let la : a < plant.p * plant.horizon = omega (arith, r.from_row, r.to_row, weighted_size) in
        let fa : first_move plant k + (a - plant.p * k) ≡ plant.n + 1 + a = omega (arith, r.from_row) in
        subst (λ q. FitsSum (entry f a q) (neg_ℚ (coordinate target (a - plant.p * k)))) zero_column
        (subst (λ v. FitsSum (entry f a 0) (neg_ℚ (coordinate v (a - plant.p * k)))) (sym weighted_is)
        (subst (λ q. FitsSum q (neg_ℚ (coordinate (mat_vec plant.r.rows plant.ugoal) (a - plant.p * k)))) (ap (λ n. kernel_with plant k n 0) fa ∙ sym (s.f_is a 0 la (omega arith)))
        (w.taken (a - plant.p * k) ia)));
  }

  pub constant_fits : MovesFit plant k → FitsSum (entry y 0 0) square
  constant_fits w = subst (FitsSum (entry y 0 0)) (sym g.square_is) (subst (λ z. FitsSum z (quadratic plant.r.rows plant.ugoal)) (sym (s.y_is 0 0 (omega arith) (omega arith))) w.constant)
