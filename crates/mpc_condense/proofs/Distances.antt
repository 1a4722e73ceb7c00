-- The columns of the state's distance from its target, as the code forms them.
use Rattle.std.proofs.Common.{◌≡◌, ℕ, ◌+◌, ◌*◌, ◌<◌, List, length, sym, ◌∙◌, ap, subst, arith, ⊎_elim}
use Rattle.std.proofs.lemmas.Bool.{cases_eq}
use Rattle.mpc_exact.specs.Rational.{ℚ, ◌-ℚ◌, neg_ℚ}
use Rattle.mpc_frac.specs.Fits.{FitsSum}
use Rattle.mpc_space.specs.Vector.{coordinate, vec_sub}
use Rattle.mpc_space.specs.Matrix.{RationalMatrix, entry}
use Rattle.mpc_space.proofs.Entries.{coordinate-sub, length-sub}
use Rattle.mpc_plant.specs.declared.plants.Plant.{Plant}
use Rattle.mpc_linear.specs.Shape.{HasShape}
use Rattle.mpc_condense.specs.Motion.{motion, distance, DistanceFits}
use Rattle.mpc_condense.specs.Blocks.{row_at, WritesBlock, AllInBlock}
use Rattle.mpc_condense.specs.Stages.{IsMotion, IsDistance}
use Rattle.mpc_condense.proofs.StateColumns.{distance-first, distance-other}
use Rattle.mpc_condense.proofs.Advance.{row_length, row_is, shape_of_block}

module _ (plant : Plant) (k : ℕ) (x z mx : RationalMatrix) (goal : List ℚ) (w : IsMotion plant k x z) (ex : mx ≡ x) (eg : goal ≡ plant.xgoal) where
  copied : HasShape mx (plant.n + 1) plant.n
  copied = subst (λ m. HasShape m (plant.n + 1) plant.n) (sym ex) w.x_shape

  copied_entry : (j i : ℕ) → j < plant.n + 1 → entry mx j i ≡ coordinate (motion plant k j) i
  copied_entry j i l = ap (λ m. entry m j i) ex ∙ ap (λ r. coordinate r i) (w.x_is j l)

  goal_size : length goal ≡ plant.n
  goal_size = ap length eg ∙ plant.is_plant.xgoal_size

  column_size : (j : ℕ) → j < plant.n + 1 → length (motion plant k j) ≡ plant.n
  column_size j l = ap length (sym (w.x_is j l)) ∙ row_length x (plant.n + 1) plant.n j w.x_shape l

  -- ---- the entries
  module _ (nx nz : RationalMatrix) (ez : nz ≡ z) (dw : WritesBlock mx nx 0 (0 + 1) 0 (length goal) (λ j i. entry mx j i -ℚ coordinate goal i)) where
    taken : HasShape nx (plant.n + 1) plant.n
    taken = shape_of_block mx nx _ _ _ _ _ _ _ copied dw

    first_column : row_at nx 0 ≡ distance plant k 0
    first_column =
        let sizes : length (motion plant k 0) ≡ length plant.xgoal = column_size 0 (omega arith) ∙ sym plant.is_plant.xgoal_size in
        row_is nx (plant.n + 1) plant.n 0 (vec_sub (motion plant k 0) plant.xgoal) taken (omega arith) (length-sub (motion plant k 0) plant.xgoal sizes ∙ column_size 0 (omega arith))
        (λ i l. dw.inside 0 i (record { from_row = omega arith; to_row = omega arith; from_column = omega arith; to_column = omega (arith, goal_size) })
        ∙ (λ t. copied_entry 0 i (omega arith) t -ℚ coordinate (eg t) i) ∙ sym (coordinate-sub (motion plant k 0) plant.xgoal i))
        ∙ sym (distance-first plant k)

    later_column : (j : ℕ) → 0 < j → j < plant.n + 1 → row_at nx j ≡ distance plant k j
    later_column j some l =
        row_is nx (plant.n + 1) plant.n j (motion plant k j) taken l (column_size j l) (λ i m. dw.outside j i (λ h. omega (arith, h.to_row)) ∙ copied_entry j i l)
        ∙ sym (distance-other plant k j some)

    pub is_distance : IsDistance plant k nx nz
    is_distance = record {
      x_shape = taken;
      z_shape = subst (λ m. HasShape m (plant.p * plant.horizon) plant.n) (sym ez) w.z_shape;
      x_is = λ j l. ⊎_elim (λ e. subst (λ q. row_at nx q ≡ distance plant k q) (sym e) first_column) (λ e. later_column j (omega arith) l) (cases_eq j 0);
      z_is = λ j l. ap (λ m. row_at m j) ez ∙ w.z_is j l ∙ sym (distance-other plant k (plant.n + 1 + j) (omega arith));
    }

  -- ---- what fits
  pub distance_fits : AllInBlock 0 (0 + 1) 0 (length goal) (λ j i. FitsSum (entry mx j i) (neg_ℚ (coordinate goal i))) → DistanceFits plant k
  distance_fits d i l =
      subst (λ v. FitsSum (coordinate (motion plant k 0) i) (neg_ℚ (coordinate v i))) eg
      (subst (λ q. FitsSum q (neg_ℚ (coordinate goal i))) (copied_entry 0 i (omega arith))
      (d.each 0 i (record { from_row = omega arith; to_row = omega arith; from_column = omega arith; to_column = omega (arith, goal_size) })))

  pub first_column_fits : DistanceFits plant k → AllInBlock 0 (0 + 1) 0 (length goal) (λ j i. FitsSum (entry mx j i) (neg_ℚ (coordinate goal i)))
  first_column_fits d = record {
    each = λ j i b.
        let e : 0 ≡ j = omega (arith, b.to_row) in
        subst (λ q. FitsSum (entry mx q i) (neg_ℚ (coordinate goal i))) e
        (subst (λ v. FitsSum (entry mx 0 i) (neg_ℚ (coordinate v i))) (sym eg)
        (subst (λ q. FitsSum q (neg_ℚ (coordinate plant.xgoal i))) (sym (copied_entry 0 i (omega arith))) (d i (omega (arith, b.to_column, goal_size)))));
  }
