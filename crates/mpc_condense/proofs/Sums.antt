-- The sums of the cost, as the code adds them, are those of the stated run.
use Rattle.std.proofs.Common.{◌≡◌, ℕ, ◌+◌, ◌-◌, ◌*◌, ◌<◌, ◌≤◌, List, [], ◌∷◌, length, get_or, pos, sym, ◌∙◌, ap, subst, arith, ⊎_elim, ltb}
use Rattle.std.proofs.lemmas.Bool.{cases_eq, cases_lt, cond-true, cond-false, lt-ltb, le-ltb}
use Rattle.mpc_exact.specs.Rational.{ℚ, int, ◌+ℚ◌}
use Rattle.mpc_exact.proofs.RationalRing.{reads, by_ring}
use Rattle.mpc_frac.specs.Fits.{FitsSum}
use Rattle.mpc_space.specs.Vector.{dot}
use Rattle.mpc_space.specs.Matrix.{RationalMatrix, height, entry}
use Rattle.mpc_space.proofs.Vector.{dot_comm}
use Rattle.mpc_space.proofs.Entries.{dot-zero, zero_by_entries}
use Rattle.mpc_space.proofs.Matrix.{length-mat_vec, coordinate-mat_vec}
use Rattle.mpc_linear.specs.Dot.{DotFits}
use Rattle.mpc_linear.specs.Entries.{zero_matrix}
use Rattle.mpc_plant.specs.declared.plants.Plant.{Plant}
use Rattle.mpc_linear.specs.Shape.{HasShape}
use Rattle.mpc_condense.specs.Motion.{first_move, distance, weight_at, weighted, gram, kernel, kernel_with, IsKept, WeightsFit, SumsFit, CostFits}
use Rattle.mpc_condense.specs.Causes.{CostsFit}
use Rattle.mpc_condense.specs.Blocks.{row_at, WritesBlock, AllInBlock}
use Rattle.mpc_condense.specs.Stages.{IsDistance, IsWeighted, HoldsSums}
use Rattle.mpc_condense.proofs.StateColumns.{distance-zero}
use Rattle.mpc_condense.proofs.Advance.{zero_matrix-height, zero_matrix-entry, zero_matrix-shape, row_is, shape_of_block, dots_fit}

pub no_sums : (plant : Plant) (h f y : RationalMatrix) → h ≡ zero_matrix (plant.p * plant.horizon) (plant.p * plant.horizon) → f ≡ zero_matrix (plant.p * plant.horizon) (plant.n + 1) → y ≡ zero_matrix (plant.n + 1) (plant.n + 1) →
    HoldsSums plant (kernel plant 0) h f y
unfolding kernel
no_sums plant h f y eh ef ey = record {
  h_shape = subst (λ m. HasShape m (plant.p * plant.horizon) (plant.p * plant.horizon)) (sym eh) (zero_matrix-shape (plant.p * plant.horizon) (plant.p * plant.horizon));
  f_shape = subst (λ m. HasShape m (plant.p * plant.horizon) (plant.n + 1)) (sym ef) (zero_matrix-shape (plant.p * plant.horizon) (plant.n + 1));
  y_shape = subst (λ m. HasShape m (plant.n + 1) (plant.n + 1)) (sym ey) (zero_matrix-shape (plant.n + 1) (plant.n + 1));
  h_is = λ i l a b. ap (λ m. entry m i l) eh ∙ zero_matrix-entry (plant.p * plant.horizon) (plant.p * plant.horizon) i l a;
  f_is = λ i l a b. ap (λ m. entry m i l) ef ∙ zero_matrix-entry (plant.p * plant.horizon) (plant.n + 1) i l a;
  y_is = λ i l a b. ap (λ m. entry m i l) ey ∙ zero_matrix-entry (plant.n + 1) (plant.n + 1) i l a;
}

pub weight_rows : (plant : Plant) (k : ℕ) → height (weight_at plant k) ≡ plant.n
weight_rows plant k = ⊎_elim
    (λ l. ap height (cond-true (ltb k plant.horizon) plant.q plant.last (lt-ltb k plant.horizon l)) ∙ plant.is_plant.q_weight.shape.rows_are)
    (λ l. ap height (cond-false (ltb k plant.horizon) plant.q plant.last (le-ltb k plant.horizon l)) ∙ plant.is_plant.last_weight.shape.rows_are)
    (cases_lt k plant.horizon)

-- ---- the weight times the columns
module _ (plant : Plant) (k : ℕ) (x z nx nz : RationalMatrix) (w : IsDistance plant k x z) (within : plant.p * k ≤ plant.p * plant.horizon)
    (xw : WritesBlock (zero_matrix (height x) (height (weight_at plant k))) nx 0 (plant.n + 1) 0 (height (weight_at plant k)) (λ j i. dot (row_at (weight_at plant k) i) (row_at x j)))
    (zw : WritesBlock (zero_matrix (height z) (height (weight_at plant k))) nz 0 (plant.p * k) 0 (height (weight_at plant k)) (λ j i. dot (row_at (weight_at plant k) i) (row_at z j))) where
  shape_x : HasShape nx (plant.n + 1) plant.n
  shape_x = record { rows_are = xw.height_is ∙ zero_matrix-height (height x) (height (weight_at plant k)) ∙ w.x_shape.rows_are; columns_are = xw.columns_is ∙ weight_rows plant k; rectangular = xw.rectangular }

  shape_z : HasShape nz (plant.p * plant.horizon) plant.n
  shape_z = record { rows_are = zw.height_is ∙ zero_matrix-height (height z) (height (weight_at plant k)) ∙ w.z_shape.rows_are; columns_are = zw.columns_is ∙ weight_rows plant k; rectangular = zw.rectangular }

  weighted_length : (j : ℕ) → length (weighted plant k j) ≡ plant.n
  weighted_length j = length-mat_vec (weight_at plant k).rows (distance plant k j) ∙ weight_rows plant k

  pub is_weighted : IsWeighted plant k nx nz
  is_weighted = record {
    x_shape = shape_x;
    z_shape = shape_z;
    x_is = λ j l. row_is nx (plant.n + 1) plant.n j (weighted plant k j) shape_x l (weighted_length j)
        (λ i m. xw.inside j i (record { from_row = omega arith; to_row = l; from_column = omega arith; to_column = omega (arith, weight_rows plant k) })
        ∙ ap (dot (row_at (weight_at plant k) i)) (w.x_is j l) ∙ sym (coordinate-mat_vec (weight_at plant k).rows (distance plant k j) i));
    z_is = λ j l. row_is nz (plant.p * plant.horizon) plant.n j (weighted plant k (plant.n + 1 + j)) shape_z (omega arith) (weighted_length (plant.n + 1 + j))
        (λ i m. zw.inside j i (record { from_row = omega arith; to_row = l; from_column = omega arith; to_column = omega (arith, weight_rows plant k) })
        ∙ ap (dot (row_at (weight_at plant k) i)) (w.z_is j (omega arith)) ∙ sym (coordinate-mat_vec (weight_at plant k).rows (distance plant k (plant.n + 1 + j)) i));
  }

-- ---- columns that are 0 add nothing
zero_left : (plant : Plant) (k j l : ℕ) → first_move plant k ≤ j → gram plant k j l ≡ int (pos 0)
zero_left plant k j l a = dot_comm (distance plant k j) (weighted plant k l) ∙ dot-zero (weighted plant k l) (distance plant k j) (zero_by_entries (distance plant k j) (λ q _. distance-zero plant k j q a))

zero_right : (plant : Plant) (k j l : ℕ) → first_move plant k ≤ l → gram plant k j l ≡ int (pos 0)
zero_right plant k j l a =
    dot-zero (distance plant k j) (weighted plant k l) (zero_by_entries (weighted plant k l)
    (λ q _. coordinate-mat_vec (weight_at plant k).rows (distance plant k l) q ∙ dot-zero (get_or (weight_at plant k).rows q []) (distance plant k l) (zero_by_entries (distance plant k l) (λ s _. distance-zero plant k l s a))))

pub same_plus : (x k g : ℚ) → x ≡ k → g ≡ int (pos 0) → x ≡ k +ℚ g
same_plus x k g a b = a ∙ by_ring (k ∷ []) (search reads depth 30) (search reads depth 30) tt ∙ ap (λ u. k +ℚ u) (sym b)

-- ---- the cost of the state
module _ (plant : Plant) (k : ℕ) (x z wx wz h f y nh nf ny : RationalMatrix) (m : IsDistance plant k x z) (w : IsWeighted plant k wx wz) (within : plant.p * k ≤ plant.p * plant.horizon) (s : HoldsSums plant (kernel plant k) h f y)
    (hw : WritesBlock h nh 0 (plant.p * k) 0 (plant.p * k) (λ a b. entry h a b +ℚ dot (row_at z a) (row_at wz b)))
    (fw : WritesBlock f nf 0 (plant.p * k) 0 (plant.n + 1) (λ a b. entry f a b +ℚ dot (row_at z a) (row_at wx b)))
    (yw : WritesBlock y ny 0 (plant.n + 1) 0 (plant.n + 1) (λ a b. entry y a b +ℚ dot (row_at x a) (row_at wx b))) where
  h_entry : (i l : ℕ) → i < plant.p * plant.horizon → l < plant.p * plant.horizon → entry nh i l ≡ kernel_with plant k (plant.n + 1 + i) (plant.n + 1 + l)
  h_entry i l a b = ⊎_elim
      (λ p. ⊎_elim
      (λ q. hw.inside i l (record { from_row = omega arith; to_row = p; from_column = omega arith; to_column = q }) ∙ (λ t. s.h_is i l a b t +ℚ dot (m.z_is i a t) (w.z_is l q t)))
      (λ q. same_plus (entry nh i l) (kernel plant k (plant.n + 1 + i) (plant.n + 1 + l)) (gram plant k (plant.n + 1 + i) (plant.n + 1 + l))
      (hw.outside i l (λ r. omega (arith, r.to_column)) ∙ s.h_is i l a b) (zero_right plant k (plant.n + 1 + i) (plant.n + 1 + l) (omega arith)))
      (cases_lt l (plant.p * k)))
      (λ p. same_plus (entry nh i l) (kernel plant k (plant.n + 1 + i) (plant.n + 1 + l)) (gram plant k (plant.n + 1 + i) (plant.n + 1 + l))
      (hw.outside i l (λ r. omega (arith, r.to_row)) ∙ s.h_is i l a b) (zero_left plant k (plant.n + 1 + i) (plant.n + 1 + l) (omega arith)))
      (cases_lt i (plant.p * k))

  f_entry : (i l : ℕ) → i < plant.p * plant.horizon → l < plant.n + 1 → entry nf i l ≡ kernel_with plant k (plant.n + 1 + i) l
  f_entry i l a b = ⊎_elim
      (λ p. fw.inside i l (record { from_row = omega arith; to_row = p; from_column = omega arith; to_column = b }) ∙ (λ t. s.f_is i l a b t +ℚ dot (m.z_is i a t) (w.x_is l b t)))
      (λ p. same_plus (entry nf i l) (kernel plant k (plant.n + 1 + i) l) (gram plant k (plant.n + 1 + i) l)
      (fw.outside i l (λ r. omega (arith, r.to_row)) ∙ s.f_is i l a b) (zero_left plant k (plant.n + 1 + i) l (omega arith)))
      (cases_lt i (plant.p * k))

  pub with_state : HoldsSums plant (kernel_with plant k) nh nf ny
  with_state = record {
    h_shape = shape_of_block h nh _ _ _ _ _ _ _ s.h_shape hw;
    f_shape = shape_of_block f nf _ _ _ _ _ _ _ s.f_shape fw;
    y_shape = shape_of_block y ny _ _ _ _ _ _ _ s.y_shape yw;
    h_is = h_entry;
    f_is = f_entry;
    y_is = λ i l a b. yw.inside i l (record { from_row = omega arith; to_row = a; from_column = omega arith; to_column = b }) ∙ (λ t. s.y_is i l a b t +ℚ dot (m.x_is i a t) (w.x_is l b t));
  }

-- what fits of it
abbrev pub PairFits : RationalMatrix → RationalMatrix → RationalMatrix → ℕ → ℕ → Type 0
PairFits out left right a b = DotFits (row_at left a) (row_at right b) × FitsSum (entry out a b) (dot (row_at left a) (row_at right b))

pair_as : (e e' : ℚ) (u u' v v' : List ℚ) → e ≡ e' → u ≡ u' → v ≡ v' → DotFits u v × FitsSum e (dot u v) → DotFits u' v' × FitsSum e' (dot u' v')
pair_as e e' u u' v v' a b c h =
    (subst (DotFits u') c (subst (λ q. DotFits q v) b h.0), subst (λ q. FitsSum q (dot u' v')) a (subst (FitsSum e) (λ t. dot (b t) (c t)) h.1))

module _ (plant : Plant) (k : ℕ) (x z wx wz h f y : RationalMatrix) (m : IsDistance plant k x z) (w : IsWeighted plant k wx wz) (within : plant.p * k ≤ plant.p * plant.horizon) (s : HoldsSums plant (kernel plant k) h f y) where
  Pair : ℕ → ℕ → Type 0
  Pair j l = DotFits (distance plant k j) (weighted plant k l) × FitsSum (kernel plant k j l) (gram plant k j l)

  pairs : SumsFit plant k → (j l : ℕ) → j < first_move plant k → l < first_move plant k → IsKept plant j l → Pair j l
  unfolding Pair
  pairs q j l a b c = (q.dots j l a b c, q.sums j l a b c)

  h_pair : (i l : ℕ) → i < plant.p * k → l < plant.p * k → PairFits h z wz i l → Pair (plant.n + 1 + i) (plant.n + 1 + l)
  unfolding Pair
  h_pair i l a b e = pair_as _ _ _ _ _ _ (s.h_is i l (omega arith) (omega arith)) (m.z_is i (omega arith)) (w.z_is l b) e

  f_pair : (i l : ℕ) → i < plant.p * k → l < plant.n + 1 → PairFits f z wx i l → Pair (plant.n + 1 + i) l
  unfolding Pair
  f_pair i l a b e = pair_as _ _ _ _ _ _ (s.f_is i l (omega arith) b) (m.z_is i (omega arith)) (w.x_is l b) e

  y_pair : (i l : ℕ) → i < plant.n + 1 → l < plant.n + 1 → PairFits y x wx i l → Pair i l
  unfolding Pair
  y_pair i l a b e = pair_as _ _ _ _ _ _ (s.y_is i l a b) (m.x_is i a) (w.x_is l b) e

  pub sums_fit : AllInBlock 0 (plant.p * k) 0 (plant.p * k) (PairFits h z wz) → AllInBlock 0 (plant.p * k) 0 (plant.n + 1) (PairFits f z wx) → AllInBlock 0 (plant.n + 1) 0 (plant.n + 1) (PairFits y x wx) → SumsFit plant k
  unfolding Pair
  sums_fit hf ff yf = record { dots = λ j l a b c. (each j l a b c).0; sums = λ j l a b c. (each j l a b c).1 }
    where
      each : (j l : ℕ) → j < first_move plant k → l < first_move plant k → IsKept plant j l → Pair j l
      each j l a b c = ⊎_elim
          (λ p. y_pair j l p (omega (arith, c (omega arith))) (yf.each j l (record { from_row = omega arith; to_row = p; from_column = omega arith; to_column = omega (arith, c (omega arith)) })))
          (λ p. let ej : plant.n + 1 + (j - (plant.n + 1)) ≡ j = omega arith in
          ⊎_elim
          (λ q. subst (λ r. Pair r l) ej (f_pair (j - (plant.n + 1)) l (omega arith) q (ff.each (j - (plant.n + 1)) l (record { from_row = omega arith; to_row = omega arith; from_column = omega arith; to_column = q }))))
          (λ q. let el : plant.n + 1 + (l - (plant.n + 1)) ≡ l = omega arith in
          subst (λ r. Pair r l) ej (subst (Pair (plant.n + 1 + (j - (plant.n + 1)))) el
          (h_pair (j - (plant.n + 1)) (l - (plant.n + 1)) (omega arith) (omega arith) (hf.each (j - (plant.n + 1)) (l - (plant.n + 1)) (record { from_row = omega arith; to_row = omega arith; from_column = omega arith; to_column = omega arith })))))
          (cases_lt l (plant.n + 1)))
          (cases_lt j (plant.n + 1))

  pub h_fits : SumsFit plant k → AllInBlock 0 (plant.p * k) 0 (plant.p * k) (PairFits h z wz)
  h_fits q = record {
    each = λ i l b.
        pair_as _ _ _ _ _ _ (sym (s.h_is i l (omega (arith, b.to_row)) (omega (arith, b.to_column)))) (sym (m.z_is i (omega (arith, b.to_row)))) (sym (w.z_is l b.to_column))
        (q.dots (plant.n + 1 + i) (plant.n + 1 + l) (omega (arith, b.to_row)) (omega (arith, b.to_column)) (λ r. absurd (omega arith)), q.sums (plant.n + 1 + i) (plant.n + 1 + l) (omega (arith, b.to_row)) (omega (arith, b.to_column)) (λ r. absurd (omega arith)));
  }

  pub f_fits : SumsFit plant k → AllInBlock 0 (plant.p * k) 0 (plant.n + 1) (PairFits f z wx)
  f_fits q = record {
    each = λ i l b.
        pair_as _ _ _ _ _ _ (sym (s.f_is i l (omega (arith, b.to_row)) b.to_column)) (sym (m.z_is i (omega (arith, b.to_row)))) (sym (w.x_is l b.to_column))
        (q.dots (plant.n + 1 + i) l (omega (arith, b.to_row)) (omega (arith, b.to_column)) (λ r. absurd (omega arith)), q.sums (plant.n + 1 + i) l (omega (arith, b.to_row)) (omega (arith, b.to_column)) (λ r. absurd (omega arith)));
  }

  pub y_fits : SumsFit plant k → AllInBlock 0 (plant.n + 1) 0 (plant.n + 1) (PairFits y x wx)
  y_fits q = record {
    each = λ i l b.
        pair_as _ _ _ _ _ _ (sym (s.y_is i l b.to_row b.to_column)) (sym (m.x_is i b.to_row)) (sym (w.x_is l b.to_column))
        (q.dots i l (omega (arith, b.to_row)) (omega (arith, b.to_column)) (λ r. omega (arith, b.to_column)), q.sums i l (omega (arith, b.to_row)) (omega (arith, b.to_column)) (λ r. omega (arith, b.to_column)));
  }

-- ---- the matrix that the code takes as the weight
module _ (plant : Plant) (k : ℕ) (a x z nx nz : RationalMatrix) (e : a ≡ weight_at plant k) (w : IsDistance plant k x z) (within : plant.p * k ≤ plant.p * plant.horizon) where
  pub is_weighted_by : WritesBlock (zero_matrix (height x) (height a)) nx 0 (plant.n + 1) 0 (height a) (λ j i. dot (row_at a i) (row_at x j)) →
      WritesBlock (zero_matrix (height z) (height a)) nz 0 (plant.p * k) 0 (height a) (λ j i. dot (row_at a i) (row_at z j)) → IsWeighted plant k nx nz
  is_weighted_by xw zw = is_weighted plant k x z nx nz w within
      (subst (λ m. WritesBlock (zero_matrix (height x) (height m)) nx 0 (plant.n + 1) 0 (height m) (λ j i. dot (row_at m i) (row_at x j))) e xw)
      (subst (λ m. WritesBlock (zero_matrix (height z) (height m)) nz 0 (plant.p * k) 0 (height m) (λ j i. dot (row_at m i) (row_at z j))) e zw)

  rows_of_weight : height a ≡ plant.n
  rows_of_weight = ap height e ∙ weight_rows plant k

  pub weights_fit : AllInBlock 0 (plant.n + 1) 0 (height a) (λ j i. DotFits (row_at a i) (row_at x j)) →
      AllInBlock 0 (plant.p * k) 0 (height a) (λ j i. DotFits (row_at a i) (row_at z j)) → WeightsFit plant k
  weights_fit xf zf = record { dots = λ j i l m. subst (λ q. DotFits (row_at q i) (distance plant k j)) e (dots_fit plant (distance plant k) k a x z rows_of_weight w within xf zf j i l m) }

-- ---- the costs that fit
pub costs_more : (plant : Plant) (n m : ℕ) → m ≡ n → CostFits plant n → CostsFit plant m → CostsFit plant (n + 1)
costs_more plant n m e x h = λ k l. ⊎_elim (λ p. subst (CostFits plant) (sym p) x) (λ p. h k (omega arith)) (cases_eq k n)
