-- The cost of a sequence as a form in the extended counts and the moves.
use Rattle.std.proofs.Common.{◌≡◌, ℕ, zero, suc, ◌+◌, ◌-◌, ◌<◌, ◌≤◌, true, false, List, [], ◌∷◌, length, get_or, pos, negsuc, refl, sym, ◌∙◌, ap, subst, arith, ⊎_elim, eqb, ltb}
use Rattle.std.proofs.lemmas.Bool.{cases_eq, cases_lt, cases_Bool, cond-true, cond-false, lt-ltb, le-ltb, le-leb, ltb-true, leb-true, ne_eqb, and_from, and_parts, and_left, and_right}
use Rattle.std.proofs.lemmas.Bool.Decides.{leb_tells}
use Rattle.mpc_exact.specs.Rational.{ℚ, int, ◌+ℚ◌, ◌*ℚ◌}
use Rattle.mpc_exact.proofs.RationalRing.{reads, by_ring}
use Rattle.mpc_space.specs.Vector.{coordinate, listed, dot, vec_sub, vec_scale, mat_vec, quadratic, IsSymmetric}
use Rattle.mpc_space.specs.Total.{total, unit}
use Rattle.mpc_space.specs.Matrix.{entry}
use Rattle.mpc_space.proofs.Vector.{dot_comm}
use Rattle.mpc_space.proofs.Entries.{coordinate_past, coordinate-listed, coordinate-scale, length-listed, dot-unit}
use Rattle.mpc_space.proofs.Matrix.{coordinate-mat_vec, mat_vec-scale, mat_vec_nil}
use Rattle.mpc_space.proofs.Quadratic.{quadratic-scale}
use Rattle.mpc_space.proofs.Total.{total-same, total-zeros, total-zero, total-suc, total-unit, unit-same, unit-other}
use Rattle.mpc_plant.specs.declared.plants.Plant.{Plant}
use Rattle.mpc_plant.specs.Trajectory.{stage_cost, state_at, move_at, IsSequence, cost}
use Rattle.mpc_condense.specs.Motion.{first_move, distance, weight_at, gram, is_move, move_column, move_distance, move_gram, kernel, kernel_with}
use Rattle.mpc_condense.proofs.Combinations.{Combines, double, double-add, double-zero, quadratic-combined, gram-sym}
use Rattle.mpc_condense.proofs.Sequences.{factors}
use Rattle.mpc_condense.proofs.StateColumns.{first-grows, width, move-total, factor-move, less-combines, distance-combines}

module _ (plant : Plant) where
  pub is_move-at : (k j : ℕ) → first_move plant k ≤ j → j < first_move plant (suc k) → is_move plant k j ≡ true
  is_move-at k j l m = and_from _ _ (le-leb (first_move plant k) j l) (lt-ltb j (first_move plant (suc k)) m)

  pub is_move-before : (k j : ℕ) → j < first_move plant k → is_move plant k j ≡ false
  is_move-before k j l = and_left _ _ (⊎_elim (λ p. absurd (not_both (first_move plant k) j p.1 l)) (λ p. p.0) (leb_tells (first_move plant k) j))
    where
      not_both : (a b : ℕ) → a ≤ b → b < a → ⊥
      not_both a b p q = omega arith

  pub is_move-behind : (k j : ℕ) → first_move plant (suc k) ≤ j → is_move plant k j ≡ false
  is_move-behind k j l = and_right _ _ (le-ltb j (first_move plant (suc k)) l)

  move_column-at : (k j : ℕ) → is_move plant k j ≡ true → move_column plant k j ≡ listed plant.p (unit (j - first_move plant k))
  unfolding move_column
  move_column-at k j e = cond-true (is_move plant k j) _ _ e

  move_column-other : (k j : ℕ) → is_move plant k j ≡ false → move_column plant k j ≡ []
  unfolding move_column
  move_column-other k j e = cond-false (is_move plant k j) _ _ e

  -- where a column is a move's, it is in the block
  move-range : (k j : ℕ) → is_move plant k j ≡ true → (first_move plant k ≤ j) × (j < first_move plant (suc k))
  move-range k j e = let p = and_parts _ _ e in (leb-true (first_move plant k) j p.0, ltb-true j (first_move plant (suc k)) p.1)

  -- ---- what the move at step k adds, with its target
  pub move_distance-first : (k : ℕ) → move_distance plant k 0 ≡ vec_sub (move_column plant k 0) plant.ugoal
  unfolding move_distance
  move_distance-first k = refl

  pub move_distance-other : (k j : ℕ) → 0 < j → move_distance plant k j ≡ move_column plant k j
  unfolding move_distance
  move_distance-other k j some = cond-false (eqb j 0) _ _ (ne_eqb j 0 (λ e. omega arith))

  -- the first column is minus the target
  first_distance : (k : ℕ) → move_distance plant k 0 ≡ vec_scale (int (negsuc 0)) plant.ugoal
  first_distance k = move_distance-first k ∙ ap (λ x. vec_sub x plant.ugoal) (move_column-other k 0 (is_move-before k 0 (omega arith)))

  no_distance : (k j : ℕ) → 0 < j → is_move plant k j ≡ false → move_distance plant k j ≡ []
  no_distance k j some e = move_distance-other k j some ∙ move_column-other k j e

  pub no_left : (k j l : ℕ) → 0 < j → is_move plant k j ≡ false → move_gram plant k j l ≡ int (pos 0)
  no_left k j l some e = ap (λ x. dot x (mat_vec plant.r.rows (move_distance plant k l))) (no_distance k j some e)

  pub no_right : (k j l : ℕ) → 0 < l → is_move plant k l ≡ false → move_gram plant k j l ≡ int (pos 0)
  no_right k j l some e = ap (λ x. dot (move_distance plant k j) (mat_vec plant.r.rows x)) (no_distance k l some e) ∙ mat_vec_nil plant.r.rows (move_distance plant k j)

  pub two_moves : (k j l : ℕ) → 0 < j → 0 < l → is_move plant k j ≡ true → is_move plant k l ≡ true → move_gram plant k j l ≡ entry plant.r (j - first_move plant k) (l - first_move plant k)
  two_moves k j l some other e f =
      let r = move-range k j e in
      let s = move-range k l f in
      let g = first-grows plant k in
      let a = j - first_move plant k in
      let b = l - first_move plant k in
      (λ i. dot ((move_distance-other k j some ∙ move_column-at k j e) i) (mat_vec plant.r.rows ((move_distance-other k l other ∙ move_column-at k l f) i)))
      ∙ dot-unit plant.p a (mat_vec plant.r.rows (listed plant.p (unit b))) (omega (arith, r.0, r.1, g))
      ∙ coordinate-mat_vec plant.r.rows (listed plant.p (unit b)) a
      ∙ dot_comm (get_or plant.r.rows a []) (listed plant.p (unit b))
      ∙ dot-unit plant.p b (get_or plant.r.rows a []) (omega (arith, s.0, s.1, g))

  pub move_and_target : (k j : ℕ) → 0 < j → is_move plant k j ≡ true → move_gram plant k j 0 ≡ int (negsuc 0) *ℚ coordinate (mat_vec plant.r.rows plant.ugoal) (j - first_move plant k)
  move_and_target k j some e =
      let r = move-range k j e in
      let a = j - first_move plant k in
      (λ i. dot ((move_distance-other k j some ∙ move_column-at k j e) i) (mat_vec plant.r.rows (first_distance k i)))
      ∙ dot-unit plant.p a (mat_vec plant.r.rows (vec_scale (int (negsuc 0)) plant.ugoal)) (omega (arith, r.0, r.1, first-grows plant k))
      ∙ ap (λ x. coordinate x a) (mat_vec-scale plant.r.rows (int (negsuc 0)) plant.ugoal)
      ∙ coordinate-scale (int (negsuc 0)) (mat_vec plant.r.rows plant.ugoal) a

  pub target_alone : (k : ℕ) → move_gram plant k 0 0 ≡ quadratic plant.r.rows plant.ugoal
  target_alone k =
      ap (quadratic plant.r.rows) (first_distance k) ∙ quadratic-scale plant.r.rows (int (negsuc 0)) plant.ugoal
      ∙ by_ring (quadratic plant.r.rows plant.ugoal ∷ []) (search reads depth 30) (search reads depth 30) tt

  -- ---- the sums are symmetric
  module _ (q_sym : IsSymmetric plant.q.rows) (r_sym : IsSymmetric plant.r.rows) (last_sym : IsSymmetric plant.last.rows) where
    weight-sym : (k : ℕ) → IsSymmetric (weight_at plant k).rows
    weight-sym k = ⊎_elim
        (λ l. subst (λ m. IsSymmetric m.rows) (sym (cond-true (ltb k plant.horizon) plant.q plant.last (lt-ltb k plant.horizon l))) q_sym)
        (λ l. subst (λ m. IsSymmetric m.rows) (sym (cond-false (ltb k plant.horizon) plant.q plant.last (le-ltb k plant.horizon l))) last_sym)
        (cases_lt k plant.horizon)

    kernel-sym : (k j l : ℕ) → kernel plant k j l ≡ kernel plant k l j
    unfolding kernel
    kernel-sym zero j l = refl
    kernel-sym (suc k) j l = λ i. (kernel-sym k j l i +ℚ gram-sym (distance plant k) (weight_at plant k).rows (weight-sym k) j l i) +ℚ gram-sym (move_distance plant k) plant.r.rows r_sym j l i

    pub kernel_with-sym : (k j l : ℕ) → kernel_with plant k j l ≡ kernel_with plant k l j
    kernel_with-sym k j l = λ i. kernel-sym k j l i +ℚ gram-sym (distance plant k) (weight_at plant k).rows (weight-sym k) j l i

module _ (plant : Plant) (t : List ℚ) (v : List (List ℚ)) (size : length t ≡ plant.n) (sequence : IsSequence plant v) (grid_size : length plant.grid ≡ plant.n) where
  abbrev all : ℕ
  all = width plant t v size sequence

  move-combines : (k : ℕ) → k < plant.horizon → Combines all (factors t v) (move_column plant k) (move_at v k)
  move-combines k l = record { entries = λ i. ⊎_elim (λ m. within i m) (λ m. past i m) (cases_lt i plant.p) }
    where
      u_size : length (move_at v k) ≡ plant.p
      u_size = sequence.inputs k [] (omega (arith, sequence.steps))

      none : (j i : ℕ) → is_move plant k j ≡ false → factors t v j *ℚ coordinate (move_column plant k j) i ≡ int (pos 0)
      none j i e = ap (λ x. factors t v j *ℚ coordinate x i) (move_column-other plant k j e) ∙ by_ring (factors t v j ∷ []) (search reads depth 30) (search reads depth 30) tt

      term : (i : ℕ) → i < plant.p → (q : ℕ) → q < plant.p → factors t v (first_move plant k + q) *ℚ coordinate (move_column plant k (first_move plant k + q)) i ≡ unit i q *ℚ coordinate (move_at v k) q
      term i m q n =
          let e : first_move plant k + q - first_move plant k ≡ q = omega arith in
          (λ s. factor-move plant t v size sequence k q l n s
          *ℚ (ap (λ x. coordinate x i) (move_column-at plant k (first_move plant k + q) (is_move-at plant k (first_move plant k + q) (omega arith) (omega (arith, first-grows plant k))) ∙ ap (λ z. listed plant.p (unit z)) e)
          ∙ coordinate-listed plant.p (unit q) i m ∙ unit_swap q i) s)
          ∙ by_ring (coordinate (move_at v k) q ∷ unit i q ∷ []) (search reads depth 30) (search reads depth 30) tt
        where
          unit_swap : (a b : ℕ) → unit a b ≡ unit b a
          unit_swap a b = ⊎_elim (λ p. unit-same a b p ∙ sym (unit-same b a (sym p))) (λ p. unit-other a b p ∙ sym (unit-other b a (λ q. p (sym q)))) (cases_eq a b)

      sum : (i : ℕ) → total all (λ j. factors t v j *ℚ coordinate (move_column plant k j) i) ≡ total plant.p (λ q. factors t v (first_move plant k + q) *ℚ coordinate (move_column plant k (first_move plant k + q)) i)
      sum i = move-total plant t v size sequence k (λ j. factors t v j *ℚ coordinate (move_column plant k j) i) l (λ j m. none j i (is_move-before plant k j m)) (λ j m. none j i (is_move-behind plant k j m))

      within : (i : ℕ) → i < plant.p → coordinate (move_at v k) i ≡ total all (λ j. factors t v j *ℚ coordinate (move_column plant k j) i)
      within i m = sym (sum i ∙ total-same plant.p _ (λ q. unit i q *ℚ coordinate (move_at v k) q) (λ q n. term i m q n) ∙ total-unit plant.p i (coordinate (move_at v k)) m)

      past : (i : ℕ) → plant.p ≤ i → coordinate (move_at v k) i ≡ total all (λ j. factors t v j *ℚ coordinate (move_column plant k j) i)
      past i m =
          coordinate_past (move_at v k) i (omega (arith, u_size))
          ∙ sym (total-zeros all (λ j. factors t v j *ℚ coordinate (move_column plant k j) i) (λ j n. ⊎_elim (λ e. zero_at j e) (λ e. none j i e) (cases_Bool (is_move plant k j))))
        where
          zero_at : (j : ℕ) → is_move plant k j ≡ true → factors t v j *ℚ coordinate (move_column plant k j) i ≡ int (pos 0)
          zero_at j e =
              ap (λ z. factors t v j *ℚ z) (ap (λ x. coordinate x i) (move_column-at plant k j e) ∙ coordinate_past (listed plant.p (unit (j - first_move plant k))) i (omega (arith, length-listed plant.p (unit (j - first_move plant k)))))
              ∙ by_ring (factors t v j ∷ []) (search reads depth 30) (search reads depth 30) tt

  state-form : (k : ℕ) → k ≤ plant.horizon → quadratic (weight_at plant k).rows (vec_sub (state_at plant t v k) plant.xgoal) ≡ double all (factors t v) (gram plant k)
  state-form k l = quadratic-combined all (factors t v) (distance plant k) (vec_sub (state_at plant t v k) plant.xgoal) (weight_at plant k).rows (distance-combines plant t v size sequence grid_size k l)

  move_distance-combines : (k : ℕ) → k < plant.horizon → Combines all (factors t v) (move_distance plant k) (vec_sub (move_at v k) plant.ugoal)
  move_distance-combines k l = less-combines plant t v size sequence (move_column plant k) (move_distance plant k) (move_at v k) plant.ugoal (move_distance-first plant k) (move_distance-other plant k) (move-combines k l)

  move-form : (k : ℕ) → k < plant.horizon → quadratic plant.r.rows (vec_sub (move_at v k) plant.ugoal) ≡ double all (factors t v) (move_gram plant k)
  move-form k l = quadratic-combined all (factors t v) (move_distance plant k) (vec_sub (move_at v k) plant.ugoal) plant.r.rows (move_distance-combines k l)

  stages-form : (k : ℕ) → k ≤ plant.horizon → total k (λ i. stage_cost plant (state_at plant t v i) (move_at v i)) ≡ double all (factors t v) (kernel plant k)
  unfolding kernel
  stages-form zero l = total-zero (λ i. stage_cost plant (state_at plant t v i) (move_at v i)) ∙ sym (double-zero all (factors t v) (λ j i. int (pos 0)) (λ j i. refl))
  stages-form (suc k) l =
      total-suc k (λ i. stage_cost plant (state_at plant t v i) (move_at v i))
      ∙ (λ s. stages-form k (omega arith) s +ℚ (stage s +ℚ move-form k (omega arith) s))
      ∙ by_ring (double all (factors t v) (kernel plant k) ∷ double all (factors t v) (gram plant k) ∷ double all (factors t v) (move_gram plant k) ∷ []) (search reads depth 30) (search reads depth 30) tt
      ∙ (λ s. sym (double-add all (factors t v) (kernel plant k) (gram plant k)) s +ℚ double all (factors t v) (move_gram plant k))
      ∙ sym (double-add all (factors t v) (kernel_with plant k) (move_gram plant k))
    where
      stage : quadratic plant.q.rows (vec_sub (state_at plant t v k) plant.xgoal) ≡ double all (factors t v) (gram plant k)
      stage = ap (λ m. quadratic m.rows (vec_sub (state_at plant t v k) plant.xgoal)) (sym (cond-true (ltb k plant.horizon) plant.q plant.last (lt-ltb k plant.horizon (omega arith)))) ∙ state-form k (omega arith)

  pub cost-form : cost plant t v ≡ double all (factors t v) (kernel_with plant plant.horizon)
  cost-form =
      (λ s. stages-form plant.horizon (omega arith) s
      +ℚ (ap (λ m. quadratic m.rows (vec_sub (state_at plant t v plant.horizon) plant.xgoal)) (sym (cond-false (ltb plant.horizon plant.horizon) plant.q plant.last (le-ltb plant.horizon plant.horizon (omega arith)))) ∙ state-form plant.horizon (omega arith)) s)
      ∙ sym (double-add all (factors t v) (kernel plant plant.horizon) (gram plant plant.horizon))
