-- A program whose entries are the sums of condensing has the plant's cost and rows.
use Rattle.std.proofs.Common.{◌≡◌, ℕ, suc, ◌+◌, ◌-◌, ◌*◌, ◌<◌, ◌≤◌, cond, List, [], ◌∷◌, length, get_or, pos, sym, ◌∙◌, ap, arith, ⊎_elim, ltb, eqb, add-one}
use Rattle.std.proofs.Math.Nat.{mul-le-mul_left}
use Rattle.std.proofs.Math.ListN.{get_or-eq_default}
use Rattle.std.proofs.lemmas.Bool.{cases_lt, cond-true, cond-false, lt-ltb, le-ltb, ne_eqb}
use Rattle.mpc_exact.specs.Rational.{ℚ, int, ◌+ℚ◌, ◌-ℚ◌, ◌*ℚ◌, neg_ℚ}
use Rattle.mpc_exact.proofs.RationalRing.{reads, by_ring}
use Rattle.mpc_space.specs.Vector.{coordinate, cell, dot, mat_vec, quadratic, IsSymmetric}
use Rattle.mpc_space.specs.Total.{total}
use Rattle.mpc_space.proofs.Vector.{dot_comm}
use Rattle.mpc_space.proofs.Entries.{dot-total_within, dot-zero, dot_nil, zero_by_entries}
use Rattle.mpc_space.proofs.Matrix.{coordinate-mat_vec}
use Rattle.mpc_space.proofs.Total.{total-same, total-zeros, total-add, total-scale, total-split, total-first}
use Rattle.mpc_plant.specs.declared.lists.PlantRow.{PlantRow}
use Rattle.mpc_plant.specs.declared.plants.Plant.{Plant}
use Rattle.mpc_plant.specs.Trajectory.{state_at, move_at, IsSequence, cost}
use Rattle.mpc_condense.specs.Condensed.{stacked}
use Rattle.mpc_rows.specs.ActiveSets.{extended}
use Rattle.mpc_condense.specs.Motion.{motion, kernel_with}
use Rattle.mpc_condense.specs.Rows.{left_entry, HasRow}
use Rattle.mpc_condense.proofs.Combinations.{double, double-same, double-split, dot-combined}
use Rattle.mpc_condense.proofs.Sequences.{factors, factors-head, factors-tail, length-stacked, stacked-at, total-block}
use Rattle.mpc_condense.proofs.StateColumns.{width, motion-zero, state-combines}
use Rattle.mpc_condense.proofs.CostForm.{kernel_with-sym, cost-form}

-- w' m w as a sum over all pairs
pub quadratic-double : (n : ℕ) (m : List (List ℚ)) (x : List ℚ) → length x ≤ n → quadratic m x ≡ double n (coordinate x) (cell m)
quadratic-double n m x l =
    dot-total_within n x (mat_vec m x) l
    ∙ total-same n (λ i. coordinate x i *ℚ coordinate (mat_vec m x) i) (λ i. coordinate x i *ℚ total n (λ j. coordinate x j *ℚ cell m i j))
    (λ i q. ap (λ u. coordinate x i *ℚ u) (coordinate-mat_vec m x i ∙ dot_comm (get_or m i []) x ∙ dot-total_within n x (get_or m i []) l))

pub mixed-double : (n w : ℕ) (m : List (List ℚ)) (z c : List ℚ) → length z ≤ n → length c ≤ w → dot z (mat_vec m c) ≡ total n (λ i. coordinate z i *ℚ total w (λ j. coordinate c j *ℚ cell m i j))
mixed-double n w m z c l k =
    dot-total_within n z (mat_vec m c) l
    ∙ total-same n (λ i. coordinate z i *ℚ coordinate (mat_vec m c) i) (λ i. coordinate z i *ℚ total w (λ j. coordinate c j *ℚ cell m i j))
    (λ i q. ap (λ u. coordinate z i *ℚ u) (coordinate-mat_vec m c i ∙ dot_comm (get_or m i []) c ∙ dot-total_within w c (get_or m i []) k))

-- the entries of the cost's matrices
pub record HasEntries (plant : Plant) (h f y : List (List ℚ)) : Type 0 where
  pub h_is : (i l : ℕ) → i < plant.p * plant.horizon → l < plant.p * plant.horizon → cell h i l ≡ kernel_with plant plant.horizon (plant.n + 1 + i) (plant.n + 1 + l)
  pub f_is : (i l : ℕ) → i < plant.p * plant.horizon → l < plant.n + 1 → cell f i l ≡ kernel_with plant plant.horizon (plant.n + 1 + i) l
  pub y_is : (i l : ℕ) → i < plant.n + 1 → l < plant.n + 1 → cell y i l ≡ kernel_with plant plant.horizon i l

module _ (plant : Plant) (t : List ℚ) (v : List (List ℚ)) (size : length t ≡ plant.n) (sequence : IsSequence plant v) (grid_size : length plant.grid ≡ plant.n) where
  heads : ℕ
  heads = plant.n + 1

  unknowns : ℕ
  unknowns = plant.p * plant.horizon

  z_size : length (stacked v) ≡ plant.p * plant.horizon
  z_size = length-stacked plant.p v sequence.inputs ∙ ap (λ n. plant.p * n) sequence.steps

  c_size : length (extended t) ≡ plant.n + 1
  c_size = omega arith

  z_at : (j : ℕ) → factors t v (plant.n + 1 + j) ≡ coordinate (stacked v) j
  z_at j = factors-tail t v plant.n j size

  c_at : (j : ℕ) → j < plant.n + 1 → factors t v j ≡ coordinate (extended t) j
  c_at j l = factors-head t v j (omega (arith, size))

  pub cost-is : (h f y : List (List ℚ)) → IsSymmetric plant.q.rows → IsSymmetric plant.r.rows → IsSymmetric plant.last.rows → HasEntries plant h f y →
      cost plant t v ≡ quadratic h (stacked v) +ℚ int (pos 2) *ℚ dot (stacked v) (mat_vec f (extended t)) +ℚ quadratic y (extended t)
  cost-is h f y q_sym r_sym last_sym e =
      cost-form plant t v size sequence grid_size
      ∙ double-split (plant.n + 1) (plant.p * plant.horizon) (factors t v) k (kernel_with-sym plant q_sym r_sym last_sym plant.horizon)
      ∙ (λ s. sym h_form s +ℚ int (pos 2) *ℚ sym f_form s +ℚ sym y_form s)
    where
      k : ℕ → ℕ → ℚ
      k = kernel_with plant plant.horizon

      h_form : quadratic h (stacked v) ≡ double (plant.p * plant.horizon) (λ j. factors t v (plant.n + 1 + j)) (λ j l. k (plant.n + 1 + j) (plant.n + 1 + l))
      h_form =
          quadratic-double (plant.p * plant.horizon) h (stacked v) (omega (arith, z_size))
          ∙ double-same (plant.p * plant.horizon) (coordinate (stacked v)) (cell h) (λ j l. k (plant.n + 1 + j) (plant.n + 1 + l)) e.h_is
          ∙ total-same (plant.p * plant.horizon) _ _ (λ j q. λ s. sym (z_at j) s *ℚ total-same (plant.p * plant.horizon) (λ l. coordinate (stacked v) l *ℚ k (plant.n + 1 + j) (plant.n + 1 + l)) (λ l. factors t v (plant.n + 1 + l) *ℚ k (plant.n + 1 + j) (plant.n + 1 + l)) (λ l r. ap (λ u. u *ℚ k (plant.n + 1 + j) (plant.n + 1 + l)) (sym (z_at l))) s)

      f_form : dot (stacked v) (mat_vec f (extended t)) ≡ total (plant.p * plant.horizon) (λ j. factors t v (plant.n + 1 + j) *ℚ total (plant.n + 1) (λ l. factors t v l *ℚ k (plant.n + 1 + j) l))
      f_form =
          mixed-double (plant.p * plant.horizon) (plant.n + 1) f (stacked v) (extended t) (omega (arith, z_size)) (omega (arith, c_size))
          ∙ total-same (plant.p * plant.horizon) _ _ (λ j q. λ s. sym (z_at j) s *ℚ total-same (plant.n + 1) (λ l. coordinate (extended t) l *ℚ cell f j l) (λ l. factors t v l *ℚ k (plant.n + 1 + j) l) (λ l r. λ w. sym (c_at l r) w *ℚ e.f_is j l q r w) s)

      y_form : quadratic y (extended t) ≡ double (plant.n + 1) (factors t v) k
      y_form =
          quadratic-double (plant.n + 1) y (extended t) (omega (arith, c_size))
          ∙ total-same (plant.n + 1) _ _ (λ j q. λ s. sym (c_at j q) s *ℚ total-same (plant.n + 1) (λ l. coordinate (extended t) l *ℚ cell y j l) (λ l. factors t v l *ℚ k j l) (λ l r. λ w. sym (c_at l r) w *ℚ e.y_is j l q r w) s)

  -- ---- one row
  module _ (k : ℕ) (row : PlantRow) (left right : List ℚ) (within : k ≤ plant.horizon) (u_size : length row.u ≤ plant.p) (r : HasRow plant k row left right) where
    d : ℕ → ℚ
    d j = dot row.x (motion plant k j)

    moves : ℕ → ℚ
    moves j = cond (ltb j (plant.p * k)) (int (pos 0)) (cond (ltb j (plant.p * k + plant.p)) (coordinate row.u (j - plant.p * k)) (int (pos 0)))

    d-later : (j : ℕ) → plant.p * k ≤ j → d (plant.n + 1 + j) ≡ int (pos 0)
    unfolding d
    d-later j l = dot-zero row.x (motion plant k (plant.n + 1 + j)) (zero_by_entries (motion plant k (plant.n + 1 + j)) (λ q m. motion-zero plant k (plant.n + 1 + j) q (omega arith)))

    left-sum : (j : ℕ) → left_entry plant k row j ≡ d (plant.n + 1 + j) +ℚ moves j
    unfolding d moves
    left-sum j = ⊎_elim
        (λ l. cond-true (ltb j (plant.p * k)) _ _ (lt-ltb j (plant.p * k) l) ∙ plus_zero (d (plant.n + 1 + j)) (moves j) (cond-true (ltb j (plant.p * k)) _ _ (lt-ltb j (plant.p * k) l)))
        (λ l. cond-false (ltb j (plant.p * k)) _ _ (le-ltb j (plant.p * k) l) ∙ zero_plus (d (plant.n + 1 + j)) (cond (ltb j (plant.p * k + plant.p)) (coordinate row.u (j - plant.p * k)) (int (pos 0))) (d-later j l)
        ∙ ap (λ u. d (plant.n + 1 + j) +ℚ u) (sym (cond-false (ltb j (plant.p * k)) _ _ (le-ltb j (plant.p * k) l))))
        (cases_lt j (plant.p * k))
      where
        plus_zero : (x y : ℚ) → y ≡ int (pos 0) → x ≡ x +ℚ y
        plus_zero x y e = by_ring (x ∷ []) (search reads depth 30) (search reads depth 30) tt ∙ ap (λ u. x +ℚ u) (sym e)

        zero_plus : (x y : ℚ) → x ≡ int (pos 0) → y ≡ x +ℚ y
        zero_plus x y e = by_ring (y ∷ []) (search reads depth 30) (search reads depth 30) tt ∙ ap (λ u. u +ℚ y) (sym e)

    moves-before : (j : ℕ) → j < plant.p * k → moves j ≡ int (pos 0)
    unfolding moves
    moves-before j l = cond-true (ltb j (plant.p * k)) _ _ (lt-ltb j (plant.p * k) l)

    moves-at : (q : ℕ) → q < plant.p → moves (plant.p * k + q) ≡ coordinate row.u q
    unfolding moves
    moves-at q l =
        let e : plant.p * k + q - plant.p * k ≡ q = omega arith in
        cond-false (ltb (plant.p * k + q) (plant.p * k)) _ _ (le-ltb (plant.p * k + q) (plant.p * k) (omega arith))
        ∙ cond-true (ltb (plant.p * k + q) (plant.p * k + plant.p)) _ _ (lt-ltb (plant.p * k + q) (plant.p * k + plant.p) (omega arith)) ∙ ap (coordinate row.u) e

    moves-behind : (j : ℕ) → plant.p * k + plant.p ≤ j → moves j ≡ int (pos 0)
    unfolding moves
    moves-behind j l =
        cond-false (ltb j (plant.p * k)) _ _ (le-ltb j (plant.p * k) (omega arith))
        ∙ cond-false (ltb j (plant.p * k + plant.p)) _ _ (le-ltb j (plant.p * k + plant.p) l)

    z : ℕ → ℚ
    z j = coordinate (stacked v) j

    times_zero : (x y : ℚ) → y ≡ int (pos 0) → x *ℚ y ≡ int (pos 0)
    times_zero x y e = ap (λ u. x *ℚ u) e ∙ by_ring (x ∷ []) (search reads depth 30) (search reads depth 30) tt

    -- the moves' part is that of the row
    moves-sum : total (plant.p * plant.horizon) (λ j. z j *ℚ moves j) ≡ dot row.u (move_at v k)
    unfolding z
    moves-sum = ⊎_elim (λ l. stage l) (λ l. end l) (cases_lt k plant.horizon)
      where
        stage : k < plant.horizon → total (plant.p * plant.horizon) (λ j. z j *ℚ moves j) ≡ dot row.u (move_at v k)
        stage l =
            let h : plant.p * suc k ≤ plant.p * plant.horizon = mul-le-mul_left plant.p (omega arith) in
            let parts : plant.p * plant.horizon ≡ plant.p * k + (plant.p + (plant.p * plant.horizon - plant.p * suc k)) = omega arith in
            ap (λ n. total n (λ j. z j *ℚ moves j)) parts
            ∙ total-block (plant.p * k) plant.p (plant.p * plant.horizon - plant.p * suc k) (λ j. z j *ℚ moves j) (λ j m. times_zero (z j) (moves j) (moves-before j m)) (λ j m. times_zero (z j) (moves j) (moves-behind j m))
            ∙ total-same plant.p (λ q. z (plant.p * k + q) *ℚ moves (plant.p * k + q)) (λ q. coordinate row.u q *ℚ coordinate (move_at v k) q)
            (λ q m. (λ s. stacked-at plant.p v k q sequence.inputs (omega (arith, sequence.steps)) m s *ℚ moves-at q m s) ∙ by_ring (coordinate (move_at v k) q ∷ coordinate row.u q ∷ []) (search reads depth 30) (search reads depth 30) tt)
            ∙ sym (dot-total_within plant.p row.u (move_at v k) u_size)

        end : plant.horizon ≤ k → total (plant.p * plant.horizon) (λ j. z j *ℚ moves j) ≡ dot row.u (move_at v k)
        end l =
            let same : k ≡ plant.horizon = omega arith in
            let h : plant.p * plant.horizon ≤ plant.p * k = mul-le-mul_left plant.p l in
            total-zeros (plant.p * plant.horizon) (λ j. z j *ℚ moves j) (λ j m. times_zero (z j) (moves j) (moves-before j (omega arith)))
            ∙ sym (ap (dot row.u) (get_or-eq_default v [] (omega (arith, sequence.steps))) ∙ dot_nil row.u)

    -- the left side
    left-form : dot left (stacked v) ≡ total (plant.p * plant.horizon) (λ j. z j *ℚ d (plant.n + 1 + j)) +ℚ dot row.u (move_at v k)
    unfolding z
    left-form =
        dot_comm left (stacked v) ∙ dot-total_within (plant.p * plant.horizon) (stacked v) left (omega (arith, z_size))
        ∙ total-same (plant.p * plant.horizon) (λ j. z j *ℚ coordinate left j) (λ j. z j *ℚ d (plant.n + 1 + j) +ℚ z j *ℚ moves j)
        (λ j m. ap (λ u. z j *ℚ u) (r.left_is j m ∙ left-sum j) ∙ by_ring (z j ∷ d (plant.n + 1 + j) ∷ moves j ∷ []) (search reads depth 30) (search reads depth 30) tt)
        ∙ total-add (plant.p * plant.horizon) (λ j. z j *ℚ d (plant.n + 1 + j)) (λ j. z j *ℚ moves j)
        ∙ ap (λ u. total (plant.p * plant.horizon) (λ j. z j *ℚ d (plant.n + 1 + j)) +ℚ u) moves-sum

    -- the right side
    first_right : coordinate (extended t) 0 *ℚ coordinate right 0 ≡ row.max -ℚ coordinate (extended t) 0 *ℚ d 0
    unfolding d
    first_right = ap (λ u. int (pos 1) *ℚ u) (r.right_is 0 (omega arith)) ∙ by_ring (row.max ∷ dot row.x (motion plant k 0) ∷ []) (search reads depth 30) (search reads depth 30) tt

    later_right : (j : ℕ) → suc j < plant.n + 1 → coordinate (extended t) (suc j) *ℚ coordinate right (suc j) ≡ neg_ℚ (int (pos 1)) *ℚ (coordinate (extended t) (suc j) *ℚ d (suc j))
    unfolding d
    later_right j l =
        ap (λ u. coordinate t j *ℚ u) (r.right_is (suc j) l ∙ ap (λ u. u -ℚ dot row.x (motion plant k (suc j))) (cond-false (eqb (suc j) 0) row.max (int (pos 0)) (ne_eqb (suc j) 0 (λ e. omega arith))))
        ∙ by_ring (coordinate t j ∷ dot row.x (motion plant k (suc j)) ∷ []) (search reads depth 30) (search reads depth 30) tt

    right-form : dot right (extended t) ≡ row.max -ℚ total (plant.n + 1) (λ j. coordinate (extended t) j *ℚ d j)
    right-form =
        dot_comm right (extended t) ∙ dot-total_within (plant.n + 1) (extended t) right (omega (arith, c_size))
        ∙ ap (λ n. total n (λ j. coordinate (extended t) j *ℚ coordinate right j)) (add-one plant.n)
        ∙ total-first plant.n (λ j. coordinate (extended t) j *ℚ coordinate right j)
        ∙ (λ s. first_right s +ℚ (total-same plant.n (λ j. coordinate (extended t) (suc j) *ℚ coordinate right (suc j)) (λ j. neg_ℚ (int (pos 1)) *ℚ (coordinate (extended t) (suc j) *ℚ d (suc j))) (λ j m. later_right j (omega arith))
        ∙ total-scale plant.n (neg_ℚ (int (pos 1))) (λ j. coordinate (extended t) (suc j) *ℚ d (suc j))) s)
        ∙ by_ring (row.max ∷ coordinate (extended t) 0 ∷ d 0 ∷ total plant.n (λ j. coordinate (extended t) (suc j) *ℚ d (suc j)) ∷ []) (search reads depth 30) (search reads depth 30) tt
        ∙ ap (λ u. row.max -ℚ u) (sym (ap (λ n. total n (λ j. coordinate (extended t) j *ℚ d j)) (add-one plant.n) ∙ total-first plant.n (λ j. coordinate (extended t) j *ℚ d j)))

    state-form : dot row.x (state_at plant t v k) ≡ total (plant.n + 1) (λ j. coordinate (extended t) j *ℚ d j) +ℚ total (plant.p * plant.horizon) (λ j. z j *ℚ d (plant.n + 1 + j))
    unfolding d z
    state-form =
        dot-combined (width plant t v size sequence) (factors t v) (motion plant k) (state_at plant t v k) row.x (state-combines plant t v size sequence grid_size k within)
        ∙ total-split (plant.n + 1) (plant.p * plant.horizon) (λ j. factors t v j *ℚ d j)
        ∙ (λ s. total-same (plant.n + 1) (λ j. factors t v j *ℚ d j) (λ j. coordinate (extended t) j *ℚ d j) (λ j m. ap (λ u. u *ℚ d j) (c_at j m)) s
        +ℚ total-same (plant.p * plant.horizon) (λ j. factors t v (plant.n + 1 + j) *ℚ d (plant.n + 1 + j)) (λ j. z j *ℚ d (plant.n + 1 + j)) (λ j m. ap (λ u. u *ℚ d (plant.n + 1 + j)) (z_at j)) s)

    pub room-is : dot right (extended t) -ℚ dot left (stacked v) ≡ row.max -ℚ (dot row.x (state_at plant t v k) +ℚ dot row.u (move_at v k))
    room-is =
        (λ s. right-form s -ℚ left-form s)
        ∙ by_ring (row.max ∷ total (plant.n + 1) (λ j. coordinate (extended t) j *ℚ d j) ∷ total (plant.p * plant.horizon) (λ j. z j *ℚ d (plant.n + 1 + j)) ∷ dot row.u (move_at v k) ∷ []) (search reads depth 30) (search reads depth 30) tt
        ∙ ap (λ u. row.max -ℚ (u +ℚ dot row.u (move_at v k))) (sym state-form)
