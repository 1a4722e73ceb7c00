-- What a disturbance adds to the states, and the most that this can be.
use Rattle.std.proofs.Common.{◌≡◌, ℕ, zero, suc, ◌<◌, ◌≤◌, List, [], ◌∷◌, length, pos, refl, sym, ◌∙◌, ap, subst, arith}
use Rattle.mpc_exact.specs.Rational.{ℚ, int, abs_ℚ, ◌+ℚ◌, ◌*ℚ◌, ◌≤ℚ◌, IsNonneg}
use Rattle.mpc_exact.proofs.RationalRing.{reads, by_ring}
use Rattle.mpc_exact.proofs.RationalOrder.{≤ℚ_refl, ≤ℚ_trans, +ℚ-≤ℚ, *ℚ-≤ℚ}
use Rattle.mpc_exact.proofs.Absolute.{abs_above, abs_above_neg, abs-mul}
use Rattle.mpc_exact.proofs.Linear.{linear_le, claims, none, le}
use Rattle.mpc_space.specs.Vector.{column, dot, vec_add, vec_mat, mat_vec, AllAtMost}
use Rattle.mpc_space.specs.Matrix.{RationalMatrix}
use Rattle.mpc_space.proofs.Vector.{dot_comm, dot-add_right, vec_add_comm, vec_add_assoc, vec_add_nil}
use Rattle.mpc_space.proofs.Entries.{coordinate-listed, dot_nil, dot_same, length-add_within}
use Rattle.mpc_space.proofs.Matrix.{length-mat_vec, mat_vec-add, dot-vec_mat, coordinate-vec_mat}
use Rattle.mpc_linear.specs.Product.{product_row}
use Rattle.mpc_plant.specs.declared.plants.Plant.{Plant}
use Rattle.mpc_plant.specs.Trajectory.{state_of, state_at, move_at}
use Rattle.mpc_tight.specs.Disturbed.{sizes, disturbance_at, disturbed_at}
use Rattle.mpc_tight.specs.Tightening.{carried, effect, tightening}

-- what the disturbance adds to the state at step k
abbrev pub spread : Plant → List (List ℚ) → ℕ → List ℚ
spread plant e zero = []
spread plant e (suc k) = vec_add (mat_vec plant.a.rows (spread plant e k)) (disturbance_at e k)

-- ---- sums of vectors in another order
swap_last : (p q b : List ℚ) → vec_add (vec_add p q) b ≡ vec_add (vec_add p b) q
swap_last p q b = vec_add_assoc p q b ∙ ap (vec_add p) (vec_add_comm q b) ∙ sym (vec_add_assoc p b q)

moved_out : (p q b r x : List ℚ) → vec_add (vec_add (vec_add (vec_add p q) b) r) x ≡ vec_add (vec_add (vec_add p b) r) (vec_add q x)
moved_out p q b r x =
    ap (λ y. vec_add (vec_add y r) x) (swap_last p q b) ∙ ap (λ y. vec_add y x) (swap_last (vec_add p b) q r) ∙ vec_add_assoc (vec_add (vec_add p b) r) q x

pub disturbed_is : (plant : Plant) (t : List ℚ) (v e : List (List ℚ)) (k : ℕ) → disturbed_at plant t v e k ≡ vec_add (state_at plant t v k) (spread plant e k)
disturbed_is plant t v e zero = sym (vec_add_nil (state_of plant t))
disturbed_is plant t v e (suc k) =
    let s = state_at plant t v k in
    let d = spread plant e k in
    let b = mat_vec plant.b.rows (move_at v k) in
    ap (λ x. vec_add (vec_add (vec_add (mat_vec plant.a.rows x) b) plant.drift) (disturbance_at e k)) (disturbed_is plant t v e k)
    ∙ ap (λ x. vec_add (vec_add (vec_add x b) plant.drift) (disturbance_at e k)) (mat_vec-add plant.a.rows s d)
    ∙ moved_out (mat_vec plant.a.rows s) (mat_vec plant.a.rows d) b plant.drift (disturbance_at e k)

-- ---- a row's dot with what is added
carried_dot : (m : RationalMatrix) (a x : List ℚ) → length x ≤ m.columns → dot a (mat_vec m.rows x) ≡ dot (product_row m a) x
carried_dot m a x few =
    dot_comm a (mat_vec m.rows x) ∙ dot-vec_mat m.rows x a
    ∙ dot_same x (vec_mat a m.rows) (product_row m a) (λ i h. coordinate-vec_mat a m.rows i ∙ sym (coordinate-listed m.columns (λ j. dot a (column m.rows j)) i (omega arith)))
    ∙ dot_comm x (product_row m a)

-- the sum of what each step's disturbance adds to a'x[k]
abbrev pub added : Plant → List (List ℚ) → List ℚ → ℕ → ℚ
added plant e a zero = int (pos 0)
added plant e a (suc k) = added plant e (product_row plant.a a) k +ℚ dot a (disturbance_at e k)

abbrev pub AllShort : Plant → List (List ℚ) → Type 0
AllShort plant e = (k : ℕ) → length (disturbance_at e k) ≤ plant.n

spread_short : (plant : Plant) (e : List (List ℚ)) → AllShort plant e → (k : ℕ) → length (spread plant e k) ≤ plant.n
spread_short plant e short zero = omega arith
spread_short plant e short (suc k) =
    length-add_within plant.n (mat_vec plant.a.rows (spread plant e k)) (disturbance_at e k)
    (omega (arith, length-mat_vec plant.a.rows (spread plant e k), plant.is_plant.a_shape.rows_are)) (short k)

pub added_is : (plant : Plant) (e : List (List ℚ)) → AllShort plant e → (a : List ℚ) (k : ℕ) → dot a (spread plant e k) ≡ added plant e a k
added_is plant e short a zero = dot_nil a
added_is plant e short a (suc k) =
    let d = spread plant e k in
    dot-add_right (mat_vec plant.a.rows d) (disturbance_at e k) a
    ∙ ap (λ x. x +ℚ dot a (disturbance_at e k))
    (carried_dot plant.a a d (omega (arith, spread_short plant e short k, plant.is_plant.a_shape.columns_are)) ∙ added_is plant e short (product_row plant.a a) k)

-- ---- the tightening, from its last step on
pub carried_shift : (plant : Plant) (a : List ℚ) (k : ℕ) → carried plant a (suc k) ≡ carried plant (product_row plant.a a) k
carried_shift plant a zero = refl
carried_shift plant a (suc k) = ap (product_row plant.a) (carried_shift plant a k)

pub tightening_first : (plant : Plant) (noise a : List ℚ) (k : ℕ) → tightening plant noise a (suc k) ≡ tightening plant noise (product_row plant.a a) k +ℚ dot (sizes a) noise
tightening_first plant noise a zero = refl
tightening_first plant noise a (suc k) =
    (λ i. tightening_first plant noise a k i +ℚ dot (sizes (carried_shift plant a k i)) noise)
    ∙ by_ring (tightening plant noise (product_row plant.a a) k ∷ dot (sizes a) noise ∷ effect plant noise (product_row plant.a a) k ∷ []) (search reads depth 30) (search reads depth 30) tt

-- ---- the bound
abs_nonneg : (x : ℚ) → IsNonneg (abs_ℚ x)
abs_nonneg x = linear_le (x ∷ abs_ℚ x ∷ []) (le (abs_above x) (le (abs_above_neg x) none)) (search claims depth 40) tt

product_at_most : (x y w : ℚ) → abs_ℚ y ≤ℚ w → (x *ℚ y) ≤ℚ (abs_ℚ x *ℚ w)
product_at_most x y w h = ≤ℚ_trans (abs_above (x *ℚ y)) (subst (λ z. z ≤ℚ (abs_ℚ x *ℚ w)) (sym (abs-mul x y)) (*ℚ-≤ℚ (abs_nonneg x) h))

pub dot_at_most : (a d noise : List ℚ) → AllAtMost (sizes d) noise → dot a d ≤ℚ dot (sizes a) noise
dot_at_most [] d noise h = ≤ℚ_refl (int (pos 0))
dot_at_most (x ∷ a) [] [] h = ≤ℚ_refl (int (pos 0))
dot_at_most (x ∷ a) [] (w ∷ noise) h = absurd h
dot_at_most (x ∷ a) (y ∷ d) [] h = absurd h
dot_at_most (x ∷ a) (y ∷ d) (w ∷ noise) h = +ℚ-≤ℚ (product_at_most x y w h.0) (dot_at_most a d noise h.1)

module _ (plant : Plant) (noise : List ℚ) (e : List (List ℚ)) (within : (k : ℕ) → k < plant.horizon → AllAtMost (sizes (disturbance_at e k)) noise) where
  pub added_at_most : (a : List ℚ) (k : ℕ) → k ≤ plant.horizon → added plant e a k ≤ℚ tightening plant noise a k
  added_at_most a zero h = ≤ℚ_refl (int (pos 0))
  added_at_most a (suc k) h =
      subst (λ x. added plant e a (suc k) ≤ℚ x) (sym (tightening_first plant noise a k))
      (+ℚ-≤ℚ (added_at_most (product_row plant.a a) k (omega arith)) (dot_at_most a (disturbance_at e k) noise (within k (omega arith))))
