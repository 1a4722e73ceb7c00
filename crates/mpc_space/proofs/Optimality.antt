-- Karush, Kuhn and Tucker's conditions suffice: a point that meets them is the least of the feasible points, and the only one where h is
-- positive definite.
use Rattle.std.proofs.Common.{◌≡◌, ◌≢◌, List, [], ◌∷◌, length, pos, negsuc, ⊎_elim, sym, ◌∙◌, ap}
use Rattle.mpc_exact.specs.Rational.{ℚ, int, ◌+ℚ◌, ◌-ℚ◌, ◌*ℚ◌, ◌≤ℚ◌, ◌<ℚ◌, IsNonneg}
use Rattle.mpc_exact.proofs.Rational.{+ℚ_comm}
use Rattle.mpc_exact.proofs.RationalRing.{reads, by_ring, by_equations}
use Rattle.mpc_exact.proofs.OrderTheorems.{positive-not_zero}
use Rattle.mpc_exact.proofs.Linear.{linear_le, linear_lt, claims, none, le, lt, eq}
use Rattle.mpc_space.specs.Vector.{dot, vec_add, vec_sub, mat_vec, vec_mat, IsSymmetric, AllAtMost, IsZero, IsIndependent, quadratic}
use Rattle.mpc_space.specs.Definite.{IsDefinite}
use Rattle.mpc_space.specs.Optimality.{objective, IsStationary}
use Rattle.mpc_space.proofs.Entries.{zero_by_dots, zero_or_not, dot-zero, length-sub, difference_zero}
use Rattle.mpc_space.proofs.Vector.{dot_comm, dot-add_right}
use Rattle.mpc_space.proofs.Matrix.{dot-vec_mat, weighted_rows}
use Rattle.mpc_space.proofs.Quadratic.{quadratic-sub}
use Rattle.mpc_space.proofs.Definite.{definite_at}

-- the conditions, against any x
gradient_at : (h : List (List ℚ)) (f : List ℚ) (g : List (List ℚ)) (w z l x : List ℚ) → IsStationary h f g w z l → dot x (mat_vec h z) +ℚ dot x f +ℚ dot x (vec_mat l g) ≡ int (pos 0)
gradient_at h f g w z l x k =
    sym (dot-add_right (vec_add (mat_vec h z) f) (vec_mat l g) x ∙ ap (λ u. u +ℚ dot x (vec_mat l g)) (dot-add_right (mat_vec h z) f x))
    ∙ dot-zero x (vec_add (vec_add (mat_vec h z) f) (vec_mat l g)) k.gradient

-- what the conditions give, over numbers alone: a = q x, b = q z, c = x' H z, d = x'f, e = z'f, i = x' G' l, j = z' G' l, v = l'w, y = q (x - z)
sums : (a b c d e i j v y : ℚ) → y ≡ a -ℚ int (pos 2) *ℚ c +ℚ b → int (pos 0) ≤ℚ y → c +ℚ d +ℚ i ≡ int (pos 0) → b +ℚ e +ℚ j ≡ int (pos 0) → j ≡ v → i ≤ℚ v → (b +ℚ int (pos 2) *ℚ e) ≤ℚ (a +ℚ int (pos 2) *ℚ d)
sums a b c d e i j v y h₁ h₂ h₃ h₄ h₅ h₆ = linear_le (a ∷ b ∷ c ∷ d ∷ e ∷ i ∷ j ∷ v ∷ y ∷ []) (eq h₁ (le h₂ (eq h₃ (eq h₄ (eq h₅ (le h₆ none)))))) (search claims depth 60 fits 9000) tt

strict_sums : (a b c d e i j v y : ℚ) → y ≡ a -ℚ int (pos 2) *ℚ c +ℚ b → int (pos 0) <ℚ y → c +ℚ d +ℚ i ≡ int (pos 0) → b +ℚ e +ℚ j ≡ int (pos 0) → j ≡ v → i ≤ℚ v → (b +ℚ int (pos 2) *ℚ e) <ℚ (a +ℚ int (pos 2) *ℚ d)
strict_sums a b c d e i j v y h₁ h₂ h₃ h₄ h₅ h₆ = linear_lt (a ∷ b ∷ c ∷ d ∷ e ∷ i ∷ j ∷ v ∷ y ∷ []) (eq h₁ (lt h₂ (eq h₃ (eq h₄ (eq h₅ (le h₆ none)))))) (search claims depth 60 fits 9000) tt

module _ (h : List (List ℚ)) (f : List ℚ) (g : List (List ℚ)) (w z l : List ℚ) (k : IsStationary h f g w z l) where
  active : dot z (vec_mat l g) ≡ dot l w
  active = sym (dot-vec_mat g z l) ∙ dot_comm (mat_vec g z) l ∙ k.complementary

  -- no feasible point costs less
  pub stationary_least : IsSymmetric h → ((x : List ℚ) → IsNonneg (quadratic h x)) → (x : List ℚ) → AllAtMost (mat_vec g x) w → objective h f z ≤ℚ objective h f x
  stationary_least s convex x feasible =
      sums (quadratic h x) (quadratic h z) (dot x (mat_vec h z)) (dot x f) (dot z f) (dot x (vec_mat l g)) (dot z (vec_mat l g)) (dot l w) (quadratic h (vec_sub x z))
      (quadratic-sub h s x z) (convex (vec_sub x z)) (gradient_at h f g w z l x k) (gradient_at h f g w z l z k) active (weighted_rows g w l x k.nonnegative feasible)

  -- and where h is positive definite, every other one costs more
  pub stationary_unique : IsSymmetric h → IsDefinite h → length z ≡ length h → (x : List ℚ) → length x ≡ length h → x ≢ z → AllAtMost (mat_vec g x) w → objective h f z <ℚ objective h f x
  stationary_unique s d z_size x x_size other feasible =
      let same_size : length x ≡ length z = x_size ∙ sym z_size in
      strict_sums (quadratic h x) (quadratic h z) (dot x (mat_vec h z)) (dot x f) (dot z f) (dot x (vec_mat l g)) (dot z (vec_mat l g)) (dot l w) (quadratic h (vec_sub x z))
      (quadratic-sub h s x z) (definite_at d (vec_sub x z) (length-sub x z same_size ∙ x_size) (λ e. other (difference_zero x z same_size e)))
      (gradient_at h f g w z l x k) (gradient_at h f g w z l z k) active (weighted_rows g w l x k.nonnegative feasible)

dot_mat_vec_zero : (h : List (List ℚ)) (x y : List ℚ) → IsZero x → dot y (mat_vec h x) ≡ int (pos 0)
dot_mat_vec_zero h x y z = dot_comm y (mat_vec h x) ∙ dot-vec_mat h x y ∙ dot_comm x (vec_mat y h) ∙ dot-zero (vec_mat y h) x z

-- ---- where h is positive definite, only dependent rows make [[h, g'], [g, 0]] singular
no_form : (a b : ℚ) → a +ℚ b ≡ int (pos 0) → b ≡ int (pos 0) → a ≡ int (pos 0)
no_form a b e f = by_equations (int (pos 1)) (int (negsuc 0)) e f (by_ring (a ∷ b ∷ []) (search reads depth 30) (search reads depth 30) tt)

module _ (h g : List (List ℚ)) (x l : List ℚ) (above : IsZero (vec_add (mat_vec h x) (vec_mat l g))) (below : IsZero (mat_vec g x)) where
  form_zero : quadratic h x ≡ int (pos 0)
  form_zero =
      no_form (quadratic h x) (dot x (vec_mat l g))
      (sym (dot-add_right (mat_vec h x) (vec_mat l g) x) ∙ dot-zero x (vec_add (mat_vec h x) (vec_mat l g)) above)
      (sym (dot-vec_mat g x l) ∙ dot_comm (mat_vec g x) l ∙ dot-zero l (mat_vec g x) below)

  pub kernel_point : IsDefinite h → length x ≡ length h → IsZero x
  kernel_point d e = ⊎_elim (λ z. z) (λ n. absurd (positive-not_zero (definite_at d x e n) form_zero)) (zero_or_not x)

  pub kernel_rows : IsDefinite h → length x ≡ length h → IsZero (vec_mat l g)
  kernel_rows d e =
      zero_by_dots (vec_mat l g) (λ y.
      no_form (dot y (vec_mat l g)) (dot y (mat_vec h x))
      (+ℚ_comm (dot y (vec_mat l g)) (dot y (mat_vec h x)) ∙ sym (dot-add_right (mat_vec h x) (vec_mat l g) y) ∙ dot-zero y (vec_add (mat_vec h x) (vec_mat l g)) above)
      (dot_mat_vec_zero h x y (kernel_point d e)))

  pub kernel_factors : IsDefinite h → length x ≡ length h → IsIndependent g → length l ≡ length g → IsZero l
  kernel_factors d e i k = i.only_zero l k (kernel_rows d e)
