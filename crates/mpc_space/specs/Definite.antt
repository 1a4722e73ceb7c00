-- Positive definite matrices.
use Rattle.std.specs.Prelude.{◌≡◌, List, length, All, pos}
use Rattle.mpc_exact.specs.Rational.{ℚ, int, ◌<ℚ◌, neg_ℚ, inv_ℚ}
use Rattle.mpc_space.specs.Vector.{quadratic, mat_add, outer, vec_scale}

-- w' h w is positive for each list w, of as many entries as h has rows, that isn't all 0
pub record IsDefinite (h : List (List ℚ)) : Type 0 where
  pub positive : (w : List ℚ) → length w ≡ length h → (All (λ x. x ≡ int (pos 0)) w → ⊥) → int (pos 0) <ℚ quadratic h w

-- what is left of [[a, b'], [b, c]] once its first column is eliminated: c - b b'/a (Schur's complement)
abbrev pub schur : ℚ → List ℚ → List (List ℚ) → List (List ℚ)
schur a b c = mat_add c (outer b (vec_scale (neg_ℚ (inv_ℚ a)) b))
