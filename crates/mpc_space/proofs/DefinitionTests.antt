-- The definitions at numbers.
use Rattle.std.specs.Prelude.{◌≡◌, List, [], ◌∷◌, pos, negsuc}
use Rattle.std.proofs.Common.{refl}
use Rattle.mpc_exact.specs.Gcd.{gcd}
use Rattle.mpc_exact.specs.Rational.{ℚ, frac, int, ◌+ℚ◌, ◌*ℚ◌, neg_ℚ, inv_ℚ}
use Rattle.mpc_space.specs.Vector.{dot, vec_add, vec_sub, mat_vec, vec_mat, transpose, quadratic}
use Rattle.mpc_space.specs.Matrix.{mat_mul, identity}
use Rattle.mpc_space.specs.Definite.{schur}
use Rattle.mpc_space.specs.Total.{total, unit}
use Rattle.mpc_space.specs.Optimality.{objective}

-- [[1, 2], [3, 4]]
abbrev square : List (List ℚ)
square = (int (pos 1) ∷ int (pos 2) ∷ []) ∷ (int (pos 3) ∷ int (pos 4) ∷ []) ∷ []

abbrev five_six : List ℚ
five_six = int (pos 5) ∷ int (pos 6) ∷ []

dot_is : dot (int (pos 1) ∷ int (pos 2) ∷ []) five_six ≡ int (pos 17)
unfolding frac gcd ◌+ℚ◌ ◌*ℚ◌
dot_is = refl

-- the shorter vector goes on with zeros
sum_is : vec_add (int (pos 1) ∷ []) five_six ≡ int (pos 6) ∷ int (pos 6) ∷ []
unfolding frac gcd ◌+ℚ◌
sum_is = refl

difference_is : vec_sub five_six (int (pos 1) ∷ int (pos 8) ∷ []) ≡ int (pos 4) ∷ int (negsuc 1) ∷ []
unfolding frac gcd ◌+ℚ◌ ◌*ℚ◌
difference_is = refl

product_is : mat_vec square five_six ≡ int (pos 17) ∷ int (pos 39) ∷ []
unfolding frac gcd ◌+ℚ◌ ◌*ℚ◌
product_is = refl

left_product_is : vec_mat five_six square ≡ int (pos 23) ∷ int (pos 34) ∷ []
unfolding frac gcd ◌+ℚ◌ ◌*ℚ◌
left_product_is = refl

transpose_is : transpose square ≡ (int (pos 1) ∷ int (pos 3) ∷ []) ∷ (int (pos 2) ∷ int (pos 4) ∷ []) ∷ []
transpose_is = refl

quadratic_is : quadratic square five_six ≡ int (pos 319)
unfolding frac gcd ◌+ℚ◌ ◌*ℚ◌
quadratic_is = refl

matrix_product_is : mat_mul (record { rows = square; columns = 2 }) (record { rows = (int (pos 0) ∷ []) ∷ (int (pos 7) ∷ []) ∷ []; columns = 1 }) ≡ record { rows = (int (pos 14) ∷ []) ∷ (int (pos 28) ∷ []) ∷ []; columns = 1 }
unfolding frac gcd ◌+ℚ◌ ◌*ℚ◌
matrix_product_is = refl

identity_is : (identity 2).rows ≡ (int (pos 1) ∷ int (pos 0) ∷ []) ∷ (int (pos 0) ∷ int (pos 1) ∷ []) ∷ []
unfolding unit
identity_is = refl

total_is : total 4 (λ i. int (pos i)) ≡ int (pos 6)
unfolding frac gcd ◌+ℚ◌ total
total_is = refl

-- [[2, 1], [1, 3]] without its first column: 3 - 1/2
schur_is : schur (int (pos 2)) (int (pos 1) ∷ []) ((int (pos 3) ∷ []) ∷ []) ≡ (frac (pos 5) 2 ∷ []) ∷ []
unfolding frac gcd ◌+ℚ◌ ◌*ℚ◌ neg_ℚ inv_ℚ
schur_is = refl

-- 2 z² - 2 z at z = 3
objective_is : objective ((int (pos 2) ∷ []) ∷ []) (int (negsuc 0) ∷ []) (int (pos 3) ∷ []) ≡ int (pos 12)
unfolding frac gcd ◌+ℚ◌ ◌*ℚ◌
objective_is = refl
