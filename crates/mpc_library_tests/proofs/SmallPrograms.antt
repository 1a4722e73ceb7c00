-- Matrices and counts of tests.
use Rattle.std.proofs.Common.{◌≡◌, ℕ, zero, suc, ◌≤◌, List, [], ◌∷◌, length, get_or, All, pos, refl, ◌∙◌, subst, arith}
use Rattle.std.proofs.lemmas.List.Elements.{All-from_recursion}
use Rattle.mpc_exact.specs.Rational.{ℚ, int, ◌+ℚ◌, ◌*ℚ◌, ◌<ℚ◌, IsPositive}
use Rattle.mpc_exact.proofs.RationalOrder.{nonneg_int, positive-mul}
use Rattle.mpc_exact.proofs.School.{natural_le}
use Rattle.mpc_rows.specs.ActiveSets.{IsInBox}
use Rattle.mpc_exact.proofs.OrderTheorems.{positive_square}
use Rattle.mpc_exact.proofs.RationalRing.{reads, by_ring}
use Rattle.mpc_space.specs.Vector.{cell, quadratic, IsSymmetric}
use Rattle.mpc_space.specs.Matrix.{RationalMatrix, height, IsRectangular, entry}
use Rattle.mpc_space.specs.Definite.{IsDefinite}

-- a positive number as a matrix is definite
form : (x y : ℚ) → x *ℚ (y *ℚ y) ≡ y *ℚ (x *ℚ y +ℚ int (pos 0)) +ℚ int (pos 0)
form x y = by_ring (x ∷ y ∷ []) (search reads depth 30) (search reads depth 30) tt

number_definite : (x : ℚ) → IsPositive x → IsDefinite ((x ∷ []) ∷ [])
number_definite x p = record { positive = at }
  where
    at : (w : List ℚ) → length w ≡ 1 → (All (λ y. y ≡ int (pos 0)) w → ⊥) → int (pos 0) <ℚ quadratic ((x ∷ []) ∷ []) w
    at [] e n = absurd (omega arith)
    at (y ∷ z ∷ w) e n = absurd (omega arith)
    at (y ∷ []) e n = subst IsPositive (form x y) (positive-mul p (positive_square y (λ k. n (All-from_recursion (λ y. y ≡ int (pos 0)) (y ∷ []) (k, tt)))))

rows_definite : (rows : List (List ℚ)) → length rows ≡ 1 → length (get_or rows 0 []) ≡ 1 → IsPositive (cell rows 0 0) → IsDefinite rows
rows_definite [] e k p = absurd (omega arith)
rows_definite (row ∷ other ∷ rows) e k p = absurd (omega arith)
rows_definite ([] ∷ []) e k p = absurd (omega arith)
rows_definite ((x ∷ y ∷ row) ∷ []) e k p = absurd (omega arith)
rows_definite ((x ∷ []) ∷ []) e k p = number_definite x p

pub one_definite : (m : RationalMatrix) → height m ≡ 1 → m.columns ≡ 1 → IsRectangular m → IsPositive (entry m 0 0) → IsDefinite m.rows
one_definite m e k r p = rows_definite m.rows e (r 0 [] (omega arith) ∙ k) p

-- and symmetric
rows_symmetric : (rows : List (List ℚ)) → length rows ≡ 1 → length (get_or rows 0 []) ≡ 1 → (i j : ℕ) → cell rows i j ≡ cell rows j i
rows_symmetric [] e k i j = absurd (omega arith)
rows_symmetric (row ∷ other ∷ rows) e k i j = absurd (omega arith)
rows_symmetric ([] ∷ []) e k i j = absurd (omega arith)
rows_symmetric ((x ∷ y ∷ row) ∷ []) e k i j = absurd (omega arith)
rows_symmetric ((x ∷ []) ∷ []) e k zero zero = refl
rows_symmetric ((x ∷ []) ∷ []) e k zero (suc j) = refl
rows_symmetric ((x ∷ []) ∷ []) e k (suc i) zero = refl
rows_symmetric ((x ∷ []) ∷ []) e k (suc i) (suc j) = refl

pub one_symmetric : (m : RationalMatrix) → height m ≡ 1 → m.columns ≡ 1 → IsRectangular m → IsSymmetric m.rows
one_symmetric m e k r = record { mirrored = rows_symmetric m.rows e (r 0 [] (omega arith) ∙ k) }

-- a count up to the box's only one
pub one_in_box : (counts : List ℕ) (n m : ℕ) → length counts ≡ 1 → m ≡ get_or counts 0 0 → n ≤ m → IsInBox counts (int (pos n) ∷ [])
one_in_box [] n m e is h = absurd (omega arith)
one_in_box (k ∷ j ∷ counts) n m e is h = absurd (omega arith)
one_in_box (k ∷ []) n m e is h = (nonneg_int n, (natural_le n k).1 (subst (λ z. n ≤ z) is h), tt)
