-- A symmetric matrix is positive definite exactly where all its pivots are positive.
use Rattle.std.proofs.Common.{◌≡◌, ℕ, ◌<◌, ◌≤◌, List, [], ◌∷◌, length, get_or, All, pos, sym, ◌∙◌, ap, subst, arith, lit<}
use Rattle.std.proofs.lemmas.List.{get_or_default}
use Rattle.mpc_exact.specs.Rational.{ℚ, int, ◌*ℚ◌, ◌≤ℚ◌, ◌<ℚ◌}
use Rattle.mpc_exact.proofs.RationalRing.{reads, by_ring}
use Rattle.mpc_exact.proofs.RationalOrder.{positive_int, <ℚ-≤ℚ_trans, <ℚ_irrefl}
use Rattle.mpc_space.specs.Vector.{coordinate, cell, listed, mat_vec, IsSymmetric, quadratic}
use Rattle.mpc_space.specs.Definite.{IsDefinite}
use Rattle.mpc_space.proofs.Vector.{dot_comm}
use Rattle.mpc_space.proofs.Entries.{dot-total_within, coordinate-listed, length-listed}
use Rattle.mpc_space.proofs.Matrix.{coordinate-mat_vec}
use Rattle.mpc_space.proofs.Total.{total-same}
use Rattle.mpc_definite.specs.Pivots.{left_of, pivot}
use Rattle.mpc_definite.proofs.Squares.{applied, form, form_positive, PositiveBelow}
use Rattle.mpc_definite.proofs.Witness.{NotPositive, not_positive}

-- w' m w as a sum over the places
pub quadratic-form : (n : ℕ) (m : List (List ℚ)) (w : List ℚ) → length w ≤ n → quadratic m w ≡ form n (cell m) (coordinate w)
quadratic-form n m w l =
    dot-total_within n w (mat_vec m w) l
    ∙ total-same n (λ i. coordinate w i *ℚ coordinate (mat_vec m w) i) (λ i. coordinate w i *ℚ applied n (cell m) (coordinate w) i)
    (λ i q. ap (λ u. coordinate w i *ℚ u) (row i))
  where
    row : (i : ℕ) → coordinate (mat_vec m w) i ≡ applied n (cell m) (coordinate w) i
    row i =
        coordinate-mat_vec m w i ∙ dot_comm (get_or m i []) w ∙ dot-total_within n w (get_or m i []) l
        ∙ total-same n (λ k. coordinate w k *ℚ cell m i k) (λ k. cell m i k *ℚ coordinate w k) (λ k p. by_ring (coordinate w k ∷ cell m i k ∷ []) (search reads depth 30) (search reads depth 30) tt)

form-same : (n : ℕ) (m : ℕ → ℕ → ℚ) (v w : ℕ → ℚ) → ((i : ℕ) → i < n → v i ≡ w i) → form n m v ≡ form n m w
form-same n m v w h =
    total-same n (λ i. v i *ℚ applied n m v i) (λ i. w i *ℚ applied n m w i)
    (λ i l. λ t. h i l t *ℚ total-same n (λ k. m i k *ℚ v k) (λ k. m i k *ℚ w k) (λ k q. ap (λ u. m i k *ℚ u) (h k q)) t)

pub definite_of : (m : List (List ℚ)) → IsSymmetric m → PositiveBelow (cell m) (length m) → IsDefinite m
definite_of m s positive = record {
  positive = λ w e some.
      subst (λ u. int (pos 0) <ℚ u) (sym (quadratic-form (length m) m w (omega arith)))
      (form_positive (cell m) s.mirrored (length m) positive (coordinate w) (λ zeros. some (λ k d l. get_or_default w k d (int (pos 0)) l ∙ zeros k (omega arith))));
}

pub not_definite_of : (m : List (List ℚ)) → IsSymmetric m → (j : ℕ) → j < length m → PositiveBelow (cell m) j → pivot (cell m) j ≤ℚ int (pos 0) → IsDefinite m → ⊥
unfolding left_of
not_definite_of m s j l positive small definite =
    <ℚ_irrefl (<ℚ-≤ℚ_trans (definite.positive w e some) (subst (λ u. u ≤ℚ int (pos 0)) (sym same) r.small))
  where
    n : ℕ
    n = length m

    r : NotPositive (cell m) s.mirrored n 0 j
    r = not_positive (cell m) s.mirrored n j l positive small

    w : List ℚ
    w = listed n r.at

    e : length w ≡ n
    e = length-listed n r.at

    same : quadratic m w ≡ form n (cell m) r.at
    same = quadratic-form n m w (omega (arith, e)) ∙ form-same n (cell m) (coordinate w) r.at (λ i q. coordinate-listed n r.at i q)

    one_not_zero : int (pos 1) ≡ int (pos 0) → ⊥
    one_not_zero p = <ℚ_irrefl (subst (λ u. u <ℚ int (pos 1)) (sym p) (positive_int 1 (lit< tt)))

    some : All (λ x. x ≡ int (pos 0)) w → ⊥
    some zeros = one_not_zero (sym r.one ∙ sym (coordinate-listed n r.at j l) ∙ zeros j (int (pos 0)) (omega (arith, e)))
