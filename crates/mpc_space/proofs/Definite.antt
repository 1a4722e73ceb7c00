-- A symmetric matrix [[a, b'], [b, c]] is positive definite exactly where a is positive and c - b b'/a is positive definite.
use Rattle.std.specs.List.{AllByRecursion}
use Rattle.std.proofs.Common.{◌≡◌, ◌≢◌, ℕ, zero, suc, List, [], ◌∷◌, length, All, pos, refl, sym, ◌∙◌, ap, subst, arith, ◌⊎◌, inl, inr, ◌<◌, map, lt_irrefl}
use Rattle.std.proofs.lemmas.List.{length-map, length-replicate}
use Rattle.std.proofs.lemmas.List.Elements.{recursion_from_All, All-from_recursion}
use Rattle.mpc_exact.specs.Rational.{ℚ, int, ◌<ℚ◌, ◌+ℚ◌, ◌-ℚ◌, ◌*ℚ◌, neg_ℚ, inv_ℚ, IsPositive}
use Rattle.mpc_exact.proofs.Rational.{*ℚ_inv}
use Rattle.mpc_exact.proofs.RationalRing.{reads, by_ring, by_equation}
use Rattle.mpc_exact.proofs.RationalOrder.{nonneg-mul, nonneg_square, positive-mul, ≤ℚ_of_<}
use Rattle.mpc_exact.proofs.OrderTheorems.{positive_square, positive-add_right, positive-not_zero, one-not_zero}
use Rattle.mpc_space.specs.Vector.{coordinate, cell, zeros, dot, vec_scale, mat_vec, first_column, IsSymmetric, IsZero, quadratic, mat_add, outer, bordered, later_entries}
use Rattle.mpc_space.specs.Definite.{IsDefinite, schur}
use Rattle.mpc_space.proofs.Entries.{dot-zero, zeros_zero, zero_or_not, coordinate-add, coordinate-scale}
use Rattle.mpc_space.proofs.Vector.{dot_comm, dot-scale}
use Rattle.mpc_space.proofs.Matrix.{dot-first_column, cell-first_column}
use Rattle.mpc_space.proofs.Quadratic.{quadratic-mat_add, quadratic-outer}

-- ---- all zero, by index and by cases
pub all_zero : (xs : List ℚ) → IsZero xs → All (λ x. x ≡ int (pos 0)) xs
all_zero xs h = All-from_recursion (λ x. x ≡ int (pos 0)) xs h

pub zero_all : (xs : List ℚ) → All (λ x. x ≡ int (pos 0)) xs → IsZero xs
zero_all xs h = recursion_from_All (λ x. x ≡ int (pos 0)) xs h

pub definite_at : {h : List (List ℚ)} → IsDefinite h → (w : List ℚ) → length w ≡ length h → ¬ IsZero w → IsPositive (quadratic h w)
definite_at {h} d w e some = d.positive w e (λ k. some (zero_all w k))

-- ---- the form of a bordered matrix
pub quadratic-bordered : (a : ℚ) (b : List ℚ) (c : List (List ℚ)) (x : ℚ) (xs : List ℚ) → quadratic (bordered a b c) (x ∷ xs) ≡ a *ℚ (x *ℚ x) +ℚ int (pos 2) *ℚ (x *ℚ dot b xs) +ℚ quadratic c xs
quadratic-bordered a b c x xs =
    ap (λ u. x *ℚ (a *ℚ x +ℚ dot b xs) +ℚ u) (dot-first_column b c xs x xs)
    ∙ by_ring (a ∷ x ∷ dot b xs ∷ quadratic c xs ∷ []) (search reads depth 30) (search reads depth 30) tt

pub quadratic-schur : (a : ℚ) (b : List ℚ) (c : List (List ℚ)) (xs : List ℚ) → quadratic (schur a b c) xs ≡ quadratic c xs -ℚ inv_ℚ a *ℚ (dot b xs *ℚ dot b xs)
quadratic-schur a b c xs =
    quadratic-mat_add c (outer b (vec_scale (neg_ℚ (inv_ℚ a)) b)) xs
    ∙ ap (λ u. quadratic c xs +ℚ u) (quadratic-outer b (vec_scale (neg_ℚ (inv_ℚ a)) b) xs ∙ ap (λ u. u *ℚ dot b xs) (dot-scale (neg_ℚ (inv_ℚ a)) b xs))
    ∙ by_ring (inv_ℚ a ∷ dot b xs ∷ quadratic c xs ∷ []) (search reads depth 30) (search reads depth 30) tt

-- the square completed
pub completed : (a : ℚ) (b : List ℚ) (c : List (List ℚ)) (x : ℚ) (xs : List ℚ) → a ≢ int (pos 0) →
    quadratic (bordered a b c) (x ∷ xs) ≡ a *ℚ ((x +ℚ inv_ℚ a *ℚ dot b xs) *ℚ (x +ℚ inv_ℚ a *ℚ dot b xs)) +ℚ quadratic (schur a b c) xs
completed a b c x xs h =
    quadratic-bordered a b c x xs
    ∙ by_equation (neg_ℚ (int (pos 2) *ℚ (x *ℚ dot b xs) +ℚ inv_ℚ a *ℚ (dot b xs *ℚ dot b xs))) (*ℚ_inv a h)
    (by_ring (a ∷ x ∷ dot b xs ∷ inv_ℚ a ∷ quadratic c xs ∷ []) (search reads depth 30 fits 5000) (search reads depth 30 fits 5000) tt)
    ∙ ap (λ u. a *ℚ ((x +ℚ inv_ℚ a *ℚ dot b xs) *ℚ (x +ℚ inv_ℚ a *ℚ dot b xs)) +ℚ u) (sym (quadratic-schur a b c xs))

-- ---- sizes
pub length-first_column : (b : List ℚ) (c : List (List ℚ)) → length b ≡ length c → length (first_column b c) ≡ length c
length-first_column [] [] e = refl
length-first_column [] (row ∷ rows) e = absurd (omega arith)
length-first_column (x ∷ xs) [] e = absurd (omega arith)
length-first_column (x ∷ xs) (row ∷ rows) e = ap suc (length-first_column xs rows (omega arith))

length-mat_add : (m n : List (List ℚ)) → length m ≡ length n → length (mat_add m n) ≡ length m
length-mat_add [] [] e = refl
length-mat_add [] (row ∷ rows) e = absurd (omega arith)
length-mat_add (row ∷ rows) [] e = refl
length-mat_add (row ∷ rows) (other ∷ others) e = ap suc (length-mat_add rows others (omega arith))

pub length-schur : (a : ℚ) (b : List ℚ) (c : List (List ℚ)) → length b ≡ length c → length (schur a b c) ≡ length c
length-schur a b c e = length-mat_add c (outer b (vec_scale (neg_ℚ (inv_ℚ a)) b)) (sym e ∙ sym (length-map b (λ x. vec_scale x (vec_scale (neg_ℚ (inv_ℚ a)) b))))

-- ---- symmetry
cell-mat_add : (m n : List (List ℚ)) (i j : ℕ) → cell (mat_add m n) i j ≡ cell m i j +ℚ cell n i j
cell-mat_add [] n i j = by_ring (cell n i j ∷ []) (search reads depth 30) (search reads depth 30) tt
cell-mat_add (row ∷ rows) [] i j = by_ring (cell (row ∷ rows) i j ∷ []) (search reads depth 30) (search reads depth 30) tt
cell-mat_add (row ∷ rows) (other ∷ others) zero j = coordinate-add row other j
cell-mat_add (row ∷ rows) (other ∷ others) (suc i) j = cell-mat_add rows others i j

cell-outer : (xs ys : List ℚ) (i j : ℕ) → cell (outer xs ys) i j ≡ coordinate xs i *ℚ coordinate ys j
cell-outer [] ys i j = by_ring (coordinate ys j ∷ []) (search reads depth 30) (search reads depth 30) tt
cell-outer (x ∷ xs) ys zero j = coordinate-scale x ys j
cell-outer (x ∷ xs) ys (suc i) j = cell-outer xs ys i j

pub cell-schur : (a : ℚ) (b : List ℚ) (c : List (List ℚ)) (i j : ℕ) → cell (schur a b c) i j ≡ cell c i j -ℚ coordinate b i *ℚ (inv_ℚ a *ℚ coordinate b j)
cell-schur a b c i j =
    cell-mat_add c (outer b (vec_scale (neg_ℚ (inv_ℚ a)) b)) i j
    ∙ ap (λ u. cell c i j +ℚ u) (cell-outer b (vec_scale (neg_ℚ (inv_ℚ a)) b) i j ∙ ap (λ u. coordinate b i *ℚ u) (coordinate-scale (neg_ℚ (inv_ℚ a)) b j))
    ∙ by_ring (cell c i j ∷ coordinate b i ∷ coordinate b j ∷ inv_ℚ a ∷ []) (search reads depth 30) (search reads depth 30) tt

pub symmetric_inner : (a : ℚ) (b : List ℚ) (c : List (List ℚ)) → IsSymmetric (bordered a b c) → IsSymmetric c
symmetric_inner a b c s = record { mirrored = λ i j. sym ((cell-first_column b c i).1 j) ∙ s.mirrored (suc i) (suc j) ∙ (cell-first_column b c j).1 i }

pub symmetric_schur : (a : ℚ) (b : List ℚ) (c : List (List ℚ)) → IsSymmetric c → IsSymmetric (schur a b c)
symmetric_schur a b c s =
    record {
      mirrored = λ i j. cell-schur a b c i j
          ∙ (λ k. s.mirrored i j k -ℚ by_ring (coordinate b i ∷ coordinate b j ∷ inv_ℚ a ∷ []) {x = coordinate b i *ℚ (inv_ℚ a *ℚ coordinate b j)} {y = coordinate b j *ℚ (inv_ℚ a *ℚ coordinate b i)} (search reads depth 30) (search reads depth 30) tt k)
          ∙ sym (cell-schur a b c j i);
    }

-- ---- the pivot step
module _ (a : ℚ) (b : List ℚ) (c : List (List ℚ)) (same_size : length b ≡ length c) where
  split_size : (x : ℚ) (xs : List ℚ) → length (x ∷ xs) ≡ length (bordered a b c) → length xs ≡ length (schur a b c)
  split_size x xs e = let k = length-first_column b c same_size in let l = length-schur a b c same_size in omega arith

  joined_size : (x : ℚ) (xs : List ℚ) → length xs ≡ length (schur a b c) → length (x ∷ xs) ≡ length (bordered a b c)
  joined_size x xs e = let k = length-first_column b c same_size in let l = length-schur a b c same_size in omega arith

  pub definite_by_pivot : IsPositive a → IsDefinite (schur a b c) → IsDefinite (bordered a b c)
  definite_by_pivot p d = record { positive = λ w e some. at w e (λ k. some (all_zero w k)) }
    where
      at_rest : (x : ℚ) (xs : List ℚ) → ¬ IsZero (x ∷ xs) → length xs ≡ length (schur a b c) → IsZero xs ⊎ (¬ IsZero xs) → IsPositive (a *ℚ ((x +ℚ inv_ℚ a *ℚ dot b xs) *ℚ (x +ℚ inv_ℚ a *ℚ dot b xs)) +ℚ quadratic (schur a b c) xs)
      at_rest x xs some e (inl z) =
          subst IsPositive
          (sym ((λ i. a *ℚ ((x +ℚ inv_ℚ a *ℚ dot-zero b xs z i) *ℚ (x +ℚ inv_ℚ a *ℚ dot-zero b xs z i)) +ℚ (dot_comm xs (mat_vec (schur a b c) xs) ∙ dot-zero (mat_vec (schur a b c) xs) xs z) i)
          ∙ by_ring (a ∷ x ∷ inv_ℚ a ∷ []) (search reads depth 30) (search reads depth 30) tt))
          (positive-mul p (positive_square x (λ k. some (k, z))))
      at_rest x xs some e (inr n) = positive-add_right (nonneg-mul (≤ℚ_of_< p) (nonneg_square (x +ℚ inv_ℚ a *ℚ dot b xs))) (definite_at d xs e n)

      at : (w : List ℚ) → length w ≡ length (bordered a b c) → ¬ IsZero w → IsPositive (quadratic (bordered a b c) w)
      at [] e some = absurd (some tt)
      at (x ∷ xs) e some = subst IsPositive (sym (completed a b c x xs (positive-not_zero p))) (at_rest x xs some (split_size x xs e) (zero_or_not xs))

  pub pivot_of_definite : IsDefinite (bordered a b c) → IsPositive a
  pivot_of_definite d =
      subst IsPositive (quadratic-bordered a b c (int (pos 1)) (zeros (length (schur a b c)))
      ∙ (λ i. a *ℚ (int (pos 1) *ℚ int (pos 1)) +ℚ int (pos 2) *ℚ (int (pos 1) *ℚ dot-zero b (zeros (length (schur a b c))) (zeros_zero (length (schur a b c))) i)
      +ℚ (dot_comm (zeros (length (schur a b c))) (mat_vec c (zeros (length (schur a b c)))) ∙ dot-zero (mat_vec c (zeros (length (schur a b c)))) (zeros (length (schur a b c))) (zeros_zero (length (schur a b c)))) i)
      ∙ by_ring (a ∷ []) (search reads depth 30) (search reads depth 30) tt)
      (definite_at d (int (pos 1) ∷ zeros (length (schur a b c))) (joined_size (int (pos 1)) (zeros (length (schur a b c))) (length-replicate (length (schur a b c)) (int (pos 0)))) (λ z. one-not_zero z.0))

  -- the first entry that makes the square 0
  pub back_substituted : (xs : List ℚ) → a ≢ int (pos 0) → quadratic (bordered a b c) (neg_ℚ (inv_ℚ a *ℚ dot b xs) ∷ xs) ≡ quadratic (schur a b c) xs
  back_substituted xs h =
      completed a b c (neg_ℚ (inv_ℚ a *ℚ dot b xs)) xs h
      ∙ by_ring (a ∷ inv_ℚ a ∷ dot b xs ∷ quadratic (schur a b c) xs ∷ []) (search reads depth 30) (search reads depth 30) tt

  pub schur_of_definite : IsDefinite (bordered a b c) → IsDefinite (schur a b c)
  schur_of_definite d = record {
    positive = λ xs e some.
        subst IsPositive (back_substituted xs (positive-not_zero (pivot_of_definite d)))
        (definite_at d (neg_ℚ (inv_ℚ a *ℚ dot b xs) ∷ xs) (joined_size (neg_ℚ (inv_ℚ a *ℚ dot b xs)) xs e) (λ z. some (all_zero xs z.1)));
  }

-- ---- each symmetric square matrix is bordered
first_column_is : (b : List ℚ) (rows : List (List ℚ)) → length b ≡ length rows → ((i : ℕ) → cell rows i 0 ≡ coordinate b i) → AllByRecursion (λ row. 0 < length row) rows → first_column b (map later_entries rows) ≡ rows
first_column_is [] [] e h some = refl
first_column_is [] (r ∷ rs) e h some = absurd (omega arith)
first_column_is (x ∷ xs) [] e h some = absurd (omega arith)
first_column_is (x ∷ xs) ([] ∷ rs) e h some = absurd (lt_irrefl 0 some.0)
first_column_is (x ∷ xs) ((y ∷ ys) ∷ rs) e h some = λ k. (sym (h 0) k ∷ ys) ∷ first_column_is xs rs (omega arith) (λ i. h (suc i)) some.1 k

pub bordered_form : (a : ℚ) (b : List ℚ) (rows : List (List ℚ)) → length b ≡ length rows → All (λ row. 0 < length row) rows → IsSymmetric ((a ∷ b) ∷ rows) → (a ∷ b) ∷ rows ≡ bordered a b (map later_entries rows)
bordered_form a b rows e some s =
    ap (λ rs. (a ∷ b) ∷ rs) (sym (first_column_is b rows e (λ i. s.mirrored (suc i) 0) (recursion_from_All (λ row. 0 < length row) rows some)))
