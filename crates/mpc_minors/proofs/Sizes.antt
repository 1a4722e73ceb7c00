-- How great the determinants of one to four rows of small numbers are, and their minors of one row less.
use Rattle.std.proofs.Common.{◌≡◌, ℕ, zero, suc, ◌+◌, ◌-◌, ◌*◌, ◌<◌, ◌≤◌, List, [], ◌∷◌, ℤ, unsigned_abs, sym, subst, arith, le_trans, le_refl}
use Rattle.mpc_exact.proofs.Ring.{Expr, var, con, ◌⊕◌, ◌⊗◌, ⊝◌, eval, get}
use Rattle.mpc_exact.proofs.IntRing.{int_ring}
use Rattle.mpc_runs.proofs.WholeSums.{product_at_most, abs-sum, abs-negated}
use Rattle.mpc_minors.specs.Sizes.{most_determinant}
use Rattle.mpc_minors.proofs.Minors.{cell, cofactor, determinant, table, cofactor_at, determinant_of}
use Rattle.mpc_minors.proofs.Padded.{padded, within, whole_unit}

abbrev size_of : ℕ → Expr → ℕ
size_of most (var i) = most
size_of most (con c) = unsigned_abs c
size_of most (a ⊕ b) = size_of most a + size_of most b
size_of most (a ⊗ b) = size_of most a * size_of most b
size_of most (⊝ a) = size_of most a

eval-size : (most : ℕ) (xs : List ℤ) → ((i : ℕ) → unsigned_abs (get int_ring xs i) ≤ most) → (e : Expr) → unsigned_abs (eval int_ring xs e) ≤ size_of most e
eval-size most xs h (var i) = h i
eval-size most xs h (con c) = le_refl (unsigned_abs c)
eval-size most xs h (a ⊕ b) =
    let l = eval-size most xs h a in
    let r = eval-size most xs h b in
    le_trans (abs-sum (eval int_ring xs a) (eval int_ring xs b)) (omega arith)
eval-size most xs h (a ⊗ b) = product_at_most (eval int_ring xs a) (eval int_ring xs b) (size_of most a) (size_of most b) (eval-size most xs h a) (eval-size most xs h b)
eval-size most xs h (⊝ a) = subst (λ n. n ≤ size_of most a) (sym (abs-negated (eval int_ring xs a))) (eval-size most xs h a)

abbrev AreSmall : ℕ → List ℤ → Type 0
AreSmall most [] = Unit
AreSmall most (x ∷ xs) = (unsigned_abs x ≤ most) × AreSmall most xs

get-small : (most : ℕ) (xs : List ℤ) → AreSmall most xs → (i : ℕ) → unsigned_abs (get int_ring xs i) ≤ most
get-small most [] h i = omega arith
get-small most (x ∷ xs) h zero = h.0
get-small most (x ∷ xs) h (suc i) = get-small most xs h.1 i

-- ---- what holds of each number of a few
below_two : (P : ℕ → Type 0) → P 0 → P 1 → (i : ℕ) → i < 2 → P i
below_two P a b zero h = a
below_two P a b (suc zero) h = b
below_two P a b (suc (suc i)) h = absurd (omega arith)

below_three : (P : ℕ → Type 0) → P 0 → P 1 → P 2 → (i : ℕ) → i < 3 → P i
below_three P a b c zero h = a
below_three P a b c (suc i) h = below_two (λ n. P (suc n)) b c i (omega arith)

below_four : (P : ℕ → Type 0) → P 0 → P 1 → P 2 → P 3 → (i : ℕ) → i < 4 → P i
below_four P a b c d zero h = a
below_four P a b c d (suc i) h = below_three (λ n. P (suc n)) b c d i (omega arith)

by_width : (P : ℕ → Type 0) → P 1 → P 2 → P 3 → P 4 → (w : ℕ) → 1 ≤ w → w ≤ 4 → P w
by_width P a b c d zero h l = absurd (omega arith)
by_width P a b c d (suc i) h l = below_four (λ n. P (suc n)) a b c d i (omega arith)

-- ---- the sizes
module _ (m : ℕ → ℕ → ℤ) (most : ℕ) (h : (i j : ℕ) → unsigned_abs (m i j) ≤ most) where
  table_small : (i : ℕ) → unsigned_abs (get int_ring (table m []) i) ≤ most
  table_small = get-small most (table m []) (h 0 0, (h 0 1, (h 0 2, (h 0 3, (h 1 0, (h 1 1, (h 1 2, (h 1 3, (h 2 0, (h 2 1, (h 2 2, (h 2 3, (h 3 0, (h 3 1, (h 3 2, (h 3 3, tt))))))))))))))))

  sized : (e : Expr) (n : ℕ) → size_of most e ≡ n → unsigned_abs (eval int_ring (table m []) e) ≤ n
  sized e n q = subst (λ u. unsigned_abs (eval int_ring (table m []) e) ≤ u) q (eval-size most (table m []) table_small e)

  -- the numbers as expressions
  abbrev padded_cell : ℕ → ℕ → ℕ → Expr
  padded_cell w i j = within w i j (cell 0 i j) (con (whole_unit i j))

  abbrev IsSmallCofactor : ℕ → ℕ → ℕ → Type 0
  IsSmallCofactor w i j = unsigned_abs (cofactor_at int_ring (padded w m) i j) ≤ most_determinant (w - 1) most

  abbrev SizeOfCofactor : ℕ → ℕ → ℕ → Type 0
  SizeOfCofactor w i j = size_of most (cofactor (padded_cell w) i j) ≡ most_determinant (w - 1) most

  cofactors_one : (i j : ℕ) → i < 1 → j < 1 → IsSmallCofactor 1 i j
  cofactors_one zero zero p q = sized (cofactor (padded_cell 1) 0 0) 1 (omega arith)
  cofactors_one zero (suc j) p q = absurd (omega arith)
  cofactors_one (suc i) j p q = absurd (omega arith)

  cofactors_two : (i j : ℕ) → i < 2 → j < 2 → IsSmallCofactor 2 i j
  cofactors_two i j p q =
      below_two (λ n. IsSmallCofactor 2 n j)
      (below_two (IsSmallCofactor 2 0) (sized (cofactor (padded_cell 2) 0 0) (most_determinant 1 most) (omega arith)) (sized (cofactor (padded_cell 2) 0 1) (most_determinant 1 most) (omega arith)) j q)
      (below_two (IsSmallCofactor 2 1) (sized (cofactor (padded_cell 2) 1 0) (most_determinant 1 most) (omega arith)) (sized (cofactor (padded_cell 2) 1 1) (most_determinant 1 most) (omega arith)) j q) i p

  -- the minors of three rows
  small_three : (i j : ℕ) → size_of most (cofactor (padded_cell 3) i j) ≡ most_determinant 2 most → unsigned_abs (eval int_ring (table m []) (cofactor (padded_cell 3) i j)) ≤ most_determinant 2 most
  small_three i j q = sized (cofactor (padded_cell 3) i j) (most_determinant 2 most) q

  cofactors_three : (i j : ℕ) → i < 3 → j < 3 → IsSmallCofactor 3 i j
  cofactors_three i j p q =
      below_three (λ n. IsSmallCofactor 3 n j)
      (below_three (IsSmallCofactor 3 0) (small_three 0 0 (omega arith)) (small_three 0 1 (omega arith)) (small_three 0 2 (omega arith)) j q)
      (below_three (IsSmallCofactor 3 1) (small_three 1 0 (omega arith)) (small_three 1 1 (omega arith)) (small_three 1 2 (omega arith)) j q)
      (below_three (IsSmallCofactor 3 2) (small_three 2 0 (omega arith)) (small_three 2 1 (omega arith)) (small_three 2 2 (omega arith)) j q) i p

  small_four : (i j : ℕ) → size_of most (cofactor (cell 0) i j) ≡ most_determinant 3 most → unsigned_abs (eval int_ring (table m []) (cofactor (cell 0) i j)) ≤ most_determinant 3 most
  small_four i j q = sized (cofactor (cell 0) i j) (most_determinant 3 most) q

  cofactors_four : (i j : ℕ) → i < 4 → j < 4 → IsSmallCofactor 4 i j
  cofactors_four i j p q =
      below_four (λ n. IsSmallCofactor 4 n j)
      (below_four (IsSmallCofactor 4 0) (small_four 0 0 (omega arith)) (small_four 0 1 (omega arith)) (small_four 0 2 (omega arith)) (small_four 0 3 (omega arith)) j q)
      (below_four (IsSmallCofactor 4 1) (small_four 1 0 (omega arith)) (small_four 1 1 (omega arith)) (small_four 1 2 (omega arith)) (small_four 1 3 (omega arith)) j q)
      (below_four (IsSmallCofactor 4 2) (small_four 2 0 (omega arith)) (small_four 2 1 (omega arith)) (small_four 2 2 (omega arith)) (small_four 2 3 (omega arith)) j q)
      (below_four (IsSmallCofactor 4 3) (small_four 3 0 (omega arith)) (small_four 3 1 (omega arith)) (small_four 3 2 (omega arith)) (small_four 3 3 (omega arith)) j q) i p

  pub cofactor-size : (w : ℕ) → 1 ≤ w → w ≤ 4 → (i j : ℕ) → i < w → j < w → unsigned_abs (cofactor_at int_ring (padded w m) i j) ≤ most_determinant (w - 1) most
  cofactor-size = by_width (λ w. (i j : ℕ) → i < w → j < w → IsSmallCofactor w i j) cofactors_one cofactors_two cofactors_three cofactors_four

  abbrev IsSmallDeterminant : ℕ → Type 0
  IsSmallDeterminant w = unsigned_abs (determinant_of int_ring (padded w m)) ≤ most_determinant w most

  pub determinant-size : (w : ℕ) → 1 ≤ w → w ≤ 4 → unsigned_abs (determinant_of int_ring (padded w m)) ≤ most_determinant w most
  determinant-size =
      by_width IsSmallDeterminant
      (sized (determinant (padded_cell 1)) (most_determinant 1 most) (omega arith))
      (sized (determinant (padded_cell 2)) (most_determinant 2 most) (omega arith))
      (sized (determinant (padded_cell 3)) (most_determinant 3 most) (omega arith))
      (sized (determinant (cell 0)) (most_determinant 4 most) (omega arith))
