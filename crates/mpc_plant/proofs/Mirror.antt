-- A square matrix in which no entry differs from its mirror image is symmetric.
use Rattle.std.proofs.Common.{◌≡◌, ℕ, zero, suc, ◌+◌, ◌-◌, ◌<◌, ◌≤◌, [], get_or, false, not, true≢false, None, pos, Ordering, Less, Equal, Greater, is_eq, int_cmp, ℤ, ◌⊎◌, inl, inr, ⊎_elim, refl, sym, ◌∙◌, ap, subst, arith}
use Rattle.std.proofs.lemmas.Int.{ints}
use Rattle.std.proofs.lemmas.List.{get_or_past}
use Rattle.mpc_exact.specs.Rational.{ℚ, int, cmp_ℚ}
use Rattle.mpc_exact.proofs.Rational.{same_ℚ}
use Rattle.mpc_space.specs.Vector.{cell}
use Rattle.mpc_space.specs.Matrix.{RationalMatrix}
use Rattle.mpc_plant.specs.Limits.{IsWeight}
use Rattle.mpc_linear.specs.Shape.{HasShape}
use Rattle.mpc_plant.specs.CheckedPlant.{differs, row_difference, difference_from}
use Rattle.mpc_plant.proofs.MatrixLemmas.{none_found, no_row_differs}

three : (m n : ℕ) → (m < n) ⊎ ((m ≡ n) ⊎ (n < m))
three zero zero = inr (inl refl)
three zero (suc n) = inl (omega arith)
three (suc m) zero = inr (inr (omega arith))
three (suc m) (suc n) = ⊎_elim (λ h. inl (omega arith)) (λ s. ⊎_elim (λ e. inr (inl (ap suc e))) (λ h. inr (inr (omega arith))) s) (three m n)

inside : (j size : ℕ) → (j < size) ⊎ (size ≤ j)
inside j size = ⊎_elim inl (λ s. inr (⊎_elim (λ e. omega arith) (λ h. omega arith) s)) (three j size)

equal_int : (u v : ℤ) → int_cmp u v ≡ Equal → u ≡ v
equal_int u v e = grind (arith, ints)

is_equal : (o : Ordering) → not (is_eq o) ≡ false → o ≡ Equal
is_equal Less e = absurd (true≢false e)
is_equal Equal e = refl
is_equal Greater e = absurd (true≢false e)

same_entry : (x y : ℚ) → not (is_eq (cmp_ℚ x y)) ≡ false → x ≡ y
same_entry x y e = same_ℚ x y (equal_int _ _ (is_equal (cmp_ℚ x y) e))

module _ (m : RationalMatrix) (size : ℕ) (shape : HasShape m size size) (none : difference_from m.rows size 0 size ≡ None) where
  above : (i j : ℕ) → i < j → j < size → cell m.rows i j ≡ cell m.rows j i
  above i j h k =
      let row : row_difference m.rows size (0 + i) ≡ None = no_row_differs m.rows size 0 size i none (omega arith) in
      let at : row_difference m.rows size i ≡ None = subst (λ r. row_difference m.rows size r ≡ None) (from_zero i) row in
      let hit : differs m.rows i ((i + 1) + (j - (i + 1))) ≡ false = none_found (differs m.rows i) (i + 1) (size - (i + 1)) (j - (i + 1)) at (omega arith) in
      same_entry (cell m.rows i j) (cell m.rows j i) (subst (λ n. differs m.rows i n ≡ false) (back i j h) hit)
    where
      from_zero : (i : ℕ) → 0 + i ≡ i
      from_zero i = omega arith

      back : (i j : ℕ) → i < j → (i + 1) + (j - (i + 1)) ≡ j
      back i j h = omega arith

  past_rows : (i j : ℕ) → size ≤ i → cell m.rows i j ≡ int (pos 0)
  past_rows i j h = ap (λ row. get_or row j (int (pos 0))) (get_or_past m.rows i [] (subst (λ n. n ≤ i) (sym shape.rows_are) h))

  past_columns : (i j : ℕ) → size ≤ j → cell m.rows i j ≡ int (pos 0)
  past_columns i j h = ⊎_elim (λ within. get_or_past (get_or m.rows i []) j (int (pos 0)) (subst (λ n. n ≤ j) (sym (shape.rectangular i [] (subst (λ n. i < n) (sym shape.rows_are) within) ∙ shape.columns_are)) h)) (λ past. past_rows i j past) (inside i size)

  mirrored : (i j : ℕ) → cell m.rows i j ≡ cell m.rows j i
  mirrored i j =
      ⊎_elim
      (λ h. ⊎_elim (λ k. ⊎_elim (λ l. above i j l k) (λ s. ⊎_elim (λ e. (λ x. cell m.rows (e x) (sym e x))) (λ l. sym (above j i l h)) s) (three i j)) (λ past. past_columns i j past ∙ sym (past_rows j i past)) (inside j size))
      (λ past. past_rows i j past ∙ sym (past_columns j i past)) (inside i size)

  pub weight_is : IsWeight m size
  weight_is = record { shape = shape; symmetric = record { mirrored = mirrored } }
