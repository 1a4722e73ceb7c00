-- A square matrix is symmetric where each row is the column of its number, as far as the diagonal.
use Rattle.std.proofs.Common.{◌≡◌, ℕ, zero, suc, ◌<◌, ◌≤◌, [], get_or, pos, Ordering, Equal, ◌⊎◌, inl, inr, ⊎_elim, refl, sym, ◌∙◌, ap, subst, arith}
use Rattle.std.proofs.lemmas.Cmp.{int_ranked}
use Rattle.std.proofs.lemmas.List.{get_or_past}
use Rattle.mpc_exact.specs.Rational.{ℚ, int, cmp_ℚ}
use Rattle.mpc_exact.proofs.Rational.{same_ℚ}
use Rattle.mpc_space.specs.Vector.{cell, IsSymmetric}
use Rattle.mpc_space.specs.Matrix.{RationalMatrix}
use Rattle.mpc_linear.specs.Shape.{HasShape}
use Rattle.mpc_plant_lines.specs.PlantNumbers.{IsMirroredRow}

pub same_number : (x y : ℚ) (o : Ordering) → o ≡ cmp_ℚ x y → o ≡ Equal → x ≡ y
same_number x y o e is = same_ℚ x y (int_ranked _ _ Equal (sym is ∙ e))

three : (m n : ℕ) → (m < n) ⊎ ((m ≡ n) ⊎ (n < m))
three zero zero = inr (inl refl)
three zero (suc n) = inl (omega arith)
three (suc m) zero = inr (inr (omega arith))
three (suc m) (suc n) = ⊎_elim (λ h. inl (omega arith)) (λ s. ⊎_elim (λ e. inr (inl (ap suc e))) (λ h. inr (inr (omega arith))) s) (three m n)

inside : (j size : ℕ) → (j < size) ⊎ (size ≤ j)
inside j size = ⊎_elim inl (λ s. inr (⊎_elim (λ e. omega arith) (λ h. omega arith) s)) (three j size)

module _ (m : RationalMatrix) (size : ℕ) (shape : HasShape m size size) (rows : (i : ℕ) → i < size → IsMirroredRow m i) where
  past_rows : (i j : ℕ) → size ≤ i → cell m.rows i j ≡ int (pos 0)
  past_rows i j h = ap (λ row. get_or row j (int (pos 0))) (get_or_past m.rows i [] (subst (λ n. n ≤ i) (sym shape.rows_are) h))

  past_columns : (i j : ℕ) → size ≤ j → cell m.rows i j ≡ int (pos 0)
  past_columns i j h = ⊎_elim (λ within. get_or_past (get_or m.rows i []) j (int (pos 0)) (subst (λ n. n ≤ j) (sym (shape.rectangular i [] (subst (λ n. i < n) (sym shape.rows_are) within) ∙ shape.columns_are)) h)) (λ past. past_rows i j past) (inside i size)

  mirrored : (i j : ℕ) → cell m.rows i j ≡ cell m.rows j i
  mirrored i j =
      ⊎_elim
      (λ h. ⊎_elim (λ k. ⊎_elim (λ l. sym ((rows j k).mirrored i l)) (λ s. ⊎_elim (λ e. (λ x. cell m.rows (e x) (sym e x))) (λ l. (rows i h).mirrored j l) s) (three i j)) (λ past. past_columns i j past ∙ sym (past_rows j i past)) (inside j size))
      (λ past. past_rows i j past ∙ sym (past_columns j i past)) (inside i size)

  pub symmetric_is : IsSymmetric m.rows
  symmetric_is = record { mirrored = mirrored }
