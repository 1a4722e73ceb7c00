-- The rows that are tightened so far, and one more.
use Rattle.std.proofs.Common.{◌≡◌, ℕ, ◌+◌, ◌-◌, ◌<◌, List, refl, sym, ◌∙◌, ap, subst, arith, ◌⊎◌, inl, inr, ⊎_elim, Some, slice_get}
use Rattle.std.proofs.lemmas.Bool.{cases_eq, cases_order}
use Rattle.mpc_exact.specs.Rational.{ℚ, ◌-ℚ◌}
use Rattle.mpc_space.specs.Matrix.{RationalMatrix, height, entry}
use Rattle.mpc_linear.specs.Shape.{HasShape}
use Rattle.mpc_linear.specs.Entries.{with_entry}
use Rattle.mpc_plant.specs.declared.lists.PlantRow.{PlantRow}
use Rattle.mpc_plant.specs.declared.plants.Plant.{Plant}
use Rattle.mpc_condense.specs.Stages.{IsRow}
use Rattle.mpc_condense.specs.Condensed.{stage_row, terminal_row}
use Rattle.mpc_condense.specs.Causes.{row_count}
use Rattle.mpc_tight.specs.Tightening.{tightening, RowFits, RowsFit, IsWideRow}
use Rattle.mpc_tight.specs.Tightened.{RowsTightened}
use Rattle.mpc_tight.proofs.RowPlaces.{row_unique, row_within}
use Rattle.mpc_tight.proofs.Written.{with_entry-same, with_entry-row, with_entry-others, with_entry-shape}

pub stage_place : (plant : Plant) (k r : ℕ) (row : PlantRow) → k < plant.horizon → slice_get plant.rows r ≡ Some row → IsRow plant (stage_row plant k r) k row
stage_place plant k r row l e = inl (r, l, e, refl)

pub terminal_place : (plant : Plant) (r : ℕ) (row : PlantRow) → slice_get plant.terminal r ≡ Some row → IsRow plant (terminal_row plant r) plant.horizon row
terminal_place plant r row e = inr (r, refl, e, refl)

-- no row is tightened yet
pub tightened_none : (plant : Plant) (noise : List ℚ) (old new : RationalMatrix) → new ≡ old → HasShape old (height old) old.columns → RowsTightened plant noise old new 0
tightened_none plant noise old new e s =
    subst (λ m. RowsTightened plant noise old m 0) (sym e)
    (record { shape = s; rows = λ i k row l is. absurd (omega arith); ahead = λ i l. refl; others = λ i j l. refl })

pub fit_none : (plant : Plant) (noise : List ℚ) (old : RationalMatrix) → RowsFit plant noise old 0
fit_none plant noise old i k row l is = absurd (omega arith)

module _ (plant : Plant) (noise : List ℚ) (old : RationalMatrix) (i k : ℕ) (row : PlantRow) (is : IsRow plant i k row) where
  abbrev written : RationalMatrix → RationalMatrix
  written m = with_entry m i 0 (entry old i 0 -ℚ tightening plant noise row.x k)

  pub tightened_more : (m new : RationalMatrix) (place j : ℕ) → place ≡ i → j ≡ i + 1 → i < height old → 0 < old.columns →
      new ≡ with_entry m place 0 (entry old place 0 -ℚ tightening plant noise row.x k) → RowsTightened plant noise old m i → RowsTightened plant noise old new j
  tightened_more m new place j at next inside wide e h =
      subst (λ z. RowsTightened plant noise old z j) (sym (e ∙ ap (λ p. with_entry m p 0 (entry old p 0 -ℚ tightening plant noise row.x k)) at))
      (subst (λ z. RowsTightened plant noise old (written m) z) (sym next) more)
    where
      in_m : i < height m
      in_m = omega (arith, h.shape.rows_are)

      more : RowsTightened plant noise old (written m) (i + 1)
      more = record {
        shape = with_entry-shape m i 0 (entry old i 0 -ℚ tightening plant noise row.x k) (height old) old.columns in_m h.shape;
        rows = λ q k' row' l is'. ⊎_elim
            (λ p. let u = row_unique plant i k k' row row' is (subst (λ z. IsRow plant z k' row') p is') in
            subst (λ z. entry (written m) z 0 ≡ entry old z 0 -ℚ tightening plant noise row'.x k') (sym p)
            (with_entry-same m i 0 (entry old i 0 -ℚ tightening plant noise row.x k) in_m (omega (arith, h.shape.columns_are)) h.shape.rectangular
            ∙ (λ t. entry old i 0 -ℚ tightening plant noise (u.1 t).x (u.0 t))))
            (λ p. with_entry-others m i 0 (entry old i 0 -ℚ tightening plant noise row.x k) q 0 p ∙ h.rows q k' row' (omega arith) is')
            (cases_eq q i);
        ahead = λ q l. with_entry-others m i 0 (entry old i 0 -ℚ tightening plant noise row.x k) q 0 (λ p. omega arith) ∙ h.ahead q (omega arith);
        others = λ q c l. ⊎_elim
            (λ p. subst (λ z. entry (written m) z c ≡ entry old z c) (sym p) (with_entry-row m i 0 (entry old i 0 -ℚ tightening plant noise row.x k) c in_m (λ z. omega arith) ∙ h.others i c l))
            (λ p. with_entry-others m i 0 (entry old i 0 -ℚ tightening plant noise row.x k) q c p ∙ h.others q c l)
            (cases_eq q i);
      }

  pub fit_more : (place j : ℕ) → place ≡ i → j ≡ i + 1 → RowFits plant noise (entry old place 0) row.x k → RowsFit plant noise old i → RowsFit plant noise old j
  fit_more place j at next f h q k' row' l is' = ⊎_elim
      (λ p. let u = row_unique plant i k k' row row' is (subst (λ z. IsRow plant z k' row') p is') in
      subst (λ z. RowFits plant noise (entry old z 0) row'.x k') (at ∙ sym p) (subst (λ z. RowFits plant noise (entry old place 0) row'.x z) u.0 (subst (λ r. RowFits plant noise (entry old place 0) r.x k) u.1 f)))
      (λ p. h q k' row' (omega arith) is')
      (cases_eq q i)

  pub wide_row : (place j : ℕ) → place ≡ i → j ≡ place + 1 → RowsFit plant noise old i → (RowFits plant noise (entry old place 0) row.x k → ⊥) → IsWideRow plant noise old j
  wide_row place j at next h f =
      let back : j - 1 ≡ i = omega arith in
      record {
        some = omega arith;
        before = subst (RowsFit plant noise old) (sym back) h;
        step = k;
        row = row;
        is_row = subst (λ z. IsRow plant z k row) (sym back) is;
        here = λ g. f (subst (λ z. RowFits plant noise (entry old z 0) row.x k) (back ∙ sym at) g);
      }

-- ---- one row at most is the first that is too wide
one_of : (k n : ℕ) → (k < n → ⊥) → (n < k → ⊥) → k ≡ n
one_of k n a b = by (cases_order k n)
  where
    by : (k ≡ n) ⊎ ((k < n) ⊎ (n < k)) → k ≡ n
    by (inl e) = e
    by (inr (inl h)) = absurd (a h)
    by (inr (inr h)) = absurd (b h)

module _ (plant : Plant) (noise : List ℚ) (w : RationalMatrix) where
  row_before : (i n : ℕ) → IsWideRow plant noise w i → IsWideRow plant noise w n → i < n → ⊥
  row_before i n v u l = v.here (u.before (i - 1) v.step v.row (omega (arith, l, v.some)) v.is_row)

  pub one_wide_row : (i n : ℕ) → IsWideRow plant noise w i → IsWideRow plant noise w n → i ≡ n
  one_wide_row i n v u = one_of i n (row_before i n v u) (row_before n i u v)

  pub no_wide_row : (i : ℕ) → RowsFit plant noise w (row_count plant) → IsWideRow plant noise w i → ⊥
  no_wide_row i fit v = v.here (fit (i - 1) v.step v.row (row_within plant (i - 1) v.step v.row v.is_row) v.is_row)
