-- How loops write a matrix, entry by entry and row by row.
use Rattle.std.proofs.Common.{◌≡◌, ◌≢◌, ℕ, ◌+◌, ◌<◌, ◌≤◌, [], length, get_or, set, pos, refl, sym, ◌∙◌, ap, subst, arith, ⊎_elim}
use Rattle.std.proofs.lemmas.Bool.{cases_eq}
use Rattle.std.proofs.lemmas.List.{length-set, get_or-set_same, get_or-set_other}
use Rattle.std.proofs.lemmas.List.Elements.{All-set}
use Rattle.mpc_exact.specs.Rational.{ℚ, int}
use Rattle.mpc_space.specs.Vector.{coordinate}
use Rattle.mpc_space.specs.Matrix.{RationalMatrix, height, IsRectangular, entry}
use Rattle.mpc_linear.specs.Entries.{with_entry}
use Rattle.mpc_bordered.specs.Filling.{FillsRow, FillsTable}

-- ---- one entry
module _ (m : RationalMatrix) (i j : ℕ) (v : ℚ) where
  with_entry-same : i < height m → j < m.columns → IsRectangular m → entry (with_entry m i j v) i j ≡ v
  with_entry-same a b r =
      ap (λ row. coordinate row j) (get_or-set_same m.rows i (set (get_or m.rows i []) j v) [] a)
      ∙ get_or-set_same (get_or m.rows i []) j v (int (pos 0)) (omega (arith, r i [] a))

  with_entry-row : (k : ℕ) → i < height m → k ≢ j → entry (with_entry m i j v) i k ≡ entry m i k
  with_entry-row k a other =
      ap (λ row. coordinate row k) (get_or-set_same m.rows i (set (get_or m.rows i []) j v) [] a)
      ∙ get_or-set_other (get_or m.rows i []) j k v (int (pos 0)) other

  with_entry-others : (r k : ℕ) → r ≢ i → entry (with_entry m i j v) r k ≡ entry m r k
  with_entry-others r k other = ap (λ row. coordinate row k) (get_or-set_other m.rows i r (set (get_or m.rows i []) j v) [] other)

  with_entry-rectangular : i < height m → IsRectangular m → IsRectangular (with_entry m i j v)
  with_entry-rectangular a r = All-set (λ row. length row ≡ m.columns) m.rows i (set (get_or m.rows i []) j v) (length-set (get_or m.rows i []) j v ∙ r i [] a) r

-- ---- one row
-- of the first k entries of row i holds P, and the other rows are as they were
pub record FillingRow (P : ℕ → ℚ → Type 0) (old m : RationalMatrix) (i k : ℕ) : Type 0 where
  pub height_is : height m ≡ height old
  pub columns_is : m.columns ≡ old.columns
  pub rectangular : IsRectangular m
  pub row : (j : ℕ) → j < k → P j (entry m i j)
  pub others : (r j : ℕ) → r ≢ i → entry m r j ≡ entry old r j

-- of the entries of the first k rows holds P
pub record FillingTable (P : ℕ → ℕ → ℚ → Type 0) (m : RationalMatrix) (rows columns k : ℕ) : Type 0 where
  pub height_is : height m ≡ rows
  pub columns_is : m.columns ≡ columns
  pub rectangular : IsRectangular m
  pub entries : (i j : ℕ) → i < k → j < columns → P i j (entry m i j)

module _ (P : ℕ → ℚ → Type 0) where
  pub filling_none : (old : RationalMatrix) (i : ℕ) → IsRectangular old → FillingRow P old old i 0
  filling_none old i s = record { height_is = refl; columns_is = refl; rectangular = s; row = λ j h. absurd (omega arith); others = λ r j h. refl }

  fills_entry : (old m : RationalMatrix) (i k : ℕ) (v : ℚ) → i < height old → k < old.columns → P k v → FillingRow P old m i k → FillingRow P old (with_entry m i k v) i (k + 1)
  fills_entry old m i k v l n f w = record {
    height_is = length-set m.rows i (set (get_or m.rows i []) k v) ∙ w.height_is;
    columns_is = w.columns_is;
    rectangular = with_entry-rectangular m i k v row_in w.rectangular;
    row = λ j h. ⊎_elim
        (λ q. subst (λ z. P z (entry (with_entry m i k v) i z)) (sym q) (subst (P k) (sym (with_entry-same m i k v row_in column_in w.rectangular)) f))
        (λ q. subst (P j) (sym (with_entry-row m i k v j row_in q)) (w.row j (omega arith)))
        (cases_eq j k);
    others = λ r j h. with_entry-others m i k v r j h ∙ w.others r j h;
  }
    where
      row_in : i < height m
      row_in = omega (arith, w.height_is)

      column_in : k < m.columns
      column_in = omega (arith, w.columns_is)

  pub filling_more : (old m new : RationalMatrix) (i k : ℕ) (v : ℚ) → new ≡ with_entry m i k v → i < height old → k < old.columns → P k v → FillingRow P old m i k → FillingRow P old new i (k + 1)
  filling_more old m new i k v a l n f w = subst (λ z. FillingRow P old z i (k + 1)) (sym a) (fills_entry old m i k v l n f w)

  pub filling_all : (old m : RationalMatrix) (i k : ℕ) → old.columns ≤ k → FillingRow P old m i k → FillsRow P old m i
  filling_all old m i k l w = record { height_is = w.height_is; columns_is = w.columns_is; rectangular = w.rectangular; row = λ j h. w.row j (omega arith); others = w.others }

-- ---- all rows
module _ (P : ℕ → ℕ → ℚ → Type 0) where
  pub rows_more : (m new : RationalMatrix) (rows columns k : ℕ) → FillsRow (P k) m new k → FillingTable P m rows columns k → FillingTable P new rows columns (k + 1)
  rows_more m new rows columns k n w = record {
    height_is = n.height_is ∙ w.height_is;
    columns_is = n.columns_is ∙ w.columns_is;
    rectangular = n.rectangular;
    entries = λ i j h l. ⊎_elim
        (λ q. subst (λ z. P z j (entry new z j)) (sym q) (n.row j (omega (arith, w.columns_is))))
        (λ q. subst (P i j) (sym (n.others i j q)) (w.entries i j (omega arith) l))
        (cases_eq i k);
  }

  pub rows_all : (m : RationalMatrix) (rows columns k : ℕ) → rows ≤ k → FillingTable P m rows columns k → FillsTable P rows columns m
  rows_all m rows columns k h w = record { shape = record { rows_are = w.height_is; columns_are = w.columns_is; rectangular = w.rectangular }; entries = λ i j l n. w.entries i j (omega arith) n }
