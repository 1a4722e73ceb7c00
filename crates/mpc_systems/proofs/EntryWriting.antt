-- How loops write a matrix, entry by entry.
use Rattle.std.proofs.Common.{◌≡◌, ◌≢◌, ℕ, ◌+◌, ◌<◌, ◌≤◌, [], length, get_or, set, pos, sym, ◌∙◌, ap, subst, arith, ⊎_elim}
use Rattle.std.proofs.lemmas.Bool.{cases_eq}
use Rattle.std.proofs.lemmas.List.{length-set, get_or-set_same, get_or-set_other}
use Rattle.std.proofs.lemmas.List.Elements.{All-set}
use Rattle.mpc_exact.specs.Rational.{ℚ, int}
use Rattle.mpc_space.specs.Vector.{coordinate}
use Rattle.mpc_space.specs.Matrix.{RationalMatrix, height, IsRectangular, entry, tabled}
use Rattle.mpc_space.proofs.Matrix.{same_matrix, rectangular-tabled, height-tabled, entry-tabled}
use Rattle.mpc_linear.specs.Entries.{with_entry}

-- ---- one entry
module _ (m : RationalMatrix) (i j : ℕ) (v : ℚ) where
  with_entry-same : i < height m → j < m.columns → IsRectangular m → entry (with_entry m i j v) i j ≡ v
  with_entry-same a b r =
      ap (λ row. coordinate row j) (get_or-set_same m.rows i (set (get_or m.rows i []) j v) [] a)
      ∙ get_or-set_same (get_or m.rows i []) j v (int (pos 0)) (omega (arith, r i [] a))

  with_entry-row : (k : ℕ) → i < height m → k ≢ j → entry (with_entry m i j v) i k ≡ entry m i k
  with_entry-row k a other =
      ap (λ row. coordinate row k) (get_or-set_same m.rows i (set (get_or m.rows i []) j v) [] a)
      ∙ get_or-set_other (get_or m.rows i []) j k v (int (pos 0)) other

  with_entry-others : (r k : ℕ) → r ≢ i → entry (with_entry m i j v) r k ≡ entry m r k
  with_entry-others r k other = ap (λ row. coordinate row k) (get_or-set_other m.rows i r (set (get_or m.rows i []) j v) [] other)

  with_entry-rectangular : i < height m → IsRectangular m → IsRectangular (with_entry m i j v)
  with_entry-rectangular a r = All-set (λ row. length row ≡ m.columns) m.rows i (set (get_or m.rows i []) j v) (length-set (get_or m.rows i []) j v ∙ r i [] a) r

-- ---- all entries
module _ (rows columns : ℕ) (P : ℕ → ℕ → ℚ → Type 0) where
  -- the entries of the first rows, and the first ones of the next row, are as P says
  pub record IsWritten (m : RationalMatrix) (row column : ℕ) : Type 0 where
    pub height_is : height m ≡ rows
    pub columns_is : m.columns ≡ columns
    pub rectangular : IsRectangular m
    pub before : (i j : ℕ) → i < row → j < columns → P i j (entry m i j)
    pub here : (j : ℕ) → j < column → P row j (entry m row j)

  pub next_entry : (m new : RationalMatrix) (row column : ℕ) (v : ℚ) → new ≡ with_entry m row column v → row < rows → column < columns → P row column v → IsWritten m row column → IsWritten new row (column + 1)
  next_entry m new row column v e row_in column_in p w = subst (λ z. IsWritten z row (column + 1)) (sym e) record {
    height_is = length-set m.rows row (set (get_or m.rows row []) column v) ∙ w.height_is;
    columns_is = w.columns_is;
    rectangular = with_entry-rectangular m row column v inside w.rectangular;
    before = λ i j h l. subst (P i j) (sym (with_entry-others m row column v i j (λ q. omega arith))) (w.before i j h l);
    here = λ j h. ⊎_elim
        (λ q. subst (λ k. P row k (entry (with_entry m row column v) row k)) (sym q) (subst (P row column) (sym (with_entry-same m row column v inside (omega (arith, w.columns_is)) w.rectangular)) p))
        (λ q. subst (P row j) (sym (with_entry-row m row column v j inside q)) (w.here j (omega arith)))
        (cases_eq j column);
  }
    where
      inside : row < height m
      inside = omega (arith, w.height_is)

  pub next_row : (m : RationalMatrix) (row column : ℕ) → columns ≤ column → IsWritten m row column → IsWritten m (row + 1) 0
  next_row m row column h w = record {
    height_is = w.height_is;
    columns_is = w.columns_is;
    rectangular = w.rectangular;
    before = λ i j k l. ⊎_elim (λ q. subst (λ r. P r j (entry m r j)) (sym q) (w.here j (omega arith))) (λ q. w.before i j (omega arith) l) (cases_eq i row);
    here = λ j k. absurd (omega arith);
  }

  pub all_rows : (m : RationalMatrix) (row column : ℕ) (f : ℕ → ℕ → ℚ) → rows ≤ row → ((i j : ℕ) → i < rows → j < columns → (x : ℚ) → P i j x → x ≡ f i j) → IsWritten m row column → m ≡ tabled rows columns f
  all_rows m row column f h same w =
      same_matrix m (tabled rows columns f) w.rectangular (rectangular-tabled rows columns f) (w.height_is ∙ sym (height-tabled rows columns f)) w.columns_is
      (λ i j l n.
      let i_in : i < rows = omega (arith, w.height_is) in
      let j_in : j < columns = omega (arith, w.columns_is) in
      same i j i_in j_in (entry m i j) (w.before i j (omega arith) j_in) ∙ sym (entry-tabled rows columns f i j i_in j_in))
