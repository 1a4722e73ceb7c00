-- The matrix of a line: its entries stand row by row, and no other matrix has that line.
use Rattle.std.proofs.Common.{◌≡◌, ℕ, zero, suc, ◌+◌, ◌*◌, ◌-◌, ◌<◌, List, [], ◌∷◌, ◌++◌, length, take, drop, get_or, set, All, pos, refl, sym, ◌∙◌, ap, subst, arith}
use Rattle.std.specs.List.{flat_map}
use Rattle.std.proofs.lemmas.List.{append-nil, take_all, drop_all, take_at, drop_at, take-append-drop, length-drop, length-append, length-replicate, nil_from_length}
use Rattle.std.proofs.lemmas.List.Elements.{All-nil, All-cons, All-head, All-tail, All-take, All-drop}
use Rattle.mpc_exact.specs.Rational.{ℚ, int}
use Rattle.mpc_frac.specs.Fits.{FitsFrac}
use Rattle.mpc_space.specs.Vector.{zeros}
use Rattle.mpc_space.specs.Matrix.{RationalMatrix, height}
use Rattle.mpc_linear.specs.Grid.{rows_of, grid}
use Rattle.mpc_linear.specs.Entries.{with_entry, zero_matrix}
use Rattle.mpc_linear.specs.Shape.{HasShape}
use Rattle.mpc_linear.specs.GridTheorems.{GridTheorems}
use Rattle.mpc_grammar.specs.PlantGrammar.{AllFit}
use Rattle.mpc_plant_lines.specs.PlantNumbers.{filled}

-- ---- a matrix is filled row by row
mixed-suc : (xs old : List ℚ) (j : ℕ) (d : ℚ) → j < length xs → length xs ≡ length old → set (take j xs ++ drop j old) j (get_or xs j d) ≡ take (suc j) xs ++ drop (suc j) old
mixed-suc [] old j d h same = absurd (omega arith)
mixed-suc (x ∷ xs) [] j d h same = absurd (omega arith)
mixed-suc (x ∷ xs) (y ∷ old) zero d h same = refl
mixed-suc (x ∷ xs) (y ∷ old) (suc j) d h same = ap (λ l. x ∷ l) (mixed-suc xs old j d (omega arith) (omega arith))

pub filled_all : (rows columns count : ℕ) (xs : List ℚ) → length xs ≡ rows * columns → count ≡ rows * columns → filled rows columns count xs ≡ grid rows columns xs
filled_all rows columns count xs h e =
    let z : length (zeros (rows * columns)) ≡ rows * columns = length-replicate (rows * columns) (int (pos 0)) in
    ap (grid rows columns) ((λ i. take_all count xs (omega arith) i ++ drop_all count (zeros (rows * columns)) (omega arith) i) ∙ append-nil xs)

-- ---- the rows of a list, and the list of the rows
abbrev pub joined : List (List ℚ) → List ℚ
joined rows = flat_map (λ (row : List ℚ). row) rows

joined-rows_of : (n w : ℕ) (xs : List ℚ) → length xs ≡ n * w → joined (rows_of n w xs) ≡ xs
joined-rows_of zero w xs h = sym (nil_from_length xs (omega arith))
joined-rows_of (suc n) w xs h =
    let rest : length xs - w ≡ n * w = grind arith in
    ap (λ ys. take w xs ++ ys) (joined-rows_of n w (drop w xs) (length-drop w xs ∙ rest)) ∙ take-append-drop w xs

rows_of-joined : (w : ℕ) (rows : List (List ℚ)) → All (λ row. length row ≡ w) rows → rows_of (length rows) w (joined rows) ≡ rows
rows_of-joined w [] h = refl
rows_of-joined w (row ∷ rows) h =
    let e = All-head (λ r. length r ≡ w) row rows h in
    λ i. take_at row (joined rows) w e i ∷ (ap (rows_of (length rows) w) (drop_at row (joined rows) w e) ∙ rows_of-joined w rows (All-tail (λ r. length r ≡ w) row rows h)) i

length-joined : (w : ℕ) (rows : List (List ℚ)) → All (λ row. length row ≡ w) rows → length (joined rows) ≡ length rows * w
length-joined w [] h = omega arith
length-joined w (row ∷ rows) h =
    let e = All-head (λ r. length r ≡ w) row rows h in
    let rest = length-joined w rows (All-tail (λ r. length r ≡ w) row rows h) in
    let both = length-append row (joined rows) in
    grind arith

rows_of-fit : (n w : ℕ) (xs : List ℚ) → AllFit xs → All AllFit (rows_of n w xs)
rows_of-fit zero w xs h = All-nil AllFit
rows_of-fit (suc n) w xs h = All-cons AllFit (take w xs) (rows_of n w (drop w xs)) (All-take FitsFrac w xs h) (rows_of-fit n w (drop w xs) (All-drop FitsFrac w xs h))

-- ---- the matrix of a list
pub joined-grid : (rows columns : ℕ) (xs : List ℚ) → length xs ≡ rows * columns → joined (grid rows columns xs).rows ≡ xs
unfolding grid
joined-grid rows columns xs h = joined-rows_of rows columns xs h

pub grid-fits : (rows columns : ℕ) (xs : List ℚ) → AllFit xs → All AllFit (grid rows columns xs).rows
unfolding grid
grid-fits rows columns xs h = rows_of-fit rows columns xs h

module _ (m : RationalMatrix) (rows columns : ℕ) (shape : HasShape m rows columns) where
  wide : All (λ row. length row ≡ columns) m.rows
  wide = subst (λ w. All (λ row. length row ≡ w) m.rows) shape.columns_are shape.rectangular

  pub entries_many : length (joined m.rows) ≡ rows * columns
  entries_many = length-joined columns m.rows wide ∙ ap (λ n. n * columns) shape.rows_are

  pub grid-joined : grid rows columns (joined m.rows) ≡ m
  unfolding grid
  grid-joined = λ i. record {
    rows = (ap (λ n. rows_of n columns (joined m.rows)) (sym shape.rows_are) ∙ rows_of-joined columns m.rows wide) i;
    columns = sym shape.columns_are i;
  }

-- ---- what the laws of stored matrices say of a list's matrix
module _ (grids : GridTheorems) where
  pub filled_none : (rows columns : ℕ) (xs : List ℚ) → zero_matrix rows columns ≡ filled rows columns 0 xs
  filled_none rows columns xs = sym (grids.zeros rows columns)

  pub filled_more : (rows columns i j : ℕ) (xs : List ℚ) → i < rows → j < columns → length xs ≡ rows * columns
      → with_entry (filled rows columns (i * columns + j) xs) i j (get_or xs (i * columns + j) (int (pos 0))) ≡ filled rows columns (i * columns + (j + 1)) xs
  filled_more rows columns i j xs h k e =
      let z : length (zeros (rows * columns)) ≡ rows * columns = length-replicate (rows * columns) (int (pos 0)) in
      let below : i * columns + j < rows * columns = grids.place rows columns i j h k in
      let next : suc (i * columns + j) ≡ i * columns + (j + 1) = omega arith in
      sym (grids.entry_set rows columns (take (i * columns + j) xs ++ drop (i * columns + j) (zeros (rows * columns))) i j (get_or xs (i * columns + j) (int (pos 0))) h k)
      ∙ ap (grid rows columns) (mixed-suc xs (zeros (rows * columns)) (i * columns + j) (int (pos 0)) (omega arith) (omega arith))
      ∙ ap (λ count. filled rows columns count xs) next

  pub grid-shape : (rows columns : ℕ) (xs : List ℚ) → length xs ≡ rows * columns → HasShape (grid rows columns xs) rows columns
  grid-shape rows columns xs h = record { rows_are = grids.rows rows columns xs; columns_are = grids.columns rows columns xs; rectangular = grids.rectangular rows columns xs h }

  -- a matrix that is partly filled has its shape
  pub filled_height : (m : RationalMatrix) (rows columns count : ℕ) (xs : List ℚ) → m ≡ filled rows columns count xs → height m ≡ rows
  filled_height m rows columns count xs e = ap height e ∙ grids.rows rows columns (take count xs ++ drop count (zeros (rows * columns)))

  pub filled_columns : (m : RationalMatrix) (rows columns count : ℕ) (xs : List ℚ) → m ≡ filled rows columns count xs → m.columns ≡ columns
  filled_columns m rows columns count xs e = ap (λ w. w.columns) e ∙ grids.columns rows columns (take count xs ++ drop count (zeros (rows * columns)))

  -- one entry more
  pub filled_next : (m next : RationalMatrix) (rows columns i j : ℕ) (xs : List ℚ) (v : ℚ) → i < rows → j < columns → length xs ≡ rows * columns → m ≡ filled rows columns (i * columns + j) xs → v ≡ get_or xs (i * columns + j) (int (pos 0))
      → next ≡ with_entry m i j v → next ≡ filled rows columns (i * columns + (j + 1)) xs
  filled_next m next rows columns i j xs v h k size so at e = e ∙ (λ t. with_entry (so t) i j (at t)) ∙ filled_more rows columns i j xs h k size
