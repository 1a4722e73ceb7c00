-- A product of matrices, entry by entry in one list.
use Rattle.std.proofs.Common.{◌≡◌, ℕ, ◌+◌, ◌*◌, ◌<◌, List, [], ◌∷◌, ◌++◌, length, get_or, take, map, All, pos, refl, sym, ◌∙◌, ap, arith}
use Rattle.std.proofs.lemmas.List.{get_or-map, take_all, map_more, take_at, drop_at, append_assoc, append-nil, length-append, length-map}
use Rattle.std.proofs.lemmas.List.FromFn.{map-range_with_len_more}
use Rattle.std.proofs.lemmas.List.Elements.{All-head, All-tail}
use Rattle.mpc_exact.specs.Rational.{ℚ, int}
use Rattle.mpc_space.specs.Vector.{dot, column, listed, coordinate}
use Rattle.mpc_space.specs.Matrix.{RationalMatrix, height, IsRectangular, mat_mul}
use Rattle.mpc_space.proofs.Entries.{length-listed}
use Rattle.mpc_linear.specs.Grid.{rows_of, grid}
use Rattle.mpc_linear.specs.Product.{product_row}
use Rattle.mpc_linear.proofs.GridLemmas.{entry-grid, height-grid}

-- ---- rows one after another
abbrev pub joined : List (List ℚ) → List ℚ
joined [] = []
joined (row ∷ rows) = row ++ joined rows

pub joined-append : (rows : List (List ℚ)) (row : List ℚ) → joined (rows ++ (row ∷ [])) ≡ joined rows ++ row
joined-append [] row = append-nil row
joined-append (r ∷ rows) row = ap (λ xs. r ++ xs) (joined-append rows row) ∙ sym (append_assoc r (joined rows) row)

pub rows_of-joined : (w : ℕ) (rows : List (List ℚ)) → All (λ row. length row ≡ w) rows → rows_of (length rows) w (joined rows) ≡ rows
rows_of-joined w [] h = refl
rows_of-joined w (row ∷ rows) h =
    let e : length row ≡ w = All-head (λ row. length row ≡ w) row rows h in
    (λ i. take_at row (joined rows) w e i ∷ rows_of (length rows) w (drop_at row (joined rows) w e i))
    ∙ ap (λ rs. row ∷ rs) (rows_of-joined w rows (All-tail (λ row. length row ≡ w) row rows h))

pub length-joined : (w : ℕ) (rows : List (List ℚ)) → All (λ row. length row ≡ w) rows → length (joined rows) ≡ length rows * w
length-joined w [] h = omega arith
length-joined w (row ∷ rows) h =
    let e : length row ≡ w = All-head (λ row. length row ≡ w) row rows h in
    let r : length (joined rows) ≡ length rows * w = length-joined w rows (All-tail (λ row. length row ≡ w) row rows h) in
    length-append row (joined rows) ∙ (λ i. e i + r i) ∙ grind arith

-- ---- the rows of the product
abbrev pub product_rows : RationalMatrix → RationalMatrix → ℕ → List ℚ
product_rows a b i = joined (map (product_row b) (take i a.rows))

pub product_more : (a b : RationalMatrix) (i : ℕ) (row : List ℚ) → i < height a → row ≡ get_or a.rows i [] → product_rows a b i ++ product_row b row ≡ product_rows a b (i + 1)
product_more a b i row h e =
    ap (λ r. product_rows a b i ++ product_row b r) e
    ∙ sym (ap joined (map_more (product_row b) a.rows i [] h) ∙ joined-append (map (product_row b) (take i a.rows)) (product_row b (get_or a.rows i [])))

all_wide : (b : RationalMatrix) (rows : List (List ℚ)) → All (λ row. length row ≡ b.columns) (map (product_row b) rows)
all_wide b rows k d h =
    let e : length (map (product_row b) rows) ≡ length rows = length-map rows (product_row b) in
    let h' : k < length rows = omega arith in
    ap length (get_or-map (product_row b) rows k [] d h') ∙ length-listed b.columns (λ j. dot (get_or rows k []) (column b.rows j))

module _ (a b : RationalMatrix) where
  whole : product_rows a b (height a) ≡ joined (map (product_row b) a.rows)
  whole = ap (λ rows. joined (map (product_row b) rows)) (take_all (height a) a.rows (omega arith))

  pub product_length : (n : ℕ) → n ≡ height a → (xs : List ℚ) → xs ≡ product_rows a b n → length xs ≡ n * b.columns
  product_length n e xs h =
      ap length (h ∙ ap (product_rows a b) e ∙ whole) ∙ length-joined b.columns (map (product_row b) a.rows) (all_wide b a.rows)
      ∙ (λ i. (length-map a.rows (product_row b) ∙ sym e) i * b.columns)

  pub product_grid : (n w : ℕ) → n ≡ height a → w ≡ b.columns → (xs : List ℚ) → xs ≡ product_rows a b n → grid n w xs ≡ mat_mul a b
  unfolding grid
  product_grid n w e f xs h =
      (λ i. record { rows = rows_of (e i) (f i) ((h ∙ ap (product_rows a b) e ∙ whole) i); columns = f i })
      ∙ (λ i. record {
        rows = (ap (λ k. rows_of k b.columns (joined (map (product_row b) a.rows))) (sym (length-map a.rows (product_row b))) ∙ rows_of-joined b.columns (map (product_row b) a.rows) (all_wide b a.rows)) i;
        columns = b.columns;
      })

-- ---- a column of the stored matrix
pub column_entry : (n w : ℕ) (xs : List ℚ) (j k : ℕ) (d : ℚ) → k < n → j < w → get_or (column (grid n w xs).rows j) k d ≡ get_or xs (k * w + j) (int (pos 0))
column_entry n w xs j k d h l =
    let e : length (grid n w xs).rows ≡ n = height-grid n w xs in
    let h' : k < length (grid n w xs).rows = omega arith in
    get_or-map (λ row. coordinate row j) (grid n w xs).rows k [] d h' ∙ entry-grid n w xs k j h l

pub column_length : (n w : ℕ) (xs : List ℚ) (j : ℕ) → length (column (grid n w xs).rows j) ≡ n
column_length n w xs j = length-map (grid n w xs).rows (λ row. coordinate row j) ∙ height-grid n w xs

-- ---- the entries of one row, one by one
pub row_more : (b : RationalMatrix) (row before xs ys : List ℚ) (j : ℕ) (v : ℚ) → xs ≡ before ++ listed j (λ k. dot row (column b.rows k)) → ys ≡ xs ++ (v ∷ []) → v ≡ dot row (column b.rows j) → ys ≡ before ++ listed (j + 1) (λ k. dot row (column b.rows k))
row_more b row before xs ys j v e f g =
    f ∙ (λ i. e i ++ (g i ∷ [])) ∙ append_assoc before (listed j (λ k. dot row (column b.rows k))) (dot row (column b.rows j) ∷ [])
    ∙ ap (λ zs. before ++ zs) (sym (map-range_with_len_more (λ k. dot row (column b.rows k)) 0 j j (omega arith)))

-- a matrix that is seen as the grid, with its parts as the code passes them
module _ (n w : ℕ) (xs : List ℚ) (m : RationalMatrix) (view : grid n w xs ≡ m) (len : ℕ) (ys : List ℚ) (e : len ≡ height m) (f : ys ≡ xs) where
  pub stored : grid len w ys ≡ m
  stored = (λ i. grid ((e ∙ ap height (sym view) ∙ height-grid n w xs) i) w (f i)) ∙ view

  pub stored_column : (j : ℕ) → column (grid len w ys).rows j ≡ column m.rows j
  stored_column j = ap (λ g. column g.rows j) stored

  pub stored_length : length xs ≡ n * w → length ys ≡ len * w
  stored_length h = ap length f ∙ h ∙ (λ i. sym (e ∙ ap height (sym view) ∙ height-grid n w xs) i * w)

pub product_wide : (a b : RationalMatrix) → IsRectangular (mat_mul a b)
product_wide a b = all_wide b a.rows
