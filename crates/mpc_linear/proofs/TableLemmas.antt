-- The table that the elimination starts with, and the solution that stands in it at the end.
use Rattle.std.proofs.Common.{◌≡◌, ℕ, ◌+◌, ◌-◌, ◌*◌, ◌<◌, ◌≤◌, List, [], ◌++◌, length, get_or, take, drop, map, All, pos, sym, ◌∙◌, ap, subst, arith, ⊎_elim, ltb}
use Rattle.std.specs.List.{range_with_len}
use Rattle.std.proofs.lemmas.Bool.{cond-true, cond-false, cases_lt, lt-ltb}
use Rattle.std.proofs.lemmas.Bool.Decides.{nat_tests}
use Rattle.std.proofs.lemmas.List.{append_assoc, length-append, get_or_append_left, get_or-append_right, get_or-take, get_or-drop, length-take-le, length-drop}
use Rattle.std.proofs.lemmas.List.FromFn.{map-range_with_len_more, length-map-range_with_len, get_or-map-range_with_len}
use Rattle.std.proofs.lemmas.List.Elements.{All-from_get_or}
use Rattle.mpc_exact.specs.Rational.{ℚ, int}
use Rattle.mpc_space.specs.Vector.{listed, coordinate, cell}
use Rattle.mpc_space.specs.Matrix.{RationalMatrix, height, IsRectangular, entry, tabled}
use Rattle.mpc_space.proofs.Entries.{same_entries, coordinate-listed, length-listed}
use Rattle.mpc_linear.specs.Grid.{rows_of, grid}
use Rattle.mpc_linear.specs.Elimination.{augmented}
use Rattle.mpc_linear.specs.Stored.{stored, SameFrom}
use Rattle.mpc_linear.proofs.GridLemmas.{entry-grid}
use Rattle.mpc_linear.proofs.ProductLemmas.{joined, joined-append, rows_of-joined, length-joined}

-- so many rows, one after another
abbrev pub joined_rows : (ℕ → List ℚ) → ℕ → List ℚ
joined_rows f n = joined (map f (range_with_len 0 n))

pub joined_more : (f : ℕ → List ℚ) (n : ℕ) (xs ys : List ℚ) → xs ≡ joined_rows f n → ys ≡ xs ++ f n → ys ≡ joined_rows f (n + 1)
joined_more f n xs ys e h =
    h ∙ ap (λ zs. zs ++ f n) e ∙ sym (ap joined (map-range_with_len_more f 0 n n (omega arith)) ∙ joined-append (map f (range_with_len 0 n)) (f n))

pub all_rows : (f : ℕ → List ℚ) (n w : ℕ) → ((i : ℕ) → i < n → length (f i) ≡ w) → All (λ row. length row ≡ w) (map f (range_with_len 0 n))
all_rows f n w h =
    All-from_get_or (λ row. length row ≡ w) (map f (range_with_len 0 n)) []
    (λ i l. let l' : i < n = subst (λ k. i < k) (length-map-range_with_len f 0 n) l in ap length (get_or-map-range_with_len f 0 n i i [] l' (omega arith)) ∙ h i l')

module _ (f : ℕ → List ℚ) (n w : ℕ) (wide : (i : ℕ) → i < n → length (f i) ≡ w) (xs : List ℚ) (e : xs ≡ joined_rows f n) where
  pub joined_length : length xs ≡ n * w
  joined_length = ap length e ∙ length-joined w (map f (range_with_len 0 n)) (all_rows f n w wide) ∙ ap (λ k. k * w) (length-map-range_with_len f 0 n)

  cut : rows_of n w xs ≡ map f (range_with_len 0 n)
  cut =
      ap (rows_of n w) e ∙ ap (λ k. rows_of k w (joined_rows f n)) (sym (length-map-range_with_len f 0 n))
      ∙ rows_of-joined w (map f (range_with_len 0 n)) (all_rows f n w wide)

  pub joined_entry : (i j : ℕ) → i < n → j < w → stored w xs i j ≡ coordinate (f i) j
  unfolding grid
  joined_entry i j hi hj =
      sym (entry-grid n w xs i j hi hj) ∙ ap (λ rows. cell rows i j) cut ∙ ap (λ row. coordinate row j) (get_or-map-range_with_len f 0 n i i [] hi (omega arith))

  pub joined_grid : grid n w xs ≡ record { rows = map f (range_with_len 0 n); columns = w }
  unfolding grid
  joined_grid = λ i. record { rows = cut i; columns = w }

-- ---- the table of m and its right sides
abbrev pub beside_row : RationalMatrix → RationalMatrix → ℕ → List ℚ
beside_row m rhs i = get_or m.rows i [] ++ get_or rhs.rows i []

pub beside_more : (m rhs : RationalMatrix) (i : ℕ) (xs ys zs a b : List ℚ) → xs ≡ joined_rows (beside_row m rhs) i → ys ≡ xs ++ a → zs ≡ ys ++ b → a ≡ get_or m.rows i [] → b ≡ get_or rhs.rows i [] → zs ≡ joined_rows (beside_row m rhs) (i + 1)
beside_more m rhs i xs ys zs a b e f g p q =
    joined_more (beside_row m rhs) i xs zs e (g ∙ (λ t. (f ∙ ap (λ u. xs ++ u) p) t ++ q t) ∙ append_assoc xs (get_or m.rows i []) (get_or rhs.rows i []))

module _ (m rhs : RationalMatrix) (mr : IsRectangular m) (rr : IsRectangular rhs) (rows : height rhs ≡ height m) where
  beside_length : (i : ℕ) → i < height m → length (beside_row m rhs i) ≡ m.columns + rhs.columns
  beside_length i h = length-append (get_or m.rows i []) (get_or rhs.rows i []) ∙ (λ t. mr i [] h t + rr i [] (subst (λ k. i < k) (sym rows) h) t)

  augmented-front : (i j : ℕ) → j < m.columns → augmented m rhs i j ≡ entry m i j
  unfolding augmented
  augmented-front i j h = cond-true (ltb j m.columns) (entry m i j) (entry rhs i (j - m.columns)) (lt-ltb j m.columns h)

  augmented-back : (i j : ℕ) → m.columns ≤ j → augmented m rhs i j ≡ entry rhs i (j - m.columns)
  unfolding augmented
  augmented-back i j h = cond-false (ltb j m.columns) (entry m i j) (entry rhs i (j - m.columns)) (grind (arith, nat_tests))

  pub table_length : (xs : List ℚ) (n : ℕ) → n ≡ height m → xs ≡ joined_rows (beside_row m rhs) n → length xs ≡ height m * (m.columns + rhs.columns)
  table_length xs n q e = joined_length (beside_row m rhs) (height m) (m.columns + rhs.columns) beside_length xs (e ∙ ap (joined_rows (beside_row m rhs)) q)

  pub table_same : (xs : List ℚ) (n : ℕ) → n ≡ height m → xs ≡ joined_rows (beside_row m rhs) n → SameFrom (height m) (m.columns + rhs.columns) 0 (stored (m.columns + rhs.columns) xs) (augmented m rhs)
  table_same xs n q e i j hi l hj =
      joined_entry (beside_row m rhs) (height m) (m.columns + rhs.columns) beside_length xs (e ∙ ap (joined_rows (beside_row m rhs)) q) i j hi hj
      ∙ ⊎_elim
      (λ h. get_or_append_left (get_or m.rows i []) (get_or rhs.rows i []) (int (pos 0)) j (subst (λ k. j < k) (sym (mr i [] hi)) h) ∙ sym (augmented-front i j h))
      (λ h. get_or-append_right (get_or m.rows i []) (get_or rhs.rows i []) m.columns j (int (pos 0)) (mr i [] hi) h ∙ sym (augmented-back i j h))
      (cases_lt j m.columns)

pub augmented_front : (m rhs : RationalMatrix) (i j : ℕ) → j < m.columns → augmented m rhs i j ≡ entry m i j
unfolding augmented
augmented_front m rhs i j h = cond-true (ltb j m.columns) (entry m i j) (entry rhs i (j - m.columns)) (lt-ltb j m.columns h)

pub augmented_back : (m rhs : RationalMatrix) (i j : ℕ) → augmented m rhs i (m.columns + j) ≡ entry rhs i j
unfolding augmented
augmented_back m rhs i j =
    let e : m.columns + j - m.columns ≡ j = omega arith in
    cond-false (ltb (m.columns + j) m.columns) (entry m i (m.columns + j)) (entry rhs i (m.columns + j - m.columns)) (grind (arith, nat_tests)) ∙ ap (λ k. entry rhs i k) e

-- ---- the solution in the table
abbrev pub end_row : ℕ → ℕ → List ℚ → ℕ → List ℚ
end_row n w xs i = listed w (λ j. stored (n + w) xs i (n + j))

module _ (n w : ℕ) (xs : List ℚ) (size : length xs ≡ n * (n + w)) where
  row_end : (i : ℕ) → i < n → i * (n + w) + n + w ≤ length xs
  row_end i h = grind arith

  pub end_row_is : (i : ℕ) → i < n → take w (drop (i * (n + w) + n) xs) ≡ end_row n w xs i
  end_row_is i h =
      let b = row_end i h in
      let l : length (drop (i * (n + w) + n) xs) ≡ length xs - (i * (n + w) + n) = length-drop (i * (n + w) + n) xs in
      let p : length (take w (drop (i * (n + w) + n) xs)) ≡ w = length-take-le w (drop (i * (n + w) + n) xs) (omega arith) in
      same_entries (take w (drop (i * (n + w) + n) xs)) (end_row n w xs i) (p ∙ sym (length-listed w (λ j. stored (n + w) xs i (n + j))))
      (λ j hj.
      let hj' : j < w = subst (λ k. j < k) p hj in
      get_or-take w (drop (i * (n + w) + n) xs) j (int (pos 0)) hj' ∙ get_or-drop (i * (n + w) + n) xs j (int (pos 0))
      ∙ ap (λ k. get_or xs k (int (pos 0))) (shift (i * (n + w)) n j) ∙ sym (coordinate-listed w (λ j. stored (n + w) xs i (n + j)) j hj'))
    where
      shift : (a b c : ℕ) → a + b + c ≡ a + (b + c)
      shift a b c = omega arith

  pub end_length : (ys : List ℚ) → ys ≡ joined_rows (end_row n w xs) n → length ys ≡ n * w
  end_length ys e = joined_length (end_row n w xs) n w (λ i h. length-listed w (λ j. stored (n + w) xs i (n + j))) ys e

  pub end_grid : (ys : List ℚ) → ys ≡ joined_rows (end_row n w xs) n → grid n w ys ≡ tabled n w (λ i j. stored (n + w) xs i (n + j))
  end_grid ys e = joined_grid (end_row n w xs) n w (λ i h. length-listed w (λ j. stored (n + w) xs i (n + j))) ys e
