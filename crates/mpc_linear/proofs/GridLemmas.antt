-- What a matrix reads as, from the list that stores it row by row.
use Rattle.std.proofs.Common.{◌≡◌, ℕ, zero, suc, ◌+◌, ◌-◌, ◌*◌, ◌<◌, ◌≤◌, List, [], ◌∷◌, length, take, drop, get_or, set, replicate, All, pos, refl, sym, ◌∙◌, ap, subst, arith, length-drop}
use Rattle.std.proofs.lemmas.List.{length-take-le, get_or-take, get_or-drop, drop-drop, take-set-le, drop-set-add, drop-set-lt, take-replicate, drop-replicate}
use Rattle.std.proofs.lemmas.List.Elements.{All-nil, All-cons}
use Rattle.mpc_exact.specs.Rational.{ℚ, int}
use Rattle.mpc_space.specs.Matrix.{RationalMatrix, height, IsRectangular, entry}
use Rattle.mpc_linear.specs.Grid.{rows_of, grid}
use Rattle.mpc_linear.specs.Entries.{with_entry, zero_matrix}

length-rows_of : (n w : ℕ) (xs : List ℚ) → length (rows_of n w xs) ≡ n
length-rows_of zero w xs = refl
length-rows_of (suc n) w xs = ap suc (length-rows_of n w (drop w xs))

rows_of-rectangular : (n w : ℕ) (xs : List ℚ) → length xs ≡ n * w → All (λ row. length row ≡ w) (rows_of n w xs)
rows_of-rectangular zero w xs h = All-nil (λ row. length row ≡ w)
rows_of-rectangular (suc n) w xs h =
    let enough : w ≤ length xs = grind arith in
    let rest : length xs - w ≡ n * w = grind arith in
    All-cons (λ row. length row ≡ w) (take w xs) (rows_of n w (drop w xs)) (length-take-le w xs enough) (rows_of-rectangular n w (drop w xs) (length-drop w xs ∙ rest))

rows_of-row : (n w : ℕ) (xs : List ℚ) (i : ℕ) → i < n → get_or (rows_of n w xs) i [] ≡ take w (drop (i * w) xs)
rows_of-row zero w xs i h = absurd (omega arith)
rows_of-row (suc n) w xs zero h = grind arith
rows_of-row (suc n) w xs (suc i) h =
    rows_of-row n w (drop w xs) i (omega arith) ∙ ap (take w) (drop-drop (i * w) w xs ∙ ap (λ k. drop k xs) (grind arith))

take-set-lt : (w : ℕ) (xs : List ℚ) (j : ℕ) (v : ℚ) → take w (set xs j v) ≡ set (take w xs) j v
take-set-lt zero xs j v = refl
take-set-lt (suc w) [] j v = refl
take-set-lt (suc w) (x ∷ xs) zero v = refl
take-set-lt (suc w) (x ∷ xs) (suc j) v = ap (λ ys. x ∷ ys) (take-set-lt w xs j v)

rows_of-set : (n w : ℕ) (xs : List ℚ) (i j : ℕ) (v : ℚ) → i < n → j < w → rows_of n w (set xs (i * w + j) v) ≡ set (rows_of n w xs) i (set (get_or (rows_of n w xs) i []) j v)
rows_of-set zero w xs i j v h k = absurd (omega arith)
rows_of-set (suc n) w xs zero j v h k =
    let e : zero * w + j ≡ j = grind arith in
    ap (λ p. rows_of (suc n) w (set xs p v)) e
    ∙ (λ m. take-set-lt w xs j v m ∷ rows_of n w (drop-set-lt w xs j v k m))
rows_of-set (suc n) w xs (suc i) j v h k =
    let e : suc i * w + j ≡ w + (i * w + j) = grind arith in
    ap (λ p. rows_of (suc n) w (set xs p v)) e
    ∙ (λ m. take-set-le w xs (w + (i * w + j)) v (omega arith) m ∷ rows_of n w (drop-set-add w xs (i * w + j) v m))
    ∙ ap (λ rows. take w xs ∷ rows) (rows_of-set n w (drop w xs) i j v (omega arith) k)

rows_of-replicate : (n w : ℕ) (v : ℚ) → rows_of n w (replicate (n * w) v) ≡ replicate n (replicate w v)
rows_of-replicate zero w v = refl
rows_of-replicate (suc n) w v =
    let e : suc n * w - w ≡ n * w = grind arith in
    let f : w ≤ suc n * w = grind arith in
    (λ m. take-replicate w (suc n * w) v f m ∷ rows_of n w ((drop-replicate w (suc n * w) v ∙ ap (λ k. replicate k v) e) m))
    ∙ ap (λ rows. replicate w v ∷ rows) (rows_of-replicate n w v)

-- ---- the matrix
pub height-grid : (n w : ℕ) (xs : List ℚ) → height (grid n w xs) ≡ n
unfolding grid
height-grid n w xs = length-rows_of n w xs

pub columns-grid : (n w : ℕ) (xs : List ℚ) → (grid n w xs).columns ≡ w
unfolding grid
columns-grid n w xs = refl

pub grid-rectangular : (n w : ℕ) (xs : List ℚ) → length xs ≡ n * w → IsRectangular (grid n w xs)
unfolding grid
grid-rectangular n w xs h = rows_of-rectangular n w xs h

pub row-grid : (n w : ℕ) (xs : List ℚ) (i : ℕ) → i < n → get_or (grid n w xs).rows i [] ≡ take w (drop (i * w) xs)
unfolding grid
row-grid n w xs i h = rows_of-row n w xs i h

pub entry-grid : (n w : ℕ) (xs : List ℚ) (i j : ℕ) → i < n → j < w → entry (grid n w xs) i j ≡ get_or xs (i * w + j) (int (pos 0))
entry-grid n w xs i j h k =
    ap (λ row. get_or row j (int (pos 0))) (row-grid n w xs i h) ∙ get_or-take w (drop (i * w) xs) j (int (pos 0)) k ∙ get_or-drop (i * w) xs j (int (pos 0))

pub grid-set : (n w : ℕ) (xs : List ℚ) (i j : ℕ) (v : ℚ) → i < n → j < w → grid n w (set xs (i * w + j) v) ≡ with_entry (grid n w xs) i j v
unfolding grid
grid-set n w xs i j v h k = λ m. record { rows = rows_of-set n w xs i j v h k m; columns = w }

pub grid-zeros : (n w : ℕ) → grid n w (replicate (n * w) (int (pos 0))) ≡ zero_matrix n w
unfolding grid
grid-zeros n w = λ m. record { rows = rows_of-replicate n w (int (pos 0)) m; columns = w }

-- where an entry stands
pub place-below : (n w i j : ℕ) → i < n → j < w → i * w + j < n * w
place-below n w i j h k = grind arith

-- a value that is seen as the grid
module _ (n w : ℕ) (xs : List ℚ) (m : RationalMatrix) (view : grid n w xs ≡ m) where
  pub height_is : n ≡ height m
  height_is = sym (height-grid n w xs) ∙ ap height view

  pub columns_is : w ≡ m.columns
  columns_is = sym (columns-grid n w xs) ∙ ap (λ g. g.columns) view

  pub rectangular_is : length xs ≡ n * w → IsRectangular m
  rectangular_is h = subst IsRectangular view (grid-rectangular n w xs h)

  pub row_is : (i : ℕ) → i < height m → take w (drop (i * w) xs) ≡ get_or m.rows i []
  row_is i h = sym (row-grid n w xs i (subst (λ k. i < k) (sym height_is) h)) ∙ ap (λ g. get_or g.rows i []) view

  pub entry_is : (i j : ℕ) → i < height m → j < m.columns → get_or xs (i * w + j) (int (pos 0)) ≡ entry m i j
  entry_is i j h k = sym (entry-grid n w xs i j (subst (λ k. i < k) (sym height_is) h) (subst (λ k. j < k) (sym columns_is) k)) ∙ ap (λ g. entry g i j) view

  pub set_is : (i j : ℕ) (v : ℚ) → i < height m → j < m.columns → grid n w (set xs (i * w + j) v) ≡ with_entry m i j v
  set_is i j v h k = grid-set n w xs i j v (subst (λ k. i < k) (sym height_is) h) (subst (λ k. j < k) (sym columns_is) k) ∙ ap (λ g. with_entry g i j v) view

  pub place_fits : (i j : ℕ) → length xs ≡ n * w → i < height m → j < m.columns → i * w + j < length xs
  place_fits i j e h k = subst (λ l. i * w + j < l) (sym e) (place-below n w i j (subst (λ k. i < k) (sym height_is) h) (subst (λ k. j < k) (sym columns_is) k))

  pub row_fits : (i : ℕ) → length xs ≡ n * w → i < height m → i * w + w ≤ length xs
  row_fits i e h = let b : i < n = subst (λ k. i < k) (sym height_is) h in grind arith
