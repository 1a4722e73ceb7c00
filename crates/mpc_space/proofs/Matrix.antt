-- The laws of matrices against vectors: products, transposes, symmetric matrices.
use Rattle.std.proofs.lemmas.List.Elements.{All-from_recursion, recursion_from_All}
use Rattle.std.proofs.Common.{◌≡◌, ℕ, zero, suc, ◌<◌, ◌≤◌, List, [], ◌∷◌, length, map, get_or, pos, refl, sym, ◌∙◌, ap, arith, subst, All, zero-lt-suc}
use Rattle.std.proofs.lemmas.List.FromFn.{get_or-map-range_with_len, length-map-range_with_len}
use Rattle.std.proofs.lemmas.List.{get_or-map, length-map}
use Rattle.mpc_exact.specs.Rational.{ℚ, int, ◌+ℚ◌, ◌*ℚ◌, ◌≤ℚ◌}
use Rattle.mpc_exact.proofs.Rational.{*ℚ_comm}
use Rattle.mpc_exact.proofs.RationalRing.{reads, by_ring}
use Rattle.mpc_space.specs.Total.{unit}
use Rattle.std.specs.List.{range_with_len, AllByRecursion}
use Rattle.mpc_space.specs.Vector.{coordinate, cell, column, listed, dot, vec_add, vec_scale, mat_vec, vec_mat, first_column, transpose, IsSymmetric, mat_add, outer, AllNonneg, AllAtMost}
use Rattle.mpc_space.specs.Matrix.{tabled, identity, RationalMatrix, entry, mat_mul, IsRectangular, height}
use Rattle.mpc_space.proofs.Entries.{same_entries, dot-unit, dot_nil, dot_same, coordinate-add, coordinate-scale, coordinate-listed, length-listed}
use Rattle.mpc_space.proofs.Vector.{dot_comm, dot-add, dot-scale, dot-add_right, dot-scale_right, vec_add_comm, vec_add_assoc, vec_scale-add, vec_scale-scale, add-vec_scale, dot-at_most}

pub length-mat_vec : (m : List (List ℚ)) (xs : List ℚ) → length (mat_vec m xs) ≡ length m
length-mat_vec [] xs = refl
length-mat_vec (row ∷ rows) xs = ap suc (length-mat_vec rows xs)

-- entry i is the dot of row i
pub coordinate-mat_vec : (m : List (List ℚ)) (xs : List ℚ) (i : ℕ) → coordinate (mat_vec m xs) i ≡ dot (get_or m i []) xs
coordinate-mat_vec [] xs i = refl
coordinate-mat_vec (row ∷ rows) xs zero = refl
coordinate-mat_vec (row ∷ rows) xs (suc i) = coordinate-mat_vec rows xs i

pub mat_vec-add : (m : List (List ℚ)) (xs ys : List ℚ) → mat_vec m (vec_add xs ys) ≡ vec_add (mat_vec m xs) (mat_vec m ys)
mat_vec-add [] xs ys = refl
mat_vec-add (row ∷ rows) xs ys = λ i. dot-add_right xs ys row i ∷ mat_vec-add rows xs ys i

pub mat_vec-scale : (m : List (List ℚ)) (c : ℚ) (xs : List ℚ) → mat_vec m (vec_scale c xs) ≡ vec_scale c (mat_vec m xs)
mat_vec-scale [] c xs = refl
mat_vec-scale (row ∷ rows) c xs = λ i. dot-scale_right c xs row i ∷ mat_vec-scale rows c xs i

pub mat_vec-mat_add : (m n : List (List ℚ)) (xs : List ℚ) → mat_vec (mat_add m n) xs ≡ vec_add (mat_vec m xs) (mat_vec n xs)
mat_vec-mat_add [] n xs = refl
mat_vec-mat_add (row ∷ rows) [] xs = refl
mat_vec-mat_add (row ∷ rows) (other ∷ others) xs = λ i. dot-add row other xs i ∷ mat_vec-mat_add rows others xs i

-- (x y') z is (y·z) x
pub mat_vec-outer : (xs ys zs : List ℚ) → mat_vec (outer xs ys) zs ≡ vec_scale (dot ys zs) xs
mat_vec-outer [] ys zs = refl
mat_vec-outer (x ∷ xs) ys zs = λ i. (dot-scale x ys zs ∙ *ℚ_comm x (dot ys zs)) i ∷ mat_vec-outer xs ys zs i

-- ---- transposes
-- (M x) · y is x · (M' y), by the rows of M
pub dot-vec_mat : (m : List (List ℚ)) (xs ys : List ℚ) → dot (mat_vec m xs) ys ≡ dot xs (vec_mat ys m)
dot-vec_mat [] xs [] = sym (dot_nil xs)
dot-vec_mat [] xs (y ∷ ys) = sym (dot_nil xs)
dot-vec_mat (row ∷ rows) xs [] = sym (dot_nil xs)
dot-vec_mat (row ∷ rows) xs (y ∷ ys) =
    (λ i. *ℚ_comm (dot_comm row xs i) y i +ℚ dot-vec_mat rows xs ys i)
    ∙ sym (dot-add_right (vec_scale y row) (vec_mat ys rows) xs ∙ ap (λ u. u +ℚ dot xs (vec_mat ys rows)) (dot-scale_right y row xs))

-- and by its columns
pub dot-first_column : (row : List ℚ) (rows : List (List ℚ)) (xs : List ℚ) (y : ℚ) (ys : List ℚ) → dot xs (mat_vec (first_column row rows) (y ∷ ys)) ≡ dot row xs *ℚ y +ℚ dot xs (mat_vec rows ys)
dot-first_column [] [] [] y ys = by_ring (y ∷ []) (search reads depth 30) (search reads depth 30) tt
dot-first_column [] [] (x ∷ xs) y ys = by_ring (y ∷ []) (search reads depth 30) (search reads depth 30) tt
dot-first_column [] (row ∷ rows) [] y ys = by_ring (y ∷ []) (search reads depth 30) (search reads depth 30) tt
dot-first_column [] (row ∷ rows) (x ∷ xs) y ys =
    ap (λ u. x *ℚ (int (pos 0) *ℚ y +ℚ dot row ys) +ℚ u) (dot-first_column [] rows xs y ys)
    ∙ by_ring (x ∷ y ∷ dot row ys ∷ dot xs (mat_vec rows ys) ∷ []) (search reads depth 30) (search reads depth 30) tt
dot-first_column (z ∷ zs) [] [] y ys = by_ring (y ∷ []) (search reads depth 30) (search reads depth 30) tt
dot-first_column (z ∷ zs) [] (x ∷ xs) y ys =
    ap (λ u. x *ℚ (z *ℚ y +ℚ dot [] ys) +ℚ u) (dot-first_column zs [] xs y ys ∙ ap (λ u. dot zs xs *ℚ y +ℚ u) (dot_nil xs))
    ∙ by_ring (x ∷ y ∷ z ∷ dot zs xs ∷ []) (search reads depth 30) (search reads depth 30) tt
dot-first_column (z ∷ zs) (row ∷ rows) [] y ys = by_ring (y ∷ []) (search reads depth 30) (search reads depth 30) tt
dot-first_column (z ∷ zs) (row ∷ rows) (x ∷ xs) y ys =
    ap (λ u. x *ℚ (z *ℚ y +ℚ dot row ys) +ℚ u) (dot-first_column zs rows xs y ys)
    ∙ by_ring (x ∷ y ∷ z ∷ dot zs xs ∷ dot row ys ∷ dot xs (mat_vec rows ys) ∷ []) (search reads depth 30) (search reads depth 30) tt

pub mat_vec_nil : (m : List (List ℚ)) (xs : List ℚ) → dot xs (mat_vec m []) ≡ int (pos 0)
mat_vec_nil [] xs = dot_nil xs
mat_vec_nil (row ∷ rows) [] = refl
mat_vec_nil (row ∷ rows) (x ∷ xs) =
    (λ i. x *ℚ dot_nil row i +ℚ mat_vec_nil rows xs i) ∙ by_ring (x ∷ []) (search reads depth 30) (search reads depth 30) tt

pub dot-transpose : (m : List (List ℚ)) (xs ys : List ℚ) → dot (mat_vec m xs) ys ≡ dot xs (mat_vec (transpose m) ys)
dot-transpose [] xs ys = sym (dot_nil xs)
dot-transpose (row ∷ rows) xs [] = sym (mat_vec_nil (transpose (row ∷ rows)) xs)
dot-transpose (row ∷ rows) xs (y ∷ ys) = ap (λ u. dot row xs *ℚ y +ℚ u) (dot-transpose rows xs ys) ∙ sym (dot-first_column row (transpose rows) xs y ys)

cell-first_column_zero : (row : List ℚ) (rows : List (List ℚ)) (i : ℕ) → cell (first_column row rows) i 0 ≡ coordinate row i
cell-first_column_zero [] [] i = refl
cell-first_column_zero [] (r ∷ rows) zero = refl
cell-first_column_zero [] (r ∷ rows) (suc i) = cell-first_column_zero [] rows i
cell-first_column_zero (x ∷ xs) [] zero = refl
cell-first_column_zero (x ∷ xs) [] (suc i) = cell-first_column_zero xs [] i
cell-first_column_zero (x ∷ xs) (r ∷ rows) zero = refl
cell-first_column_zero (x ∷ xs) (r ∷ rows) (suc i) = cell-first_column_zero xs rows i

cell-first_column_suc : (row : List ℚ) (rows : List (List ℚ)) (i j : ℕ) → cell (first_column row rows) i (suc j) ≡ cell rows i j
cell-first_column_suc [] [] i j = refl
cell-first_column_suc [] (r ∷ rows) zero j = refl
cell-first_column_suc [] (r ∷ rows) (suc i) j = cell-first_column_suc [] rows i j
cell-first_column_suc (x ∷ xs) [] zero j = refl
cell-first_column_suc (x ∷ xs) [] (suc i) j = cell-first_column_suc xs [] i j
cell-first_column_suc (x ∷ xs) (r ∷ rows) zero j = refl
cell-first_column_suc (x ∷ xs) (r ∷ rows) (suc i) j = cell-first_column_suc xs rows i j

pub cell-first_column : (row : List ℚ) (rows : List (List ℚ)) (i : ℕ) → (cell (first_column row rows) i 0 ≡ coordinate row i) × ((j : ℕ) → cell (first_column row rows) i (suc j) ≡ cell rows i j)
cell-first_column row rows i = (cell-first_column_zero row rows i, cell-first_column_suc row rows i)

pub cell-transpose : (m : List (List ℚ)) (i j : ℕ) → cell (transpose m) i j ≡ cell m j i
cell-transpose [] i j = refl
cell-transpose (row ∷ rows) i zero = cell-first_column_zero row (transpose rows) i
cell-transpose (row ∷ rows) i (suc j) = cell-first_column_suc row (transpose rows) i j ∙ cell-transpose rows i j

-- ---- the product with a vector sees entries alone
pub row_same : (xs : List ℚ) (r s : List ℚ) → ((j : ℕ) → coordinate r j ≡ coordinate s j) → dot r xs ≡ dot s xs
row_same xs r s h = dot_comm r xs ∙ dot_same xs r s (λ j l. h j) ∙ dot_comm xs s

pub mat_vec-same : (m n : List (List ℚ)) (xs ys : List ℚ) → ((i j : ℕ) → cell m i j ≡ cell n i j) → dot xs (mat_vec m ys) ≡ dot xs (mat_vec n ys)
mat_vec-same m n xs ys h =
    dot_same xs (mat_vec m ys) (mat_vec n ys)
    (λ i l. coordinate-mat_vec m ys i ∙ row_same ys (get_or m i []) (get_or n i []) (h i) ∙ sym (coordinate-mat_vec n ys i))

pub symmetric_swap : (m : List (List ℚ)) → IsSymmetric m → (xs ys : List ℚ) → dot (mat_vec m xs) ys ≡ dot xs (mat_vec m ys)
symmetric_swap m s xs ys = dot-transpose m xs ys ∙ mat_vec-same (transpose m) m xs ys (λ i j. cell-transpose m i j ∙ s.mirrored j i)

-- ---- rows against a matrix
pub vec_mat-add : (xs ys : List ℚ) (m : List (List ℚ)) → vec_mat (vec_add xs ys) m ≡ vec_add (vec_mat xs m) (vec_mat ys m)
vec_mat-add [] ys m = refl
vec_mat-add (x ∷ xs) [] [] = refl
vec_mat-add (x ∷ xs) [] (row ∷ rows) = sym (nil_last (vec_add (vec_scale x row) (vec_mat xs rows)))
  where
    nil_last : (zs : List ℚ) → vec_add zs [] ≡ zs
    nil_last [] = refl
    nil_last (z ∷ zs) = refl
vec_mat-add (x ∷ xs) (y ∷ ys) [] = refl
vec_mat-add (x ∷ xs) (y ∷ ys) (row ∷ rows) =
    (λ i. vec_add (sym (add-vec_scale x y row) i) (vec_mat-add xs ys rows i))
    ∙ exchange (vec_scale x row) (vec_scale y row) (vec_mat xs rows) (vec_mat ys rows)
  where
    exchange : (a b c d : List ℚ) → vec_add (vec_add a b) (vec_add c d) ≡ vec_add (vec_add a c) (vec_add b d)
    exchange a b c d =
        vec_add_assoc a b (vec_add c d)
        ∙ ap (vec_add a) (sym (vec_add_assoc b c d) ∙ ap (λ z. vec_add z d) (vec_add_comm b c) ∙ vec_add_assoc c b d) ∙ sym (vec_add_assoc a c (vec_add b d))

pub vec_mat-scale : (c : ℚ) (xs : List ℚ) (m : List (List ℚ)) → vec_mat (vec_scale c xs) m ≡ vec_scale c (vec_mat xs m)
vec_mat-scale c [] m = refl
vec_mat-scale c (x ∷ xs) [] = refl
vec_mat-scale c (x ∷ xs) (row ∷ rows) =
    (λ i. vec_add (sym (vec_scale-scale c x row) i) (vec_mat-scale c xs rows i)) ∙ sym (vec_scale-add c (vec_scale x row) (vec_mat xs rows))

-- entry j is the dot with column j
pub coordinate-vec_mat : (xs : List ℚ) (m : List (List ℚ)) (j : ℕ) → coordinate (vec_mat xs m) j ≡ dot xs (column m j)
coordinate-vec_mat [] m j = refl
coordinate-vec_mat (x ∷ xs) [] j = refl
coordinate-vec_mat (x ∷ xs) (row ∷ rows) j =
    coordinate-add (vec_scale x row) (vec_mat xs rows) j ∙ λ i. coordinate-scale x row j i +ℚ coordinate-vec_mat xs rows j i

-- ---- products of matrices
-- entry (i, j) is the dot of row i and column j
pub entry-mat_mul : (a b : RationalMatrix) (i j : ℕ) → i < length a.rows → j < b.columns → entry (mat_mul a b) i j ≡ dot (get_or a.rows i []) (column b.rows j)
entry-mat_mul a b i j h k =
    ap (λ row. coordinate row j) (get_or-map (λ row. listed b.columns (λ j. dot row (column b.rows j))) a.rows i [] [] h)
    ∙ coordinate-listed b.columns (λ j. dot (get_or a.rows i []) (column b.rows j)) j k

row-mat_mul : (b : RationalMatrix) (row xs : List ℚ) → length xs ≤ b.columns → dot (listed b.columns (λ j. dot row (column b.rows j))) xs ≡ dot row (mat_vec b.rows xs)
row-mat_mul b row xs h =
    dot_comm (listed b.columns (λ j. dot row (column b.rows j))) xs
    ∙ dot_same xs (listed b.columns (λ j. dot row (column b.rows j))) (vec_mat row b.rows)
    (λ j l. coordinate-listed b.columns (λ j. dot row (column b.rows j)) j (omega arith) ∙ sym (coordinate-vec_mat row b.rows j))
    ∙ sym (dot-vec_mat b.rows xs row) ∙ dot_comm (mat_vec b.rows xs) row

mat_vec-rows : (b : RationalMatrix) (rows : List (List ℚ)) (xs : List ℚ) → length xs ≤ b.columns → mat_vec (map (λ row. listed b.columns (λ j. dot row (column b.rows j))) rows) xs ≡ mat_vec rows (mat_vec b.rows xs)
mat_vec-rows b [] xs h = refl
mat_vec-rows b (row ∷ rows) xs h = λ i. row-mat_mul b row xs h i ∷ mat_vec-rows b rows xs h i

-- the product of matrices is that of the maps that they are
pub mat_vec-mat_mul : (a b : RationalMatrix) (xs : List ℚ) → length xs ≤ b.columns → mat_vec (mat_mul a b).rows xs ≡ mat_vec a.rows (mat_vec b.rows xs)
mat_vec-mat_mul a b xs h = mat_vec-rows b a.rows xs h

pub length-column : (m : List (List ℚ)) (j : ℕ) → length (column m j) ≡ length m
length-column m j = length-map m (λ row. coordinate row j)

pub coordinate-column : (m : List (List ℚ)) (i j : ℕ) → coordinate (column m j) i ≡ cell m i j
coordinate-column [] i j = refl
coordinate-column (row ∷ rows) zero j = refl
coordinate-column (row ∷ rows) (suc i) j = coordinate-column rows i j

-- a product by rows of a table of entries
row-tabled : (columns rows : ℕ) (f : ℕ → ℕ → ℚ) (i : ℕ) → i < rows → get_or (map (λ i. listed columns (f i)) (range_with_len 0 rows)) i [] ≡ listed columns (f i)
row-tabled columns rows f i h = get_or-map-range_with_len (λ i. listed columns (f i)) 0 rows i i [] h (omega arith)

pub entry-tabled : (rows columns : ℕ) (f : ℕ → ℕ → ℚ) (i j : ℕ) → i < rows → j < columns → entry (tabled rows columns f) i j ≡ f i j
entry-tabled rows columns f i j h k = ap (λ row. coordinate row j) (row-tabled columns rows f i h) ∙ coordinate-listed columns (f i) j k

pub height-tabled : (rows columns : ℕ) (f : ℕ → ℕ → ℚ) → length (tabled rows columns f).rows ≡ rows
height-tabled rows columns f = length-map-range_with_len (λ i. listed columns (f i)) 0 rows

pub mat_vec-identity : (n : ℕ) (xs : List ℚ) → length xs ≡ n → mat_vec (identity n).rows xs ≡ xs
mat_vec-identity n xs e =
    same_entries (mat_vec (identity n).rows xs) xs (length-mat_vec (identity n).rows xs ∙ height-tabled n n unit ∙ sym e)
    (λ i l.
    let below : i < n = omega (arith, length-mat_vec (identity n).rows xs, height-tabled n n unit) in
    coordinate-mat_vec (identity n).rows xs i ∙ ap (λ row. dot row xs) (row-tabled n n unit i below) ∙ dot-unit n i xs below)

-- a combination of rows by multipliers that are not negative is bounded by that of their bounds
pub weighted_rows : (g : List (List ℚ)) (w l x : List ℚ) → AllNonneg l → AllAtMost (mat_vec g x) w → dot x (vec_mat l g) ≤ℚ dot l w
weighted_rows g w l x h k = subst (λ u. u ≤ℚ dot l w) (dot_comm l (mat_vec g x) ∙ dot-vec_mat g x l) (dot-at_most l (mat_vec g x) w h k)

-- ---- shapes, and matrices of the same entries
all_mapped : {A : Type 0} (P : List ℚ → Type 0) (f : A → List ℚ) → ((a : A) → P (f a)) → (xs : List A) → AllByRecursion P (map f xs)
all_mapped P f h [] = tt
all_mapped P f h (x ∷ xs) = (h x, all_mapped P f h xs)

pub rectangular-mat_mul : (a b : RationalMatrix) → IsRectangular (mat_mul a b)
rectangular-mat_mul a b =
    All-from_recursion (λ row. length row ≡ b.columns) (mat_mul a b).rows
    (all_mapped (λ row. length row ≡ b.columns) (λ row. listed b.columns (λ j. dot row (column b.rows j))) (λ row. length-listed b.columns (λ j. dot row (column b.rows j))) a.rows)

pub height-mat_mul : (a b : RationalMatrix) → height (mat_mul a b) ≡ height a
height-mat_mul a b = length-map a.rows (λ row. listed b.columns (λ j. dot row (column b.rows j)))

pub rectangular-tabled : (rows columns : ℕ) (f : ℕ → ℕ → ℚ) → IsRectangular (tabled rows columns f)
rectangular-tabled rows columns f =
    All-from_recursion (λ row. length row ≡ columns) (tabled rows columns f).rows
    (all_mapped (λ row. length row ≡ columns) (λ i. listed columns (f i)) (λ i. length-listed columns (f i)) (range_with_len 0 rows))

same_rows : (n : ℕ) (ms ns : List (List ℚ)) → length ms ≡ length ns → AllByRecursion (λ row. length row ≡ n) ms → AllByRecursion (λ row. length row ≡ n) ns → ((i j : ℕ) → i < length ms → j < n → cell ms i j ≡ cell ns i j) → ms ≡ ns
same_rows n [] [] e h k same = refl
same_rows n [] (r ∷ rs) e h k same = absurd (omega arith)
same_rows n (r ∷ rs) [] e h k same = absurd (omega arith)
same_rows n (r ∷ rs) (s ∷ ss) e h k same =
    let first : r ≡ s = same_entries r s (h.0 ∙ sym k.0) (λ j l. same 0 j (zero-lt-suc (length rs)) (subst (λ m. j < m) h.0 l)) in
    λ z. first z ∷ same_rows n rs ss (omega arith) h.1 k.1 (λ i j l m. same (suc i) j (omega arith) m) z

pub same_matrix : (m n : RationalMatrix) → IsRectangular m → IsRectangular n → height m ≡ height n → m.columns ≡ n.columns → ((i j : ℕ) → i < height m → j < m.columns → entry m i j ≡ entry n i j) → m ≡ n
same_matrix m n h k e f same =
    let rows : m.rows ≡ n.rows = same_rows m.columns m.rows n.rows e
    (recursion_from_All (λ row. length row ≡ m.columns) m.rows h) (recursion_from_All (λ row. length row ≡ m.columns) n.rows (subst (λ c. All (λ row. length row ≡ c) n.rows) (sym f) k)) same in
    λ i. record { rows = rows i; columns = f i }
