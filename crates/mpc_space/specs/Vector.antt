-- Vectors and matrices of fractions as lists, a matrix as the list of its rows. A vector stands for one with no end, whose entries past
-- the list are 0, so that lists of different lengths can be added and multiplied.
use Rattle.std.specs.Prelude.{◌≡◌, ℕ, List, [], ◌∷◌, length, map, get_or, replicate, pos, negsuc}
use Rattle.std.specs.List.{AllByRecursion, range_with_len}
use Rattle.mpc_exact.specs.Rational.{ℚ, int, ◌+ℚ◌, ◌*ℚ◌, ◌≤ℚ◌, IsNonneg}

-- ---- vectors
-- entry i, counted from 0
abbrev pub coordinate : List ℚ → ℕ → ℚ
coordinate xs i = get_or xs i (int (pos 0))

-- the vector of f 0, f 1, .., f (n - 1)
abbrev pub listed : ℕ → (ℕ → ℚ) → List ℚ
listed n f = map f (range_with_len 0 n)

abbrev pub zeros : ℕ → List ℚ
zeros n = replicate n (int (pos 0))

abbrev pub dot : List ℚ → List ℚ → ℚ
dot [] ys = int (pos 0)
dot (x ∷ xs) [] = int (pos 0)
dot (x ∷ xs) (y ∷ ys) = x *ℚ y +ℚ dot xs ys

abbrev pub vec_add : List ℚ → List ℚ → List ℚ
vec_add [] ys = ys
vec_add (x ∷ xs) [] = x ∷ xs
vec_add (x ∷ xs) (y ∷ ys) = (x +ℚ y) ∷ vec_add xs ys

abbrev pub vec_scale : ℚ → List ℚ → List ℚ
vec_scale c [] = []
vec_scale c (x ∷ xs) = (c *ℚ x) ∷ vec_scale c xs

abbrev pub vec_sub : List ℚ → List ℚ → List ℚ
vec_sub xs ys = vec_add xs (vec_scale (int (negsuc 0)) ys)

-- all entries are 0
abbrev pub IsZero : List ℚ → Type 0
IsZero xs = AllByRecursion (λ x. x ≡ int (pos 0)) xs

abbrev pub AllNonneg : List ℚ → Type 0
AllNonneg xs = AllByRecursion IsNonneg xs

-- two vectors of one length, each entry of the first at most that of the second
abbrev pub AllAtMost : List ℚ → List ℚ → Type 0
AllAtMost [] [] = Unit {0}
AllAtMost [] (y ∷ ys) = ⊥
AllAtMost (x ∷ xs) [] = ⊥
AllAtMost (x ∷ xs) (y ∷ ys) = (x ≤ℚ y) × AllAtMost xs ys

-- ---- matrices
-- the entry of row i and column j, counted from 0
abbrev pub cell : List (List ℚ) → ℕ → ℕ → ℚ
cell m i j = coordinate (get_or m i []) j

-- column j
abbrev pub column : List (List ℚ) → ℕ → List ℚ
column m j = map (λ row. coordinate row j) m

-- a matrix times a vector
abbrev pub mat_vec : List (List ℚ) → List ℚ → List ℚ
mat_vec [] xs = []
mat_vec (row ∷ rows) xs = dot row xs ∷ mat_vec rows xs

-- the rows, each times its entry of ys, summed: the transposed matrix times ys
abbrev pub vec_mat : List ℚ → List (List ℚ) → List ℚ
vec_mat [] rows = []
vec_mat (y ∷ ys) [] = []
vec_mat (y ∷ ys) (row ∷ rows) = vec_add (vec_scale y row) (vec_mat ys rows)

-- a column put before the columns of a matrix
abbrev pub first_column : List ℚ → List (List ℚ) → List (List ℚ)
first_column [] [] = []
first_column [] (row ∷ rows) = (int (pos 0) ∷ row) ∷ first_column [] rows
first_column (x ∷ xs) [] = (x ∷ []) ∷ first_column xs []
first_column (x ∷ xs) (row ∷ rows) = (x ∷ row) ∷ first_column xs rows

abbrev pub transpose : List (List ℚ) → List (List ℚ)
transpose [] = []
transpose (row ∷ rows) = first_column row (transpose rows)

pub record IsSymmetric (m : List (List ℚ)) : Type 0 where
  pub mirrored : (i j : ℕ) → cell m i j ≡ cell m j i

-- x' M x
abbrev pub quadratic : List (List ℚ) → List ℚ → ℚ
quadratic m xs = dot xs (mat_vec m xs)

abbrev pub mat_add : List (List ℚ) → List (List ℚ) → List (List ℚ)
mat_add [] ns = ns
mat_add (row ∷ rows) [] = row ∷ rows
mat_add (row ∷ rows) (other ∷ others) = vec_add row other ∷ mat_add rows others

-- the matrix x y', of rank 1
abbrev pub outer : List ℚ → List ℚ → List (List ℚ)
outer xs ys = map (λ x. vec_scale x ys) xs

-- the matrix [[a, b'], [b, c]] of a number, a vector and a matrix
abbrev pub bordered : ℚ → List ℚ → List (List ℚ) → List (List ℚ)
bordered a b c = (a ∷ b) ∷ first_column b c

-- a row without its first entry
abbrev pub later_entries : List ℚ → List ℚ
later_entries [] = []
later_entries (x ∷ xs) = xs

-- the only combination of the rows that is 0 has all its factors 0
pub record IsIndependent (rows : List (List ℚ)) : Type 0 where
  pub only_zero : (factors : List ℚ) → length factors ≡ length rows → IsZero (vec_mat factors rows) → IsZero factors
