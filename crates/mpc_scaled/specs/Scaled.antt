-- Systems of which each row is whole once it is multiplied by its scale.
use Rattle.std.specs.Prelude.{◌≡◌, ℕ, ◌+◌, ◌*◌, ◌<◌, ◌≤◌, ◌^◌, List, length, get_or, ℤ, pos, unsigned_abs}
use Rattle.mpc_exact.specs.Rational.{frac}
use Rattle.mpc_rows.specs.LinearSystem.{LinearSystem, row_at, height, entry}
use Rattle.mpc_rows.specs.Run.{count}

abbrev pub whole_at : List ℤ → ℕ → ℤ
whole_at v k = get_or v k (pos 0)

-- the whole number of row r and column c
abbrev pub whole_cell : ℕ → List ℤ → ℕ → ℕ → ℤ
whole_cell width v r c = whole_at v (r * width + c)

-- no number is greater in size
pub record IsSmall (most : ℕ) (v : List ℤ) : Type 0 where
  pub each : (k : ℕ) → unsigned_abs (whole_at v k) ≤ most

-- the scale of a variable
abbrev pub scale_at : List ℕ → ℕ → ℕ
scale_at k x = get_or k x 0

-- each variable has a scale, which is 1 for an unknown
pub record AreScales (s : LinearSystem) (k : List ℕ) : Type 0 where
  pub size : length k ≡ count s
  pub own : (j : ℕ) → j < s.width → scale_at k j ≡ 1
  pub some : (x : ℕ) → x < count s → 0 < scale_at k x
  pub small : (x : ℕ) → scale_at k x ≤ 2 ^ 40

-- the right sides are these whole numbers over the scales of the rows
pub record HasSides (s : LinearSystem) (k : List ℕ) (b : List ℤ) : Type 0 where
  pub sides : (i : ℕ) → i < height s → (row_at s i).b ≡ frac (whole_at b i) (scale_at k (s.width + i))

-- the right sides and the coefficients are such
pub record IsWholeSystem (s : LinearSystem) (k : List ℕ) (a b : List ℤ) : Type 0 where
  pub entries_size : length a ≡ height s * s.width
  pub sides_size : length b ≡ height s
  pub scales : AreScales s k
  pub entries : (i j : ℕ) → i < height s → j < s.width → entry s i j ≡ frac (whole_cell s.width a i j) (scale_at k (s.width + i))
  pub sides : HasSides s k b
