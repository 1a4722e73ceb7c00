-- Systems of linear rows, some of them strict, and the points that meet them.
use Rattle.std.specs.Prelude.{◌≡◌, ℕ, Bool, true, false, List, [], map, All, get_or, length, pos}
use Rattle.mpc_exact.specs.Rational.{ℚ, int, ◌+ℚ◌, ◌*ℚ◌, ◌≤ℚ◌, ◌<ℚ◌}
use Rattle.mpc_space.specs.Vector.{coordinate, dot}
use Rattle.mpc_rows.specs.declared.systems.Row.{Row}

-- rows in so many unknowns
pub record LinearSystem : Type 0 where
  pub width : ℕ
  pub rows : List Row

-- each row has one coefficient for each unknown
pub record HasWidth (width : ℕ) (rows : List Row) : Type 0 where
  pub each : All (λ r. length r.a ≡ width) rows

-- how many rows there are
abbrev pub height : LinearSystem → ℕ
height s = length s.rows

-- row i, counted from 0
abbrev pub no_row : Row
no_row = record { a = []; b = int (pos 0); strict = false }

abbrev pub row_at : LinearSystem → ℕ → Row
row_at s i = get_or s.rows i no_row

-- the coefficient of row i on unknown j, both counted from 0
unfoldable pub entry : LinearSystem → ℕ → ℕ → ℚ
entry s i j = coordinate (row_at s i).a j

-- ---- points
-- x < b where strict, else x ≤ b
abbrev pub IsWithin : Bool → ℚ → ℚ → Type 0
IsWithin true x b = x <ℚ b
IsWithin false x b = x ≤ℚ b

-- the point v meets the row
abbrev pub MeetsRow : List ℚ → Row → Type 0
MeetsRow v r = IsWithin r.strict (dot r.a v) r.b

-- the point v, one entry for each unknown, meets every row
pub record IsPoint (s : LinearSystem) (v : List ℚ) : Type 0 where
  pub size : length v ≡ s.width
  pub meets : All (MeetsRow v) s.rows

-- the point q + d r of pairs (q, r)
abbrev pub point_at : List (ℚ × ℚ) → ℚ → List ℚ
point_at p d = map (λ q. q.0 +ℚ d *ℚ q.1) p

-- the pairs (q, r), one for each unknown: q + d r is a point of the system at every small enough positive d
pub record IsPairPoint (s : LinearSystem) (p : List (ℚ × ℚ)) : Type 0 where
  pub size : length p ≡ s.width
  pub reach : ℚ
  pub some : int (pos 0) <ℚ reach
  pub meets : (d : ℚ) → int (pos 0) <ℚ d → d <ℚ reach → IsPoint s (point_at p d)
