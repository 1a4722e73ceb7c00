-- Where the dual active-set method (Goldfarb and Idnani 1983) stands, and how it moves. The rows of the program are counted from 1, and
-- places in lists from 0.
use Rattle.std.specs.Prelude.{ℕ, suc, ◌+◌, ◌-◌, ◌==◌, nat_lt, cond, List, [], ◌∷◌, length, map, get_or, pos, Option, Some, None}
use Rattle.std.specs.List.{range_with_len, insert, remove}
use Rattle.mpc_exact.specs.Rational.{ℚ, int, ◌+ℚ◌, neg_ℚ}
use Rattle.mpc_space.specs.Vector.{coordinate, cell, listed, vec_add, vec_scale, mat_vec}
use Rattle.mpc_space.specs.Matrix.{RationalMatrix, height, tabled, entry}
use Rattle.mpc_sets.specs.RowSet.{with_row, without_row}
use Rattle.mpc_rows.specs.declared.programs.Qp.{Qp}
use Rattle.mpc_online.specs.declared.Online.{Online}
use Rattle.mpc_online.specs.declared.Online.TheVariants.{Best}

-- The point; the rows that hold with equality, with a multiplier for each member; the row that is on its way to join them, with its
-- multiplier.
pub record Position : Type 0 where
  pub point : List ℚ
  pub set : List ℕ
  pub multipliers : List ℚ
  pub row : ℕ
  pub weight : ℚ

-- what follows a step: another position, or the answer
pub data Step : Type 0 where
  goes_to : Position → Step
  ends : Online → Step

-- ---- the equations: one column of right sides beside [[h, g_S'], [g_S, 0]]
abbrev pub right_matrix : Qp → List ℕ → (ℕ → ℚ) → RationalMatrix
right_matrix qp s f = tabled (height qp.h + length s) 1 (λ i j. f i)

-- -f c
abbrev pub opening_side : Qp → List ℚ → ℕ → ℚ
opening_side qp c i = neg_ℚ (coordinate (mat_vec qp.f.rows c) i)

-- -g_r, and 0 below it
abbrev pub step_side : Qp → ℕ → ℕ → ℚ
step_side qp r i = cond (nat_lt i (height qp.h)) (neg_ℚ (cell qp.g.rows (r - 1) i)) (int (pos 0))

-- the two parts of a solution: an entry for each unknown, and then one for each member
abbrev pub upper_part : Qp → RationalMatrix → List ℚ
upper_part qp x = listed (height qp.h) (λ i. entry x i 0)

abbrev pub lower_part : Qp → List ℕ → RationalMatrix → List ℚ
lower_part qp s x = listed (length s) (λ i. entry x (height qp.h + i) 0)

-- ---- the moves
-- s times the direction further
abbrev pub along : Position → List ℚ → List ℚ → ℚ → Position
along p d e s = record {
  point = vec_add p.point (vec_scale s d);
  set = p.set;
  multipliers = vec_add p.multipliers (vec_scale s e);
  row = p.row;
  weight = p.weight +ℚ s;
}

-- the member in place k gone
abbrev pub without_place : Position → ℕ → Position
without_place p k = record { point = p.point; set = without_row (get_or p.set k 0) p.set; multipliers = remove p.multipliers k; row = p.row; weight = p.weight }

-- where a row stands among the members: behind those below it
abbrev pub place_of : ℕ → List ℕ → ℕ
place_of r [] = 0
place_of r (j ∷ s) = cond (nat_lt j r) (suc (place_of r s)) 0

-- the row among the members
abbrev pub joined : Position → Position
joined p = record { point = p.point; set = with_row p.row p.set; multipliers = insert p.multipliers (place_of p.row p.set) p.weight; row = p.row; weight = p.weight }

-- on the way to row r
abbrev pub towards : Position → ℕ → Position
towards p r = record { point = p.point; set = p.set; multipliers = p.multipliers; row = r; weight = int (pos 0) }

-- where no row is left that the point doesn't meet, it is the answer
abbrev pub continued : Position → Option ℕ → Step
continued p None = ends (Best p.point)
continued p (Some r) = goes_to (towards p r)

-- the first point, without members
abbrev pub opened : List ℚ → Position
opened z = record { point = z; set = []; multipliers = []; row = 0; weight = int (pos 0) }

-- ---- the multipliers of the rows where the members and the row on its way refute them
-- that of row i among the members, 0 where it is none
abbrev pub member_multiplier : List ℕ → List ℚ → ℕ → ℚ
member_multiplier [] e i = int (pos 0)
member_multiplier (j ∷ s) [] i = int (pos 0)
member_multiplier (j ∷ s) (x ∷ e) i = cond (j == i) x (member_multiplier s e i)

abbrev pub row_multiplier : Position → List ℚ → ℕ → ℚ
row_multiplier p e i = cond (i == p.row) (int (pos 1)) (member_multiplier p.set e i)

abbrev pub row_multipliers : Qp → Position → List ℚ → List ℚ
row_multipliers qp p e = map (row_multiplier p e) (range_with_len 1 (height qp.g))
