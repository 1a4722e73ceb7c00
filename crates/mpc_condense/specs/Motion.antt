-- The stated run of condensing, which says when a number is too wide. Each state is a combination of columns, one for each extended count
-- and one for each entry of the moves, and the sums of the cost are made of these columns. The first column belongs to the count 1, so it
-- takes what doesn't depend on state and moves: the drift and the targets.
use Rattle.std.specs.Prelude.{ℕ, zero, suc, ◌+◌, ◌-◌, ◌*◌, ◌<◌, ◌≤◌, List, [], map, slice_index_or, if◌then◌else◌, nat_lt, nat_eq, Bool, ◌&&◌, nat_le, pos}
use Rattle.mpc_exact.specs.Rational.{ℚ, int, ◌+ℚ◌, neg_ℚ}
use Rattle.mpc_frac.specs.Fits.{FitsSum}
use Rattle.mpc_linear.specs.Dot.{DotFits}
use Rattle.mpc_space.specs.Vector.{coordinate, column, listed, zeros, dot, vec_add, vec_sub, mat_vec, quadratic}
use Rattle.mpc_space.specs.Matrix.{RationalMatrix, entry}
use Rattle.mpc_space.specs.Total.{unit}
use Rattle.mpc_plant.specs.declared.lists.PlantRow.{PlantRow}
use Rattle.mpc_plant.specs.declared.lists.Coordinate.{Coordinate}
use Rattle.mpc_plant.specs.declared.plants.Plant.{Plant}

-- the columns of the moves from step k on begin here
abbrev pub first_move : Plant → ℕ → ℕ
first_move plant k = plant.n + 1 + plant.p * k

abbrev pub lows : List Coordinate → List ℚ
lows grid = map (λ axis. axis.low) grid

abbrev pub steps : List Coordinate → List ℚ
steps grid = map (λ axis. axis.step) grid

-- the first state has the lows, and the steps on the diagonal behind them
abbrev pub first_entry : Plant → ℕ → ℕ → ℚ
first_entry plant j i = if nat_eq j 0 then coordinate (lows plant.grid) i else (if nat_eq j (i + 1) then coordinate (steps plant.grid) i else int (pos 0))

-- column j of the state at step k
unfoldable pub motion : Plant → ℕ → ℕ → List ℚ
motion plant zero j = listed plant.n (first_entry plant j)
motion plant (suc k) j =
    if nat_eq j 0 then vec_add (mat_vec plant.a.rows (motion plant k j)) plant.drift
    else (if nat_lt j (first_move plant k) then mat_vec plant.a.rows (motion plant k j)
    else (if nat_lt j (first_move plant (suc k)) then column plant.b.rows (j - first_move plant k) else zeros plant.n))

-- column j of the state's distance from its target
unfoldable pub distance : Plant → ℕ → ℕ → List ℚ
distance plant k j = if nat_eq j 0 then vec_sub (motion plant k j) plant.xgoal else motion plant k j

-- the weight of the state at step k
abbrev pub weight_at : Plant → ℕ → RationalMatrix
weight_at plant k = if nat_lt k plant.horizon then plant.q else plant.last

abbrev pub weighted : Plant → ℕ → ℕ → List ℚ
weighted plant k j = mat_vec (weight_at plant k).rows (distance plant k j)

-- what the state at step k adds for the columns j and l
abbrev pub gram : Plant → ℕ → ℕ → ℕ → ℚ
gram plant k j l = dot (distance plant k j) (weighted plant k l)

abbrev pub is_move : Plant → ℕ → ℕ → Bool
is_move plant k j = nat_le (first_move plant k) j && nat_lt j (first_move plant (suc k))

-- column j of the move at step k: a unit vector for each of its entries
unfoldable pub move_column : Plant → ℕ → ℕ → List ℚ
move_column plant k j = if is_move plant k j then listed plant.p (unit (j - first_move plant k)) else []

-- and of the move's distance from its target
unfoldable pub move_distance : Plant → ℕ → ℕ → List ℚ
move_distance plant k j = if nat_eq j 0 then vec_sub (move_column plant k j) plant.ugoal else move_column plant k j

-- what the move at step k adds
abbrev pub move_gram : Plant → ℕ → ℕ → ℕ → ℚ
move_gram plant k j l = dot (move_distance plant k j) (mat_vec plant.r.rows (move_distance plant k l))

-- the sum for the columns j and l over the steps below k
unfoldable pub kernel : Plant → ℕ → ℕ → ℕ → ℚ
kernel plant zero j l = int (pos 0)
kernel plant (suc k) j l = (kernel plant k j l +ℚ gram plant k j l) +ℚ move_gram plant k j l

-- and with the state at step k
abbrev pub kernel_with : Plant → ℕ → ℕ → ℕ → ℚ
kernel_with plant k j l = kernel plant k j l +ℚ gram plant k j l

-- ---- what must fit; columns of later moves are 0, and neither adding 0 nor multiplying by 0 is ever too wide
-- the step from the state at k to the next: A times the columns, and the first column's sum with the drift
pub record StateFits (plant : Plant) (k : ℕ) : Type 0 where
  pub dots : (j i : ℕ) → j < first_move plant k → i < plant.n → DotFits (slice_index_or plant.a.rows i []) (motion plant k j)
  pub drift : (i : ℕ) → i < plant.n → FitsSum (coordinate (mat_vec plant.a.rows (motion plant k 0)) i) (coordinate plant.drift i)

-- the first column of a row's right side starts from its max, the others from 0
abbrev pub bound_of : PlantRow → ℕ → ℚ
bound_of row j = if nat_eq j 0 then row.max else int (pos 0)

-- the pairs of columns that the program keeps
abbrev pub IsKept : Plant → ℕ → ℕ → Type 0
IsKept plant j l = (j ≤ plant.n → l ≤ plant.n)

-- the first column less the state's target
abbrev pub DistanceFits : Plant → ℕ → Type 0
DistanceFits plant k = (i : ℕ) → i < plant.n → FitsSum (coordinate (motion plant k 0) i) (neg_ℚ (coordinate plant.xgoal i))

-- the weight times the columns
pub record WeightsFit (plant : Plant) (k : ℕ) : Type 0 where
  pub dots : (j i : ℕ) → j < first_move plant k → i < plant.n → DotFits (slice_index_or (weight_at plant k).rows i []) (distance plant k j)

-- the sums for the pairs of columns
pub record SumsFit (plant : Plant) (k : ℕ) : Type 0 where
  pub dots : (j l : ℕ) → j < first_move plant k → l < first_move plant k → IsKept plant j l → DotFits (distance plant k j) (weighted plant k l)
  pub sums : (j l : ℕ) → j < first_move plant k → l < first_move plant k → IsKept plant j l → FitsSum (kernel plant k j l) (gram plant k j l)

-- R times the target of the moves, and the target's dot with that
pub record GoalFits (plant : Plant) : Type 0 where
  pub dots : (i : ℕ) → i < plant.p → DotFits (slice_index_or plant.r.rows i []) plant.ugoal
  pub square : DotFits plant.ugoal (mat_vec plant.r.rows plant.ugoal)

-- R added to h, R times the target taken away from f, and the target's dot with it added to y
pub record MovesFit (plant : Plant) (k : ℕ) : Type 0 where
  pub sums : (i l : ℕ) → i < plant.p → l < plant.p → FitsSum (kernel_with plant k (first_move plant k + i) (first_move plant k + l)) (entry plant.r i l)
  pub taken : (i : ℕ) → i < plant.p → FitsSum (kernel_with plant k (first_move plant k + i) 0) (neg_ℚ (coordinate (mat_vec plant.r.rows plant.ugoal) i))
  pub constant : FitsSum (kernel_with plant k 0 0) (quadratic plant.r.rows plant.ugoal)

-- the cost at step k
pub record CostFits (plant : Plant) (k : ℕ) : Type 0 where
  pub distance : DistanceFits plant k
  pub weights : WeightsFit plant k
  pub sums : SumsFit plant k
  pub goal : k < plant.horizon → GoalFits plant
  pub moves : k < plant.horizon → MovesFit plant k

-- a row at step k
pub record RowFits (plant : Plant) (k : ℕ) (row : PlantRow) : Type 0 where
  pub dots : (j : ℕ) → j < first_move plant k → DotFits (motion plant k j) row.x
  pub bounds : (j : ℕ) → j < plant.n + 1 → FitsSum (bound_of row j) (neg_ℚ (dot (motion plant k j) row.x))
