-- The definitions at numbers: the scalar plant x[k+1] = x[k] + u[k] + 1 of one step with unit weights, whose states are -4, -3, .., 4, and
-- which is to have the state 2 and the move 3.
use Rattle.std.proofs.Common.{◌≡◌, ℤ, [], ◌∷◌, pos, negsuc, refl}
use Rattle.mpc_exact.specs.Gcd.{gcd, gcd_within}
use Rattle.mpc_exact.specs.Rational.{int, frac, ◌+ℚ◌, ◌*ℚ◌}
use Rattle.mpc_space.specs.Matrix.{RationalMatrix}
use Rattle.mpc_space.specs.Total.{total}
use Rattle.mpc_plant.specs.declared.lists.Coordinate.{Coordinate}
use Rattle.mpc_plant.specs.declared.plants.Plant.{Plant}
use Rattle.mpc_plant.specs.Limits.{IsPlant}
use Rattle.mpc_plant.specs.Trajectory.{state_of, state_at, cost}

-- the matrix of one entry
abbrev scalar : ℤ → RationalMatrix
scalar z = record { rows = (int z ∷ []) ∷ []; columns = 1 }

abbrev axis : Coordinate
axis = record { low = int (negsuc 3); step = int (pos 1); count = 8 }

abbrev scalar_one : (IsPlant 1 1 1 (scalar (pos 1)) (scalar (pos 1)) (scalar (pos 1)) (scalar (pos 1)) (scalar (pos 1)) (int (pos 1) ∷ []) (int (pos 2) ∷ []) (int (pos 3) ∷ []) [] [] (axis ∷ [])) → Plant
scalar_one h = record {
  n = 1;
  p = 1;
  horizon = 1;
  a = scalar (pos 1);
  b = scalar (pos 1);
  q = scalar (pos 1);
  r = scalar (pos 1);
  last = scalar (pos 1);
  drift = int (pos 1) ∷ [];
  xgoal = int (pos 2) ∷ [];
  ugoal = int (pos 3) ∷ [];
  rows = [];
  terminal = [];
  grid = axis ∷ [];
  is_plant = h;
}

module _ (h : IsPlant 1 1 1 (scalar (pos 1)) (scalar (pos 1)) (scalar (pos 1)) (scalar (pos 1)) (scalar (pos 1)) (int (pos 1) ∷ []) (int (pos 2) ∷ []) (int (pos 3) ∷ []) [] [] (axis ∷ [])) where
  -- at the count 0 the state is -4, the move 2 leads to -1 and costs 36 + 1 + 9
  state_is : state_of (scalar_one h) (int (pos 0) ∷ []) ≡ int (negsuc 3) ∷ []
  unfolding frac gcd gcd_within ◌+ℚ◌ ◌*ℚ◌
  state_is = refl

  next_is : state_at (scalar_one h) (int (pos 0) ∷ []) ((int (pos 2) ∷ []) ∷ []) 1 ≡ int (negsuc 0) ∷ []
  unfolding frac gcd gcd_within ◌+ℚ◌ ◌*ℚ◌
  next_is = refl

  cost_is : cost (scalar_one h) (int (pos 0) ∷ []) ((int (pos 2) ∷ []) ∷ []) ≡ int (pos 46)
  unfolding frac gcd gcd_within ◌+ℚ◌ ◌*ℚ◌ total
  cost_is = refl
