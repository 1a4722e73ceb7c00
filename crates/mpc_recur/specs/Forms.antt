-- The point behind one step as affine forms of the extended counts (1, t_1, .., t_n), the rows that a target asks of it, and which numbers of
-- the stated operations must fit. Clauses on rightness don't cite these forms: they say when a number is too wide.
use Rattle.std.specs.Prelude.{◌≡◌, ℕ, zero, suc, ◌+◌, ◌<◌, true, List, [], ◌∷◌, map, slice_index_or, pos, negsuc}
use Rattle.std.specs.List.{range_with_len}
use Rattle.mpc_exact.specs.Rational.{ℚ, int, ◌+ℚ◌, ◌-ℚ◌, ◌/ℚ◌, neg_ℚ}
use Rattle.mpc_frac.specs.Fits.{FitsFrac, FitsSum}
use Rattle.mpc_space.specs.Vector.{coordinate, column, dot, listed, later_entries, vec_scale}
use Rattle.mpc_linear.specs.Dot.{DotFits, SumFits}
use Rattle.mpc_plant.specs.declared.lists.Coordinate.{Coordinate}
use Rattle.mpc_plant.specs.declared.plants.Plant.{Plant}
use Rattle.mpc_rows.specs.declared.laws.Law.{Law}
use Rattle.mpc_rows.specs.declared.systems.Row.{Row}
use Rattle.mpc_rows.specs.SetRuns.{axis}

-- ---- the state
abbrev pub lows : List Coordinate → List ℚ
lows grid = map (λ axis. axis.low) grid

abbrev pub steps : List Coordinate → List ℚ
steps grid = map (λ axis. axis.step) grid

-- coordinate k of the state, counted from 0: the low, and behind it the step on the diagonal
abbrev pub state_form : Plant → ℕ → List ℚ
state_form plant k = coordinate (lows plant.grid) k ∷ axis plant.n k (coordinate (steps plant.grid) k)

unfoldable pub state_forms : Plant → List (List ℚ)
state_forms plant = map (state_form plant) (range_with_len 0 plant.n)

-- ---- the point behind one step
-- the coefficient of A x + B u on the extended count j, in coordinate i; both are counted from 0
abbrev pub image : Plant → Law → ℕ → ℕ → ℚ
image plant law i j = dot (slice_index_or plant.a.rows i []) (column (state_forms plant) j) +ℚ dot (slice_index_or plant.b.rows i []) (column law.moves.rows j)

-- with the drift, and without the low
abbrev pub shifted : Plant → ℕ → ℚ → ℚ
shifted plant i x = (x +ℚ coordinate plant.drift i) -ℚ coordinate (lows plant.grid) i

-- the first coefficient is shifted
abbrev pub from_low : Plant → Law → ℕ → ℕ → ℚ
from_low plant law i zero = shifted plant i (image plant law i 0)
from_low plant law i (suc j) = image plant law i (suc j)

abbrev pub next_coefficient : Plant → Law → ℕ → ℕ → ℚ
next_coefficient plant law i j = from_low plant law i j /ℚ coordinate (steps plant.grid) i

unfoldable pub next_form : Plant → Law → ℕ → List ℚ
next_form plant law i = listed (plant.n + 1) (next_coefficient plant law i)

abbrev pub next_forms : Plant → Law → List (List ℚ)
next_forms plant law = map (next_form plant law) (range_with_len 0 plant.n)

-- ---- rows on the point behind one step, as rows in t; the coefficient on 1 is taken to the right side
-- e < 0
abbrev pub low_row : List ℚ → Row
low_row form = record { a = later_entries form; b = neg_ℚ (coordinate form 0); strict = true }

-- -e < -count
abbrev pub high_row : List ℚ → ℕ → Row
high_row form count = record { a = vec_scale (int (negsuc 0)) (later_entries form); b = coordinate form 0 -ℚ int (pos count); strict = true }

-- the row with the forms in place of the coordinates
abbrev pub substituted_sides : ℕ → List (List ℚ) → List ℚ → List ℚ
substituted_sides n forms a = listed n (λ j. dot a (column forms (j + 1)))

abbrev pub substituted : ℕ → List (List ℚ) → Row → Row
substituted n forms r = record { a = substituted_sides n forms r.a; b = r.b -ℚ dot r.a (column forms 0); strict = r.strict }

-- ---- the numbers that must fit
-- of the first coefficient: the sum with the drift, and the difference from the low
pub record ShiftFits (plant : Plant) (i : ℕ) (x : ℚ) : Type 0 where
  pub drift : FitsSum x (coordinate plant.drift i)
  pub low : FitsSum (x +ℚ coordinate plant.drift i) (neg_ℚ (coordinate (lows plant.grid) i))

-- of one coefficient: the dot with the state's column, the products with the moves' column added to it, and the quotient by the step
pub record CoefficientFits (plant : Plant) (law : Law) (i j : ℕ) : Type 0 where
  pub from_state : DotFits (slice_index_or plant.a.rows i []) (column (state_forms plant) j)
  pub from_moves : SumFits (dot (slice_index_or plant.a.rows i []) (column (state_forms plant) j)) (slice_index_or plant.b.rows i []) (column law.moves.rows j)
  pub shift : j ≡ 0 → ShiftFits plant i (image plant law i j)
  pub quotient : FitsFrac (next_coefficient plant law i j)

abbrev pub FormFits : Plant → Law → ℕ → Type 0
FormFits plant law i = (j : ℕ) → j < plant.n + 1 → CoefficientFits plant law i j

abbrev pub FormsFit : Plant → Law → Type 0
FormsFit plant law = (i : ℕ) → i < plant.n → FormFits plant law i

-- the right side of the row for a coordinate above the box
abbrev pub HighFits : List ℚ → ℕ → Type 0
HighFits form count = FitsSum (coordinate form 0) (neg_ℚ (int (pos count)))

-- the dots of a row with the forms, and its right side
abbrev pub SidesFit : ℕ → List (List ℚ) → List ℚ → Type 0
SidesFit n forms a = (j : ℕ) → j < n → DotFits a (column forms (j + 1))

pub record SubstitutedFits (n : ℕ) (forms : List (List ℚ)) (r : Row) : Type 0 where
  pub constant : DotFits r.a (column forms 0)
  pub sides : SidesFit n forms r.a
  pub bound : FitsSum r.b (neg_ℚ (dot r.a (column forms 0)))
