-- What a table has of each law of its controller, and what forms give.
use Rattle.std.specs.Prelude.{◌≡◌, ℕ, ◌≤◌, pos, List, length, map}
use Rattle.mpc_exact.specs.Rational.{ℚ}
use Rattle.mpc_exact.specs.Denominator.{common_denom}
use Rattle.mpc_space.specs.Matrix.{height}
use Rattle.mpc_linear.specs.Whole.{scaled}
use Rattle.mpc_linear.specs.declared.integers.IntAffine.{IntAffine}
use Rattle.mpc_plant.specs.declared.plants.Plant.{Plant}
use Rattle.mpc_rows.specs.declared.laws.Law.{Law}
use Rattle.mpc_controller.specs.Parts.{IsLawFor}
use Rattle.mpc_table.specs.Forms.{IsFormOf}
use Rattle.mpc_table.specs.Lookup.{AreLawForms}

-- one list of forms
abbrev pub OneListEach : Type 0
OneListEach = (inputs : ℕ) (laws : List Law) (forms : List (List IntAffine)) → AreLawForms inputs laws forms → length forms ≡ length laws

-- a law of a plant moves each of its inputs
abbrev pub MovesEachInput : Type 0
MovesEachInput = (plant : Plant) (law : Law) → IsLawFor plant law → plant.p ≤ height law.moves

-- numerators over the least common denominator of coefficients have their values
abbrev pub LeastForms : Type 0
LeastForms = (row : List ℚ) → IsFormOf row (record { den = pos (common_denom row); k = map (scaled (common_denom row)) row })
