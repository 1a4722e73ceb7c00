-- The rows of a system that a certificate names, with their multipliers.
use Rattle.std.specs.Prelude.{ℕ, ℤ, ◌≡◌, ◌-◌, ◌<◌, ◌≤◌, ◌^◌, pos, List, get_or, length, map, slice_index_or, unsigned_abs}
use Rattle.mpc_exact.specs.Rational.{ℚ, frac, IsNonneg}
use Rattle.mpc_rows.specs.declared.systems.Row.{Row}
use Rattle.mpc_rows.specs.LinearSystem.{LinearSystem, no_row}

abbrev pub picked_rows : List Row → List (ℕ × ℚ) → List Row
picked_rows rows cert = map (λ entry. slice_index_or rows (entry.0 - 1) no_row) cert

abbrev pub weights : List (ℕ × ℚ) → List ℚ
weights cert = map (λ entry. entry.1) cert

abbrev pub picked_system : LinearSystem → List (ℕ × ℚ) → LinearSystem
picked_system s cert = record { width = s.width; rows = picked_rows s.rows cert }

-- a multiplier that isn't negative has this numerator over a denominator, at most 2^62
pub record IsWeightOver (multiplier : ℚ) (all : ℕ) (weight : ℤ) : Type 0 where
  pub is : multiplier ≡ frac weight all
  pub nonneg : IsNonneg multiplier
  pub small : unsigned_abs weight ≤ 2 ^ 62

-- the multipliers of a certificate have these numerators
pub record AreWeightsOver (cert : List (ℕ × ℚ)) (all : ℕ) (list : List ℤ) : Type 0 where
  pub few : length cert ≤ length list
  pub each : (k : ℕ) → k < length cert → (entry : ℕ × ℚ) → IsWeightOver (get_or cert k entry).1 all (get_or list k (pos 0))
