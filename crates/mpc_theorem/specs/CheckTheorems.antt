-- What the checker finds of a controller's plant is why its program is refused.
use Rattle.std.specs.Prelude.{ℕ, ◌⊎◌, ◌↔◌}
use Rattle.mpc_rows.specs.declared.places.Place.{Place}
use Rattle.mpc_controller.specs.Parts.{Parts}
use Rattle.mpc_check.specs.Findings.{too_wide, not_definite}
use Rattle.mpc_check.specs.Acceptance.{IsFound, FindsBehind}
use Rattle.mpc_theorem.specs.Programs.{IsNotDefinite, IsWideProgram}

abbrev pub FindsNotDefinite : Type 0
FindsNotDefinite = (parts : Parts) (j : ℕ) → IsFound parts (not_definite j) ↔ IsNotDefinite parts.plant j

-- or else a number of a condition behind it is too wide
abbrev pub FindsTooWide : Type 0
FindsTooWide = (parts : Parts) (place : Place) → IsFound parts (too_wide place) ↔ (IsWideProgram parts.plant place ⊎ FindsBehind parts (too_wide place))
