-- Counts of which none is above its limit are a point of the plant's box.
use Rattle.std.proofs.Common.{◌≡◌, ℕ, ◌+◌, nat_lt, Bool, true, false, List, [], ◌∷◌, length, map, pos, refl, sym, ◌∙◌, arith, Option, Some, None}
use Rattle.std.specs.Prelude.{if◌then◌else◌}
use Rattle.std.proofs.lemmas.List.{length-map}
use Rattle.std.proofs.lemmas.Bool.{ltb-false}
use Rattle.mpc_exact.specs.Rational.{int, ◌≤ℚ◌}
use Rattle.mpc_exact.proofs.School.{natural_le}
use Rattle.mpc_plant.specs.declared.plants.Plant.{Plant}
use Rattle.mpc_plant.specs.declared.lists.Coordinate.{Coordinate}
use Rattle.mpc_plant.specs.Trajectory.{IsWithin, IsInBox, point_of}
use Rattle.mpc_controller.specs.Parts.{limits_of}
use Rattle.mpc_controller.specs.Replies.{outside_from, first_outside}

not_outside : (over : Bool) (i : ℕ) (rest : Option ℕ) → (if over then Some i else rest) ≡ None → (over ≡ false) × (rest ≡ None)
not_outside true i rest h = absurd (cc)
not_outside false i rest h = (refl, h)

from_zero : (n : ℕ) → int (pos 0) ≤ℚ int (pos n)
from_zero n = (natural_le 0 n).1 (omega arith)

within_grid : (i : ℕ) (grid : List Coordinate) (counts : List ℕ) → length counts ≡ length grid → outside_from i (map (λ (axis : Coordinate). axis.count) grid) counts ≡ None → IsWithin grid (point_of counts)
within_grid i [] [] e h = tt
within_grid i [] (count ∷ counts) e h = absurd (omega arith)
within_grid i (axis ∷ grid) [] e h = absurd (omega arith)
within_grid i (axis ∷ grid) (count ∷ counts) e h =
    let parts = not_outside (nat_lt axis.count count) i (outside_from (i + 1) (map (λ (a : Coordinate). a.count) grid) counts) h in
    (from_zero count, (natural_le count axis.count).1 (ltb-false axis.count count parts.0), within_grid (i + 1) grid counts (omega arith) parts.1)

-- the plant's grid has one coordinate a state
pub limits_size : (plant : Plant) → length (limits_of plant) ≡ plant.n
limits_size plant = length-map plant.grid (λ (axis : Coordinate). axis.count) ∙ plant.is_plant.grid_size

pub in_box : (plant : Plant) (counts : List ℕ) → length counts ≡ plant.n → first_outside (limits_of plant) counts ≡ None → IsInBox plant (point_of counts)
in_box plant counts size inside = within_grid 1 plant.grid counts (size ∙ sym plant.is_plant.grid_size) inside
