-- Counts none of which is above its limit are a point of the box.
use Rattle.std.proofs.Common.{◌≡◌, ℕ, ◌+◌, nat_lt, Bool, true, false, List, [], ◌∷◌, length, pos, sym, ◌∙◌, subst, arith, Option, Some, None, refl}
use Rattle.std.specs.Prelude.{if◌then◌else◌}
use Rattle.std.proofs.lemmas.List.{length-map}
use Rattle.std.proofs.lemmas.Bool.{ltb-false}
use Rattle.mpc_exact.specs.Rational.{int, ◌≤ℚ◌}
use Rattle.mpc_exact.proofs.School.{natural_le}
use Rattle.mpc_plant.specs.declared.plants.Plant.{Plant}
use Rattle.mpc_plant.specs.Trajectory.{point_of}
use Rattle.mpc_rows.specs.declared.programs.Qp.{Qp}
use Rattle.mpc_rows.specs.ActiveSets.{IsInBox}
use Rattle.mpc_condense.specs.Condensed.{IsCondensed}
use Rattle.mpc_controller.specs.Parts.{limits_of}
use Rattle.mpc_controller.specs.Replies.{outside_from, first_outside}

not_outside : (over : Bool) (i : ℕ) (rest : Option ℕ) → (if over then Some i else rest) ≡ None → (over ≡ false) × (rest ≡ None)
not_outside true i rest h = absurd (cc)
not_outside false i rest h = (refl, h)

from_zero : (n : ℕ) → int (pos 0) ≤ℚ int (pos n)
from_zero n = (natural_le 0 n).1 (omega arith)

box_from_limits : (i : ℕ) (limits counts : List ℕ) → length counts ≡ length limits → outside_from i limits counts ≡ None → IsInBox limits (point_of counts)
box_from_limits i [] [] e h = tt
box_from_limits i [] (count ∷ counts) e h = absurd (omega arith)
box_from_limits i (limit ∷ limits) [] e h = absurd (omega arith)
box_from_limits i (limit ∷ limits) (count ∷ counts) e h =
    let parts = not_outside (nat_lt limit count) i (outside_from (i + 1) limits counts) h in
    (from_zero count, (natural_le count limit).1 (ltb-false limit count parts.0), box_from_limits (i + 1) limits counts (omega arith) parts.1)

pub box_of_counts : (plant : Plant) (qp : Qp) (counts : List ℕ) → IsCondensed qp plant → length counts ≡ plant.n → first_outside (limits_of plant) counts ≡ None → IsInBox qp.counts (point_of counts)
box_of_counts plant qp counts is size h =
    let limits : length (limits_of plant) ≡ plant.n = length-map plant.grid (λ axis. axis.count) ∙ plant.is_plant.grid_size in
    subst (λ l. IsInBox l (point_of counts)) (sym is.counts_are) (box_from_limits 1 (limits_of plant) counts (size ∙ sym limits) h)
