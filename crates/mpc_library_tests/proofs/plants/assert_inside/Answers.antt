use Rattle.std.proofs.Common.{◌≡◌, ℕ, ◌≤◌, List, [], ◌∷◌, length, Some, slice_get, pos, sym, subst, arith}
use Rattle.std.proofs.lemmas.Option.{get_or_from_slice_get}
use Rattle.mpc_exact.specs.Rational.{int}
use Rattle.mpc_exact.proofs.RationalOrder.{nonneg_int}
use Rattle.mpc_exact.proofs.School.{natural_le}
use Rattle.mpc_plant.specs.declared.lists.Coordinate.{Coordinate}
use Rattle.mpc_plant.specs.Trajectory.{IsWithin}
use Rattle.mpc_library_tests.proofs.plants.assert_inside.Goals as goal

one_inside : (grid : List Coordinate) (axis : Coordinate) (count : ℕ) → length grid ≡ 1 → slice_get grid 0 ≡ Some axis → count ≤ axis.count → IsWithin grid (int (pos count) ∷ [])
one_inside [] axis count one at within = absurd (omega arith)
one_inside (first ∷ []) axis count one at within =
    (nonneg_int count, (natural_le count first.count).1 (subst (λ (a : Coordinate). count ≤ a.count) (sym (get_or_from_slice_get (first ∷ []) 0 axis axis at)) within), tt)
one_inside (first ∷ second ∷ grid) axis count one at within = absurd (omega arith)

pub returns : goal.returns
returns g c = one_inside c.args.plant.now.grid c.at-axis.result.now c.args.count (omega arith) c.at-axis.ensures (omega arith)
