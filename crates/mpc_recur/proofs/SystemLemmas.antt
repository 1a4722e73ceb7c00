-- Which points the systems of a leaf have.
use Rattle.std.proofs.Common.{◌≡◌, ℕ, zero, suc, ◌+◌, ◌<◌, List, [], ◌∷◌, ◌++◌, length, get_or, map, pos, refl, sym, ◌∙◌, ap, subst, arith, inl, inr, All, ◌↔◌}
use Rattle.std.proofs.lemmas.List.{append-nil, length-map}
use Rattle.std.proofs.lemmas.List.Elements.{All-append}
use Rattle.mpc_exact.specs.Rational.{ℚ, int, ◌≤ℚ◌, ◌<ℚ◌}
use Rattle.mpc_exact.proofs.RationalOrder.{le_or_lt, ≤ℚ_refl}
use Rattle.mpc_space.specs.Vector.{coordinate}
use Rattle.mpc_plant.specs.declared.lists.Coordinate.{Coordinate}
use Rattle.mpc_plant.specs.declared.plants.Plant.{Plant}
use Rattle.mpc_plant.specs.Trajectory.{IsWithin, IsInBox}
use Rattle.mpc_rows.specs.declared.systems.Row.{Row}
use Rattle.mpc_rows.specs.LinearSystem.{MeetsRow, IsPoint}
use Rattle.mpc_rows.specs.ActiveSets.{IsInBox as IsInCounts}
use Rattle.mpc_rows.specs.SetRuns.{box_rows}
use Rattle.mpc_rows.specs.RegionTheorems.{BoxPoints}
use Rattle.mpc_controller.specs.Parts.{limits_of}
use Rattle.mpc_recur.specs.Targets.{leaf_system}
use Rattle.mpc_recur.proofs.ElementLemmas.{All-split}

-- ---- boxes
abbrev counts_of : List Coordinate → List ℕ
counts_of grid = map (λ (axis : Coordinate). axis.count) grid

same_box : (grid : List Coordinate) (t : List ℚ) → IsWithin grid t ↔ IsInCounts (counts_of grid) t
same_box [] [] = (λ h. h, λ h. h)
same_box [] (x ∷ t) = (λ h. h, λ h. h)
same_box (axis ∷ grid) [] = (λ h. h, λ h. h)
same_box (axis ∷ grid) (x ∷ t) = let rest = same_box grid t in (λ h. (h.0, h.1, rest.0 h.2), λ h. (h.0, h.1, rest.1 h.2))

pub within_size : (grid : List Coordinate) (t : List ℚ) → IsWithin grid t → length t ≡ length grid
within_size [] [] h = refl
within_size [] (x ∷ t) h = absurd h
within_size (axis ∷ grid) [] h = absurd h
within_size (axis ∷ grid) (x ∷ t) h = ap suc (within_size grid t h.2)

-- entry by entry; a list has the entry 0 past its end
pub within_low : (grid : List Coordinate) (t : List ℚ) (i : ℕ) → IsWithin grid t → int (pos 0) ≤ℚ coordinate t i
within_low [] [] i h = ≤ℚ_refl (int (pos 0))
within_low [] (x ∷ t) i h = absurd h
within_low (axis ∷ grid) [] i h = absurd h
within_low (axis ∷ grid) (x ∷ t) zero h = h.0
within_low (axis ∷ grid) (x ∷ t) (suc i) h = within_low grid t i h.2

pub within_high : (grid : List Coordinate) (t : List ℚ) (i : ℕ) → IsWithin grid t → coordinate t i ≤ℚ int (pos (get_or (counts_of grid) i 0))
within_high [] [] i h = ≤ℚ_refl (int (pos 0))
within_high [] (x ∷ t) i h = absurd h
within_high (axis ∷ grid) [] i h = absurd h
within_high (axis ∷ grid) (x ∷ t) zero h = h.1
within_high (axis ∷ grid) (x ∷ t) (suc i) h = within_high grid t i h.2

not_below : (x : ℚ) → ¬ (x <ℚ int (pos 0)) → int (pos 0) ≤ℚ x
not_below x h = elim (le_or_lt (int (pos 0)) x) [ inl le ↦ le | inr lt ↦ absurd (h lt) ]

not_above : (x y : ℚ) → ¬ (y <ℚ x) → x ≤ℚ y
not_above x y h = elim (le_or_lt x y) [ inl le ↦ le | inr lt ↦ absurd (h lt) ]

pub within_by : (grid : List Coordinate) (t : List ℚ) → length t ≡ length grid → ((i : ℕ) → i < length grid → ¬ (coordinate t i <ℚ int (pos 0))) → ((i : ℕ) → i < length grid → ¬ (int (pos (get_or (counts_of grid) i 0)) <ℚ coordinate t i)) → IsWithin grid t
within_by [] [] e low high = tt
within_by [] (x ∷ t) e low high = absurd (omega arith)
within_by (axis ∷ grid) [] e low high = absurd (omega arith)
within_by (axis ∷ grid) (x ∷ t) e low high =
    (not_below x (low 0 (omega arith)), not_above x (int (pos axis.count)) (high 0 (omega arith)), within_by grid t (omega arith) (λ i h. low (suc i) (omega arith)) (λ i h. high (suc i) (omega arith)))

-- ---- systems
pub record IsLeafPoint (plant : Plant) (path last : List Row) (t : List ℚ) : Type 0 where
  pub in_box : IsInBox plant t
  pub on_path : All (MeetsRow t) path
  pub meets : All (MeetsRow t) last

module _ (box_meets : BoxPoints) (plant : Plant) where
  limits_size : length (limits_of plant) ≡ plant.n
  limits_size = length-map plant.grid (λ (axis : Coordinate). axis.count) ∙ plant.is_plant.grid_size

  pub box_size : (t : List ℚ) → IsInBox plant t → length t ≡ plant.n
  box_size t h = within_size plant.grid t h ∙ plant.is_plant.grid_size

  box_points : (t : List ℚ) → length t ≡ plant.n → IsInCounts (limits_of plant) t ↔ All (MeetsRow t) (box_rows plant.n (limits_of plant))
  box_points t size =
      let width : length (limits_of plant) + 0 ≡ plant.n = omega (arith, limits_size) in
      subst (λ v. IsInCounts (limits_of plant) t ↔ All (MeetsRow v) (box_rows plant.n (limits_of plant))) (append-nil t)
      (subst (λ n. IsInCounts (limits_of plant) t ↔ All (MeetsRow (t ++ [])) (box_rows n (limits_of plant))) width (box_meets (limits_of plant) t [] (size ∙ sym limits_size)))

  pub leaf_point : (path last : List Row) (t : List ℚ) → IsLeafPoint plant path last t → IsPoint (leaf_system plant path last) t
  leaf_point path last t p =
      let size = box_size t p.in_box in
      record {
        size = size;
        meets = All-append (MeetsRow t) (box_rows plant.n (limits_of plant)) (path ++ last) ((box_points t size).0 ((same_box plant.grid t).0 p.in_box)) (All-append (MeetsRow t) path last p.on_path p.meets);
      }

  pub point_of_leaf : (path last : List Row) (t : List ℚ) → IsPoint (leaf_system plant path last) t → IsLeafPoint plant path last t
  point_of_leaf path last t p =
      let parts = All-split (MeetsRow t) (box_rows plant.n (limits_of plant)) (path ++ last) p.meets in
      let rest = All-split (MeetsRow t) path last parts.1 in
      record { in_box = (same_box plant.grid t).1 ((box_points t p.size).1 parts.0); on_path = rest.0; meets = rest.1 }
