-- What the turn at a run's last position says of the system.
use Rattle.std.proofs.Common.{◌≡◌, ℕ, ◌<◌, Bool, true, false, IsTrue, IfSome, ◌↔◌, Option, None, Some, List, map, length, refl, ap, ◌∙◌, sym, subst, arith}
use Rattle.std.specs.List.{range_with_len}
use Rattle.std.proofs.lemmas.List.FromFn.{length-map-range_with_len, get_or-map-range_with_len}
use Rattle.std.proofs.lemmas.Option.{slice_get-get_or}
use Rattle.mpc_exact.specs.Rational.{ℚ}
use Rattle.mpc_space.specs.Vector.{listed}
use Rattle.mpc_space.proofs.Entries.{coordinate-listed, length-listed}
use Rattle.mpc_rows.specs.LinearSystem.{LinearSystem, HasWidth, height}
use Rattle.mpc_rows.specs.SystemTheorems.{SystemTheorems}
use Rattle.mpc_rows.specs.Run.{has_point, value, multiplier, turn, last_position}
use Rattle.mpc_beginnings.specs.Kept.{IsRefuted}
use Rattle.mpc_simplex.specs.Answer.{HasPoint, IsValues, IsMultipliers}
use Rattle.mpc_simplex.proofs.Decided.{ended-point, ended-no_point}

module _ (s : LinearSystem) where
  pair : ℕ → ℚ × ℚ
  pair j = ((value s (last_position s) j).first, (value s (last_position s) j).second)

  pairs : List (ℚ × ℚ)
  pairs = map pair (range_with_len 0 s.width)

  pairs_size : length pairs ≡ s.width
  unfolding pairs
  pairs_size = length-map-range_with_len pair 0 s.width

  are_values : IsValues s (last_position s) pairs
  unfolding pairs pair
  are_values = record {
    size = length-map-range_with_len pair 0 s.width;
    at = λ j l. (pair j, slice_get-get_or pairs j (pair 0) (subst (λ m. j < m) (sym pairs_size) l) ∙ ap Some (get_or-map-range_with_len pair 0 s.width j j (pair 0) l (omega arith)), refl, refl);
  }

  are_multipliers : (row : ℕ) → IsMultipliers s (last_position s) row (listed (height s) (multiplier s (last_position s) row))
  are_multipliers row = record { size = length-listed (height s) (multiplier s (last_position s) row); at = coordinate-listed (height s) (multiplier s (last_position s) row) }

  module _ (theorems : SystemTheorems) (w : HasWidth s.width s.rows) where
    pub has_point_there : turn s (last_position s) ≡ has_point → HasPoint s
    has_point_there h = theorems.point_of_pairs s pairs (ended-point theorems s w pairs (record { ends = h; values = are_values }))

    no_point_there : IsRefuted s → ¬ HasPoint s
    no_point_there r = ended-no_point theorems s w (listed (height s) (multiplier s (last_position s) r.row)) (record { row = r.row; ends = r.ends; multipliers = are_multipliers r.row })

    pub decides : (b : Bool) → (IsTrue b → turn s (last_position s) ≡ has_point) → (b ≡ false → IsRefuted s) → IsTrue b ↔ HasPoint s
    decides true point refuted = (λ t. has_point_there (point t), λ h. refl)
    decides false point refuted = (λ t. has_point_there (point t), λ h. absurd (no_point_there (refuted refl) h))

    pub decides_some : (found : Option Bool) → IfSome found (λ b. IsTrue b → turn s (last_position s) ≡ has_point) → IfSome found (λ b. b ≡ false → IsRefuted s) → IfSome found (λ b. IsTrue b ↔ HasPoint s)
    decides_some None point refuted = point
    decides_some (Some b) point refuted = decides b point refuted
