-- Each run ends in exactly one of two ways: with a point, where the system has one, or refuted, where it has none.
use Rattle.std.proofs.Common.{◌≡◌, ℕ, ◌<◌, ◌⊎◌, true, pos, [], ◌∷◌, refl, sym, ◌∙◌, ap, subst, lit<}
use Rattle.std.proofs.lemmas.Bool.{both_ways}
use Rattle.mpc_exact.specs.Rational.{ℚ, int, ◌-ℚ◌, ◌*ℚ◌, inv_ℚ, ◌<ℚ◌}
use Rattle.mpc_exact.proofs.Rational.{*ℚ_inv}
use Rattle.mpc_exact.proofs.RationalRing.{reads, by_ring, by_equation}
use Rattle.mpc_exact.proofs.RationalOrder.{IsPositive, positive_int, positive-mul, inv_positive, by_lt, <ℚ_irrefl}
use Rattle.mpc_exact.specs.Pair.{Pair}
use Rattle.mpc_rows.specs.LinearSystem.{LinearSystem, height, row_at, IsWithin}
use Rattle.mpc_rows.specs.NumberedSystems.{left_side, IsPointBy, IsPairPointBy, pair_at, RefutesBy}
use Rattle.mpc_rows.specs.Run.{Turn, has_point, is_refuted, goes_on, value, turn, is_pivot, multiplier, steps, last_position}
use Rattle.mpc_runs.proofs.Ends.{run_ends}
use Rattle.mpc_simplex.proofs.Points.{point_right}
use Rattle.mpc_simplex.proofs.Refuted.{refuted_no_point, refuted_right}

-- some d below a reach
half_positive : IsPositive (inv_ℚ (int (pos 2)))
half_positive = inv_positive (positive_int 2 (lit< tt))

half_twice : int (pos 2) *ℚ inv_ℚ (int (pos 2)) ≡ int (pos 1)
half_twice = *ℚ_inv (int (pos 2)) (λ e. <ℚ_irrefl (subst (λ z. IsPositive z) e (positive_int 2 (lit< tt))))

half_below : (r h : ℚ) → int (pos 2) *ℚ h ≡ int (pos 1) → IsPositive r → IsPositive h → (r *ℚ h) <ℚ r
half_below r h e p q =
    let w : r *ℚ h ≡ r -ℚ r *ℚ h = by_equation {s = int (pos 2) *ℚ h} {t = int (pos 1)} r e (by_ring (r ∷ h ∷ []) (search reads depth 30) (search reads depth 30) tt) in
    by_lt (r ∷ h ∷ []) (subst (λ z. IsPositive z) w (positive-mul p q)) (search reads depth 30) (search reads depth 30) tt

-- pair points stand for points
pub pair_point_point : (s : LinearSystem) (p : ℕ → Pair) → IsPairPointBy s p → (v : ℕ → ℚ) × IsPointBy s v
pair_point_point s p h =
    let d = h.reach *ℚ inv_ℚ (int (pos 2)) in
    (pair_at p d, h.meets d (positive-mul h.some half_positive) (half_below h.reach (inv_ℚ (int (pos 2))) half_twice h.some half_positive))

-- what the last position of a run says
abbrev pub EndIs : LinearSystem → Turn → Type 0
EndIs s has_point = IsPairPointBy s (value s (last_position s))
EndIs s (is_refuted l) = RefutesBy s (multiplier s (last_position s) l)
EndIs s (goes_on l e) = ⊥

end_at : (s : LinearSystem) (t : Turn) → turn s (last_position s) ≡ t → EndIs s t
unfolding last_position
end_at s has_point e = point_right s (steps s) e
end_at s (is_refuted l) e = refuted_right s (steps s) l e
end_at s (goes_on l e) f = both_ways true (sym (ap is_pivot f) ∙ (run_ends s).stops) refl

pub end_right : (s : LinearSystem) → EndIs s (turn s (last_position s))
end_right s = end_at s (turn s (last_position s)) refl

-- an end with a point exactly where the system has one
pub point_end : (s : LinearSystem) → turn s (last_position s) ≡ has_point → (v : ℕ → ℚ) × IsPointBy s v
point_end s e = pair_point_point s (value s (last_position s)) (end_at s has_point e)

-- and where it is refuted, no point meets the rows whose multipliers aren't 0
pub refuted_end : (s : LinearSystem) (l : ℕ) → turn s (last_position s) ≡ is_refuted l → (v : ℕ → ℚ)
    → ((i : ℕ) → i < height s → (multiplier s (last_position s) l i ≡ int (pos 0)) ⊎ IsWithin (row_at s i).strict (left_side s i v) (row_at s i).b) → ⊥
refuted_end s l e v p = refuted_no_point s (multiplier s (last_position s) l) v (end_at s (is_refuted l) e) p
