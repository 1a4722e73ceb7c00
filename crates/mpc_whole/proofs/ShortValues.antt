-- Where the numbers are within the limit of a position, a side's value fits 64 bits.
use Rattle.std.proofs.Common.{◌≡◌, ℕ, zero, suc, ◌+◌, ◌*◌, ◌^◌, ◌≤◌, List, ℤ, ◌*ℤ◌, unsigned_abs, subst, arith, mul-le-mul_left, le_trans}
use Rattle.mpc_rows.specs.LinearSystem.{LinearSystem}
use Rattle.mpc_runs.specs.WholeNumbers.{whole_total}
use Rattle.mpc_whole.specs.Whole.{HasBounds}
use Rattle.mpc_scaled.specs.Scaled.{whole_at, whole_cell, scale_at, IsSmall, AreScales}
use Rattle.mpc_whole.specs.Running.{AreShort}
use Rattle.mpc_runs.proofs.WholeSums.{total_at_most, product_at_most}

module _ (s : LinearSystem) (k : List ℕ) (a b c : List ℤ) (most : ℕ) (g : HasBounds s k a b most) (scales : AreScales s k) (small : IsSmall most c) where
  room_in : (w : ℕ) → s.width ≡ w → w * (g.most_entry * most) ≤ 2 ^ 62
  room_in zero e = omega arith
  room_in (suc n) e =
      let one : 1 ≤ g.most_scale = (let u : scale_at k 0 ≡ 1 = scales.own 0 (omega arith) in let m : scale_at k 0 ≤ g.most_scale = g.bounds.scales 0 in omega arith) in
      let r : (suc n * (g.most_entry * most)) * g.most_scale ≤ 2 ^ 62 = subst (λ w. (w * (g.most_entry * most)) * g.most_scale ≤ 2 ^ 62) e g.bounds.room in
      let q : (suc n * (g.most_entry * most)) * 1 ≤ (suc n * (g.most_entry * most)) * g.most_scale = mul-le-mul_left (suc n * (g.most_entry * most)) one in
      omega arith

  pub value_fits : (i : ℕ) → unsigned_abs (whole_total s.width (λ j. whole_cell s.width a i j *ℤ whole_at c j)) ≤ 2 ^ 62
  value_fits i =
      le_trans (total_at_most s.width (g.most_entry * most) (λ j. whole_cell s.width a i j *ℤ whole_at c j) (λ j l. product_at_most (whole_cell s.width a i j) (whole_at c j) g.most_entry most (g.bounds.entries.each (i * s.width + j)) (small.each j)))
      (room_in s.width (λ _. s.width))

pub values_short : (s : LinearSystem) (k : List ℕ) (a b c_1 c_2 : List ℤ) (most : ℕ) → HasBounds s k a b most → AreScales s k → IsSmall most c_1 → IsSmall most c_2 → AreShort s.width a c_1 c_2
values_short s k a b c_1 c_2 most g scales first second = record { first = value_fits s k a b c_1 most g scales first; second = value_fits s k a b c_2 most g scales second }
