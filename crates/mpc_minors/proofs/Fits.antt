-- With small numbers in one to four unknowns no operation of the run is wide.
use Rattle.std.proofs.Common.{◌≡◌, ℕ, zero, suc, ◌+◌, ◌-◌, ◌*◌, ◌^◌, ◌≤◌, List, ◌++◌, drop, ℤ, unsigned_abs, ap, subst, arith, le_trans, length-append, mul-le-mul_right}
use Rattle.std.proofs.lemmas.Nat.{mul-le}
use Rattle.mpc_rows.specs.LinearSystem.{LinearSystem, height}
use Rattle.mpc_rows.specs.Run.{count, position, steps}
use Rattle.mpc_rows.specs.RunWidth.{PositionFits, RunFits}
use Rattle.mpc_scaled.specs.Scaled.{scale_at, IsWholeSystem}
use Rattle.mpc_whole.specs.PositionTheorems.{PositionTheorems}
use Rattle.mpc_whole.specs.Whole.{HasBounds}
use Rattle.mpc_minors.specs.Sizes.{most_determinant, LeaveRoom}
use Rattle.mpc_minors.proofs.Seats.{HasSeats, seats_at}
use Rattle.mpc_minors.proofs.Forms.{whole_den, form_list, is_form, list_small, den_small}
use Rattle.mpc_minors.proofs.Appended.{wide, HasSizes, both_whole, both_sizes}

module _ (t : PositionTheorems) where
  module _ (s : LinearSystem) (k : List ℕ) (a b : List ℤ) (w : IsWholeSystem s k a b) (entry side scale : ℕ) (one : 1 ≤ entry) (some_side : 1 ≤ side)
      (sizes : HasSizes entry side scale k a b) (room : LeaveRoom s.width (count s) entry side scale) where
    most : ℕ
    most = most_determinant (s.width - 1) entry

    -- a determinant is a sum of so many products of an entry and a minor
    by_minors : most_determinant s.width entry ≡ s.width * (entry * most)
    unfolding most
    by_minors = by s.width room.some
      where
        by : (n : ℕ) → 1 ≤ n → most_determinant n entry ≡ n * (entry * most_determinant (n - 1) entry)
        by zero h = absurd (omega arith)
        by (suc n) h = ap (λ m. suc n * (entry * most_determinant m entry)) (omega arith)

    less : most ≤ most_determinant s.width entry
    less =
        let e = mul-le-mul_right most one in
        let f = mul-le-mul_right (entry * most) room.some in
        let g = by_minors in
        omega arith

    bounds : HasBounds s k a b most
    bounds = record {
      most_entry = entry;
      most_side = side;
      most_scale = scale;
      bounds = record {
        entries = sizes.entries;
        sides = record { sides = sizes.sides; some_side = some_side; side_room = room.sides };
        scales = sizes.scales;
        room = subst (λ n. n * scale ≤ 2 ^ 62) by_minors room.determinants;
        top = le_trans (mul-le-mul_right scale less) room.determinants;
      };
    }

    fits_at : (q : ℕ) → q ≤ steps s → HasSeats s (position s q) → PositionFits s (position s q)
    unfolding most
    fits_at q h o =
        let d = unsigned_abs (whole_den s room.some room.few k a b w q o) in
        let v = form_list s room.some room.few k a b w q o in
        t.narrow_fits s k a b w most bounds q h o.seats d v (is_form s room.some room.few k a b w q o)
        (t.narrow s k a b most bounds (count s) o.seats d v (list_small s room.some room.few k a b w q o entry one sizes.entries)
        (λ x l. le_trans (mul-le d (scale_at k x) (most_determinant s.width entry) scale (den_small s room.some room.few k a b w q o entry one sizes.entries) (sizes.scales x)) room.determinants))

    pub small_fits : RunFits s
    small_fits = record { fits = λ q h. fits_at q h (seats_at s q) }

  -- the numbers of both systems, with bounds for both
  module _ (s o : LinearSystem) (k k' : List ℕ) (a a' b b' : List ℤ) (w : IsWholeSystem s k a b) (v : IsWholeSystem o k' a' b') (same : o.width ≡ s.width) (entry side scale : ℕ) (one : 1 ≤ entry) (some_side : 1 ≤ side)
      (sizes : HasSizes entry side scale k a b) (sizes' : HasSizes entry side scale k' a' b')
      (variables : ℕ) (within : s.width + (height s + height o) ≤ variables) (room : LeaveRoom s.width variables entry side scale) where
    abbrev both : LinearSystem
    both = wide s.width (s.rows ++ o.rows)

    room_for_both : LeaveRoom s.width (count both) entry side scale
    room_for_both =
        let e = length-append s.rows o.rows in
        record {
          some = room.some;
          few = room.few;
          determinants = room.determinants;
          sides = le_trans (mul-le-mul_right side (omega arith)) room.sides;
        }

    pub both_fit : RunFits both
    both_fit =
        small_fits both (k ++ drop s.width k') (a ++ a') (b ++ b')
        (both_whole s.width s.rows o.rows k k' a a' b b' w (subst (λ n. IsWholeSystem (wide n o.rows) k' a' b') same v))
        entry side scale one some_side (both_sizes entry side scale s.width k k' a a' b b' sizes sizes') room_for_both
