-- What one limit of the numbers of all rows leaves room for.
use Rattle.std.proofs.Common.{◌≡◌, ℕ, ◌+◌, ◌*◌, ◌^◌, ◌≤◌, List, ℤ, subst, arith, le_trans, mul-le-mul_left}
use Rattle.mpc_rows.specs.LinearSystem.{LinearSystem, height}
use Rattle.mpc_scaled.specs.Scaled.{scale_at, IsSmall}
use Rattle.mpc_whole.specs.Whole.{HasBounds}
use Rattle.mpc_runs.specs.WholeNumbers.{HasRoom}

pub weaker : (m k : ℕ) (xs : List ℤ) → IsSmall m xs → m ≤ k → IsSmall k xs
weaker m k xs h l = record { each = λ i. le_trans (h.each i) l }

room_for : (w e m q : ℕ) → (w * (e * m)) * q ≤ 2 ^ 62 → 1 ≤ m → 1 ≤ q → w * (e * 2 ^ 62) ≤ 2 ^ 124
room_for w e m q h k l =
    let c : (w * (e * m)) * 1 ≤ (w * (e * m)) * q = mul-le-mul_left (w * (e * m)) l in
    let a : e * 1 ≤ e * m = mul-le-mul_left e k in
    let b : w * (e * 1) ≤ w * (e * m) = mul-le-mul_left w a in
    omega arith

pub has_room : (w e m q : ℕ) (a : List ℤ) → IsSmall e a → (w * (e * m)) * q ≤ 2 ^ 62 → 1 ≤ m → 1 ≤ q → HasRoom w (2 ^ 62) a
has_room w e m q a h r k l = record { most = e; each = h; room = room_for w e m q r k l }

pub has_bounds : (s : LinearSystem) (k : List ℕ) (n w e f q m : ℕ) (a b : List ℤ) → n ≡ s.width + height s → w ≡ s.width → IsSmall e a → IsSmall f b → ((x : ℕ) → scale_at k x ≤ q) → 1 ≤ f → (w * (e * m)) * q ≤ 2 ^ 62 → m * q ≤ 2 ^ 62 → n * f ≤ 2 ^ 62 → HasBounds s k a b m
has_bounds s k n w e f q m a b h u ha hb hk some room top sides = record {
  most_entry = e;
  most_side = f;
  most_scale = q;
  bounds = record {
    entries = ha;
    sides = record { sides = hb; some_side = some; side_room = subst (λ x. x * f ≤ 2 ^ 62) h sides };
    scales = hk;
    room = subst (λ x. (x * (e * m)) * q ≤ 2 ^ 62) u room;
    top = top;
  };
}
