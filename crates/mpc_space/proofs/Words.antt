-- 128-bit integers below 2^127 in size are read back from their bits.
use Rattle.std.proofs.Common.{◌≡◌, ℕ, ◌^◌, ◌<◌, ℤ, pos, unsigned_abs, to_z, of_z, sym, ◌∙◌, ap, subst}
use Rattle.std.specs.Int.{w128}
use Rattle.std.proofs.lemmas.Int.{fits_signed_from_abs, to_z_pos, to_z-of_z}

pub read_back : (z : ℤ) → unsigned_abs z < 2 ^ 127 → to_z w128 (of_z w128 z) ≡ z
read_back z h = to_z-of_z w128 z (fits_signed_from_abs w128 z h)

pub read_natural : (n : ℕ) → n < 2 ^ 127 → to_z w128 n ≡ pos n
read_natural n h = to_z_pos w128 n h

pub read_size : (z : ℤ) (n : ℕ) → z ≡ pos n → n < 2 ^ 127 → unsigned_abs (to_z w128 (of_z w128 z)) ≡ n
read_size z n e h = ap unsigned_abs (read_back z (subst (λ y. unsigned_abs y < 2 ^ 127) (sym e) h) ∙ e)
