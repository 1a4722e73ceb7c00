-- Whole numbers that are read back from 64 or 128 bits, which they fit.
use Rattle.std.proofs.Common.{◌≡◌, ℕ, ◌*◌, ◌^◌, ◌<◌, ◌≤◌, ℤ, pos, negsuc, ◌*ℤ◌, unsigned_abs, sym, ◌∙◌, subst, arith, le_trans, to_z, of_z, FitsSigned}
use Rattle.std.specs.Int.{w128, w64}
use lib.Signed.{mag}
use Rattle.std.proofs.lemmas.Int.{fits_signed_from_abs, to_z-of_z}
use Rattle.mpc_runs.proofs.WholeSums.{product_at_most}

pub read_small : (z : ℤ) → unsigned_abs z ≤ 2 ^ 62 → to_z w64 (of_z w64 z) ≡ z
read_small z h = to_z-of_z w64 z (fits_signed_from_abs w64 z (omega arith))

pub read_bound : (z : ℤ) (m : ℕ) → unsigned_abs z ≤ m → m ≤ 2 ^ 62 → unsigned_abs (to_z w64 (of_z w64 z)) ≤ m
read_bound z m h l = subst (λ u. unsigned_abs u ≤ m) (sym (read_small z (le_trans h l))) h

pub back128 : (z : ℤ) → mag z < 2 ^ 127 → to_z w128 (of_z w128 z) ≡ z
back128 z h = to_z-of_z w128 z (record { sfits = h })

pub back64 : (z : ℤ) → mag z < 2 ^ 63 → to_z w64 (of_z w64 z) ≡ z
back64 z h = to_z-of_z w64 z (record { sfits = h })

pub both_back : (p x y : ℤ) → FitsSigned w64 x → FitsSigned w64 y → p ≡ to_z w64 (of_z w64 x) *ℤ to_z w64 (of_z w64 y) → p ≡ x *ℤ y
both_back p x y f g e = e ∙ (λ i. to_z-of_z w64 x f i *ℤ to_z-of_z w64 y g i)

-- a product of two numbers of 64 bits
abs64 : (z : ℤ) → FitsSigned w64 z → unsigned_abs z ≤ 2 ^ 63
abs64 (pos n) f = let h : n < 2 ^ 63 = f.sfits in omega arith
abs64 (negsuc n) f = let h : n < 2 ^ 63 = f.sfits in omega arith

pub product_within : (p x y : ℤ) (m n : ℕ) → FitsSigned w64 x → FitsSigned w64 y → mag p < 2 ^ 127 → p ≡ to_z w64 (of_z w64 x) *ℤ to_z w64 (of_z w64 y) → unsigned_abs x ≤ m → unsigned_abs y ≤ n → unsigned_abs (to_z w128 (of_z w128 p)) ≤ m * n
product_within p x y m n f g fits e hx hy = subst (λ z. unsigned_abs z ≤ m * n) (sym (back128 p fits ∙ both_back p x y f g e)) (product_at_most x y m n hx hy)

pub product_room : (p x y : ℤ) → FitsSigned w64 x → FitsSigned w64 y → mag p < 2 ^ 127 → p ≡ to_z w64 (of_z w64 x) *ℤ to_z w64 (of_z w64 y) → unsigned_abs (to_z w128 (of_z w128 p)) ≤ 2 ^ 126
product_room p x y f g fits e = let r = product_within p x y (2 ^ 63) (2 ^ 63) f g fits e (abs64 x f) (abs64 y g) in omega arith
