-- Numbers of 62 bits, and places in rows of one length.
use Rattle.std.proofs.Common.{◌≡◌, ℕ, zero, suc, ◌+◌, ◌*◌, ◌^◌, ◌<◌, ◌≤◌, ℤ, pos, negsuc, ◌*ℤ◌, neg_ℤ, unsigned_abs, refl, sym, ◌∙◌, ap, subst, arith, le_trans, mul-le-mul_right, mul_comm, zero-lt-suc, to_z, of_z, FitsSigned}
use Rattle.std.specs.Int.{w64, w128}
use lib.Signed.{mag}
use Rattle.std.proofs.lemmas.Int.{fits_signed_from_abs, to_z-of_z}
use Rattle.mpc_exact.specs.Rational.{ℚ, frac, denom_positive, frac_self}
use Rattle.mpc_exact.proofs.School.{frac_expand}

pub row_below : (w j k c : ℕ) → j < k → c < w → j * w + c < k * w
row_below w j k c h l = let m : suc j * w ≤ k * w = mul-le-mul_right w h in omega arith

pub read_small : (z : ℤ) → unsigned_abs z ≤ 2 ^ 62 → to_z w64 (of_z w64 z) ≡ z
read_small z h = to_z-of_z w64 z (fits_signed_from_abs w64 z (omega arith))

pub read_bound : (z : ℤ) (m : ℕ) → unsigned_abs z ≤ m → m ≤ 2 ^ 62 → unsigned_abs (to_z w64 (of_z w64 z)) ≤ m
read_bound z m h l = subst (λ u. unsigned_abs u ≤ m) (sym (read_small z (le_trans h l))) h

pub abs-negated : (a : ℤ) → unsigned_abs (neg_ℤ a) ≡ unsigned_abs a
abs-negated (pos zero) = refl
abs-negated (pos (suc n)) = refl
abs-negated (negsuc n) = refl

pub back128 : (z : ℤ) → mag z < 2 ^ 127 → to_z w128 (of_z w128 z) ≡ z
back128 z h = to_z-of_z w128 z (record { sfits = h })

pub back64 : (z : ℤ) → mag z < 2 ^ 63 → to_z w64 (of_z w64 z) ≡ z
back64 z h = to_z-of_z w64 z (record { sfits = h })

pub both_back : (p x y : ℤ) → FitsSigned w64 x → FitsSigned w64 y → p ≡ to_z w64 (of_z w64 x) *ℤ to_z w64 (of_z w64 y) → p ≡ x *ℤ y
both_back p x y f g e = e ∙ (λ i. to_z-of_z w64 x f i *ℤ to_z-of_z w64 y g i)

pub over_factor : (x : ℚ) (q k : ℕ) (z : ℤ) → 0 < k → q * x.denom ≡ k → z ≡ x.numer *ℤ pos q → x ≡ frac z k
over_factor x zero k z some e f = absurd (omega arith)
over_factor x (suc q) k z some e f =
    sym ((λ i. frac (f i) (sym e i)) ∙ ap (frac (x.numer *ℤ pos (suc q))) (mul_comm (suc q) x.denom) ∙ frac_expand x.numer x.denom (suc q) (denom_positive x) (zero-lt-suc q) ∙ frac_self x)
