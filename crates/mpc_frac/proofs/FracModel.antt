-- What the fields of a `Frac` say of its number.
use Rattle.std.proofs.Common.{◌≡◌, ℕ, ◌^◌, ◌<◌, ℤ, pos, ◌<ℤ◌, unsigned_abs, sym, ap, ◌∙◌, to_z, of_z, arith, subst, T, Bool, true, false, ◌&&◌}
use Rattle.std.specs.Int.{w128}
use lib.Signed.{lt_z, mag}
use Rattle.std.proofs.Common.{◌≢◌}
use Rattle.std.proofs.lemmas.Int.{fits_signed_from_abs, ints, to_z_pos, to_z-of_z}
use Rattle.mpc_exact.specs.Rational.{ℚ, frac, frac_record, is_reduced}
use Rattle.mpc_frac.specs.declared.Frac.TheInside.{Inside}
use Rattle.mpc_frac.specs.FracModel.{number, IsFrac}
use Rattle.mpc_frac.specs.Fits.{FitsFrac}
use Rattle.std.proofs.lemmas.Bool.Decides.{nat_tests}
use Rattle.std.proofs.Common.{IsTrue, nat_eq, ◌↔◌, refl, int_eq}
use Rattle.mpc_exact.specs.Rational.{int}
use Rattle.mpc_frac.proofs.FracParts.{at_zero}

-- a number below 2^127 in size is read back from its bits
pub read_back : (z : ℤ) → unsigned_abs z < 2 ^ 127 → to_z w128 (of_z w128 z) ≡ z
read_back z h = to_z-of_z w128 z (fits_signed_from_abs w128 z h)

pub numer_is : (f : Inside) (x : ℚ) → IsFrac f → number f ≡ x → to_z w128 (of_z w128 f.num) ≡ x.numer
numer_is f x h e = read_back f.num h.numer_fits ∙ sym (ap (λ y. y.numer) (frac_record f.num (unsigned_abs f.den) h.lowest)) ∙ ap (λ y. y.numer) e

pub denom_is : (f : Inside) (x : ℚ) → IsFrac f → number f ≡ x → unsigned_abs (to_z w128 (of_z w128 f.den)) ≡ x.denom
denom_is f x h e = ap unsigned_abs (read_back f.den h.denom_fits) ∙ sym (ap (λ y. y.denom) (frac_record f.num (unsigned_abs f.den) h.lowest)) ∙ ap (λ y. y.denom) e

pub size_is : (f : Inside) (x : ℚ) → IsFrac f → number f ≡ x → unsigned_abs (to_z w128 (of_z w128 f.num)) ≡ unsigned_abs x.numer
size_is f x h e = ap unsigned_abs (numer_is f x h e)

positive_int : (d : ℕ) → 0 < d → pos 0 <ℤ pos d
positive_int d h = omega (arith, ints)

-- the fields that the code writes for the numerator z and the denominator d
module _ (z : ℤ) (d : ℕ) (zs : unsigned_abs z < 2 ^ 127) (ds : d < 2 ^ 127) where
  abbrev pub written : Inside
  written = record { num = to_z w128 (of_z w128 z); den = to_z w128 d }

  written_is : written ≡ record { num = z; den = pos d }
  written_is = λ i. record { num = read_back z zs i; den = to_z_pos w128 d ds i }

  pub written_number : number written ≡ frac z d
  written_number = ap number written_is

  pub written_ok : 0 < d → T (is_reduced z d) → IsFrac written
  written_ok some low = subst IsFrac (sym written_is) (record { positive = positive_int d some; lowest = low; numer_fits = zs; denom_fits = ds })

and_left : (a b : Bool) → T (a && b) → T a
and_left true b t = tt
and_left false b t = t

-- ---- what a `Frac` keeps, said of its number
pub fits_is : (f : Inside) (x : ℚ) → IsFrac f → number f ≡ x → FitsFrac x
fits_is f x h e = subst FitsFrac e (subst FitsFrac (sym (frac_record f.num (unsigned_abs f.den) h.lowest)) (h.numer_fits, h.denom_fits))

pos_abs : (z : ℤ) → pos 0 <ℤ z → z ≡ pos (unsigned_abs z)
pos_abs z h = omega (arith, ints)

pub num_is : (f : Inside) (x : ℚ) → IsFrac f → number f ≡ x → f.num ≡ x.numer
num_is f x h e = sym (read_back f.num h.numer_fits) ∙ numer_is f x h e

pub den_is : (f : Inside) (x : ℚ) → IsFrac f → number f ≡ x → f.den ≡ pos x.denom
den_is f x h e = pos_abs f.den h.positive ∙ ap pos (ap unsigned_abs (sym (read_back f.den h.denom_fits)) ∙ denom_is f x h e)

-- ---- tests
from_test : (m n : ℕ) → IsTrue (nat_eq m n) → m ≡ n
from_test m n h = grind (arith, nat_tests)

pub whole_test : (f : Inside) (x : ℚ) → IsFrac f → number f ≡ x → IsTrue (nat_eq (of_z w128 f.den) 1) ↔ (x.denom ≡ 1)
whole_test f x h e = (
  λ t. sym (denom_is f x h e) ∙ ap (λ n. unsigned_abs (to_z w128 n)) (from_test (of_z w128 f.den) 1 t),
  λ q. subst (λ z. IsTrue (nat_eq (of_z w128 z) 1)) (sym (den_is f x h e ∙ ap pos q)) refl,
)

pub zero_test : (f : Inside) (x : ℚ) → IsFrac f → number f ≡ x → IsTrue (nat_eq (of_z w128 f.num) 0) ↔ (x ≡ int (pos 0))
zero_test f x h e = (
  λ t. (at_zero x).0 (sym (numer_is f x h e) ∙ ap (to_z w128) (from_test (of_z w128 f.num) 0 t)),
  λ q. subst (λ z. IsTrue (nat_eq (of_z w128 z) 0)) (sym (num_is f x h e ∙ (at_zero x).1 q)) refl,
)

pub same_test : (f g : Inside) (x y : ℚ) → IsFrac f → number f ≡ x → IsFrac g → number g ≡ y → int_eq f.num g.num && int_eq f.den g.den ≡ int_eq x.numer y.numer && int_eq (pos x.denom) (pos y.denom)
same_test f g x y h e k d = λ i. int_eq (num_is f x h e i) (num_is g y k d i) && int_eq (den_is f x h e i) (den_is g y k d i)

pub negative_from : (z y : ℤ) → z ≡ y → lt_z z (pos 0) ≡ true → y <ℤ pos 0
negative_from z y e h = grind (arith, ints)

pub positive_from : (z y : ℤ) → z ≡ y → lt_z z (pos 0) ≡ false → z ≢ pos 0 → pos 0 <ℤ y
positive_from z y e h k = grind (arith, ints)

-- a number of the code's width is read back from its bits
pub read_fitting : (z : ℤ) → mag z < 2 ^ 127 → to_z w128 (of_z w128 z) ≡ z
read_fitting z h = to_z-of_z w128 z (record { sfits = h })
