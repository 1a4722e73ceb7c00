-- Whole numbers that fit 128 bits: affine forms and their quotients.
use Rattle.std.proofs.Common.{◌≡◌, ◌≢◌, ℕ, zero, suc, ◌+◌, ◌*◌, ◌^◌, ◌<◌, ◌≤◌, ℤ, pos, negsuc, ◌+ℤ◌, ◌*ℤ◌, ◌<ℤ◌, unsigned_abs, sym, ◌∙◌, ap, subst, arith, lit<}
use Rattle.std.specs.Int.{w128}
use Rattle.std.proofs.lemmas.Int.{ints, unsigned_abs-mul, fits_signed_from_abs, to_z-of_z}
use Rattle.std.specs.Prelude.{◌↔◌, Result, Err}
use mir.Val.{SFits, to_z, of_z}
use Rattle.mpc_frac.specs.declared.FracError.{FracError}
use Rattle.mpc_frac.specs.declared.FracError.TheVariants.{ZeroDenominator, Wide}
use Rattle.std.proofs.Math.Nat.{div-le_self}
use Rattle.mpc_exact.specs.Gcd.{gcd}
use Rattle.mpc_exact.specs.Rational.{ℚ, frac, quotient, abs-div}
use Rattle.mpc_exact.proofs.School.{quotient_positive}
use Rattle.mpc_frac.specs.Fits.{FitsFrac}

abs_sum : (x y : ℤ) → unsigned_abs (x +ℤ y) ≤ unsigned_abs x + unsigned_abs y
abs_sum x y = omega (arith, ints)

abs_product : (s : ℤ) (t : ℕ) → unsigned_abs (s *ℤ pos t) ≡ unsigned_abs s * t
abs_product s t = unsigned_abs-mul s (pos t)

pub product_small : (o s : ℤ) (t : ℕ) → unsigned_abs o + unsigned_abs s * t < 2 ^ 127 → unsigned_abs (s *ℤ pos t) < 2 ^ 127
product_small o s t h = omega (arith, abs_product s t)

pub affine_small : (o s : ℤ) (t : ℕ) → unsigned_abs o + unsigned_abs s * t < 2 ^ 127 → unsigned_abs (o +ℤ (s *ℤ pos t)) < 2 ^ 127
affine_small o s t h = omega (arith, abs_product s t, abs_sum o (s *ℤ pos t))

-- ---- a quotient of numbers that fit
fits_frac : (m : ℤ) (d : ℕ) → unsigned_abs m < 2 ^ 127 → d < 2 ^ 127 → FitsFrac (frac m d)
unfolding frac
fits_frac m zero h k = (lit< tt, lit< tt)
fits_frac m (suc d) h k =
    let g = gcd (unsigned_abs m) (suc d) in
    (omega (arith, abs-div m g, div-le_self (unsigned_abs m) g), omega (arith, div-le_self (suc d) g))

pub fits_quotient : (m den : ℤ) → unsigned_abs m < 2 ^ 127 → pos 0 <ℤ den → unsigned_abs den < 2 ^ 127 → FitsFrac (quotient m den)
fits_quotient m (pos d) h p k = subst FitsFrac (sym (quotient_positive m d (omega (arith, ints)))) (fits_frac m d h k)
fits_quotient m (negsuc d) h p k = absurd p.lt

-- ---- the numbers of the code, as read back from their bits
pub read : (z : ℤ) → unsigned_abs z < 2 ^ 127 → to_z w128 (of_z w128 z) ≡ z
read z h = to_z-of_z w128 z (fits_signed_from_abs w128 z h)

record Numbers (o s f : ℤ) (t : ℕ) : Type 0 where
  o_read : to_z w128 (of_z w128 o) ≡ o
  product_read : to_z w128 (of_z w128 s) *ℤ to_z w128 (of_z w128 f) ≡ s *ℤ pos t
  kept : to_z w128 (of_z w128 (to_z w128 (of_z w128 s) *ℤ to_z w128 (of_z w128 f))) ≡ s *ℤ pos t

numbers : (o s f : ℤ) (t : ℕ) → SFits w128 o → SFits w128 s → f ≡ pos t → t < 2 ^ 64 → unsigned_abs o + unsigned_abs s * t < 2 ^ 127 → Numbers o s f t
numbers o s f t fo fs e small h =
    let product : to_z w128 (of_z w128 s) *ℤ to_z w128 (of_z w128 f) ≡ s *ℤ pos t =
    λ i. to_z-of_z w128 s fs i *ℤ (ap (λ z. to_z w128 (of_z w128 z)) e ∙ read (pos t) (omega arith)) i in
    record {
      o_read = to_z-of_z w128 o fo;
      product_read = product;
      kept = ap (λ z. to_z w128 (of_z w128 z)) product ∙ read (s *ℤ pos t) (product_small o s t h);
    }

pub mul_fits : (o s f : ℤ) (t : ℕ) → SFits w128 o → SFits w128 s → f ≡ pos t → t < 2 ^ 64 → unsigned_abs o + unsigned_abs s * t < 2 ^ 127
    → SFits w128 (to_z w128 (of_z w128 s) *ℤ to_z w128 (of_z w128 f))
mul_fits o s f t fo fs e small h =
    let n = numbers o s f t fo fs e small h in
    subst (SFits w128) (sym n.product_read) (fits_signed_from_abs w128 (s *ℤ pos t) (product_small o s t h))

sum_read : (o s f : ℤ) (t : ℕ) → Numbers o s f t
    → to_z w128 (of_z w128 o) +ℤ to_z w128 (of_z w128 (to_z w128 (of_z w128 s) *ℤ to_z w128 (of_z w128 f))) ≡ o +ℤ (s *ℤ pos t)
sum_read o s f t n = λ i. n.o_read i +ℤ n.kept i

pub add_fits : (o s f : ℤ) (t : ℕ) → SFits w128 o → SFits w128 s → f ≡ pos t → t < 2 ^ 64 → unsigned_abs o + unsigned_abs s * t < 2 ^ 127
    → SFits w128 (to_z w128 (of_z w128 o) +ℤ to_z w128 (of_z w128 (to_z w128 (of_z w128 s) *ℤ to_z w128 (of_z w128 f))))
add_fits o s f t fo fs e small h =
    subst (SFits w128) (sym (sum_read o s f t (numbers o s f t fo fs e small h))) (fits_signed_from_abs w128 (o +ℤ (s *ℤ pos t)) (affine_small o s t h))

pub affine_read : (o s f : ℤ) (t : ℕ) → SFits w128 o → SFits w128 s → f ≡ pos t → t < 2 ^ 64 → unsigned_abs o + unsigned_abs s * t < 2 ^ 127
    → to_z w128 (of_z w128 (to_z w128 (of_z w128 o) +ℤ to_z w128 (of_z w128 (to_z w128 (of_z w128 s) *ℤ to_z w128 (of_z w128 f))))) ≡ o +ℤ (s *ℤ pos t)
affine_read o s f t fo fs e small h =
    ap (λ z. to_z w128 (of_z w128 z)) (sum_read o s f t (numbers o s f t fo fs e small h)) ∙ read (o +ℤ (s *ℤ pos t)) (affine_small o s t h)

-- ---- a fraction of numbers that fit is no error
pub no_error : (r : Result ℚ FracError) (e : FracError) (num den n m : ℤ) → r ≡ Err e → (r ≡ Err ZeroDenominator) ↔ (m ≡ pos 0)
    → (r ≡ Err Wide) ↔ ((m ≢ pos 0) × ((FitsFrac (quotient n m)) → ⊥)) → n ≡ num → m ≡ den → unsigned_abs num < 2 ^ 127 → pos 0 <ℤ den → unsigned_abs den < 2 ^ 127 → ⊥
no_error r ZeroDenominator num den n m is none wide ne me h p k = let e : den ≡ pos 0 = sym me ∙ none.0 is in omega (arith, ints)
no_error r Wide num den n m is none wide ne me h p k = (wide.0 is).1 (subst FitsFrac (λ i. quotient (sym ne i) (sym me i)) (fits_quotient num den h p k))

-- a factor that fits, unless the other one is 0
pub read_term : (k : ℤ) (t : ℕ) → unsigned_abs k * t < 2 ^ 127 → to_z w128 (of_z w128 k) *ℤ pos t ≡ k *ℤ pos t
read_term k zero h = nothing (to_z w128 (of_z w128 k)) ∙ sym (nothing k)
  where
    nothing : (z : ℤ) → z *ℤ pos 0 ≡ pos 0
    nothing z = omega (arith, ints)
read_term k (suc t) h = ap (λ z. z *ℤ pos (suc t)) (read k (omega arith))
