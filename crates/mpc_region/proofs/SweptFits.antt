-- Fractions over one denominator: which sums of products of them fit, and which fit as whole numbers.
use Rattle.std.proofs.Common.{◌≡◌, ℕ, zero, suc, ◌+◌, ◌*◌, ◌/◌, ◌^◌, ◌<◌, ◌≤◌, List, [], ◌∷◌, length, ℤ, pos, ◌+ℤ◌, ◌*ℤ◌, unsigned_abs, sym, ◌∙◌, ap, subst, arith, ⊎_elim, mul-le-mul_left, mul-le-mul_right}
use Rattle.std.specs.Int.{◌∣◌}
use Rattle.std.proofs.lemmas.Bool.{cases_lt}
use Rattle.std.proofs.lemmas.Int.{unsigned_abs-mul}
use Rattle.std.proofs.lemmas.List.{get_or_default}
use native.Mathlib.Nat.{le_of_dvd, mul-div_cancel', dvd-mul_left}
use Rattle.mpc_exact.specs.Gcd.{gcd, gcd-divides_right}
use Rattle.mpc_exact.specs.Rational.{ℚ, frac, ◌+ℚ◌, ◌*ℚ◌}
use Rattle.mpc_exact.specs.Denominator.{common_denom, IsCommonDenom}
use Rattle.mpc_exact.proofs.Rational.{frac_same}
use Rattle.mpc_exact.proofs.Denominator.{over_multiple, common_denom_is, common_denom_least, common_denom-positive}
use Rattle.mpc_space.specs.Vector.{coordinate}
use Rattle.mpc_frac.specs.Fits.{FitsFrac, FitsSum}
use Rattle.mpc_linear.specs.Dot.{SumFits}
use Rattle.mpc_linear.specs.Whole.{scaled, WholeFits}
use Rattle.mpc_quotients.specs.OverTheorems.{OverTheorems}
use Rattle.mpc_region.proofs.SweptDivisors.{abs_sum}

-- x is a number of at most this size over m
pub record Over (m most : ℕ) (x : ℚ) : Type 0 where
  pub at : ℤ
  pub is : x ≡ frac at m
  pub small : unsigned_abs at ≤ most

module _ (over : OverTheorems) (m : ℕ) (some : 0 < m) (small : m < 2 ^ 127) (most : ℕ) where
  -- a sum of products from a number on
  pub sum_fits : (xs ys : List ℚ) (z : ℤ) → unsigned_abs z + length xs * most < 2 ^ 127 → ((k : ℕ) → k < length xs → Over m most (coordinate xs k *ℚ coordinate ys k)) → SumFits (frac z m) xs ys
  sum_fits [] ys z h a = tt
  sum_fits (x ∷ xs) [] z h a = tt
  sum_fits (x ∷ xs) (y ∷ ys) z h a =
      let t : Over m most (x *ℚ y) = a 0 (omega arith) in
      let p : ℤ = t.at in
      let b : unsigned_abs p ≤ most = t.small in
      let l = abs_sum z p in (
        record {
          product = subst FitsFrac (sym t.is) (over.fits p m some (omega arith) small);
          sum = subst (FitsSum (frac z m)) (sym t.is) (over.sum_fits z p m some (omega arith) small);
        },
        subst (λ s. SumFits s xs ys) (sym (ap (λ u. frac z m +ℚ u) t.is ∙ over.sum z p m some)) (sum_fits xs ys (z +ℤ p) (omega arith) (λ k l. a (suc k) (omega arith))),
      )

-- ---- as whole numbers
denom_divides : (a : ℤ) (m : ℕ) → 0 < m → (frac a m).denom ∣ m
unfolding frac
denom_divides a zero h = absurd (omega arith)
denom_divides a (suc m) h =
    let g = gcd (unsigned_abs a) (suc m) in
    let e : g * (suc m / g) ≡ suc m = mul-div_cancel' g (gcd-divides_right (unsigned_abs a) (suc m)) in
    subst (λ n. suc m / g ∣ n) e (dvd-mul_left (suc m / g) g)

cancelled : (u v m l : ℕ) → 0 < m → l ≤ m → u * m ≡ v * l → u ≤ v
cancelled u v m l some h e = ⊎_elim
    (λ k. let a : suc v * m ≤ u * m = mul-le-mul_right m k in let b : v * l ≤ v * m = mul-le-mul_left v h in absurd (omega arith))
    (λ k. k)
    (cases_lt v u)

-- over a lesser denominator the number is no greater
numer_over : (a : ℤ) (m l : ℕ) → 0 < m → 0 < l → l ≤ m → (frac a m).denom ∣ l → unsigned_abs (scaled l (frac a m)) ≤ unsigned_abs a
numer_over a m l p q h d =
    let x = frac a m in
    let z = scaled l x in
    let e : z *ℤ pos m ≡ a *ℤ pos l = frac_same z l a m q p (over_multiple x l q d) in
    cancelled (unsigned_abs z) (unsigned_abs a) m l p h (sym (unsigned_abs-mul z (pos m)) ∙ ap unsigned_abs e ∙ unsigned_abs-mul a (pos l))

common_at : (n : ℕ) (c : List ℚ) (k : ℕ) → k < length c → IsCommonDenom n c → (coordinate c k).denom ∣ n
common_at n [] k h i = absurd (omega arith)
common_at n (x ∷ xs) zero h i = i.0
common_at n (x ∷ xs) (suc k) h i = common_at n xs k (omega arith) i.1

module _ (m : ℕ) (some : 0 < m) (most : ℕ) where
  all_over : (c : List ℚ) → ((k : ℕ) → k < length c → Over m most (coordinate c k)) → IsCommonDenom m c
  all_over [] a = tt
  all_over (x ∷ xs) a =
      let t : Over m most x = a 0 (omega arith) in
      (subst (λ y. y.denom ∣ m) (sym t.is) (denom_divides t.at m some), all_over xs (λ k h. a (suc k) (omega arith)))

  pub whole_fits : m < 2 ^ 127 → most < 2 ^ 127 → (c : List ℚ) → ((k : ℕ) → k < length c → Over m most (coordinate c k)) → WholeFits c
  whole_fits small few c a = record {
    denom = let l = least in omega arith;
    numers = λ k d h.
        let t : Over m most (coordinate c k) = a k h in
        let b : unsigned_abs t.at ≤ most = t.small in
        let divided : (frac t.at m).denom ∣ common_denom c = subst (λ y. y.denom ∣ common_denom c) t.is (common_at (common_denom c) c k h (common_denom_is c)) in
        let n : unsigned_abs (scaled (common_denom c) (frac t.at m)) ≤ unsigned_abs t.at = numer_over t.at m (common_denom c) some (common_denom-positive c) least divided in
        subst (λ y. unsigned_abs (scaled (common_denom c) y) < 2 ^ 127) (sym (get_or_default c k d _ h ∙ t.is)) (omega arith);
  }
    where
      least : common_denom c ≤ m
      least = le_of_dvd some (common_denom_least m c (all_over c a))
