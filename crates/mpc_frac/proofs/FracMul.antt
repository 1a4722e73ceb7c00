-- The product of two fractions in lowest terms, with what cancels crosswise taken out first, is in lowest terms.
use Rattle.std.proofs.Common.{◌≡◌, ℕ, zero, suc, ◌*◌, ◌/◌, ◌<◌, ◌≤◌, [], ◌∷◌, ℤ, pos, negsuc, ◌*ℤ◌, neg_ℤ, unsigned_abs, T, refl, sym, ◌∙◌, ap, subst, arith, mul-pos, mul_comm, mul-one, lt_irrefl}
use native.Mathlib.Nat.{mul-div_cancel', mul-div_cancel_left, pos_of_dvd_of_pos, dvd-mul_right, dvd-mul_left, mul-mul-mul_comm}
use Rattle.std.specs.Int.{◌∣◌}
use Rattle.std.proofs.lemmas.Int.{ints, unsigned_abs-mul}
use Rattle.mpc_exact.specs.Gcd.{gcd, gcd-parts, gcd-divides_left, gcd-divides_right, gcd-mul, gcd-positive, coprime_divisors, coprime-mul, gcd_comm, part-positive}
use Rattle.std.proofs.Common.{ltb, eqb, lt→ltb}
use lib.Dec.{eqb_refl}
use Rattle.mpc_exact.specs.Rational.{ℚ, frac, ◌*ℚ◌, is_reduced, abs-div, frac_self, denom_positive, parts_coprime, T_and}
use Rattle.std.proofs.Common.{◌^◌}
use Rattle.mpc_frac.specs.Fits.{FitsFrac, cross_left, cross_right, size_of_product, denom_of_product}
use Rattle.mpc_frac.specs.Sign.{signed_like}
use Rattle.mpc_exact.proofs.IntRing.{int_reads, by_ring_ℤ}
use Rattle.mpc_exact.proofs.Rational.{same_frac, frac-mul}

divides_of : (k m n : ℕ) → k * m ≡ n → m ∣ n
divides_of k m n e = subst (λ x. m ∣ x) e (dvd-mul_left m k)

-- n / d has the parts m and e, where both had the factor k
pub frac_abs : (n : ℤ) (d m e k : ℕ) → 0 < d → unsigned_abs n ≡ k * m → d ≡ k * e → gcd m e ≡ 1 → (unsigned_abs (frac n d).numer ≡ m) × ((frac n d).denom ≡ e)
unfolding frac
frac_abs n zero m e k h p q o = absurd (lt_irrefl 0 h)
frac_abs n (suc d) m e k h p q o =
    let some : 0 < k = pos_of_dvd_of_pos (subst (λ x. k ∣ x) (sym q) (dvd-mul_right k e)) h in
    let g : gcd (unsigned_abs n) (suc d) ≡ k = (λ i. gcd (p i) (q i)) ∙ gcd-mul k m e some ∙ ap (λ x. k * x) o ∙ mul-one k in
    (abs-div n (gcd (unsigned_abs n) (suc d)) ∙ (λ i. p i / g i) ∙ mul-div_cancel_left m some, (λ i. q i / g i) ∙ mul-div_cancel_left e some)

-- ---- crosswise
module _ (a : ℤ) (b : ℕ) (c : ℤ) (d : ℕ) (p : 0 < b) (q : 0 < d) (ab : gcd (unsigned_abs a) b ≡ 1) (cd : gcd (unsigned_abs c) d ≡ 1) where
  abbrev left : ℕ
  left = gcd (unsigned_abs a) d

  abbrev right : ℕ
  right = gcd (unsigned_abs c) b

  a_is : left * (unsigned_abs a / left) ≡ unsigned_abs a
  a_is = mul-div_cancel' left (gcd-divides_left (unsigned_abs a) d)

  d_is : left * (d / left) ≡ d
  d_is = mul-div_cancel' left (gcd-divides_right (unsigned_abs a) d)

  c_is : right * (unsigned_abs c / right) ≡ unsigned_abs c
  c_is = mul-div_cancel' right (gcd-divides_left (unsigned_abs c) b)

  b_is : right * (b / right) ≡ b
  b_is = mul-div_cancel' right (gcd-divides_right (unsigned_abs c) b)

  abbrev pub product_numer : ℕ
  product_numer = (unsigned_abs a / left) * (unsigned_abs c / right)

  abbrev pub product_denom : ℕ
  product_denom = (b / right) * (d / left)

  pub product_coprime : gcd product_numer product_denom ≡ 1
  product_coprime =
      let x = unsigned_abs a / left in
      let y = unsigned_abs c / right in
      let s = b / right in
      let t = d / left in
      let xs : gcd x s ≡ 1 = coprime_divisors (unsigned_abs a) b x s ab (divides_of left x (unsigned_abs a) a_is) (divides_of right s b b_is) in
      let xt : gcd x t ≡ 1 = gcd-parts (unsigned_abs a) d q in
      let ys : gcd y s ≡ 1 = gcd-parts (unsigned_abs c) b p in
      let yt : gcd y t ≡ 1 = coprime_divisors (unsigned_abs c) d y t cd (divides_of right y (unsigned_abs c) c_is) (divides_of left t d d_is) in
      gcd_comm (x * y) (s * t) ∙ coprime-mul (s * t) x y (gcd_comm (s * t) x ∙ coprime-mul x s t xs xt) (gcd_comm (s * t) y ∙ coprime-mul y s t ys yt)

  sizes : unsigned_abs (a *ℤ c) ≡ (left * right) * product_numer
  sizes = unsigned_abs-mul a c ∙ (λ i. sym a_is i * sym c_is i) ∙ mul-mul-mul_comm left (unsigned_abs a / left) right (unsigned_abs c / right)

  bottoms : b * d ≡ (left * right) * product_denom
  bottoms = (λ i. sym b_is i * sym d_is i) ∙ mul-mul-mul_comm right (b / right) left (d / left) ∙ ap (λ n. n * product_denom) (mul_comm right left)

  pub product_denom-positive : 0 < product_denom
  product_denom-positive = mul-pos (part-positive (unsigned_abs c) b p) (part-positive (unsigned_abs a) d q)

  pub product_parts : (unsigned_abs (frac a b *ℚ frac c d).numer ≡ product_numer) × ((frac a b *ℚ frac c d).denom ≡ product_denom)
  product_parts = subst (λ z. (unsigned_abs z.numer ≡ product_numer) × (z.denom ≡ product_denom)) (sym (frac-mul a b c d p q))
      (frac_abs (a *ℤ c) (b * d) product_numer product_denom (left * right) (mul-pos p q) sizes bottoms product_coprime)

neg_pos-mul : (n k : ℕ) → neg_ℤ (pos n) *ℤ pos k ≡ neg_ℤ (pos (n * k))
neg_pos-mul zero k = omega (arith, ints)
neg_pos-mul (suc n) k = refl

signed-mul : (a c : ℤ) (n k : ℕ) → unsigned_abs (a *ℤ c) ≡ k * n → signed_like a c n *ℤ pos k ≡ a *ℤ c
signed-mul (pos a) (pos c) n k e = ap pos (mul_comm n k ∙ sym e)
signed-mul (pos a) (negsuc c) n k e = neg_pos-mul n k ∙ ap (λ m. neg_ℤ (pos m)) (mul_comm n k ∙ sym e ∙ abs-neg (a * suc c))
  where
    abs-neg : (m : ℕ) → unsigned_abs (neg_ℤ (pos m)) ≡ m
    abs-neg zero = refl
    abs-neg (suc m) = refl
signed-mul (negsuc a) (pos c) n k e = neg_pos-mul n k ∙ ap (λ m. neg_ℤ (pos m)) (mul_comm n k ∙ sym e ∙ abs-neg (suc a * c))
  where
    abs-neg : (m : ℕ) → unsigned_abs (neg_ℤ (pos m)) ≡ m
    abs-neg zero = refl
    abs-neg (suc m) = refl
signed-mul (negsuc a) (negsuc c) n k e = ap pos (mul_comm n k ∙ sym e)

pub signed_abs : (a c : ℤ) (n : ℕ) → unsigned_abs (signed_like a c n) ≡ n
signed_abs (pos a) (pos c) n = refl
signed_abs (pos a) (negsuc c) zero = refl
signed_abs (pos a) (negsuc c) (suc n) = refl
signed_abs (negsuc a) (pos c) zero = refl
signed_abs (negsuc a) (pos c) (suc n) = refl
signed_abs (negsuc a) (negsuc c) n = refl

regroup : (n k e : ℤ) → n *ℤ (k *ℤ e) ≡ (n *ℤ k) *ℤ e
regroup n k e = by_ring_ℤ (n ∷ k ∷ e ∷ []) (search int_reads depth 30) (search int_reads depth 30) tt

module _ (a : ℤ) (b : ℕ) (c : ℤ) (d : ℕ) (p : 0 < b) (q : 0 < d) (ab : gcd (unsigned_abs a) b ≡ 1) (cd : gcd (unsigned_abs c) d ≡ 1) where
  pub product_is : frac (signed_like a c (product_numer a b c d p q ab cd)) (product_denom a b c d p q ab cd) ≡ frac a b *ℚ frac c d
  product_is =
      let n = product_numer a b c d p q ab cd in
      let e = product_denom a b c d p q ab cd in
      let k = gcd (unsigned_abs a) d * gcd (unsigned_abs c) b in
      same_frac (signed_like a c n) e (a *ℤ c) (b * d) (product_denom-positive a b c d p q ab cd) (mul-pos p q)
      (ap (λ m. signed_like a c n *ℤ pos m) (bottoms a b c d p q ab cd) ∙ regroup (signed_like a c n) (pos k) (pos e) ∙ ap (λ z. z *ℤ pos e) (signed-mul a c n k (sizes a b c d p q ab cd)))
      ∙ sym (frac-mul a b c d p q)

-- ---- the same of two fractions
module _ (x y : ℚ) where
  pub left_positive : 0 < (cross_left x y)
  left_positive = gcd-positive (unsigned_abs x.numer) y.denom (denom_positive y)

  pub right_positive : 0 < (cross_right x y)
  right_positive = gcd-positive (unsigned_abs y.numer) x.denom (denom_positive x)

  as_fracs : frac x.numer x.denom *ℚ frac y.numer y.denom ≡ x *ℚ y
  as_fracs = λ i. frac_self x i *ℚ frac_self y i

  pub product_size : unsigned_abs (x *ℚ y).numer ≡ (size_of_product x y)
  product_size = subst (λ z. unsigned_abs z.numer ≡ (size_of_product x y)) as_fracs (product_parts x.numer x.denom y.numer y.denom (denom_positive x) (denom_positive y) (parts_coprime x) (parts_coprime y)).0

  pub product_bottom : (x *ℚ y).denom ≡ (denom_of_product x y)
  product_bottom = subst (λ z. z.denom ≡ (denom_of_product x y)) as_fracs (product_parts x.numer x.denom y.numer y.denom (denom_positive x) (denom_positive y) (parts_coprime x) (parts_coprime y)).1

  pub product_value : frac (signed_like x.numer y.numer (size_of_product x y)) (denom_of_product x y) ≡ x *ℚ y
  product_value = product_is x.numer x.denom y.numer y.denom (denom_positive x) (denom_positive y) (parts_coprime x) (parts_coprime y) ∙ as_fracs

  pub product_alone : gcd (size_of_product x y) (denom_of_product x y) ≡ 1
  product_alone = product_coprime x.numer x.denom y.numer y.denom (denom_positive x) (denom_positive y) (parts_coprime x) (parts_coprime y)

  pub product_some : 0 < denom_of_product x y
  product_some = product_denom-positive x.numer x.denom y.numer y.denom (denom_positive x) (denom_positive y) (parts_coprime x) (parts_coprime y)

  pub product_reduced : T (is_reduced (signed_like x.numer y.numer (size_of_product x y)) (denom_of_product x y))
  product_reduced = T_and (ltb 0 (denom_of_product x y)) (eqb (gcd (unsigned_abs (signed_like x.numer y.numer (size_of_product x y))) (denom_of_product x y)) 1)
      (lt→ltb 0 (denom_of_product x y) (product_denom-positive x.numer x.denom y.numer y.denom (denom_positive x) (denom_positive y) (parts_coprime x) (parts_coprime y)))
      (subst (λ m. T (eqb m 1)) (sym (ap (λ m. gcd m (denom_of_product x y)) (signed_abs x.numer y.numer (size_of_product x y)) ∙ product_coprime x.numer x.denom y.numer y.denom (denom_positive x) (denom_positive y) (parts_coprime x) (parts_coprime y))) (eqb_refl 1))

clash : (m n : ℕ) → m ≤ n → n < m → ⊥
clash m n h k = omega arith

pub wide_size : (x y : ℚ) (n : ℕ) → n ≡ size_of_product x y → 2 ^ 127 ≤ n → ¬ FitsFrac (x *ℚ y)
wide_size x y n e h f = clash (2 ^ 127) n h (subst (λ m. m < 2 ^ 127) (product_size x y ∙ sym e) f.0)

pub wide_denom : (x y : ℚ) (n : ℕ) → n ≡ denom_of_product x y → 2 ^ 127 ≤ n → ¬ FitsFrac (x *ℚ y)
wide_denom x y n e h f = clash (2 ^ 127) n h (subst (λ m. m < 2 ^ 127) (product_bottom x y ∙ sym e) f.1)

-- what the code computed, step by step
module _ (x y : ℚ) (a c xd yd l r : ℕ) (ea : a ≡ unsigned_abs x.numer) (ec : c ≡ unsigned_abs y.numer) (ex : xd ≡ x.denom) (ey : yd ≡ y.denom) (el : l ≡ gcd a yd) (er : r ≡ gcd c xd) where
  pub size_computed : (a' c' : ℕ) → a' ≡ unsigned_abs x.numer → c' ≡ unsigned_abs y.numer → (a' / l) * (c' / r) ≡ size_of_product x y
  size_computed a' c' p q = cc

  pub denom_computed : (xd' yd' : ℕ) → xd' ≡ x.denom → yd' ≡ y.denom → (xd' / r) * (yd' / l) ≡ denom_of_product x y
  denom_computed xd' yd' p q = cc

-- the fraction of these parts, read back from its fields
pub product_from : (x y : ℚ) (n d : ℕ) (z : ℤ) → n ≡ size_of_product x y → d ≡ denom_of_product x y → z ≡ signed_like x.numer y.numer n → frac z d ≡ x *ℚ y
product_from x y n d z p q e = (λ i. frac (e i) (q i)) ∙ ap (λ m. frac (signed_like x.numer y.numer m) (denom_of_product x y)) p ∙ product_value x y

pub coprime_from : (x y : ℚ) (n d : ℕ) (z : ℤ) → n ≡ size_of_product x y → d ≡ denom_of_product x y → z ≡ signed_like x.numer y.numer n → gcd (unsigned_abs z) d ≡ 1
coprime_from x y n d z p q e = ap (λ k. gcd k d) (ap unsigned_abs e ∙ signed_abs x.numer y.numer n) ∙ (λ i. gcd (p i) (q i)) ∙ product_alone x y

pub product_fits : (x y : ℚ) (n d : ℕ) → n ≡ size_of_product x y → d ≡ denom_of_product x y → n < 2 ^ 127 → d < 2 ^ 127 → FitsFrac (x *ℚ y)
product_fits x y n d p q h k = (subst (λ m. m < 2 ^ 127) (p ∙ sym (product_size x y)) h, subst (λ m. m < 2 ^ 127) (q ∙ sym (product_bottom x y)) k)
