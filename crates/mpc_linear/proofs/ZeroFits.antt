-- Adding 0 and multiplying by 0 are never too wide.
use Rattle.std.proofs.Common.{◌≡◌, ℕ, zero, suc, ◌*◌, ◌/◌, ◌^◌, ◌<◌, ℤ, pos, negsuc, ◌+ℤ◌, ◌*ℤ◌, neg_ℤ, unsigned_abs, [], ◌∷◌, refl, sym, ◌∙◌, ap, subst, arith, div-one, mul-one, lit<}
use Rattle.std.proofs.lemmas.Int.{ints}
use Rattle.mpc_exact.specs.Gcd.{gcd, gcd_comm, gcd_one}
use Rattle.mpc_exact.specs.Rational.{ℚ, frac, int, ◌+ℚ◌, ◌*ℚ◌, ◌-ℚ◌, neg_ℚ, denom_positive, parts_coprime, frac_parts}
use Rattle.mpc_exact.proofs.RationalRing.{reads, by_ring}
use Rattle.mpc_frac.specs.Fits.{FitsFrac, FitsSum, common, left_of_sum, right_of_sum, denom_of_sum}
use Rattle.mpc_linear.specs.Dot.{TermFits, TakenFits}

int_numer : (n : ℤ) → (int n).numer ≡ n
int_numer n = (frac_parts n 1 (lit< tt) (gcd_one (unsigned_abs n))).0

int_denom : (n : ℤ) → (int n).denom ≡ 1
int_denom n = (frac_parts n 1 (lit< tt) (gcd_one (unsigned_abs n))).1

abs-neg : (z : ℤ) → unsigned_abs (neg_ℤ z) ≡ unsigned_abs z
abs-neg (pos zero) = refl
abs-neg (pos (suc n)) = refl
abs-neg (negsuc n) = refl

neg_is : (x : ℚ) → frac (neg_ℤ x.numer) x.denom ≡ neg_ℚ x
unfolding neg_ℚ
neg_is x = refl

zero_small : 0 < 2 ^ 127
zero_small = lit< tt

one_small : 1 < 2 ^ 127
one_small = lit< tt

pub fits_zero : FitsFrac (int (pos 0))
fits_zero = (subst (λ z. unsigned_abs z < 2 ^ 127) (sym (int_numer (pos 0))) zero_small, subst (λ d. d < 2 ^ 127) (sym (int_denom (pos 0))) one_small)

pub zero_left : (x y : ℚ) → x ≡ int (pos 0) → int (pos 0) ≡ x *ℚ y
zero_left x y e = by_ring (y ∷ []) (search reads depth 30) (search reads depth 30) tt ∙ ap (λ u. u *ℚ y) (sym e)

pub zero_right : (x y : ℚ) → y ≡ int (pos 0) → int (pos 0) ≡ x *ℚ y
zero_right x y e = by_ring (x ∷ []) (search reads depth 30) (search reads depth 30) tt ∙ ap (λ u. x *ℚ u) (sym e)

-- the sum of parts a / b and 0 / 1
times_one : (z : ℤ) (n : ℕ) → n ≡ 1 → z *ℤ pos n ≡ z
times_one z n e = ap (λ k. z *ℤ pos k) e ∙ omega (arith, ints)

times_nought : (z : ℤ) (n : ℕ) → z ≡ pos 0 → z *ℤ pos n ≡ pos 0
times_nought z n e = ap (λ k. k *ℤ pos n) e ∙ omega (arith, ints)

module _ (x : ℚ) where
  whole_common : common x (int (pos 0)) ≡ 1
  whole_common = ap (λ d. gcd x.denom d) (int_denom (pos 0)) ∙ gcd_one x.denom

  left_is : left_of_sum x (int (pos 0)) ≡ x.numer
  left_is = times_one x.numer ((int (pos 0)).denom / common x (int (pos 0))) ((λ i. int_denom (pos 0) i / whole_common i) ∙ div-one 1)

  right_is : right_of_sum x (int (pos 0)) ≡ pos 0
  right_is = times_nought (int (pos 0)).numer (x.denom / common x (int (pos 0))) (int_numer (pos 0))

  sum_is : left_of_sum x (int (pos 0)) +ℤ right_of_sum x (int (pos 0)) ≡ x.numer
  sum_is = (λ i. left_is i +ℤ right_is i) ∙ omega (arith, ints)

  below_is : denom_of_sum x (int (pos 0)) ≡ x.denom
  below_is = ap (λ k. x.denom * k) ((λ i. int_denom (pos 0) i / whole_common i) ∙ div-one 1) ∙ mul-one x.denom

  pub fits_add_zero : FitsFrac x → FitsSum x (int (pos 0))
  fits_add_zero h = record {
    left = subst (λ z. unsigned_abs z < 2 ^ 127) (sym left_is) h.0;
    right = subst (λ z. unsigned_abs z < 2 ^ 127) (sym right_is) zero_small;
    sum = subst (λ z. unsigned_abs z < 2 ^ 127) (sym sum_is) h.0;
    denom = subst (λ d. d < 2 ^ 127) (sym below_is) h.1;
  }

module _ (x y : ℚ) (h : x ≡ int (pos 0)) where
  pub zero_add : y ≡ x +ℚ y
  zero_add = by_ring (y ∷ []) (search reads depth 30) (search reads depth 30) tt ∙ ap (λ u. u +ℚ y) (sym h)

  pub zero_take : neg_ℚ y ≡ x +ℚ neg_ℚ y
  zero_take = by_ring (y ∷ []) (search reads depth 30) (search reads depth 30) tt ∙ ap (λ u. u +ℚ neg_ℚ y) (sym h)

  numer_nought : x.numer ≡ pos 0
  numer_nought = ap (λ u. u.numer) h ∙ int_numer (pos 0)

  denom_whole : x.denom ≡ 1
  denom_whole = ap (λ u. u.denom) h ∙ int_denom (pos 0)

  front_common : common x y ≡ 1
  front_common = gcd_comm x.denom y.denom ∙ ap (λ d. gcd y.denom d) denom_whole ∙ gcd_one y.denom

  front_left : left_of_sum x y ≡ pos 0
  front_left = times_nought x.numer (y.denom / common x y) numer_nought

  front_right : right_of_sum x y ≡ y.numer
  front_right = times_one y.numer (x.denom / common x y) ((λ i. denom_whole i / front_common i) ∙ div-one 1)

  front_sum : left_of_sum x y +ℤ right_of_sum x y ≡ y.numer
  front_sum = (λ i. front_left i +ℤ front_right i) ∙ omega (arith, ints)

  front_below : denom_of_sum x y ≡ y.denom
  front_below = (λ i. denom_whole i * (y.denom / front_common i)) ∙ ap (λ k. 1 * k) (div-one y.denom) ∙ omega arith

  pub fits_zero_add : FitsFrac y → FitsSum x y
  fits_zero_add f = record {
    left = subst (λ z. unsigned_abs z < 2 ^ 127) (sym front_left) zero_small;
    right = subst (λ z. unsigned_abs z < 2 ^ 127) (sym front_right) f.0;
    sum = subst (λ z. unsigned_abs z < 2 ^ 127) (sym front_sum) f.0;
    denom = subst (λ d. d < 2 ^ 127) (sym front_below) f.1;
  }

module _ (x : ℚ) where
  neg_parts : ((neg_ℚ x).numer ≡ neg_ℤ x.numer) × ((neg_ℚ x).denom ≡ x.denom)
  neg_parts =
      let p = frac_parts (neg_ℤ x.numer) x.denom (denom_positive x) (ap (λ n. gcd n x.denom) (abs-neg x.numer) ∙ parts_coprime x) in
      (ap (λ u. u.numer) (sym (neg_is x)) ∙ p.0, ap (λ u. u.denom) (sym (neg_is x)) ∙ p.1)

  pub fits_neg : FitsFrac x → FitsFrac (neg_ℚ x)
  fits_neg h = (subst (λ n. n < 2 ^ 127) (sym (ap unsigned_abs neg_parts.0 ∙ abs-neg x.numer)) h.0, subst (λ d. d < 2 ^ 127) (sym neg_parts.1) h.1)

-- ---- a sum with a product
module _ (s x y : ℚ) where
  pub from_zero : s ≡ int (pos 0) → FitsFrac (x *ℚ y) → TermFits s x y
  from_zero e h = record { product = h; sum = fits_zero_add s (x *ℚ y) e h }

  pub taken_from_zero : s ≡ int (pos 0) → FitsFrac (x *ℚ y) → TakenFits s x y
  taken_from_zero e h = record { product = h; difference = fits_zero_add s (neg_ℚ (x *ℚ y)) e (fits_neg (x *ℚ y) h) }

  pub nothing_added : FitsFrac s → int (pos 0) ≡ x *ℚ y → TermFits s x y
  nothing_added h e = record { product = subst (λ z. FitsFrac z) e fits_zero; sum = subst (λ z. FitsSum s z) e (fits_add_zero s h) }

  pub nothing_taken : FitsFrac s → int (pos 0) ≡ x *ℚ y → TakenFits s x y
  nothing_taken h e = record {
    product = subst (λ z. FitsFrac z) e fits_zero;
    difference = subst (λ z. FitsSum s z) (by_ring [] (search reads depth 30) (search reads depth 30) tt ∙ ap neg_ℚ e) (fits_add_zero s h);
  }

  pub same_added : int (pos 0) ≡ x *ℚ y → s ≡ s +ℚ x *ℚ y
  same_added e = by_ring (s ∷ []) (search reads depth 30) (search reads depth 30) tt ∙ ap (λ u. s +ℚ u) e

  pub same_taken : int (pos 0) ≡ x *ℚ y → s ≡ s -ℚ x *ℚ y
  same_taken e = by_ring (s ∷ []) (search reads depth 30) (search reads depth 30) tt ∙ ap (λ u. s -ℚ u) e
