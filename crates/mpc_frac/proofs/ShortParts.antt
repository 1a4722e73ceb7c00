-- Sums and products of fractions whose parts fit 64 bits.
use Rattle.std.proofs.Common.{◌≡◌, ℕ, ◌*◌, ◌/◌, ◌%◌, ◌^◌, ◌<◌, ◌≤◌, ℤ, pos, negsuc, ◌+ℤ◌, ◌*ℤ◌, unsigned_abs, int_cmp, sym, ◌∙◌, ap, subst, arith, div-le_self, mul-le-mul_right, lit<, to_z, of_z}
use Rattle.std.specs.Int.{w64, w128, ◌∣◌}
use Rattle.std.proofs.Common.{Result, Ok, Err, Some, OkIff, FitsSigned}
use Rattle.std.specs.Result.{result_ok}
use Rattle.std.proofs.lemmas.Result.{OkIff-at_ok}
use lib.Signed.{mag}
use Rattle.std.proofs.lemmas.Int.{ints, unsigned_abs-mul, to_z_pos, to_z-of_z}
use Rattle.std.proofs.Math.Nat.{pos_of_dvd_of_pos}
use Rattle.mpc_exact.specs.Gcd.{gcd, gcd_comm}
use Rattle.mpc_exact.specs.Rational.{ℚ, frac, ◌+ℚ◌, ◌*ℚ◌, cmp_ℚ, frac_parts}
use Rattle.mpc_exact.proofs.Rational.{frac-mul}
use Rattle.mpc_frac.specs.Fits.{FitsFrac, FitsSum, common, left_of_sum, right_of_sum, denom_of_sum, size_of_product, denom_of_product}
use Rattle.mpc_frac.proofs.FracModel.{read_back, read_fitting}
use Rattle.mpc_frac.proofs.Binary.{gcd-mod}
use Rattle.mpc_frac.proofs.FitLemmas.{whole_fits}
use Rattle.mpc_frac.proofs.LikeFractions.{like_value}

-- ---- widths
abs_most : (a : ℤ) → mag a < 2 ^ 63 → unsigned_abs a ≤ 2 ^ 63
abs_most (pos n) h = omega arith
abs_most (negsuc n) h = omega arith

pub product_small : (m n : ℕ) → m ≤ 2 ^ 63 → n < 2 ^ 63 → m * n < 2 ^ 126
product_small m n h k = let e : m * n ≤ 2 ^ 63 * n = mul-le-mul_right n h in omega arith

pub times_small : (a : ℤ) (n : ℕ) → mag a < 2 ^ 63 → n < 2 ^ 63 → unsigned_abs (a *ℤ pos n) < 2 ^ 126
times_small a n h k = subst (λ m. m < 2 ^ 126) (sym (unsigned_abs-mul a (pos n))) (product_small (unsigned_abs a) n (abs_most a h) k)

wider : (n : ℕ) → n < 2 ^ 126 → n < 2 ^ 127
wider n h = omega arith

mag_wider : (a : ℤ) → mag a < 2 ^ 63 → mag a < 2 ^ 127
mag_wider a h = omega arith

pub read_short : (a : ℤ) → mag a < 2 ^ 63 → to_z w64 (of_z w64 a) ≡ a
read_short a h = to_z-of_z w64 a (record { sfits = h })

pub times_read : (a : ℤ) (n : ℕ) → mag a < 2 ^ 63 → n < 2 ^ 63 → to_z w128 (of_z w128 (to_z w64 (of_z w64 a))) *ℤ to_z w128 n ≡ a *ℤ pos n
times_read a n h k = λ i. (ap (λ z. to_z w128 (of_z w128 z)) (read_short a h) ∙ read_fitting a (mag_wider a h)) i *ℤ to_z_pos w128 n (omega arith) i

pub read_twice : (a : ℤ) → mag a < 2 ^ 63 → to_z w128 (of_z w128 (to_z w64 (of_z w64 a))) ≡ a
read_twice a h = ap (λ z. to_z w128 (of_z w128 z)) (read_short a h) ∙ read_fitting a (mag_wider a h)

pub small_along : (b : ℕ) (z y : ℤ) → z ≡ y → unsigned_abs y < b → unsigned_abs z < b
small_along b z y e h = subst (λ n. n < b) (sym (ap unsigned_abs e)) h

pub sum_small : (u v : ℤ) → unsigned_abs u < 2 ^ 126 → unsigned_abs v < 2 ^ 126 → unsigned_abs (u +ℤ v) < 2 ^ 127
sum_small u v h k = omega (arith, ints)

below_divided : (n g b : ℕ) → n < b → n / g < b
below_divided n g b h = let e = div-le_self n g in omega arith

most_divided : (n g b : ℕ) → n ≤ b → n / g ≤ b
most_divided n g b h = let e = div-le_self n g in omega arith

-- ---- whole numbers
pub whole_product_is : (a c : ℤ) → frac (a *ℤ c) 1 ≡ frac a 1 *ℚ frac c 1
whole_product_is a c = sym (frac-mul a 1 c 1 (lit< tt) (lit< tt))

squares : (m n : ℕ) → m ≤ 2 ^ 63 → n ≤ 2 ^ 63 → m * n < 2 ^ 127
squares m n h k = let e : m * n ≤ 2 ^ 63 * n = mul-le-mul_right n h in omega arith

product_fits : (a c : ℤ) → mag a < 2 ^ 63 → mag c < 2 ^ 63 → unsigned_abs (a *ℤ c) < 2 ^ 127
product_fits a c h k = subst (λ m. m < 2 ^ 127) (sym (unsigned_abs-mul a c)) (squares (unsigned_abs a) (unsigned_abs c) (abs_most a h) (abs_most c k))

pub whole_product_fits : (a c : ℤ) → mag a < 2 ^ 63 → mag c < 2 ^ 63 → FitsFrac (frac a 1 *ℚ frac c 1)
whole_product_fits a c h k = subst (λ (z : ℚ). FitsFrac z) (whole_product_is a c) (whole_fits (a *ℤ c) (product_fits a c h k))

pub product_read : (a c : ℤ) → mag a < 2 ^ 63 → mag c < 2 ^ 63 → to_z w128 (of_z w128 (to_z w128 (of_z w128 (to_z w64 (of_z w64 a))) *ℤ to_z w128 (of_z w128 (to_z w64 (of_z w64 c))))) ≡ a *ℤ c
product_read a c h k =
    ap (λ z. to_z w128 (of_z w128 z)) (λ i. read_twice a h i *ℤ read_twice c k i) ∙ read_back (a *ℤ c) (product_fits a c h k)

plain_sum_small : (a c : ℤ) → mag a < 2 ^ 63 → mag c < 2 ^ 63 → unsigned_abs (a +ℤ c) < 2 ^ 127
plain_sum_small a c h k = let p = abs_most a h in let q = abs_most c k in omega (arith, ints)

pub sum_read : (a c : ℤ) → mag a < 2 ^ 63 → mag c < 2 ^ 63 → to_z w128 (of_z w128 (to_z w128 (of_z w128 (to_z w64 (of_z w64 a))) +ℤ to_z w128 (of_z w128 (to_z w64 (of_z w64 c))))) ≡ a +ℤ c
sum_read a c h k = ap (λ z. to_z w128 (of_z w128 z)) (λ i. read_twice a h i +ℤ read_twice c k i) ∙ read_back (a +ℤ c) (plain_sum_small a c h k)

-- ---- the fractions a/b and c/d
module _ (a : ℤ) (b : ℕ) (c : ℤ) (d : ℕ) (p : 0 < b) (q : 0 < d) (ab : gcd (unsigned_abs a) b ≡ 1) (cd : gcd (unsigned_abs c) d ≡ 1) where
  abbrev x : ℚ
  x = frac a b

  abbrev y : ℚ
  y = frac c d

  a_is : x.numer ≡ a
  a_is = (frac_parts a b p ab).0

  b_is : x.denom ≡ b
  b_is = (frac_parts a b p ab).1

  c_is : y.numer ≡ c
  c_is = (frac_parts c d q cd).0

  d_is : y.denom ≡ d
  d_is = (frac_parts c d q cd).1

  pub common_is : common x y ≡ gcd b d
  common_is = λ i. gcd (b_is i) (d_is i)

  pub left_is : left_of_sum x y ≡ a *ℤ pos (d / gcd b d)
  left_is = λ i. a_is i *ℤ pos (d_is i / common_is i)

  pub right_is : right_of_sum x y ≡ c *ℤ pos (b / gcd b d)
  right_is = λ i. c_is i *ℤ pos (b_is i / common_is i)

  pub bottom_is : denom_of_sum x y ≡ b * (d / gcd b d)
  bottom_is = λ i. b_is i * (d_is i / common_is i)

  pub order_is : int_cmp (a *ℤ pos d) (c *ℤ pos b) ≡ cmp_ℚ x y
  order_is = λ i. int_cmp (sym a_is i *ℤ pos (sym d_is i)) (sym c_is i *ℤ pos (sym b_is i))

  pub size_is : (unsigned_abs a / gcd (unsigned_abs a) d) * (unsigned_abs c / gcd (unsigned_abs c) b) ≡ size_of_product x y
  size_is = λ i. (unsigned_abs (sym a_is i) / gcd (unsigned_abs (sym a_is i)) (sym d_is i)) * (unsigned_abs (sym c_is i) / gcd (unsigned_abs (sym c_is i)) (sym b_is i))

  pub below_is : (b / gcd (unsigned_abs c) b) * (d / gcd (unsigned_abs a) d) ≡ denom_of_product x y
  below_is = λ i. (sym b_is i / gcd (unsigned_abs (sym c_is i)) (sym b_is i)) * (sym d_is i / gcd (unsigned_abs (sym a_is i)) (sym d_is i))

  pub numers_are : (x.numer ≡ a) × (y.numer ≡ c)
  numers_are = (a_is, c_is)

  pub like_sum_is : b ≡ d → (s : ℤ) (k : ℕ) → s ≡ a +ℤ c → k ≡ b → frac s k ≡ x +ℚ y
  like_sum_is e s k p q = like_value x y (b_is ∙ e ∙ sym d_is) s k (p ∙ λ i. sym a_is i +ℤ sym c_is i) (q ∙ sym b_is)

  module _ (af : mag a < 2 ^ 63) (cf : mag c < 2 ^ 63) (bf : b < 2 ^ 63) (df : d < 2 ^ 63) where
    left_small : unsigned_abs (left_of_sum x y) < 2 ^ 126
    left_small = subst (λ z. unsigned_abs z < 2 ^ 126) (sym left_is) (times_small a (d / gcd b d) af (below_divided d (gcd b d) (2 ^ 63) df))

    right_small : unsigned_abs (right_of_sum x y) < 2 ^ 126
    right_small = subst (λ z. unsigned_abs z < 2 ^ 126) (sym right_is) (times_small c (b / gcd b d) cf (below_divided b (gcd b d) (2 ^ 63) bf))

    bottom_small : b * (d / gcd b d) < 2 ^ 126
    bottom_small = product_small b (d / gcd b d) (omega arith) (below_divided d (gcd b d) (2 ^ 63) df)

    pub sum_fits : FitsSum x y
    sum_fits = record {
      left = wider (unsigned_abs (left_of_sum x y)) left_small;
      right = wider (unsigned_abs (right_of_sum x y)) right_small;
      sum = sum_small (left_of_sum x y) (right_of_sum x y) left_small right_small;
      denom = subst (λ n. n < 2 ^ 127) (sym bottom_is) (wider (b * (d / gcd b d)) bottom_small);
    }

    pub size_small : size_of_product x y < 2 ^ 127
    size_small = subst (λ n. n < 2 ^ 127) size_is
        (let e : (unsigned_abs a / gcd (unsigned_abs a) d) * (unsigned_abs c / gcd (unsigned_abs c) b) ≤ 2 ^ 63 * (unsigned_abs c / gcd (unsigned_abs c) b) = mul-le-mul_right (unsigned_abs c / gcd (unsigned_abs c) b) (most_divided (unsigned_abs a) (gcd (unsigned_abs a) d) (2 ^ 63) (abs_most a af)) in
        let h = most_divided (unsigned_abs c) (gcd (unsigned_abs c) b) (2 ^ 63) (abs_most c cf) in
        omega arith)

    pub below_small : denom_of_product x y < 2 ^ 127
    below_small = subst (λ n. n < 2 ^ 127) below_is
        (wider _ (product_small (b / gcd (unsigned_abs c) b) (d / gcd (unsigned_abs a) d) (most_divided b (gcd (unsigned_abs c) b) (2 ^ 63) (omega arith)) (below_divided d (gcd (unsigned_abs a) d) (2 ^ 63) df)))

-- a divisor found from the rest
pub by_rest : (n g r : ℕ) → r ≡ n % g → gcd r g ≡ gcd n g
by_rest n g r e = ap (λ k. gcd k g) e ∙ gcd_comm (n % g) g ∙ gcd-mod n g

pub divisor_positive : (g b : ℕ) → g ∣ b → 0 < b → 0 < g
divisor_positive g b h k = pos_of_dvd_of_pos h k

-- what `try_from` gives where it succeeds
ok_some : {E : Type 0} (r : Result ℤ E) (n : ℤ) → result_ok r ≡ Some n → r ≡ Ok n
ok_some (Ok m) n e = cc
ok_some (Err d) n e = cc

pub read_tried : {E : Type 0} (x : ℤ) (r : Result ℤ E) (n : ℤ) → OkIff r (FitsSigned w64 (to_z w128 (of_z w128 x))) (to_z w128 (of_z w128 x)) → mag x < 2 ^ 127 → result_ok r ≡ Some n → to_z w64 (of_z w64 n) ≡ x
read_tried x r n h s e =
    let at = OkIff-at_ok r (FitsSigned w64 (to_z w128 (of_z w128 x))) (to_z w128 (of_z w128 x)) n h (ok_some r n e) in
    ap (λ z. to_z w64 (of_z w64 z)) at.1 ∙ to_z-of_z w64 (to_z w128 (of_z w128 x)) at.0 ∙ read_fitting x s
