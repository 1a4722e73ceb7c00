-- The digits of answers, and how they are mixed.
use Rattle.std.proofs.Common.{◌≡◌, ℕ, zero, suc, ◌+◌, ◌^◌, ◌<◌, Bool, true, false, ◌&&◌, nat_lt, if◌then◌else◌, ℤ, pos, unsigned_abs, to_z, of_z, refl, sym, ◌∙◌, ap, arith, add-one}
use Rattle.std.specs.Int.{w32, w128}
use Rattle.std.proofs.lemmas.Int.{fits_signed_from_abs, to_z-of_z}
use Rattle.std.proofs.lemmas.Bool.Decides.{nat_tests}
use Rattle.std.proofs.Common.{List, length, get_or, unwrap_or, Some}
use Rattle.std.specs.Prelude.{slice_get}
use Rattle.std.proofs.lemmas.List.{get_or_default}
use Rattle.std.proofs.lemmas.Option.{unwrap_or-slice_get}
use Rattle.std.specs.declared.cmp.Ordering.{Ordering}
use Rattle.std.specs.declared.cmp.Ordering.TheVariants.{Less, Equal, Greater}
use Rattle.mpc_bench.specs.declared.parts.Parts.{Parts}
use Rattle.mpc_exact.specs.Rational.{ℚ, int, ◌+ℚ◌, ◌*ℚ◌, cmp_ℚ}
use Rattle.mpc_frac.specs.Fits.{FitsFrac, FitsSum, left_of_sum, right_of_sum, denom_of_sum}
use Rattle.mpc_bench.specs.Orders.{code_of}
use Rattle.mpc_bench.specs.Digests.{low_of, fits, fits_sum, mixed, sum_digit, product_digit, order_digit, number_digit, number_at, digits_mixed, passes, paired, between}

-- ---- numerators as the code has them
read_back : (z : ℤ) → unsigned_abs z < 2 ^ 127 → to_z w128 (of_z w128 z) ≡ z
read_back z h = to_z-of_z w128 z (fits_signed_from_abs w128 z h)

pub low_read : (z y : ℤ) (d : ℕ) → d ≡ low_of (to_z w128 (of_z w128 z)) → z ≡ y → unsigned_abs y < 2 ^ 127 → d ≡ low_of y
low_read z y d k e h = k ∙ ap low_of (ap (λ n. to_z w128 (of_z w128 n)) e ∙ read_back y h)

pub code_read : (o : Ordering) → to_z w128 (of_z w128 (to_z w32 (of_z w32 (code_of o)))) ≡ code_of o
code_read Less = refl
code_read Equal = refl
code_read Greater = refl

-- ---- the tests
four_true : (a b c d n : ℕ) → a < n → b < n → c < n → d < n → (nat_lt a n && nat_lt b n && nat_lt c n && nat_lt d n) ≡ true
four_true a b c d n p q r s = grind (arith, nat_tests)

four_back : (a b c d n : ℕ) → (nat_lt a n && nat_lt b n && nat_lt c n && nat_lt d n) ≡ true → (a < n) × (b < n) × (c < n) × (d < n)
four_back a b c d n h = grind (arith, nat_tests)

two_true : (a b n : ℕ) → a < n → b < n → (nat_lt a n && nat_lt b n) ≡ true
two_true a b n p q = grind (arith, nat_tests)

two_back : (a b n : ℕ) → (nat_lt a n && nat_lt b n) ≡ true → (a < n) × (b < n)
two_back a b n h = grind (arith, nat_tests)

not_true : (b : Bool) → (b ≡ true → ⊥) → b ≡ false
not_true true h = absurd (h refl)
not_true false h = refl

module _ (x y : ℚ) where
  pub sum_fitting : FitsSum x y → low_of (x +ℚ y).numer ≡ sum_digit x y
  unfolding sum_digit
  sum_fitting h =
      ap (λ b. if b then low_of (x +ℚ y).numer else 0) (sym (four_true (unsigned_abs (left_of_sum x y)) (unsigned_abs (right_of_sum x y)) _ (denom_of_sum x y) (2 ^ 127) h.left h.right h.sum h.denom))

  pub sum_wide : ¬ FitsSum x y → 0 ≡ sum_digit x y
  unfolding sum_digit
  sum_wide h =
      ap (λ b. if b then low_of (x +ℚ y).numer else 0)
      (sym (not_true (fits_sum x y) (λ e. let p = four_back (unsigned_abs (left_of_sum x y)) (unsigned_abs (right_of_sum x y)) _ (denom_of_sum x y) (2 ^ 127) e in h (record { left = p.0; right = p.1; sum = p.2; denom = p.3 }))))

  pub product_fitting : FitsFrac (x *ℚ y) → low_of (x *ℚ y).numer ≡ product_digit x y
  unfolding product_digit
  product_fitting h =
      ap (λ b. if b then low_of (x *ℚ y).numer else 0) (sym (two_true (unsigned_abs (x *ℚ y).numer) (x *ℚ y).denom (2 ^ 127) h.0 h.1))

  pub product_wide : ¬ FitsFrac (x *ℚ y) → 0 ≡ product_digit x y
  unfolding product_digit
  product_wide h =
      ap (λ b. if b then low_of (x *ℚ y).numer else 0)
      (sym (not_true (fits (x *ℚ y)) (λ e. h (two_back (unsigned_abs (x *ℚ y).numer) (x *ℚ y).denom (2 ^ 127) e))))

  pub order_found : (d : ℕ) → d ≡ low_of (code_of (cmp_ℚ x y)) → d ≡ order_digit x y
  unfolding order_digit
  order_found d e = e

pub number_found : (x : ℚ) (d : ℕ) → d ≡ low_of x.numer → d ≡ number_digit x
unfolding number_digit
number_found x d e = e

-- ---- digits that are mixed in
pub none_mixed : (digit : ℕ → ℕ) (digest : ℕ) → digest ≡ digits_mixed digit 0 digest
unfolding digits_mixed
none_mixed digit digest = refl

pub one_more : (digit : ℕ → ℕ) (n start digest d r : ℕ) → r ≡ mixed digest d → digest ≡ digits_mixed digit n start → d ≡ digit n → r ≡ digits_mixed digit (n + 1) start
unfolding digits_mixed
one_more digit n start digest d r e h k = rw add-one (e ∙ λ i. mixed (h i) (k i))

pub digits_mixed-same : (f g : ℕ → ℕ) (n digest : ℕ) → ((k : ℕ) → k < n → f k ≡ g k) → digits_mixed f n digest ≡ digits_mixed g n digest
unfolding digits_mixed
digits_mixed-same f g zero digest h = refl
digits_mixed-same f g (suc n) digest h = λ i. mixed (digits_mixed-same f g n digest (λ k l. h k (omega arith)) i) (h n (omega arith) i)

-- the fractions of an array as the code has them
pub digit_at : (digit : ℚ → ℚ → ℕ) (xs ys : List ℚ) (k : ℕ) (x y : ℚ) → length xs ≡ 1024 → length ys ≡ 1024 → k < 1024 → digit (get_or xs k x) (get_or ys k y) ≡ between digit xs ys k
digit_at digit xs ys k x y p q h =
    let left : k < length xs = omega arith in
    let right : k < length ys = omega arith in
    λ i. digit ((get_or_default xs k x (int (pos 0)) left ∙ sym (unwrap_or-slice_get xs k (int (pos 0)))) i) ((get_or_default ys k y (int (pos 0)) right ∙ sym (unwrap_or-slice_get ys k (int (pos 0)))) i)

-- ---- passes
pub no_pass : (digit : ℕ → ℕ) → 0 ≡ passes digit 0
unfolding passes
no_pass digit = refl

pub pass_more : (digit : ℕ → ℕ) (n digest r : ℕ) → r ≡ digits_mixed digit 1024 digest → digest ≡ passes digit n → r ≡ passes digit (n + 1)
unfolding passes
pass_more digit n digest r e h = rw add-one (e ∙ ap (digits_mixed digit 1024) h)

pub loaded_digits : (digit : ℚ → ℚ → ℕ) (left right : List Parts) (xs ys : List ℚ) → ((k : ℕ) → k < 1024 → slice_get xs k ≡ Some (number_at left k)) → ((k : ℕ) → k < 1024 → slice_get ys k ≡ Some (number_at right k)) → (digest : ℕ) → digits_mixed (between digit xs ys) 1024 digest ≡ digits_mixed (paired digit left right) 1024 digest
loaded_digits digit left right xs ys h k digest =
    digits_mixed-same (between digit xs ys) (paired digit left right) 1024 digest (λ n l i. digit (unwrap_or (h n l i) (int (pos 0))) (unwrap_or (k n l i) (int (pos 0))))
