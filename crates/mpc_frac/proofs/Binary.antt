-- Greatest common divisors by halving and subtraction.
use Rattle.std.proofs.Common.{◌≡◌, ℕ, zero, suc, ◌+◌, ◌-◌, ◌*◌, ◌/◌, ◌%◌, ◌^◌, ◌<◌, ◌≤◌, min, ◌⊎◌, ⊎_elim, refl, sym, ◌∙◌, ap, subst, arith, div-one, pow-suc, one-mul}
use Rattle.std.specs.Int.{IsGcd, ◌∣◌, bit_at, trailing_zeros, abs_diff}
use mir.Val.{bits}
use mir.Syntax.{Width}
use Rattle.std.proofs.lemmas.Nat.Bits.{bit_at-trailing_zeros}
use Rattle.std.proofs.lemmas.Nat.{pow_pos, pow-add}
use Rattle.std.proofs.lemmas.Nat.Gcd.{IsGcd-from_mod, IsGcd-from_sub, IsGcd-from_zero, same_from_IsGcd, dvd_antisymm, dvd_trans, dvd_refl, le_of_dvd}
use Rattle.std.proofs.Math.Nat.{div-div-eq-div-mul, mul_assoc, mul_comm, dvd-mul_left, eq-one_of_dvd-one, mod-eq_of_lt}
use Rattle.mpc_exact.specs.Gcd.{gcd, gcd_is, gcd_comm, gcd-mul, gcd-divides_left, gcd-divides_right, coprime_divides, coprime_divisors, coprime-mul, gcd-positive}

pub gcd_found : (a b x : ℕ) → IsGcd a b x → x ≡ gcd a b
gcd_found a b x h = same_from_IsGcd a b x (gcd a b) h (gcd_is a b)

-- ---- one step of the code's algorithms
pub gcd-sub : (a b : ℕ) → b ≤ a → gcd (a - b) b ≡ gcd a b
gcd-sub a b h = gcd_found a b (gcd (a - b) b) (IsGcd-from_sub a b (gcd (a - b) b) h (gcd_is (a - b) b))

pub gcd-mod : (a b : ℕ) → gcd b (a % b) ≡ gcd a b
gcd-mod a b = gcd_found a b (gcd b (a % b)) (IsGcd-from_mod a b (gcd b (a % b)) (gcd_is b (a % b)))

pub gcd-zero : (a : ℕ) → gcd a 0 ≡ a
gcd-zero a = sym (gcd_found a 0 a (IsGcd-from_zero a 0 refl))

pub gcd-one : (a : ℕ) → gcd a 1 ≡ 1
gcd-one a = eq-one_of_dvd-one (gcd-divides_right a 1)

pub gcd_self : (a : ℕ) → gcd a a ≡ a
gcd_self a = dvd_antisymm (gcd-divides_left a a) ((gcd_is a a).2 a (dvd_refl a) (dvd_refl a))

pub one-gcd : (a : ℕ) → gcd 1 a ≡ 1
one-gcd a = gcd_comm 1 a ∙ gcd-one a

pub zero-gcd : (a : ℕ) → gcd 0 a ≡ a
zero-gcd a = gcd_comm 0 a ∙ gcd-zero a

-- ---- powers of two beside an odd number
odd_two : (m : ℕ) → m % 2 ≡ 1 → gcd m 2 ≡ 1
odd_two m h = sym (gcd-mod m 2) ∙ ap (gcd 2) h ∙ gcd-one 2

pub odd_power : (m k : ℕ) → m % 2 ≡ 1 → gcd m (2 ^ k) ≡ 1
odd_power m zero h = gcd-one m
odd_power m (suc k) h = ap (gcd m) (pow_two k) ∙ coprime-mul m 2 (2 ^ k) (odd_two m h) (odd_power m k h)
  where
    pow_two : (k : ℕ) → 2 ^ suc k ≡ 2 * 2 ^ k
    pow_two k = omega (arith, pow-suc 2 k)

-- a factor that has nothing in common with m goes out
pub gcd-strip : (m s r : ℕ) → gcd m s ≡ 1 → gcd m (s * r) ≡ gcd m r
gcd-strip m s r one =
    let g = gcd m (s * r) in
    let apart : gcd s g ≡ 1 = coprime_divisors s m s g (gcd_comm s m ∙ one) (dvd_refl s) (gcd-divides_left m (s * r)) in
    let of_r : g ∣ r = coprime_divides s g r apart (subst (λ n. g ∣ n) (mul_comm s r) (gcd-divides_right m (s * r))) in
    dvd_antisymm
    ((gcd_is m r).2 g (gcd-divides_left m (s * r)) of_r)
    ((gcd_is m (s * r)).2 (gcd m r) (gcd-divides_left m r) (dvd_trans (gcd m r) (gcd-divides_right m r) (dvd-mul_left r s)))

-- ---- the lowest bits of a number
-- a number whose k lowest bits are 0 is 2^k times what is left
low_zeros : (n k : ℕ) → ((i : ℕ) → i < k → bit_at n i ≡ 0) → 2 ^ k * (n / 2 ^ k) ≡ n
low_zeros n zero h = one-mul (n / 1) ∙ div-one n
low_zeros n (suc k) h =
    let below = low_zeros n k (λ i l. h i (omega arith)) in
    let bit : n / 2 ^ k % 2 ≡ 0 = h k (omega arith) in
    let power : 2 ^ suc k ≡ 2 ^ k * 2 = omega (arith, pow-suc 2 k) in
    let halves : n / 2 ^ suc k ≡ n / 2 ^ k / 2 = ap (λ m. n / m) power ∙ sym (div-div-eq-div-mul n (2 ^ k) 2) in
    let even : 2 * (n / 2 ^ k / 2) ≡ n / 2 ^ k = omega arith in
    (λ i. power i * halves i) ∙ mul_assoc (2 ^ k) 2 (n / 2 ^ k / 2) ∙ ap (λ m. 2 ^ k * m) even ∙ below

module _ (w : Width) (n : ℕ) (some : 0 < n) (fits : n < 2 ^ bits w) where
  abbrev zeros : ℕ
  zeros = trailing_zeros w n

  pub zeros_below : trailing_zeros w n < bits w
  zeros_below = (bit_at-trailing_zeros w n some fits).0

  pub part_odd : n / 2 ^ trailing_zeros w n % 2 ≡ 1
  part_odd = (bit_at-trailing_zeros w n some fits).1

  pub part_back : 2 ^ trailing_zeros w n * (n / 2 ^ trailing_zeros w n) ≡ n
  part_back = low_zeros n (trailing_zeros w n) (bit_at-trailing_zeros w n some fits).2

  pub strip_from : (m : ℕ) → m % 2 ≡ 1 → gcd m (n / 2 ^ trailing_zeros w n) ≡ gcd m n
  strip_from m odd = sym (gcd-strip m (2 ^ zeros) (n / 2 ^ zeros) (odd_power m zeros odd)) ∙ ap (gcd m) part_back

-- ---- a step of the loop: the lesser, and what is left of the difference
min_cases : (x y : ℕ) → ((y ≤ x) × (min x y ≡ y) × (abs_diff x y ≡ x - y)) ⊎ ((x ≤ y) × (min x y ≡ x) × (abs_diff x y ≡ y - x))
min_cases x y = grind arith

pub difference_gcd : (x y : ℕ) → gcd (min x y) (abs_diff x y) ≡ gcd x y
difference_gcd x y = ⊎_elim
    (λ (h, e, d). (λ i. gcd (e i) (d i)) ∙ gcd_comm y (x - y) ∙ gcd-sub x y h)
    (λ (h, e, d). (λ i. gcd (e i) (d i)) ∙ gcd_comm x (y - x) ∙ gcd-sub y x h ∙ gcd_comm y x)
    (min_cases x y)

pub lesser_odd : (x y m : ℕ) → m ≡ min x y → x % 2 ≡ 1 → y % 2 ≡ 1 → m % 2 ≡ 1
lesser_odd x y m s p q = ap (λ n. n % 2) s ∙ ⊎_elim (λ (h, e, d). ap (λ n. n % 2) e ∙ q) (λ (h, e, d). ap (λ n. n % 2) e ∙ p) (min_cases x y)

pub step_gcd : (w : Width) (x y d m : ℕ) → d ≡ abs_diff x y → m ≡ min x y → x % 2 ≡ 1 → y % 2 ≡ 1 → 0 < d → d < 2 ^ bits w → gcd (d / 2 ^ trailing_zeros w d) m ≡ gcd x y
step_gcd w x y d m e s p q some fits = gcd_comm (d / 2 ^ trailing_zeros w d) m ∙ strip_from w d some fits m (lesser_odd x y m s p q) ∙ (λ i. gcd (s i) (e i)) ∙ difference_gcd x y

-- where the two are equal, they are the divisor
pub equal_gcd : (x y d : ℕ) → d ≡ abs_diff x y → d ≡ 0 → x ≡ gcd x y
equal_gcd x y d e z = let same : x ≡ y = omega arith in sym (gcd_self x) ∙ ap (gcd x) same

pub positive_gcd : (a b r : ℕ) → r ≡ gcd a b → 0 < b → 0 < r
positive_gcd a b r e h = subst (λ n. 0 < n) (sym e) (gcd-positive a b h)

-- ---- both powers of two taken out
lower : (m n b : ℕ) → m ≤ n → n < b → m < b
lower m n b h k = omega arith

mod_small : (m n : ℕ) → m < n → m % n ≡ m
mod_small m n h = mod-eq_of_lt h

both_stripped : (i k x y : ℕ) → x % 2 ≡ 1 → gcd (2 ^ i * x) (2 ^ (i + k) * y) ≡ 2 ^ i * gcd x y
both_stripped i k x y odd =
    let power : 2 ^ (i + k) * y ≡ 2 ^ i * (2 ^ k * y) = ap (λ n. n * y) (pow-add 2 i k) ∙ mul_assoc (2 ^ i) (2 ^ k) y in
    ap (gcd (2 ^ i * x)) power ∙ gcd-mul (2 ^ i) x (2 ^ k * y) (pow_pos i) ∙ ap (λ n. 2 ^ i * n) (gcd-strip x (2 ^ k) y (odd_power x k odd))

module _ (w : Width) (a b : ℕ) (some : 0 < a) (more : 0 < b) (af : a < 2 ^ bits w) (bf : b < 2 ^ bits w) where
  abbrev i : ℕ
  i = trailing_zeros w a

  abbrev j : ℕ
  j = trailing_zeros w b

  from_left : i ≤ j → 2 ^ i * gcd (a / 2 ^ i) (b / 2 ^ j) ≡ gcd a b
  from_left h =
      let gap : i + (j - i) ≡ j = omega arith in
      sym (both_stripped i (j - i) (a / 2 ^ i) (b / 2 ^ j) (part_odd w a some af)) ∙ ap (λ k. gcd (2 ^ i * (a / 2 ^ i)) (2 ^ k * (b / 2 ^ j))) gap
      ∙ (λ t. gcd (part_back w a some af t) (part_back w b more bf t))

  from_right : j ≤ i → 2 ^ j * gcd (a / 2 ^ i) (b / 2 ^ j) ≡ gcd a b
  from_right h =
      let gap : j + (i - j) ≡ i = omega arith in
      ap (λ n. 2 ^ j * n) (gcd_comm (a / 2 ^ i) (b / 2 ^ j))
      ∙ sym (both_stripped j (i - j) (b / 2 ^ j) (a / 2 ^ i) (part_odd w b more bf)) ∙ ap (λ k. gcd (2 ^ j * (b / 2 ^ j)) (2 ^ k * (a / 2 ^ i))) gap
      ∙ (λ t. gcd (part_back w b more bf t) (part_back w a some af t)) ∙ gcd_comm b a

  lesser : ((i ≤ j) × (min i j ≡ i)) ⊎ ((j ≤ i) × (min i j ≡ j))
  lesser = grind arith

  pub stripped : 2 ^ min i j * gcd (a / 2 ^ i) (b / 2 ^ j) ≡ gcd a b
  stripped = ⊎_elim
      (λ (h, e). ap (λ k. 2 ^ k * gcd (a / 2 ^ i) (b / 2 ^ j)) e ∙ from_left h)
      (λ (h, e). ap (λ k. 2 ^ k * gcd (a / 2 ^ i) (b / 2 ^ j)) e ∙ from_right h) lesser

  gcd_small : gcd a b < 2 ^ bits w
  gcd_small = lower (gcd a b) a (2 ^ bits w) (le_of_dvd some (gcd-divides_left a b)) af

  -- shifted back, it loses no bit
  pub shifted_back : (r : ℕ) → r ≡ gcd (a / 2 ^ i) (b / 2 ^ j) → r * 2 ^ min i j % 2 ^ bits w ≡ gcd a b
  shifted_back r e =
      let whole : r * 2 ^ min i j ≡ gcd a b = ap (λ n. n * 2 ^ min i j) e ∙ mul_comm (gcd (a / 2 ^ i) (b / 2 ^ j)) (2 ^ min i j) ∙ stripped in
      ap (λ n. n % 2 ^ bits w) whole ∙ mod_small (gcd a b) (2 ^ bits w) gcd_small
