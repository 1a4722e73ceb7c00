-- The greatest common divisor of two numbers, by Euclid's algorithm, and the least common multiple.
use Rattle.std.specs.Prelude.{◌≡◌, ℕ, zero, suc, ◌*◌, ◌/◌, ◌%◌, ◌<◌, ◌≤◌}
use Rattle.std.specs.Int.{IsGcd, ◌∣◌}
use Rattle.std.proofs.Common.{refl, sym, ◌∙◌, ap, subst, subst₂, zero-le, mul-pos, mul-zero, mul_assoc, le_antisymm, le_of_suc-le-suc, le_trans, mod-lt, mul-one, le_refl, zero-lt-suc}
use Rattle.std.proofs.lemmas.Nat.Gcd.{IsGcd-from_zero, IsGcd-from_mod, IsGcd-swap, same_from_IsGcd, dvd_antisymm, dvd_trans, dvd-zero, dvd_refl}
use native.Mathlib.Nat.{dvd-mul_right, dvd-mul_left, mul-div_cancel', dvd_of_mul-dvd-mul_left, mul-dvd-mul_left, eq_of_mul-eq-mul_left, pos_of_dvd_of_pos, mul_comm, eq-one_of_dvd-one}

-- the divisor, found in at most so many steps
unfoldable pub gcd_within : ℕ → ℕ → ℕ → ℕ
gcd_within zero a b = a
gcd_within (suc k) a zero = a
gcd_within (suc k) a (suc b) = gcd_within k (suc b) (a % suc b)

unfoldable pub gcd : ℕ → ℕ → ℕ
unfolding gcd_within
gcd a b = gcd_within b a b

within_is : (k a b : ℕ) → b ≤ k → IsGcd a b (gcd_within k a b)
unfolding gcd_within
within_is zero a b h = IsGcd-from_zero a b (le_antisymm h zero-le)
within_is (suc k) a zero h = IsGcd-from_zero a zero refl
within_is (suc k) a (suc b) h = IsGcd-from_mod a (suc b) (gcd_within k (suc b) (a % suc b)) (within_is k (suc b) (a % suc b) (le_of_suc-le-suc (le_trans (mod-lt a (zero-lt-suc b)) h)))

pub gcd_is : (a b : ℕ) → IsGcd a b (gcd a b)
unfolding gcd
gcd_is a b = within_is b a b (le_refl b)

pub gcd-divides_left : (a b : ℕ) → gcd a b ∣ a
gcd-divides_left a b = (gcd_is a b).0

pub gcd-divides_right : (a b : ℕ) → gcd a b ∣ b
gcd-divides_right a b = (gcd_is a b).1

pub gcd_comm : (a b : ℕ) → gcd a b ≡ gcd b a
gcd_comm a b = same_from_IsGcd a b (gcd a b) (gcd b a) (gcd_is a b) (IsGcd-swap b a (gcd b a) (gcd_is b a))

-- a common factor goes out
pub gcd-mul : (k a b : ℕ) → 0 < k → gcd (k * a) (k * b) ≡ k * gcd a b
gcd-mul k a b some =
    let g = gcd_is (k * a) (k * b) in
    let over : k ∣ gcd (k * a) (k * b) = g.2 k (dvd-mul_right k a) (dvd-mul_right k b) in
    let back : k * (gcd (k * a) (k * b) / k) ≡ gcd (k * a) (k * b) = mul-div_cancel' k over in
    let of_a : gcd (k * a) (k * b) / k ∣ a = dvd_of_mul-dvd-mul_left _ some (subst (λ n. n ∣ k * a) (sym back) g.0) in
    let of_b : gcd (k * a) (k * b) / k ∣ b = dvd_of_mul-dvd-mul_left _ some (subst (λ n. n ∣ k * b) (sym back) g.1) in
    dvd_antisymm
    (subst (λ n. n ∣ k * gcd a b) back (mul-dvd-mul_left _ k ((gcd_is a b).2 _ of_a of_b)))
    (g.2 (k * gcd a b) (mul-dvd-mul_left _ k (gcd_is a b).0) (mul-dvd-mul_left _ k (gcd_is a b).1))

pub gcd-positive : (a b : ℕ) → 0 < b → 0 < gcd a b
gcd-positive a b some = pos_of_dvd_of_pos (gcd-divides_right a b) some

-- what is left after the common divisor is taken out has none
pub gcd-parts : (a b : ℕ) → 0 < b → gcd (a / gcd a b) (b / gcd a b) ≡ 1
gcd-parts a b some =
    let g = gcd a b in
    let part_a : g * (a / g) ≡ a = mul-div_cancel' (gcd a b) (gcd-divides_left a b) in
    let part_b : g * (b / g) ≡ b = mul-div_cancel' (gcd a b) (gcd-divides_right a b) in
    eq_of_mul-eq-mul_left g (gcd-positive a b some) _ 1
    (sym (gcd-mul g (a / g) (b / g) (gcd-positive a b some)) ∙ (λ i. gcd (part_a i) (part_b i)) ∙ sym (mul-one g))

pub part-positive : (a b : ℕ) → 0 < b → 0 < b / gcd a b
part-positive a b some =
    pos_of_dvd_of_pos (subst (λ n. b / gcd a b ∣ n) (mul-div_cancel' (gcd a b) (gcd-divides_right a b)) (dvd-mul_left (b / gcd a b) (gcd a b))) some

-- Euclid's lemma
pub coprime_divides : (a b d : ℕ) → gcd a b ≡ 1 → b ∣ d * a → b ∣ d
coprime_divides a b zero one h = dvd-zero b
coprime_divides a b (suc d) one h =
    subst (λ n. b ∣ n) (gcd-mul (suc d) a b (zero-lt-suc d) ∙ ap (λ n. suc d * n) one ∙ mul-one (suc d)) ((gcd_is (suc d * a) (suc d * b)).2 b h (dvd-mul_left b (suc d)))

-- divisors of numbers with no common divisor have none
pub coprime_divisors : (a b m n : ℕ) → gcd a b ≡ 1 → m ∣ a → n ∣ b → gcd m n ≡ 1
coprime_divisors a b m n one h k =
    eq-one_of_dvd-one (subst (λ g. gcd m n ∣ g) one ((gcd_is a b).2 (gcd m n) (dvd_trans (gcd m n) (gcd-divides_left m n) h) (dvd_trans (gcd m n) (gcd-divides_right m n) k)))

pub coprime-mul : (a b c : ℕ) → gcd a b ≡ 1 → gcd a c ≡ 1 → gcd a (b * c) ≡ 1
coprime-mul a b c h k =
    let g = gcd a (b * c) in
    let apart : gcd b g ≡ 1 = coprime_divisors b a b g (gcd_comm b a ∙ h) (dvd_refl b) (gcd-divides_left a (b * c)) in
    let of_c : g ∣ c = coprime_divides b g c apart (subst (λ n. g ∣ n) (mul_comm b c) (gcd-divides_right a (b * c))) in
    eq-one_of_dvd-one (subst (λ n. g ∣ n) k ((gcd_is a c).2 g (gcd-divides_left a (b * c)) of_c))

-- a common divisor divides the greatest
pub gcd_greatest : (a b d : ℕ) → d ∣ a → d ∣ b → d ∣ gcd a b
gcd_greatest a b d h k = (gcd_is a b).2 d h k

pub gcd_zero : (a : ℕ) → gcd a 0 ≡ a
gcd_zero a = same_from_IsGcd a 0 (gcd a 0) a (gcd_is a 0) (IsGcd-from_zero a 0 refl)

pub gcd_one : (a : ℕ) → gcd a 1 ≡ 1
gcd_one a = eq-one_of_dvd-one (gcd-divides_right a 1)

-- ---- the least common multiple
unfoldable pub lcm : ℕ → ℕ → ℕ
lcm a b = a / gcd a b * b

pub lcm-divided_left : (a b : ℕ) → a ∣ lcm a b
unfolding lcm
lcm-divided_left a b =
    let part : gcd a b * (a / gcd a b) ≡ a = mul-div_cancel' (gcd a b) (gcd-divides_left a b) in
    subst (λ n. n ∣ a / gcd a b * b) (mul_comm (a / gcd a b) (gcd a b) ∙ part) (mul-dvd-mul_left _ (a / gcd a b) (gcd-divides_right a b))

pub lcm-divided_right : (a b : ℕ) → b ∣ lcm a b
unfolding lcm
lcm-divided_right a b = dvd-mul_left b (a / gcd a b)

pub lcm-positive : (a b : ℕ) → 0 < a → 0 < b → 0 < lcm a b
unfolding lcm
lcm-positive a b p q = mul-pos (subst (λ g. 0 < a / g) (gcd_comm b a) (part-positive b a p)) q

times_over : (a b g : ℕ) → g * (a / g) ≡ a → g * (b / g) ≡ b → a * (b / g) ≡ a / g * b
times_over a b g h k =
    ap (λ n. n * (b / g)) (sym h ∙ mul_comm g (a / g)) ∙ mul_assoc (a / g) g (b / g) ∙ ap (λ n. a / g * n) k

least_of : (a b k : ℕ) → 0 < b → b ∣ a * k → lcm a b ∣ a * k
unfolding lcm
least_of a b k some h =
    let g = gcd a b in
    let part_a : g * (a / g) ≡ a = mul-div_cancel' (gcd a b) (gcd-divides_left a b) in
    let part_b : g * (b / g) ≡ b = mul-div_cancel' (gcd a b) (gcd-divides_right a b) in
    let turned : a * k ≡ g * (k * (a / g)) = ap (λ n. n * k) (sym part_a) ∙ mul_assoc g (a / g) k ∙ ap (λ n. g * n) (mul_comm (a / g) k) in
    let inner : b / g ∣ k * (a / g) = dvd_of_mul-dvd-mul_left _ (gcd-positive a b some) (subst₂ (λ m n. m ∣ n) (sym part_b) turned h) in
    subst (λ n. n ∣ a * k) (times_over a b g part_a part_b) (mul-dvd-mul_left _ a (coprime_divides (a / g) (b / g) k (gcd-parts a b some) inner))

-- a common multiple is a multiple of the least
pub lcm_least : (a b c : ℕ) → a ∣ c → b ∣ c → lcm a b ∣ c
unfolding lcm
lcm_least a zero c h k = subst (λ n. n ∣ c) (sym (mul-zero (a / gcd a 0))) k
lcm_least a (suc b) c h k =
    let at : a * (c / a) ≡ c = mul-div_cancel' a h in
    subst (λ n. lcm a (suc b) ∣ n) at (least_of a (suc b) (c / a) (zero-lt-suc b) (subst (λ n. suc b ∣ n) (sym at) k))
