-- Products and differences of numbers of at most 2^30 in size.
use Rattle.std.proofs.Common.{◌≡◌, ℕ, ◌*◌, ◌≤◌, ◌^◌, ℤ, pos, ◌+ℤ◌, ◌-ℤ◌, ◌*ℤ◌, neg_ℤ, unsigned_abs, sym, ◌∙◌, subst, arith, to_z, of_z, le_trans, mul-le-mul_left, mul-le-mul_right}
use Rattle.std.specs.Int.{w64}
use Rattle.std.proofs.lemmas.Int.{unsigned_abs-mul, ints}
use Rattle.mpc_runs.proofs.WholeWidths.{read_small}

pub product_small : (x y : ℤ) → unsigned_abs x ≤ 2 ^ 30 → unsigned_abs y ≤ 2 ^ 30 → unsigned_abs (x *ℤ y) ≤ 2 ^ 60
product_small x y hx hy =
    let first : unsigned_abs x * unsigned_abs y ≤ 2 ^ 30 * unsigned_abs y = mul-le-mul_right (unsigned_abs y) hx in
    let second : 2 ^ 30 * unsigned_abs y ≤ 2 ^ 30 * 2 ^ 30 = mul-le-mul_left (2 ^ 30) hy in
    subst (λ n. n ≤ 2 ^ 60) (sym (unsigned_abs-mul x y)) (le_trans first (le_trans second (omega arith)))

pub product_is : (x y : ℤ) → unsigned_abs x ≤ 2 ^ 30 → unsigned_abs y ≤ 2 ^ 30 → to_z w64 (of_z w64 (to_z w64 (of_z w64 x) *ℤ to_z w64 (of_z w64 y))) ≡ x *ℤ y
product_is x y hx hy =
    let small = product_small x y hx hy in
    (λ t. to_z w64 (of_z w64 (read_small x (omega arith) t *ℤ read_small y (omega arith) t))) ∙ read_small (x *ℤ y) (omega arith)

-- a and b are the products
pub difference_is : (v k x s a b : ℤ) (q : ℕ) → unsigned_abs v ≤ 2 ^ 30 → unsigned_abs k ≤ 2 ^ 30 → unsigned_abs x ≤ 2 ^ 30 → q ≤ 2 ^ 30 → unsigned_abs a ≤ 2 ^ 60 → unsigned_abs b ≤ 2 ^ 60 → s ≡ pos q
    → a ≡ to_z w64 (of_z w64 v) *ℤ to_z w64 (of_z w64 s) → b ≡ to_z w64 (of_z w64 k) *ℤ to_z w64 (of_z w64 x)
    → to_z w64 (of_z w64 (to_z w64 (of_z w64 a) -ℤ to_z w64 (of_z w64 b))) ≡ (v *ℤ pos q) +ℤ neg_ℤ (k *ℤ x)
difference_is v k x s a b q hv hk hx hq ha hb e ea eb =
    let size : unsigned_abs s ≤ 2 ^ 62 = subst (λ z. unsigned_abs z ≤ 2 ^ 62) (sym e) (omega arith) in
    let first : a ≡ v *ℤ pos q = ea ∙ (λ t. read_small v (omega arith) t *ℤ read_small s size t) ∙ (λ t. v *ℤ e t) in
    let second : b ≡ k *ℤ x = eb ∙ (λ t. read_small k (omega arith) t *ℤ read_small x (omega arith) t) in
    let small : unsigned_abs (a -ℤ b) ≤ 2 ^ 62 = omega (arith, ints) in
    let minus : a -ℤ b ≡ a +ℤ neg_ℤ b = omega (arith, ints) in
    (λ t. to_z w64 (of_z w64 (read_small a (omega arith) t -ℤ read_small b (omega arith) t))) ∙ read_small (a -ℤ b) small ∙ minus ∙ (λ t. first t +ℤ neg_ℤ (second t))
