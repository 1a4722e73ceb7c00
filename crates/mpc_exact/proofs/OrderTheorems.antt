-- More laws of the order: transitivity, sums, products, inverses, quotients, and cases.
use Rattle.std.proofs.Common.{◌≡◌, ◌≢◌, [], ◌∷◌, Bool, true, false, T, pos, sym, ◌∙◌, ap, subst, ◌⊎◌, inl, inr, ⊎_elim, ◌↔◌, lit<}
use Rattle.mpc_exact.specs.Rational.{ℚ, int, ◌+ℚ◌, ◌*ℚ◌, ◌/ℚ◌, neg_ℚ, inv_ℚ, ◌≤ℚ◌, ◌<ℚ◌, le_ℚ, lt_ℚ, IsNonneg, IsPositive}
use Rattle.mpc_exact.proofs.Rational.{*ℚ_inv, *ℚ_comm}
use Rattle.mpc_exact.proofs.RationalRing.{reads, by_ring, by_equation, by_equations}
use Rattle.mpc_exact.proofs.RationalOrder.{gap, strict_gap, nonneg-mul, positive-mul, positive_int, by_le, by_lt, by_le_times, by_lt_times, le_or_lt, ≤ℚ_antisymm, ≤ℚ_of_<, ≤ℚ_refl, <ℚ_irrefl, *ℚ-≤ℚ}
use Rattle.mpc_exact.proofs.RationalField.{le_ℚ_is, lt_ℚ_is, *ℚ_cancel, product_zero}
use Rattle.mpc_exact.proofs.Linear.{linear_le, linear_lt, linear_false, claims, none, le, lt, eq}

-- ---- transitivity, and what excludes what
pub <ℚ_trans : {x y z : ℚ} → x <ℚ y → y <ℚ z → x <ℚ z
<ℚ_trans {x} {y} {z} h k = linear_lt (x ∷ y ∷ z ∷ []) (lt h (lt k none)) (search claims depth 40) tt

pub ≤ℚ-<ℚ_trans : {x y z : ℚ} → x ≤ℚ y → y <ℚ z → x <ℚ z
≤ℚ-<ℚ_trans {x} {y} {z} h k = linear_lt (x ∷ y ∷ z ∷ []) (le h (lt k none)) (search claims depth 40) tt

pub ≤ℚ_of_≡ : {x y : ℚ} → x ≡ y → x ≤ℚ y
≤ℚ_of_≡ {x} {y} e = subst (λ z. x ≤ℚ z) e (≤ℚ_refl x)

pub ≤ℚ-not-< : {x y : ℚ} → x ≤ℚ y → y <ℚ x → ⊥
≤ℚ-not-< {x} {y} h k = linear_false (x ∷ y ∷ []) (le h (lt k none)) (search claims depth 40) tt

pub <ℚ_asymm : {x y : ℚ} → x <ℚ y → y <ℚ x → ⊥
<ℚ_asymm {x} {y} h k = linear_false (x ∷ y ∷ []) (lt h (lt k none)) (search claims depth 40) tt

pub <ℚ-not-≡ : {x y : ℚ} → x <ℚ y → x ≢ y
<ℚ-not-≡ {x} {y} h e = linear_false (x ∷ y ∷ []) (lt h (eq e none)) (search claims depth 40) tt

pub ≤ℚ_of_not-< : {x y : ℚ} → (y <ℚ x → ⊥) → x ≤ℚ y
≤ℚ_of_not-< {x} {y} h = ⊎_elim (λ l. l) (λ l. absurd (h l)) (le_or_lt x y)

pub <ℚ_of_not-≤ : {x y : ℚ} → (y ≤ℚ x → ⊥) → x <ℚ y
<ℚ_of_not-≤ {x} {y} h = ⊎_elim (λ l. absurd (h l)) (λ l. l) (le_or_lt y x)

-- ---- cases
pub lt_or_eq : {x y : ℚ} → x ≤ℚ y → (x <ℚ y) ⊎ (x ≡ y)
lt_or_eq {x} {y} h = ⊎_elim (λ l. inr (≤ℚ_antisymm h l)) inl (le_or_lt y x)

pub <ℚ_of_≢ : {x y : ℚ} → x ≤ℚ y → x ≢ y → x <ℚ y
<ℚ_of_≢ {x} {y} h e = ⊎_elim (λ l. l) (λ l. absurd (e l)) (lt_or_eq h)

-- below, the same, or above
pub three_ways : (x y : ℚ) → (x <ℚ y) ⊎ ((x ≡ y) ⊎ (y <ℚ x))
three_ways x y = ⊎_elim (λ l. ⊎_elim inl (λ e. inr (inl e)) (lt_or_eq l)) (λ l. inr (inr l)) (le_or_lt x y)

pub zero_or_positive : {x : ℚ} → IsNonneg x → (x ≡ int (pos 0)) ⊎ IsPositive x
zero_or_positive {x} h = ⊎_elim (λ l. inl (≤ℚ_antisymm l h)) inr (le_or_lt x (int (pos 0)))

pub positive-not_zero : {x : ℚ} → IsPositive x → x ≢ int (pos 0)
positive-not_zero {x} h e = <ℚ_irrefl (subst IsPositive e h)

pub negative-not_zero : {x : ℚ} → x <ℚ int (pos 0) → x ≢ int (pos 0)
negative-not_zero {x} h e = <ℚ_irrefl (subst (λ z. z <ℚ int (pos 0)) e h)

pub one-not_zero : int (pos 1) ≢ int (pos 0)
one-not_zero = positive-not_zero (positive_int 1 (lit< tt))

-- ---- the tests, as they come out
test_false : (b : Bool) → b ≡ false → T b → ⊥
test_false b e t = subst T e t

pub le_ℚ-true : {x y : ℚ} → le_ℚ x y ≡ true → x ≤ℚ y
le_ℚ-true {x} {y} e = (le_ℚ_is x y).0 (subst T (sym e) tt)

pub lt_ℚ-true : {x y : ℚ} → lt_ℚ x y ≡ true → x <ℚ y
lt_ℚ-true {x} {y} e = (lt_ℚ_is x y).0 (subst T (sym e) tt)

pub le_ℚ-false : {x y : ℚ} → le_ℚ x y ≡ false → y <ℚ x
le_ℚ-false {x} {y} e = <ℚ_of_not-≤ (λ h. test_false (le_ℚ x y) e ((le_ℚ_is x y).1 h))

pub lt_ℚ-false : {x y : ℚ} → lt_ℚ x y ≡ false → y ≤ℚ x
lt_ℚ-false {x} {y} e = ≤ℚ_of_not-< (λ h. test_false (lt_ℚ x y) e ((lt_ℚ_is x y).1 h))

-- ---- negatives and differences
pub neg_nonneg : {x : ℚ} → x ≤ℚ int (pos 0) → IsNonneg (neg_ℚ x)
neg_nonneg {x} h = linear_le (x ∷ []) (le h none) (search claims depth 40) tt

pub neg_positive : {x : ℚ} → x <ℚ int (pos 0) → IsPositive (neg_ℚ x)
neg_positive {x} h = linear_lt (x ∷ []) (lt h none) (search claims depth 40) tt

pub positive-add_right : {x y : ℚ} → IsNonneg x → IsPositive y → IsPositive (x +ℚ y)
positive-add_right {x} {y} h k = linear_lt (x ∷ y ∷ []) (le h (lt k none)) (search claims depth 40) tt

-- ---- products
pub *ℚ-<ℚ : {x y z : ℚ} → IsPositive z → x <ℚ y → (z *ℚ x) <ℚ (z *ℚ y)
*ℚ-<ℚ {x} {y} {z} h k = by_lt (x ∷ y ∷ z ∷ []) (positive-mul h (strict_gap k)) (search reads depth 30) (search reads depth 30) tt

pub *ℚ-≤ℚ_cancel : {x y z : ℚ} → IsPositive z → (z *ℚ x) ≤ℚ (z *ℚ y) → x ≤ℚ y
*ℚ-≤ℚ_cancel {x} {y} {z} p h = by_le_times (x ∷ y ∷ z ∷ []) p (gap h) (search reads depth 30) (search reads depth 30) tt

pub *ℚ-<ℚ_cancel : {x y z : ℚ} → IsPositive z → (z *ℚ x) <ℚ (z *ℚ y) → x <ℚ y
*ℚ-<ℚ_cancel {x} {y} {z} p h = by_lt_times (x ∷ y ∷ z ∷ []) p (strict_gap h) (search reads depth 30) (search reads depth 30) tt

pub product_nonpositive : {x y : ℚ} → IsNonneg x → y ≤ℚ int (pos 0) → (x *ℚ y) ≤ℚ int (pos 0)
product_nonpositive {x} {y} h k = by_le (x ∷ y ∷ []) (nonneg-mul h (gap k)) (search reads depth 30) (search reads depth 30) tt

pub product_of_negatives : {x y : ℚ} → x <ℚ int (pos 0) → y <ℚ int (pos 0) → IsPositive (x *ℚ y)
product_of_negatives {x} {y} h k = by_lt (x ∷ y ∷ []) (positive-mul (strict_gap h) (strict_gap k)) (search reads depth 30) (search reads depth 30) tt

pub product_not_zero : {x y : ℚ} → x ≢ int (pos 0) → y ≢ int (pos 0) → x *ℚ y ≢ int (pos 0)
product_not_zero {x} {y} h k e = ⊎_elim h k (product_zero x y e)

-- the square of what is not 0
pub positive_square : (x : ℚ) → x ≢ int (pos 0) → IsPositive (x *ℚ x)
positive_square x h = by (three_ways x (int (pos 0)))
  where
    by : (x <ℚ int (pos 0)) ⊎ ((x ≡ int (pos 0)) ⊎ IsPositive x) → IsPositive (x *ℚ x)
    by (inl l) = product_of_negatives l l
    by (inr (inl e)) = absurd (h e)
    by (inr (inr l)) = positive-mul l l

-- ---- inverses and quotients
pub inv_not_zero : {x : ℚ} → x ≢ int (pos 0) → inv_ℚ x ≢ int (pos 0)
inv_not_zero {x} h e = one-not_zero (sym (*ℚ_inv x h) ∙ ap (λ u. x *ℚ u) e ∙ by_ring (x ∷ []) (search reads depth 30) (search reads depth 30) tt)

-- what gives 1 with x is its inverse
pub inv_unique : (x y : ℚ) → x *ℚ y ≡ int (pos 1) → y ≡ inv_ℚ x
inv_unique x y e = *ℚ_cancel some (e ∙ sym (*ℚ_inv x some))
  where
    some : x ≢ int (pos 0)
    some z = one-not_zero (sym e ∙ ap (λ u. u *ℚ y) z ∙ by_ring (y ∷ []) (search reads depth 30) (search reads depth 30) tt)

pub inv_inv : {x : ℚ} → x ≢ int (pos 0) → inv_ℚ (inv_ℚ x) ≡ x
inv_inv {x} h = sym (inv_unique (inv_ℚ x) x (*ℚ_comm (inv_ℚ x) x ∙ *ℚ_inv x h))

pub inv-mul : {x y : ℚ} → x ≢ int (pos 0) → y ≢ int (pos 0) → inv_ℚ (x *ℚ y) ≡ inv_ℚ x *ℚ inv_ℚ y
inv-mul {x} {y} h k =
    sym (inv_unique (x *ℚ y) (inv_ℚ x *ℚ inv_ℚ y) (by_equations (inv_ℚ y *ℚ y) (int (pos 1)) (*ℚ_inv x h) (*ℚ_inv y k) (by_ring (x ∷ y ∷ inv_ℚ x ∷ inv_ℚ y ∷ []) (search reads depth 30) (search reads depth 30) tt)))

pub inv_one : inv_ℚ (int (pos 1)) ≡ int (pos 1)
inv_one = sym (inv_unique (int (pos 1)) (int (pos 1)) (by_ring [] (search reads depth 30) (search reads depth 30) tt))

-- the quotient is what times the divisor gives the dividend
pub *ℚ-/ℚ : (x y : ℚ) → y ≢ int (pos 0) → y *ℚ (x /ℚ y) ≡ x
*ℚ-/ℚ x y h = by_equation x (*ℚ_inv y h) (by_ring (x ∷ y ∷ inv_ℚ y ∷ []) (search reads depth 30) (search reads depth 30) tt)

pub ≤ℚ-/ℚ : (x y z : ℚ) → IsPositive y → (x ≤ℚ (z /ℚ y)) ↔ ((y *ℚ x) ≤ℚ z)
≤ℚ-/ℚ x y z p =
    let e : y *ℚ (z /ℚ y) ≡ z = *ℚ-/ℚ z y (positive-not_zero p) in
    (λ h. subst (λ u. (y *ℚ x) ≤ℚ u) e (*ℚ-≤ℚ (≤ℚ_of_< p) h), λ h. *ℚ-≤ℚ_cancel p (subst (λ u. (y *ℚ x) ≤ℚ u) (sym e) h))

pub /ℚ-≤ℚ : (x y z : ℚ) → IsPositive y → ((z /ℚ y) ≤ℚ x) ↔ (z ≤ℚ (y *ℚ x))
/ℚ-≤ℚ x y z p =
    let e : y *ℚ (z /ℚ y) ≡ z = *ℚ-/ℚ z y (positive-not_zero p) in
    (λ h. subst (λ u. u ≤ℚ (y *ℚ x)) e (*ℚ-≤ℚ (≤ℚ_of_< p) h), λ h. *ℚ-≤ℚ_cancel p (subst (λ u. u ≤ℚ (y *ℚ x)) (sym e) h))

pub <ℚ-/ℚ : (x y z : ℚ) → IsPositive y → (x <ℚ (z /ℚ y)) ↔ ((y *ℚ x) <ℚ z)
<ℚ-/ℚ x y z p =
    let e : y *ℚ (z /ℚ y) ≡ z = *ℚ-/ℚ z y (positive-not_zero p) in
    (λ h. subst (λ u. (y *ℚ x) <ℚ u) e (*ℚ-<ℚ p h), λ h. *ℚ-<ℚ_cancel p (subst (λ u. (y *ℚ x) <ℚ u) (sym e) h))
