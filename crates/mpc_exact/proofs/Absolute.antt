-- The absolute value, the lesser and the greater of two fractions, and sums of lists.
use Rattle.std.proofs.Common.{◌≡◌, Bool, true, false, cond, [], ◌∷◌, ◌++◌, pos, refl, sym, ◌∙◌, ap, subst, ◌⊎◌, ⊎_elim}
use Rattle.mpc_exact.specs.Rational.{ℚ, int, ◌+ℚ◌, ◌*ℚ◌, neg_ℚ, abs_ℚ, min_ℚ, max_ℚ, ◌≤ℚ◌, ◌<ℚ◌, le_ℚ, IsNonneg}
use Rattle.mpc_exact.proofs.RationalRing.{reads, by_ring}
use Rattle.mpc_exact.proofs.RationalOrder.{nonneg-mul, ≤ℚ_refl, ≤ℚ_of_<, ≤ℚ_antisymm}
use Rattle.mpc_exact.proofs.RationalField.{abs_cases}
use Rattle.mpc_exact.proofs.Linear.{linear_le, claims, none, le, eq}
use Rattle.mpc_exact.proofs.OrderTheorems.{le_ℚ-true, le_ℚ-false, neg_nonneg}

-- ---- the absolute value
abs_choice : (P : ℚ → ℚ → Type 0) → ((x : ℚ) → IsNonneg x → P x x) → ((x : ℚ) → IsNonneg (neg_ℚ x) → P x (neg_ℚ x)) → (x : ℚ) → P x (abs_ℚ x)
abs_choice P h k x = ⊎_elim (λ c. subst (λ z. P x z) (sym c.0) (h x c.1)) (λ c. subst (λ z. P x z) (sym c.0) (k x c.1)) (abs_cases x)

zero_of_sides : (x : ℚ) → IsNonneg x → IsNonneg (neg_ℚ x) → x ≡ int (pos 0)
zero_of_sides x h k = ≤ℚ_antisymm (linear_le (x ∷ []) (le k none) (search claims depth 40) tt) h

zero_neg : (x : ℚ) → x ≡ int (pos 0) → neg_ℚ x ≡ x
zero_neg x e = ap neg_ℚ e ∙ by_ring [] (search reads depth 30) (search reads depth 30) tt ∙ sym e

pub abs-same : (x : ℚ) → IsNonneg x → abs_ℚ x ≡ x
abs-same x h = ⊎_elim (λ c. c.0) (λ c. c.0 ∙ zero_neg x (zero_of_sides x h c.1)) (abs_cases x)

pub abs-negated : (x : ℚ) → x ≤ℚ int (pos 0) → abs_ℚ x ≡ neg_ℚ x
abs-negated x h = ⊎_elim (λ c. c.0 ∙ sym (zero_neg x (zero_of_sides x c.1 (neg_nonneg h)))) (λ c. c.0) (abs_cases x)

pub abs_above : (x : ℚ) → x ≤ℚ abs_ℚ x
abs_above = abs_choice (λ x z. x ≤ℚ z) (λ x h. ≤ℚ_refl x) (λ x h. linear_le (x ∷ []) (le h none) (search claims depth 40) tt)

pub abs_above_neg : (x : ℚ) → neg_ℚ x ≤ℚ abs_ℚ x
abs_above_neg = abs_choice (λ x z. neg_ℚ x ≤ℚ z) (λ x h. linear_le (x ∷ []) (le h none) (search claims depth 40) tt) (λ x h. ≤ℚ_refl (neg_ℚ x))

-- |x| ≤ b where -b ≤ x ≤ b
pub abs_at_most : (x b : ℚ) → x ≤ℚ b → neg_ℚ x ≤ℚ b → abs_ℚ x ≤ℚ b
abs_at_most x b h k = ⊎_elim (λ c. subst (λ z. z ≤ℚ b) (sym c.0) h) (λ c. subst (λ z. z ≤ℚ b) (sym c.0) k) (abs_cases x)

pub abs_neg : (x : ℚ) → abs_ℚ (neg_ℚ x) ≡ abs_ℚ x
abs_neg = abs_choice (λ x z. abs_ℚ (neg_ℚ x) ≡ z)
    (λ x h. abs-negated (neg_ℚ x) (linear_le (x ∷ []) (le h none) (search claims depth 40) tt) ∙ by_ring (x ∷ []) (search reads depth 30) (search reads depth 30) tt)
    (λ x h. abs-same (neg_ℚ x) h)

-- the triangle inequality
pub abs-add : (x y : ℚ) → abs_ℚ (x +ℚ y) ≤ℚ (abs_ℚ x +ℚ abs_ℚ y)
abs-add x y =
    abs_at_most (x +ℚ y) (abs_ℚ x +ℚ abs_ℚ y)
    (linear_le (x ∷ y ∷ abs_ℚ x ∷ abs_ℚ y ∷ []) (le (abs_above x) (le (abs_above y) none)) (search claims depth 40) tt)
    (linear_le (x ∷ y ∷ abs_ℚ x ∷ abs_ℚ y ∷ []) (le (abs_above_neg x) (le (abs_above_neg y) none)) (search claims depth 40) tt)

-- the product's
pub abs-mul : (x y : ℚ) → abs_ℚ (x *ℚ y) ≡ abs_ℚ x *ℚ abs_ℚ y
abs-mul x y = abs_choice (λ x z. (y : ℚ) → abs_ℚ (x *ℚ y) ≡ z *ℚ abs_ℚ y)
    (λ x h. abs_choice (λ y z. abs_ℚ (x *ℚ y) ≡ x *ℚ z)
    (λ y k. abs-same (x *ℚ y) (nonneg-mul h k))
    (λ y k. negative (x *ℚ y) (x *ℚ neg_ℚ y) (nonneg-mul h k) (by_ring (x ∷ y ∷ []) (search reads depth 30) (search reads depth 30) tt)))
    (λ x h. abs_choice (λ y z. abs_ℚ (x *ℚ y) ≡ neg_ℚ x *ℚ z)
    (λ y k. negative (x *ℚ y) (neg_ℚ x *ℚ y) (nonneg-mul h k) (by_ring (x ∷ y ∷ []) (search reads depth 30) (search reads depth 30) tt))
    (λ y k. abs-same (x *ℚ y) (subst IsNonneg (same x y) (nonneg-mul h k)) ∙ sym (same x y)))
    x y
  where
    negative : (u v : ℚ) → IsNonneg v → neg_ℚ u ≡ v → abs_ℚ u ≡ v
    negative u v h e = abs-negated u (linear_le (u ∷ v ∷ []) (le h (eq e none)) (search claims depth 40) tt) ∙ e

    same : (x y : ℚ) → neg_ℚ x *ℚ neg_ℚ y ≡ x *ℚ y
    same x y = by_ring (x ∷ y ∷ []) (search reads depth 30) (search reads depth 30) tt

-- ---- the lesser and the greater
choose : (P : ℚ → Type 0) (x y : ℚ) → ((x ≤ℚ y) → P x) → ((y <ℚ x) → P y) → P (min_ℚ x y)
unfolding min_ℚ
choose P x y h k = by (le_ℚ x y) refl
  where
    by : (b : Bool) → le_ℚ x y ≡ b → P (cond b x y)
    by true e = h (le_ℚ-true e)
    by false e = k (le_ℚ-false e)

choose_max : (P : ℚ → Type 0) (x y : ℚ) → ((x ≤ℚ y) → P y) → ((y <ℚ x) → P x) → P (max_ℚ x y)
unfolding max_ℚ
choose_max P x y h k = by (le_ℚ x y) refl
  where
    by : (b : Bool) → le_ℚ x y ≡ b → P (cond b y x)
    by true e = h (le_ℚ-true e)
    by false e = k (le_ℚ-false e)

pub min_below_left : (x y : ℚ) → min_ℚ x y ≤ℚ x
min_below_left x y = choose (λ z. z ≤ℚ x) x y (λ h. ≤ℚ_refl x) ≤ℚ_of_<

pub min_below_right : (x y : ℚ) → min_ℚ x y ≤ℚ y
min_below_right x y = choose (λ z. z ≤ℚ y) x y (λ h. h) (λ h. ≤ℚ_refl y)

pub min_greatest : (x y z : ℚ) → z ≤ℚ x → z ≤ℚ y → z ≤ℚ min_ℚ x y
min_greatest x y z h k = choose (λ w. z ≤ℚ w) x y (λ l. h) (λ l. k)

pub max_above_left : (x y : ℚ) → x ≤ℚ max_ℚ x y
max_above_left x y = choose_max (λ z. x ≤ℚ z) x y (λ h. h) (λ h. ≤ℚ_refl x)

pub max_above_right : (x y : ℚ) → y ≤ℚ max_ℚ x y
max_above_right x y = choose_max (λ z. y ≤ℚ z) x y (λ h. ≤ℚ_refl y) ≤ℚ_of_<

pub max_least : (x y z : ℚ) → x ≤ℚ z → y ≤ℚ z → max_ℚ x y ≤ℚ z
max_least x y z h k = choose_max (λ w. w ≤ℚ z) x y (λ l. k) (λ l. h)
