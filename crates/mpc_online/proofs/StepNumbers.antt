-- Numbers of a step: lengths, multipliers, and the value of the relaxed problem.
use Rattle.std.proofs.Common.{◌≡◌, [], ◌∷◌, pos, negsuc, sym, ◌∙◌, subst, ⊎_elim}
use Rattle.mpc_exact.specs.Rational.{ℚ, int, ◌+ℚ◌, ◌-ℚ◌, ◌*ℚ◌, ◌/ℚ◌, neg_ℚ, inv_ℚ, ◌≤ℚ◌, ◌<ℚ◌, IsNonneg, IsPositive}
use Rattle.mpc_exact.proofs.RationalRing.{reads, by_ring, by_equation, by_equations}
use Rattle.mpc_exact.proofs.RationalOrder.{gap, strict_gap, nonneg-add, nonneg-mul, positive-mul, inv_positive, le_or_lt, ≤ℚ_of_<, from_strict_gap}
use Rattle.mpc_exact.proofs.OrderTheorems.{neg_positive, positive-not_zero, *ℚ-/ℚ, ≤ℚ-/ℚ, <ℚ-/ℚ}
use Rattle.mpc_exact.proofs.Linear.{linear_le, linear_lt, claims, none, le, lt, eq}

-- a quotient by a number below 0, turned
pub quotient_nonneg : (l e : ℚ) → IsNonneg l → e <ℚ int (pos 0) → IsNonneg (l /ℚ neg_ℚ e)
quotient_nonneg l e h k = nonneg-mul h (≤ℚ_of_< (inv_positive (neg_positive k)))

quotient_positive : (v w : ℚ) → IsPositive v → IsPositive w → IsPositive (v /ℚ w)
quotient_positive v w h k = positive-mul h (inv_positive k)

-- at the length of its quotient a multiplier is 0
pub falls_to_zero : (l e s : ℚ) → e <ℚ int (pos 0) → s ≡ l /ℚ neg_ℚ e → l +ℚ s *ℚ e ≡ int (pos 0)
falls_to_zero l e s k is = by_equations (int (negsuc 0)) (neg_ℚ e) (*ℚ-/ℚ l (neg_ℚ e) (positive-not_zero (neg_positive k))) (sym is) (by_ring (l ∷ e ∷ s ∷ inv_ℚ (neg_ℚ e) ∷ []) (search reads depth 30) (search reads depth 30) tt)

-- before it, it isn't below 0
before_zero : (l e s m : ℚ) → m ≡ neg_ℚ e → (m *ℚ s) ≤ℚ l → IsNonneg (l +ℚ s *ℚ e)
before_zero l e s m is h = subst IsNonneg (by_equation (neg_ℚ s) is (by_ring (l ∷ e ∷ s ∷ m ∷ []) (search reads depth 30) (search reads depth 30) tt)) (gap h)

pub stays_nonneg : (l e s : ℚ) → IsNonneg l → IsNonneg s → (e <ℚ int (pos 0) → s ≤ℚ (l /ℚ neg_ℚ e)) → IsNonneg (l +ℚ s *ℚ e)
stays_nonneg l e s h k before = ⊎_elim
    (λ up. nonneg-add h (nonneg-mul k up))
    (λ down. before_zero l e s (neg_ℚ e) (λ i. neg_ℚ e) ((≤ℚ-/ℚ s (neg_ℚ e) l (neg_positive down)).0 (before down)))
    (le_or_lt (int (pos 0)) e)

-- ---- the row on its way, with the excess v above its side and the slope a, which is -w
pub slack_before : (v a s : ℚ) → a <ℚ int (pos 0) → s <ℚ (v /ℚ neg_ℚ a) → IsPositive (v +ℚ s *ℚ a)
slack_before v a s h k = subst IsPositive (by_ring (v ∷ a ∷ s ∷ []) (search reads depth 30) (search reads depth 30) tt) (strict_gap ((<ℚ-/ℚ s (neg_ℚ a) v (neg_positive h)).0 k))

pub full_arrives : (v a s : ℚ) → a <ℚ int (pos 0) → s ≡ v /ℚ neg_ℚ a → v +ℚ s *ℚ a ≡ int (pos 0)
full_arrives v a s h is = falls_to_zero v a s h is

pub full_positive : (v a s : ℚ) → IsPositive v → a <ℚ int (pos 0) → s ≡ v /ℚ neg_ℚ a → IsPositive s
full_positive v a s h k is = subst IsPositive (sym is) (quotient_positive v (neg_ℚ a) h (neg_positive k))

pub moved_excess : (x y s a : ℚ) → (x +ℚ s *ℚ a) -ℚ y ≡ (x -ℚ y) +ℚ s *ℚ a
moved_excess x y s a = by_ring (x ∷ y ∷ s ∷ a ∷ []) (search reads depth 30) (search reads depth 30) tt

pub above_of_excess : (x y : ℚ) → IsPositive (x -ℚ y) → y <ℚ x
above_of_excess x y h = from_strict_gap h

pub slope_of_square : (q a m : ℚ) → q +ℚ a +ℚ m ≡ int (pos 0) → m ≡ int (pos 0) → a ≡ neg_ℚ q
slope_of_square q a m e f = by_equations (int (pos 1)) (int (negsuc 0)) e f (by_ring (q ∷ a ∷ m ∷ []) (search reads depth 30) (search reads depth 30) tt)

pub slope_below : (q a : ℚ) → a ≡ neg_ℚ q → IsPositive q → a <ℚ int (pos 0)
slope_below q a e h = linear_lt (q ∷ a ∷ []) (eq e (lt h none)) (search claims depth 40) tt

-- ---- the equations move along
pub balanced_along : (a q l u r b e s : ℚ) → a +ℚ q +ℚ (l +ℚ u *ℚ r) ≡ int (pos 0) → b +ℚ r +ℚ e ≡ int (pos 0) → (a +ℚ s *ℚ b) +ℚ q +ℚ ((l +ℚ s *ℚ e) +ℚ (u +ℚ s) *ℚ r) ≡ int (pos 0)
balanced_along a q l u r b e s f g = by_equations (int (pos 1)) s f g (by_ring (a ∷ q ∷ l ∷ u ∷ r ∷ b ∷ e ∷ s ∷ []) (search reads depth 30) (search reads depth 30) tt)

-- ---- the value
-- along d: dh z + d f is u q where the multipliers' part vanishes, with the slope -q
pub cost_slope : (hz f m u a q : ℚ) → hz +ℚ f +ℚ (m +ℚ u *ℚ a) ≡ int (pos 0) → m ≡ int (pos 0) → a ≡ neg_ℚ q → hz +ℚ f ≡ u *ℚ q
cost_slope hz f m u a q e g k = by_equation (int (pos 1)) e (by_equations (int (negsuc 0)) (neg_ℚ u) g k (by_ring (hz ∷ f ∷ m ∷ u ∷ a ∷ q ∷ []) (search reads depth 30) (search reads depth 30) tt))

rising : (cost q s u v : ℚ) → (cost +ℚ int (pos 2) *ℚ (s *ℚ (u *ℚ q)) +ℚ (s *ℚ s) *ℚ q) +ℚ int (pos 2) *ℚ ((u +ℚ s) *ℚ (v +ℚ s *ℚ neg_ℚ q)) ≡ (cost +ℚ int (pos 2) *ℚ (u *ℚ v)) +ℚ s *ℚ (v +ℚ (v +ℚ s *ℚ neg_ℚ q))
rising cost q s u v = by_ring (cost ∷ q ∷ s ∷ u ∷ v ∷ []) (search reads depth 60) (search reads depth 60) tt

pub value_rises : (cost hz f q s u v a : ℚ) → hz +ℚ f ≡ u *ℚ q → a ≡ neg_ℚ q →
    (cost +ℚ int (pos 2) *ℚ (s *ℚ (hz +ℚ f)) +ℚ (s *ℚ s) *ℚ q) +ℚ int (pos 2) *ℚ ((u +ℚ s) *ℚ (v +ℚ s *ℚ a)) ≡ (cost +ℚ int (pos 2) *ℚ (u *ℚ v)) +ℚ s *ℚ (v +ℚ (v +ℚ s *ℚ a))
value_rises cost hz f q s u v a e k =
    (λ i. (cost +ℚ int (pos 2) *ℚ (s *ℚ e i) +ℚ (s *ℚ s) *ℚ q) +ℚ int (pos 2) *ℚ ((u +ℚ s) *ℚ (v +ℚ s *ℚ k i)))
    ∙ rising cost q s u v
    ∙ (λ i. (cost +ℚ int (pos 2) *ℚ (u *ℚ v)) +ℚ s *ℚ (v +ℚ (v +ℚ s *ℚ sym k i)))

pub grown : (x y d : ℚ) → y ≡ x +ℚ d → IsNonneg d → x ≤ℚ y
grown x y d e h = linear_le (x ∷ y ∷ d ∷ []) (eq e (le h none)) (search claims depth 40) tt

pub grown_strictly : (x y d : ℚ) → y ≡ x +ℚ d → IsPositive d → x <ℚ y
grown_strictly x y d e h = linear_lt (x ∷ y ∷ d ∷ []) (eq e (lt h none)) (search claims depth 40) tt
