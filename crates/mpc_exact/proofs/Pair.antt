-- Pairs of fractions in lexicographic order: signs, the order's laws, sums and products by a fraction.
use Rattle.std.proofs.Common.{◌≡◌, true, false, ◌&&◌, pos, negsuc, [], ◌∷◌, refl, sym, ◌∙◌, ap, subst, subst₂, ◌⊎◌, inl, inr, ⊎_elim}
use Rattle.std.proofs.lemmas.Bool.{or_cases, or_parts, and_parts, and_cases}
use Rattle.mpc_exact.specs.Rational.{ℚ, int, ◌+ℚ◌, ◌-ℚ◌, ◌*ℚ◌, ◌≤ℚ◌, ◌<ℚ◌, le_ℚ, lt_ℚ, IsNonneg, IsPositive}
use Rattle.mpc_exact.specs.Pair.{Pair, IsBelow, IsAtMost, is_below, pair_add, pair_scale}
use Rattle.mpc_exact.proofs.RationalRing.{reads, by_ring, by_equation}
use Rattle.mpc_exact.proofs.RationalOrder.{nonneg_int, nonneg-add, positive-add, nonneg-mul, positive-mul, gap, strict_gap, from_gap, from_strict_gap, le_or_lt, ≤ℚ_antisymm, ≤ℚ_of_<, ≤ℚ_trans, <ℚ-≤ℚ_trans, <ℚ_irrefl}
use Rattle.mpc_exact.proofs.OrderTheorems.{zero_or_positive, <ℚ_trans, <ℚ_asymm, <ℚ-not-≡, three_ways, le_ℚ-true, lt_ℚ-true, le_ℚ-false, lt_ℚ-false}
use Rattle.mpc_exact.proofs.Linear.{linear_lt, claims, none, lt, eq}

-- the pair (a, b) is above (0, 0), or at least that
pub record IsPairPositive (a b : ℚ) : Type 0 where
  pub it : IsPositive a ⊎ ((a ≡ int (pos 0)) × IsPositive b)

pub record IsPairNonneg (a b : ℚ) : Type 0 where
  pub it : IsPositive a ⊎ ((a ≡ int (pos 0)) × IsNonneg b)

zero_plus : (a c : ℚ) → a ≡ int (pos 0) → c ≡ int (pos 0) → a +ℚ c ≡ int (pos 0)
zero_plus a c e f = (λ i. e i +ℚ f i) ∙ by_ring [] (search reads depth 30) (search reads depth 30) tt

zero_positive : (a c : ℚ) → a ≡ int (pos 0) → IsPositive c → IsPositive (a +ℚ c)
zero_positive a c h k = linear_lt (a ∷ c ∷ []) (eq h (lt k none)) (search claims depth 40) tt

positive_zero : (a c : ℚ) → IsPositive a → c ≡ int (pos 0) → IsPositive (a +ℚ c)
positive_zero a c h k = linear_lt (a ∷ c ∷ []) (lt h (eq k none)) (search claims depth 40) tt

pub pair_nonneg_add : (a b c d : ℚ) → IsPairNonneg a b → IsPairNonneg c d → IsPairNonneg (a +ℚ c) (b +ℚ d)
pair_nonneg_add a b c d h k = by h.it k.it
  where
    by : IsPositive a ⊎ ((a ≡ int (pos 0)) × IsNonneg b) → IsPositive c ⊎ ((c ≡ int (pos 0)) × IsNonneg d) → IsPairNonneg (a +ℚ c) (b +ℚ d)
    by (inl p) (inl q) = record { it = inl (positive-add p (≤ℚ_of_< q)) }
    by (inl p) (inr q) = record { it = inl (positive_zero a c p q.0) }
    by (inr p) (inl q) = record { it = inl (zero_positive a c p.0 q) }
    by (inr p) (inr q) = record { it = inr (zero_plus a c p.0 q.0, nonneg-add p.1 q.1) }

pub pair_positive_add : (a b c d : ℚ) → IsPairPositive a b → IsPairNonneg c d → IsPairPositive (a +ℚ c) (b +ℚ d)
pair_positive_add a b c d h k = by h.it k.it
  where
    by : IsPositive a ⊎ ((a ≡ int (pos 0)) × IsPositive b) → IsPositive c ⊎ ((c ≡ int (pos 0)) × IsNonneg d) → IsPairPositive (a +ℚ c) (b +ℚ d)
    by (inl p) (inl q) = record { it = inl (positive-add p (≤ℚ_of_< q)) }
    by (inl p) (inr q) = record { it = inl (positive_zero a c p q.0) }
    by (inr p) (inl q) = record { it = inl (zero_positive a c p.0 q) }
    by (inr p) (inr q) = record { it = inr (zero_plus a c p.0 q.0, positive-add p.1 q.1) }

pub pair_positive_weak : (a b : ℚ) → IsPairPositive a b → IsPairNonneg a b
pair_positive_weak a b h = record { it = ⊎_elim inl (λ p. inr (p.0, ≤ℚ_of_< p.1)) h.it }

pub pair_nonneg_of_zero : IsPairNonneg (int (pos 0)) (int (pos 0))
pair_nonneg_of_zero = record { it = inr (refl, nonneg_int 0) }

times_zero : (k a : ℚ) → a ≡ int (pos 0) → k *ℚ a ≡ int (pos 0)
times_zero k a e = ap (λ u. k *ℚ u) e ∙ by_ring (k ∷ []) (search reads depth 30) (search reads depth 30) tt

zero_times : (k a : ℚ) → k ≡ int (pos 0) → k *ℚ a ≡ int (pos 0)
zero_times k a e = ap (λ u. u *ℚ a) e ∙ by_ring (a ∷ []) (search reads depth 30) (search reads depth 30) tt

pub pair_positive_scale : (k a b : ℚ) → IsPositive k → IsPairPositive a b → IsPairPositive (k *ℚ a) (k *ℚ b)
pair_positive_scale k a b p h = record { it = ⊎_elim (λ q. inl (positive-mul p q)) (λ q. inr (times_zero k a q.0, positive-mul p q.1)) h.it }

pub pair_nonneg_zero : (k a b : ℚ) → k ≡ int (pos 0) → IsPairNonneg (k *ℚ a) (k *ℚ b)
pair_nonneg_zero k a b e = record { it = inr (zero_times k a e, subst IsNonneg (sym (zero_times k b e)) (nonneg_int 0)) }

pub pair_nonneg_scale : (k a b : ℚ) → IsNonneg k → IsPairNonneg a b → IsPairNonneg (k *ℚ a) (k *ℚ b)
pair_nonneg_scale k a b p h = by (zero_or_positive p) h.it
  where
    by : (k ≡ int (pos 0)) ⊎ IsPositive k → IsPositive a ⊎ ((a ≡ int (pos 0)) × IsNonneg b) → IsPairNonneg (k *ℚ a) (k *ℚ b)
    by (inr q) (inl r) = record { it = inl (positive-mul q r) }
    by (inr q) (inr r) = record { it = inr (times_zero k a r.0, nonneg-mul p r.1) }
    by (inl e) r = pair_nonneg_zero k a b e

pub pair_positive_last : (a b c d : ℚ) → IsPairNonneg a b → IsPairPositive c d → IsPairPositive (a +ℚ c) (b +ℚ d)
pair_positive_last a b c d h k =
    subst₂ (λ u v. IsPairPositive u v) (by_ring (a ∷ c ∷ []) (search reads depth 30) (search reads depth 30) tt) (by_ring (b ∷ d ∷ []) (search reads depth 30) (search reads depth 30) tt) (pair_positive_add c d a b k h)

same_gap : (a b : ℚ) → a ≡ b → b -ℚ a ≡ int (pos 0)
same_gap a b e = ap (λ u. u -ℚ a) (sym e) ∙ by_ring (a ∷ []) (search reads depth 30) (search reads depth 30) tt

pub below_gap : {p q : Pair} → IsBelow p q → IsPairPositive (q.first -ℚ p.first) (q.second -ℚ p.second)
below_gap {p} {q} h = record { it = ⊎_elim (λ l. inl (strict_gap l)) (λ l. inr (same_gap p.first q.first l.0, strict_gap l.1)) h.below }

pub at_most_gap : {p q : Pair} → IsAtMost p q → IsPairNonneg (q.first -ℚ p.first) (q.second -ℚ p.second)
at_most_gap {p} {q} h = record { it = ⊎_elim (λ l. inl (strict_gap l)) (λ l. inr (same_gap p.first q.first l.0, gap l.1)) h.at_most }

gap_same : (a b : ℚ) → b -ℚ a ≡ int (pos 0) → a ≡ b
gap_same a b e = by_equation (int (negsuc 0)) e (by_ring (a ∷ b ∷ []) (search reads depth 30) (search reads depth 30) tt)

nonneg_as : (a b c d : ℚ) → a ≡ c → b ≡ d → IsPairNonneg a b → IsPairNonneg c d
nonneg_as a b c d e f h = subst₂ (λ u v. IsPairNonneg u v) e f h

regroup : (a b c d : ℚ) → b -ℚ a +ℚ (d -ℚ c) ≡ (b +ℚ d) -ℚ (a +ℚ c)
regroup a b c d = by_ring (a ∷ b ∷ c ∷ d ∷ []) (search reads depth 30) (search reads depth 30) tt

spread : (k a b : ℚ) → k *ℚ (b -ℚ a) ≡ k *ℚ b -ℚ k *ℚ a
spread k a b = by_ring (k ∷ a ∷ b ∷ []) (search reads depth 30) (search reads depth 30) tt

-- no sum of a pair above 0 and pairs that are at least 0 is 0
pub pair_conflict : (a b : ℚ) → IsPairPositive a b → a ≡ int (pos 0) → b ≡ int (pos 0) → ⊥
pair_conflict a b h e f = ⊎_elim (λ l. <ℚ_irrefl (subst IsPositive e l)) (λ l. <ℚ_irrefl (subst IsPositive f l.1)) h.it

pub from_at_most_gap : {p q : Pair} → IsPairNonneg (q.first -ℚ p.first) (q.second -ℚ p.second) → IsAtMost p q
from_at_most_gap {p} {q} h = record { at_most = ⊎_elim (λ l. inl (from_strict_gap l)) (λ l. inr (gap_same p.first q.first l.0, from_gap l.1)) h.it }

-- ---- the order's laws
pub pair_same : (p q : Pair) → p.first ≡ q.first → p.second ≡ q.second → p ≡ q
pair_same p q e f = λ i. record { first = e i; second = f i }

pub below_irrefl : {p : Pair} → IsBelow p p → ⊥
below_irrefl {p} h = ⊎_elim <ℚ_irrefl (λ l. <ℚ_irrefl l.1) h.below

pub at_most_trans : {p q r : Pair} → IsAtMost p q → IsAtMost q r → IsAtMost p r
at_most_trans {p} {q} {r} h k = by h.at_most k.at_most
  where
    by : (p.first <ℚ q.first) ⊎ ((p.first ≡ q.first) × (p.second ≤ℚ q.second)) → (q.first <ℚ r.first) ⊎ ((q.first ≡ r.first) × (q.second ≤ℚ r.second)) → IsAtMost p r
    by (inl l) (inl m) = record { at_most = inl (<ℚ_trans l m) }
    by (inl l) (inr m) = record { at_most = inl (subst (λ z. p.first <ℚ z) m.0 l) }
    by (inr l) (inl m) = record { at_most = inl (subst (λ z. z <ℚ r.first) (sym l.0) m) }
    by (inr l) (inr m) = record { at_most = inr (l.0 ∙ m.0, ≤ℚ_trans l.1 m.1) }

pub below-at_most_trans : {p q r : Pair} → IsBelow p q → IsAtMost q r → IsBelow p r
below-at_most_trans {p} {q} {r} h k = by h.below k.at_most
  where
    by : (p.first <ℚ q.first) ⊎ ((p.first ≡ q.first) × (p.second <ℚ q.second)) → (q.first <ℚ r.first) ⊎ ((q.first ≡ r.first) × (q.second ≤ℚ r.second)) → IsBelow p r
    by (inl l) (inl m) = record { below = inl (<ℚ_trans l m) }
    by (inl l) (inr m) = record { below = inl (subst (λ z. p.first <ℚ z) m.0 l) }
    by (inr l) (inl m) = record { below = inl (subst (λ z. z <ℚ r.first) (sym l.0) m) }
    by (inr l) (inr m) = record { below = inr (l.0 ∙ m.0, <ℚ-≤ℚ_trans l.1 m.1) }

pub at_most-not-below : {p q : Pair} → IsAtMost p q → IsBelow q p → ⊥
at_most-not-below {p} {q} h k = below_irrefl (below-at_most_trans k h)

pub at_most_antisymm : {p q : Pair} → IsAtMost p q → IsAtMost q p → p ≡ q
at_most_antisymm {p} {q} h k = by h.at_most k.at_most
  where
    by : (p.first <ℚ q.first) ⊎ ((p.first ≡ q.first) × (p.second ≤ℚ q.second)) → (q.first <ℚ p.first) ⊎ ((q.first ≡ p.first) × (q.second ≤ℚ p.second)) → p ≡ q
    by (inl l) (inl m) = absurd (<ℚ_asymm l m)
    by (inl l) (inr m) = absurd (<ℚ-not-≡ l (sym m.0))
    by (inr l) (inl m) = absurd (<ℚ-not-≡ m (sym l.0))
    by (inr l) (inr m) = pair_same p q l.0 (≤ℚ_antisymm l.1 m.1)

pub at_most-or-below : (p q : Pair) → IsAtMost p q ⊎ IsBelow q p
at_most-or-below p q = by (three_ways p.first q.first) (le_or_lt p.second q.second)
  where
    by : (p.first <ℚ q.first) ⊎ ((p.first ≡ q.first) ⊎ (q.first <ℚ p.first)) → (p.second ≤ℚ q.second) ⊎ (q.second <ℚ p.second) → IsAtMost p q ⊎ IsBelow q p
    by (inl l) s = inl (record { at_most = inl l })
    by (inr (inl e)) (inl s) = inl (record { at_most = inr (e, s) })
    by (inr (inl e)) (inr s) = inr (record { below = inr (sym e, s) })
    by (inr (inr l)) s = inr (record { below = inl l })

-- ---- sums, and products by a fraction
pub at_most-add : {p q r s : Pair} → IsAtMost p q → IsAtMost r s → IsAtMost (pair_add p r) (pair_add q s)
at_most-add {p} {q} {r} {s} h k =
    from_at_most_gap (nonneg_as (q.first -ℚ p.first +ℚ (s.first -ℚ r.first)) (q.second -ℚ p.second +ℚ (s.second -ℚ r.second)) _ _ (regroup p.first q.first r.first s.first) (regroup p.second q.second r.second s.second)
    (pair_nonneg_add (q.first -ℚ p.first) (q.second -ℚ p.second) (s.first -ℚ r.first) (s.second -ℚ r.second) (at_most_gap h) (at_most_gap k)))

pub at_most-scale : {k : ℚ} {p q : Pair} → IsNonneg k → IsAtMost p q → IsAtMost (pair_scale k p) (pair_scale k q)
at_most-scale {k} {p} {q} n h =
    from_at_most_gap (nonneg_as (k *ℚ (q.first -ℚ p.first)) (k *ℚ (q.second -ℚ p.second)) _ _ (spread k p.first q.first) (spread k p.second q.second)
    (pair_nonneg_scale k (q.first -ℚ p.first) (q.second -ℚ p.second) n (at_most_gap h)))

-- ---- the test
by_le_or_eq : (p q : Pair) → p.first ≤ℚ q.first → p.second <ℚ q.second → IsBelow p q
by_le_or_eq p q h k = ⊎_elim (λ l. record { below = inr (≤ℚ_antisymm h l, k) }) (λ l. record { below = inl l }) (le_or_lt q.first p.first)

pub is_below-true : (p q : Pair) → is_below p q ≡ true → IsBelow p q
unfolding is_below
is_below-true p q e =
    ⊎_elim
    (λ l. record { below = inl (lt_ℚ-true l) })
    (λ l. let m = and_parts (le_ℚ p.first q.first) (lt_ℚ p.second q.second) l in by_le_or_eq p q (le_ℚ-true m.0) (lt_ℚ-true m.1))
    (or_cases (lt_ℚ p.first q.first) (le_ℚ p.first q.first && lt_ℚ p.second q.second) e)

at_most_by : (p q : Pair) → q.first ≤ℚ p.first → q.second ≤ℚ p.second → IsAtMost q p
at_most_by p q h k = ⊎_elim (λ l. record { at_most = inr (≤ℚ_antisymm h l, k) }) (λ l. record { at_most = inl l }) (le_or_lt p.first q.first)

pub is_below-false : (p q : Pair) → is_below p q ≡ false → IsAtMost q p
unfolding is_below
is_below-false p q e =
    let m = or_parts (lt_ℚ p.first q.first) (le_ℚ p.first q.first && lt_ℚ p.second q.second) e in
    ⊎_elim
    (λ l. record { at_most = inl (le_ℚ-false l) })
    (λ l. at_most_by p q (lt_ℚ-false m.0) (lt_ℚ-false l))
    (and_cases (le_ℚ p.first q.first) (lt_ℚ p.second q.second) m.1)
