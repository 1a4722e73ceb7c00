-- A run that ends refuted: its multipliers refute the system, and no point meets the rows of a system that such multipliers weigh.
use Rattle.std.proofs.Common.{◌≡◌, ℕ, zero, suc, ◌+◌, ◌-◌, ◌<◌, ◌≤◌, Bool, true, false, cond, eqb, pos, negsuc, [], ◌∷◌, refl, sym, ◌∙◌, ap, subst, arith, ◌⊎◌, inl, inr, ⊎_elim, eq-eqb, ne_eqb}
use Rattle.std.proofs.lemmas.Bool.{cond-true, cond-false, cases_eq, cases_Bool, both_ways}
use Rattle.mpc_exact.specs.Rational.{ℚ, int, ◌+ℚ◌, ◌-ℚ◌, ◌*ℚ◌, neg_ℚ, ◌≤ℚ◌, ◌<ℚ◌}
use Rattle.mpc_exact.proofs.RationalRing.{reads, by_ring}
use Rattle.mpc_exact.proofs.RationalOrder.{IsNonneg, IsPositive, nonneg_int, positive-mul, nonneg-mul, gap, strict_gap, le_or_lt, ≤ℚ_of_<, <ℚ_irrefl}
use Rattle.mpc_exact.proofs.Linear.{linear_le, linear_lt, linear_false, claims, none, le, lt, eq}
use Rattle.mpc_space.specs.Total.{total, unit}
use Rattle.mpc_exact.specs.Pair.{Pair}
use Rattle.mpc_rows.specs.LinearSystem.{LinearSystem, row_at, height, entry, IsWithin}
use Rattle.mpc_rows.specs.NumberedSystems.{left_side, RefutesBy}
use Rattle.mpc_rows.specs.Run.{Position, IsTableau, is_refuted, count, bound, rest, value, turn, position, multiplier}
use Rattle.mpc_space.proofs.Total.{unit-same, unit-other, total-same, total-zeros, total-add, total-scale, total-unit, total-swap, total-nonneg, total-positive}
use Rattle.mpc_runs.proofs.TableauRows.{row_value}
use Rattle.mpc_runs.proofs.Turn.{turn-at, Leaves, NoneEnters}
use Rattle.mpc_runs.proofs.LeftSides.{bound-first, bound-second, is_side, with_sides, with_sides-side, with_sides-meet, side_sum, side_unit}
use Rattle.mpc_runs.proofs.Positions.{tableau, same_rows, rest_side}

-- ---- no point meets all rows whose multipliers aren't 0, where the multipliers refute the system
-- the multipliers' sum of the left sides is the dot of their columns' sums with the point
combined : (s : LinearSystem) (m v : ℕ → ℚ) → total (height s) (λ i. m i *ℚ left_side s i v) ≡ total s.width (λ j. v j *ℚ total (height s) (λ i. m i *ℚ entry s i j))
combined s m v =
    total-same (height s) (λ i. m i *ℚ left_side s i v) (λ i. total s.width (λ j. m i *ℚ (entry s i j *ℚ v j))) (λ i h. sym (total-scale s.width (m i) (λ j. entry s i j *ℚ v j)))
    ∙ total-swap (height s) s.width (λ i j. m i *ℚ (entry s i j *ℚ v j))
    ∙ total-same s.width (λ j. total (height s) (λ i. m i *ℚ (entry s i j *ℚ v j))) (λ j. v j *ℚ total (height s) (λ i. m i *ℚ entry s i j))
    (λ j h. total-same (height s) (λ i. m i *ℚ (entry s i j *ℚ v j)) (λ i. v j *ℚ (m i *ℚ entry s i j)) (λ i l. regroup (m i) (entry s i j) (v j)) ∙ total-scale (height s) (v j) (λ i. m i *ℚ entry s i j))
  where
    regroup : (m e v : ℚ) → m *ℚ (e *ℚ v) ≡ v *ℚ (m *ℚ e)
    regroup m e v = by_ring (m ∷ e ∷ v ∷ []) (search reads depth 30) (search reads depth 30) tt

met_weak : (strict : Bool) (x b : ℚ) → IsWithin strict x b → x ≤ℚ b
met_weak true x b h = ≤ℚ_of_< h
met_weak false x b h = h

met_strict : (strict : Bool) (x b : ℚ) → IsWithin strict x b → strict ≡ true → x <ℚ b
met_strict true x b h e = h
met_strict false x b h e = absurd (both_ways false refl e)

module _ (m x b : ℚ) (strict : Bool) where
  weighed_nonneg : IsNonneg m → (m ≡ int (pos 0)) ⊎ IsWithin strict x b → IsNonneg (m *ℚ (b -ℚ x))
  weighed_nonneg n (inl e) = subst (λ z. IsNonneg z) (sym (ap (λ u. u *ℚ (b -ℚ x)) e ∙ by_ring (b ∷ x ∷ []) (search reads depth 30) (search reads depth 30) tt)) (nonneg_int 0)
  weighed_nonneg n (inr h) = nonneg-mul n (gap (met_weak strict x b h))

  weighed_positive : strict ≡ true → IsPositive m → (m ≡ int (pos 0)) ⊎ IsWithin strict x b → IsPositive (m *ℚ (b -ℚ x))
  weighed_positive e k (inl n) = absurd (<ℚ_irrefl (subst (λ z. IsPositive z) n k))
  weighed_positive e k (inr h) = positive-mul k (strict_gap (met_strict strict x b h e))

module _ (s : LinearSystem) (m v : ℕ → ℚ) (r : RefutesBy s m) (p : (i : ℕ) → i < height s → (m i ≡ int (pos 0)) ⊎ IsWithin (row_at s i).strict (left_side s i v) (row_at s i).b) where
  slack : ℕ → ℚ
  slack i = m i *ℚ ((row_at s i).b -ℚ left_side s i v)

  slack_nonneg : (i : ℕ) → i < height s → IsNonneg (slack i)
  unfolding slack
  slack_nonneg i h = weighed_nonneg (m i) (left_side s i v) (row_at s i).b (row_at s i).strict (r.nonneg i h) (p i h)

  slack_positive : (i : ℕ) → i < height s → (row_at s i).strict ≡ true → IsPositive (m i) → IsPositive (slack i)
  unfolding slack
  slack_positive i h e k = weighed_positive (m i) (left_side s i v) (row_at s i).b (row_at s i).strict e k (p i h)

  right : ℚ
  right = total (height s) (λ i. m i *ℚ (row_at s i).b)

  zero_sum : total (height s) (λ i. m i *ℚ left_side s i v) ≡ int (pos 0)
  zero_sum = combined s m v ∙ total-zeros s.width (λ j. v j *ℚ total (height s) (λ i. m i *ℚ entry s i j)) (λ j h. ap (λ u. v j *ℚ u) (r.left j h) ∙ by_ring (v j ∷ []) (search reads depth 30) (search reads depth 30) tt)

  slack_sum : total (height s) slack ≡ right
  unfolding slack right
  slack_sum =
      total-same (height s) slack (λ i. m i *ℚ (row_at s i).b +ℚ int (negsuc 0) *ℚ (m i *ℚ left_side s i v)) (λ i h. parts (m i) (row_at s i).b (left_side s i v))
      ∙ total-add (height s) (λ i. m i *ℚ (row_at s i).b) (λ i. int (negsuc 0) *ℚ (m i *ℚ left_side s i v))
      ∙ ap (λ u. right +ℚ u) (total-scale (height s) (int (negsuc 0)) (λ i. m i *ℚ left_side s i v) ∙ ap (λ u. int (negsuc 0) *ℚ u) zero_sum)
      ∙ by_ring (right ∷ []) (search reads depth 30) (search reads depth 30) tt
    where
      parts : (m b x : ℚ) → m *ℚ (b -ℚ x) ≡ m *ℚ b +ℚ int (negsuc 0) *ℚ (m *ℚ x)
      parts m b x = by_ring (m ∷ b ∷ x ∷ []) (search reads depth 30) (search reads depth 30) tt

  right_nonneg : IsNonneg right
  right_nonneg = subst (λ z. IsNonneg z) slack_sum (total-nonneg (height s) slack slack_nonneg)

  negative_conflict : (x : ℚ) → IsNonneg x → x <ℚ int (pos 0) → ⊥
  negative_conflict x h k = linear_false (x ∷ []) (le h (lt k none)) (search claims depth 40) tt

  pub refuted_no_point : ⊥
  unfolding right
  refuted_no_point =
      ⊎_elim (λ h. negative_conflict right right_nonneg h)
      (λ h. <ℚ_irrefl (subst (λ z. IsPositive z) (slack_sum ∙ h.0) (total-positive (height s) h.1.0 slack h.1.1 slack_nonneg (slack_positive h.1.0 h.1.1 h.1.2 h.1.3))))
      r.right

-- ---- the multipliers of the end
module _ (s : LinearSystem) (k l : ℕ) (leaves : Leaves s (position s k) l) (none_enters : NoneEnters s (position s k) l (count s)) where
  p : Position
  p = position s k

  m : ℕ → ℚ
  m = multiplier s p l

  tab : IsTableau (position s k)
  tab = tableau s k

  basic : (position s k).is_basic l ≡ true
  basic = leaves.violated.basic

  -- the multiplier, uniformly
  m_is : (i : ℕ) → m i ≡ unit l (s.width + i) -ℚ (position s k).coefficient l (s.width + i)
  unfolding m multiplier p
  m_is i = by (cases_eq (s.width + i) l) (cases_Bool ((position s k).is_basic (s.width + i)))
    where
      one : (u c : ℚ) → u ≡ int (pos 1) → c ≡ int (pos 0) → int (pos 1) ≡ u -ℚ c
      one u c e f = by_ring [] (search reads depth 30) (search reads depth 30) tt ∙ sym (λ i. e i -ℚ f i)

      nought : (u c : ℚ) → u ≡ int (pos 0) → c ≡ int (pos 0) → int (pos 0) ≡ u -ℚ c
      nought u c e f = by_ring [] (search reads depth 30) (search reads depth 30) tt ∙ sym (λ i. e i -ℚ f i)

      minus : (u c : ℚ) → u ≡ int (pos 0) → neg_ℚ c ≡ u -ℚ c
      minus u c e = by_ring (c ∷ []) (search reads depth 30) (search reads depth 30) tt ∙ sym (λ i. e i -ℚ c)

      by : (s.width + i ≡ l) ⊎ (s.width + i ≡ l → ⊥) → ((position s k).is_basic (s.width + i) ≡ true) ⊎ ((position s k).is_basic (s.width + i) ≡ false) →
          cond (eqb (s.width + i) l) (int (pos 1)) (cond ((position s k).is_basic (s.width + i)) (int (pos 0)) (neg_ℚ ((position s k).coefficient l (s.width + i)))) ≡ unit l (s.width + i) -ℚ (position s k).coefficient l (s.width + i)
      by (inl e) b = cond-true (eqb (s.width + i) l) _ _ (eq-eqb (s.width + i) l e) ∙ one _ _ (unit-same l (s.width + i) (sym e)) (tab.empty l (s.width + i) (subst (λ z. (position s k).is_basic z ≡ true) (sym e) basic))
      by (inr e) (inl b) = cond-false (eqb (s.width + i) l) _ _ (ne_eqb (s.width + i) l e) ∙ cond-true ((position s k).is_basic (s.width + i)) _ _ b ∙ nought _ _ (unit-other l (s.width + i) (λ f. e (sym f))) (tab.empty l (s.width + i) b)
      by (inr e) (inr b) = cond-false (eqb (s.width + i) l) _ _ (ne_eqb (s.width + i) l e) ∙ cond-false ((position s k).is_basic (s.width + i)) _ _ b ∙ minus _ _ (unit-other l (s.width + i) (λ f. e (sym f)))

  m_nonneg : (i : ℕ) → i < height s → IsNonneg (m i)
  m_nonneg i h = subst (λ z. IsNonneg z) (sym (m_is i)) (by (cases_eq (s.width + i) l) (cases_Bool ((position s k).is_basic (s.width + i))))
    where
      at_least : (u c : ℚ) → IsNonneg u → c ≤ℚ int (pos 0) → IsNonneg (u -ℚ c)
      at_least u c h k = linear_le (u ∷ c ∷ []) (le h (le k none)) (search claims depth 40) tt

      zero_most : (c : ℚ) → c ≡ int (pos 0) → c ≤ℚ int (pos 0)
      zero_most c e = linear_le (c ∷ []) (eq e none) (search claims depth 40) tt

      by : (s.width + i ≡ l) ⊎ (s.width + i ≡ l → ⊥) → ((position s k).is_basic (s.width + i) ≡ true) ⊎ ((position s k).is_basic (s.width + i) ≡ false) → IsNonneg (unit l (s.width + i) -ℚ (position s k).coefficient l (s.width + i))
      by (inl e) b = at_least _ _ (subst (λ z. IsNonneg z) (sym (unit-same l (s.width + i) (sym e))) (nonneg_int 1)) (zero_most _ (tab.empty l (s.width + i) (subst (λ z. (position s k).is_basic z ≡ true) (sym e) basic)))
      by (inr e) (inl b) = at_least _ _ (subst (λ z. IsNonneg z) (sym (unit-other l (s.width + i) (λ f. e (sym f)))) (nonneg_int 0)) (zero_most _ (tab.empty l (s.width + i) b))
      by (inr e) (inr b) = at_least _ _ (subst (λ z. IsNonneg z) (sym (unit-other l (s.width + i) (λ f. e (sym f)))) (nonneg_int 0)) (none_enters.side (s.width + i) (omega arith) (omega arith) b)

  -- the row of l has no coefficient on a v
  on_unknown : (j : ℕ) → j < s.width → (position s k).coefficient l j ≡ int (pos 0)
  on_unknown j h = by (cases_Bool ((position s k).is_basic j))
    where
      by : ((position s k).is_basic j ≡ true) ⊎ ((position s k).is_basic j ≡ false) → (position s k).coefficient l j ≡ int (pos 0)
      by (inl b) = tab.empty l j b
      by (inr b) = none_enters.unknown j (omega arith) h b

  unknown_term : (x : ℕ → ℚ) (j : ℕ) → j < s.width → (position s k).coefficient l j *ℚ x j ≡ int (pos 0)
  unknown_term x j h = ap (λ c. c *ℚ x j) (on_unknown j h) ∙ by_ring (x j ∷ []) (search reads depth 30) (search reads depth 30) tt

  -- the side that l is
  at : ℕ
  at = l - s.width

  at_is : s.width + at ≡ l
  unfolding at
  at_is = let h : s.width ≤ l = leaves.violated.side in omega arith

  at_below : at < height s
  unfolding at
  at_below = let h : s.width ≤ l = leaves.violated.side in let b : l < count s = leaves.below in omega arith

  -- the multipliers' sum of values of the sides is the value of l less the row of l
  m_sum : (x : ℕ → ℚ) → total (height s) (λ i. m i *ℚ x (s.width + i)) ≡ x l -ℚ row_value (count s) (position s k) x l
  m_sum x =
      total-same (height s) (λ i. m i *ℚ x (s.width + i)) (λ i. unit (s.width + at) (s.width + i) *ℚ x (s.width + i) +ℚ int (negsuc 0) *ℚ ((position s k).coefficient l (s.width + i) *ℚ x (s.width + i)))
      (λ i h. ap (λ c. c *ℚ x (s.width + i)) (m_is i ∙ ap (λ z. unit z (s.width + i) -ℚ (position s k).coefficient l (s.width + i)) (sym at_is)) ∙ parts (unit (s.width + at) (s.width + i)) ((position s k).coefficient l (s.width + i)) (x (s.width + i)))
      ∙ total-add (height s) (λ i. unit (s.width + at) (s.width + i) *ℚ x (s.width + i)) (λ i. int (negsuc 0) *ℚ ((position s k).coefficient l (s.width + i) *ℚ x (s.width + i)))
      ∙ (λ j.
      (side_unit s at (λ i. x (s.width + i)) at_below ∙ ap x at_is) j
      +ℚ (total-scale (height s) (int (negsuc 0)) (λ i. (position s k).coefficient l (s.width + i) *ℚ x (s.width + i))
      ∙ ap (λ u. int (negsuc 0) *ℚ u) (sym (side_sum s ((position s k).coefficient l) x (unknown_term x)))) j)
      ∙ minus_one (x l) (row_value (count s) (position s k) x l)
    where
      parts : (u c x : ℚ) → (u -ℚ c) *ℚ x ≡ u *ℚ x +ℚ int (negsuc 0) *ℚ (c *ℚ x)
      parts u c x = by_ring (u ∷ c ∷ x ∷ []) (search reads depth 30) (search reads depth 30) tt

      minus_one : (a b : ℚ) → a +ℚ int (negsuc 0) *ℚ b ≡ a -ℚ b
      minus_one a b = by_ring (a ∷ b ∷ []) (search reads depth 30) (search reads depth 30) tt

  -- the left sides combine to 0 at every v
  left_zero : (v : ℕ → ℚ) → total (height s) (λ i. m i *ℚ left_side s i v) ≡ int (pos 0)
  left_zero v =
      total-same (height s) (λ i. m i *ℚ left_side s i v) (λ i. m i *ℚ with_sides s v (s.width + i)) (λ i h. ap (λ u. m i *ℚ u) (sym (with_sides-side s v i)))
      ∙ m_sum (with_sides s v)
      ∙ same_gap (with_sides s v l) (row_value (count s) (position s k) (with_sides s v) l) (((same_rows s k).there (with_sides s v) (with_sides-meet s v)).at l leaves.below)
    where
      same_gap : (a b : ℚ) → a ≡ b → a -ℚ b ≡ int (pos 0)
      same_gap a b e = ap (λ u. u -ℚ b) e ∙ by_ring (b ∷ []) (search reads depth 30) (search reads depth 30) tt

  -- and so does each column
  column : (j : ℕ) → j < s.width → total (height s) (λ i. m i *ℚ entry s i j) ≡ int (pos 0)
  column j h = total-same (height s) (λ i. m i *ℚ entry s i j) (λ i. m i *ℚ left_side s i (unit j)) (λ i l. ap (λ u. m i *ℚ u) (sym (at_unit i))) ∙ left_zero (unit j)
    where
      swapped : (a b : ℚ) → a *ℚ b ≡ b *ℚ a
      swapped a b = by_ring (a ∷ b ∷ []) (search reads depth 30) (search reads depth 30) tt

      at_unit : (i : ℕ) → left_side s i (unit j) ≡ entry s i j
      at_unit i = total-same s.width (λ z. entry s i z *ℚ unit j z) (λ z. unit j z *ℚ entry s i z) (λ z l. swapped (entry s i z) (unit j z)) ∙ total-unit s.width j (λ z. entry s i z) h

  -- the right sides combine to the bound of l less its value, in both parts
  rests : (x y : ℕ → ℚ) → ((i : ℕ) → x (s.width + i) ≡ y (s.width + i)) → row_value (count s) (position s k) x l ≡ row_value (count s) (position s k) y l
  rests x y e =
      side_sum s ((position s k).coefficient l) x (unknown_term x)
      ∙ total-same (height s) (λ i. (position s k).coefficient l (s.width + i) *ℚ x (s.width + i)) (λ i. (position s k).coefficient l (s.width + i) *ℚ y (s.width + i)) (λ i h. ap (λ u. (position s k).coefficient l (s.width + i) *ℚ u) (e i))
      ∙ sym (side_sum s ((position s k).coefficient l) y (unknown_term y))

  first_sum : total (height s) (λ i. m i *ℚ (row_at s i).b) ≡ (bound s l).first -ℚ (value s (position s k) l).first
  unfolding value
  first_sum =
      total-same (height s) (λ i. m i *ℚ (row_at s i).b) (λ i. m i *ℚ (bound s (s.width + i)).first) (λ i h. ap (λ u. m i *ℚ u) (sym (bound-first s i)))
      ∙ m_sum (λ y. (bound s y).first)
      ∙ ap (λ u. (bound s l).first -ℚ u) (sym (rests (λ y. (rest s y).first) (λ y. (bound s y).first) (λ i. ap (λ (z : Pair). z.first) (rest_side s (s.width + i) (is_side s i)))))

  second_sum : total (height s) (λ i. m i *ℚ (bound s (s.width + i)).second) ≡ (bound s l).second -ℚ (value s (position s k) l).second
  unfolding value
  second_sum =
      m_sum (λ y. (bound s y).second)
      ∙ ap (λ u. (bound s l).second -ℚ u) (sym (rests (λ y. (rest s y).second) (λ y. (bound s y).second) (λ i. ap (λ (z : Pair). z.second) (rest_side s (s.width + i) (is_side s i)))))

  below_zero : (a b : ℚ) → a <ℚ b → (a -ℚ b) <ℚ int (pos 0)
  below_zero a b h = linear_lt (a ∷ b ∷ []) (lt h none) (search claims depth 40) tt

  -- a sum below 0 has a term below 0
  record Negative (n : ℕ) (f : ℕ → ℚ) : Type 0 where
    term : ℕ
    below : term < n
    negative : f term <ℚ int (pos 0)

  negative_term : (n : ℕ) (f : ℕ → ℚ) → total n f <ℚ int (pos 0) → Negative n f
  unfolding total
  negative_term zero f h = absurd (<ℚ_irrefl h)
  negative_term (suc n) f h = by (le_or_lt (int (pos 0)) (f n)) (negative_term n f)
    where
      less : (a b : ℚ) → (a +ℚ b) <ℚ int (pos 0) → int (pos 0) ≤ℚ b → a <ℚ int (pos 0)
      less a b h k = linear_lt (a ∷ b ∷ []) (lt h (le k none)) (search claims depth 40) tt

      by : (int (pos 0) ≤ℚ f n) ⊎ (f n <ℚ int (pos 0)) → (total n f <ℚ int (pos 0) → Negative n f) → Negative (suc n) f
      by (inl k) r = let w = r (less (total n f) (f n) h k) in let b : w.term < n = w.below in record { term = w.term; below = omega arith; negative = w.negative }
      by (inr k) r = record { term = n; below = omega arith; negative = k }

  strict_cases : (strict : Bool) (c b : ℚ) → b ≡ cond strict (int (negsuc 0)) (int (pos 0)) → (c *ℚ b) <ℚ int (pos 0) → (strict ≡ true) × IsPositive c
  strict_cases true c b e h = (refl, positive c (subst (λ z. (c *ℚ z) <ℚ int (pos 0)) e h))
    where
      positive : (c : ℚ) → (c *ℚ int (negsuc 0)) <ℚ int (pos 0) → IsPositive c
      positive c h = linear_lt (c ∷ []) (lt h none) (search claims depth 40) tt
  strict_cases false c b e h = absurd (never c (subst (λ z. (c *ℚ z) <ℚ int (pos 0)) e h))
    where
      never : (c : ℚ) → (c *ℚ int (pos 0)) <ℚ int (pos 0) → ⊥
      never c h = linear_false (c ∷ []) (lt h none) (search claims depth 40) tt

  strict_row : total (height s) (λ i. m i *ℚ (bound s (s.width + i)).second) <ℚ int (pos 0) → (i : ℕ) × (i < height s) × ((row_at s i).strict ≡ true) × (int (pos 0) <ℚ m i)
  strict_row h =
      let w = negative_term (height s) (λ i. m i *ℚ (bound s (s.width + i)).second) h in
      let c = strict_cases (row_at s w.term).strict (m w.term) (bound s (s.width + w.term)).second (bound-second s w.term) w.negative in
      (w.term, w.below, c.0, c.1)

  end_refutes : RefutesBy s m
  end_refutes = record {
    nonneg = m_nonneg;
    left = column;
    right = ⊎_elim
        (λ h. inl (subst (λ z. z <ℚ int (pos 0)) (sym first_sum) (below_zero (bound s l).first (value s (position s k) l).first h)))
        (λ h. inr (first_sum ∙ same_gap (bound s l).first (value s (position s k) l).first h.0, strict_row (subst (λ z. z <ℚ int (pos 0)) (sym second_sum) (below_zero (bound s l).second (value s (position s k) l).second h.1))))
        leaves.violated.above.below;
  }
    where
      same_gap : (a b : ℚ) → a ≡ b → a -ℚ b ≡ int (pos 0)
      same_gap a b e = ap (λ u. u -ℚ b) e ∙ by_ring (b ∷ []) (search reads depth 30) (search reads depth 30) tt

pub refuted_right : (s : LinearSystem) (k l : ℕ) → turn s (position s k) ≡ is_refuted l → RefutesBy s (multiplier s (position s k) l)
unfolding end_refutes m p
refuted_right s k l e = let t = turn-at s (position s k) (is_refuted l) e in end_refutes s k l t.0 t.1
