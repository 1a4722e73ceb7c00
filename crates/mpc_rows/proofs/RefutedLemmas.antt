-- A system with refuting multipliers has no point.
use Rattle.std.proofs.Common.{◌≡◌, ℕ, ◌<◌, Bool, true, false, List, length, pos, negsuc, [], ◌∷◌, refl, sym, ◌∙◌, ap, subst, ⊎_elim, lit<, Result, Ok, Err, IfOk, IsTrue, ◌↔◌}
use Rattle.std.proofs.lemmas.Bool.{both_ways}
use Rattle.mpc_exact.specs.Rational.{ℚ, int, ◌+ℚ◌, ◌-ℚ◌, ◌*ℚ◌, ◌≤ℚ◌, ◌<ℚ◌, inv_ℚ, IsNonneg, IsPositive}
use Rattle.mpc_exact.proofs.Rational.{*ℚ_inv}
use Rattle.mpc_exact.proofs.RationalRing.{reads, by_ring, by_equation}
use Rattle.mpc_exact.proofs.RationalOrder.{positive-mul, nonneg-mul, gap, strict_gap, by_lt, ≤ℚ_of_<, <ℚ_irrefl, positive_int, inv_positive}
use Rattle.mpc_exact.proofs.Linear.{linear_false, claims, none, le, lt}
use Rattle.mpc_space.specs.Total.{total}
use Rattle.mpc_space.specs.Vector.{coordinate}
use Rattle.mpc_space.proofs.Total.{total-same, total-zeros, total-add, total-scale, total-swap, total-nonneg, total-positive}
use Rattle.mpc_frac.specs.declared.Wide.{Wide}
use Rattle.mpc_rows.specs.declared.systems.Row.{Row}
use Rattle.mpc_rows.proofs.SumLemmas.{seen}
use Rattle.mpc_rows.specs.LinearSystem.{LinearSystem, HasWidth, height, row_at, entry, IsWithin, IsPoint, point_at, IsPairPoint}
use Rattle.mpc_rows.specs.Refutation.{Refutes}
use Rattle.mpc_rows.specs.NumberedSystems.{left_side, IsPointBy, side_total, RefutesBy}
use Rattle.mpc_rows.proofs.SystemSums.{point_by, refutes_by}

-- the multipliers' sum of the left sides is the dot of their columns' sums with the point
combined : (s : LinearSystem) (m v : ℕ → ℚ) → total (height s) (λ i. m i *ℚ left_side s i v) ≡ total s.width (λ j. v j *ℚ total (height s) (λ i. m i *ℚ entry s i j))
combined s m v =
    total-same (height s) (λ i. m i *ℚ left_side s i v) (λ i. total s.width (λ j. m i *ℚ (entry s i j *ℚ v j))) (λ i h. sym (total-scale s.width (m i) (λ j. entry s i j *ℚ v j)))
    ∙ total-swap (height s) s.width (λ i j. m i *ℚ (entry s i j *ℚ v j))
    ∙ total-same s.width (λ j. total (height s) (λ i. m i *ℚ (entry s i j *ℚ v j))) (λ j. v j *ℚ total (height s) (λ i. m i *ℚ entry s i j))
    (λ j h. total-same (height s) (λ i. m i *ℚ (entry s i j *ℚ v j)) (λ i. v j *ℚ (m i *ℚ entry s i j)) (λ i l. regroup (m i) (entry s i j) (v j)) ∙ total-scale (height s) (v j) (λ i. m i *ℚ entry s i j))
  where
    regroup : (m e v : ℚ) → m *ℚ (e *ℚ v) ≡ v *ℚ (m *ℚ e)
    regroup m e v = by_ring (m ∷ e ∷ v ∷ []) (search reads depth 30) (search reads depth 30) tt

within_weak : (strict : Bool) (x b : ℚ) → IsWithin strict x b → x ≤ℚ b
within_weak true x b h = ≤ℚ_of_< h
within_weak false x b h = h

within_strict : (strict : Bool) (x b : ℚ) → IsWithin strict x b → strict ≡ true → x <ℚ b
within_strict true x b h e = h
within_strict false x b h e = absurd (both_ways false refl e)

module _ (s : LinearSystem) (m v : ℕ → ℚ) (r : RefutesBy s m) (p : IsPointBy s v) where
  slack : ℕ → ℚ
  slack i = m i *ℚ ((row_at s i).b -ℚ left_side s i v)

  slack_nonneg : (i : ℕ) → i < height s → IsNonneg (slack i)
  unfolding slack
  slack_nonneg i h = nonneg-mul (r.nonneg i h) (gap (within_weak (row_at s i).strict (left_side s i v) (row_at s i).b (p.meets i h)))

  slack_positive : (i : ℕ) → i < height s → (row_at s i).strict ≡ true → IsPositive (m i) → IsPositive (slack i)
  unfolding slack
  slack_positive i h e k = positive-mul k (strict_gap (within_strict (row_at s i).strict (left_side s i v) (row_at s i).b (p.meets i h) e))

  right : ℚ
  right = side_total s m

  zero_sum : total (height s) (λ i. m i *ℚ left_side s i v) ≡ int (pos 0)
  zero_sum = combined s m v ∙ total-zeros s.width (λ j. v j *ℚ total (height s) (λ i. m i *ℚ entry s i j)) (λ j h. ap (λ u. v j *ℚ u) (r.left j h) ∙ by_ring (v j ∷ []) (search reads depth 30) (search reads depth 30) tt)

  slack_sum : total (height s) slack ≡ right
  unfolding slack right
  slack_sum =
      total-same (height s) slack (λ i. m i *ℚ (row_at s i).b +ℚ int (negsuc 0) *ℚ (m i *ℚ left_side s i v)) (λ i h. parts (m i) (row_at s i).b (left_side s i v))
      ∙ total-add (height s) (λ i. m i *ℚ (row_at s i).b) (λ i. int (negsuc 0) *ℚ (m i *ℚ left_side s i v))
      ∙ ap (λ u. right +ℚ u) (total-scale (height s) (int (negsuc 0)) (λ i. m i *ℚ left_side s i v) ∙ ap (λ u. int (negsuc 0) *ℚ u) zero_sum)
      ∙ by_ring (right ∷ []) (search reads depth 30) (search reads depth 30) tt
    where
      parts : (m b x : ℚ) → m *ℚ (b -ℚ x) ≡ m *ℚ b +ℚ int (negsuc 0) *ℚ (m *ℚ x)
      parts m b x = by_ring (m ∷ b ∷ x ∷ []) (search reads depth 30) (search reads depth 30) tt

  right_nonneg : IsNonneg right
  right_nonneg = subst (λ z. IsNonneg z) slack_sum (total-nonneg (height s) slack slack_nonneg)

  negative_conflict : (x : ℚ) → IsNonneg x → x <ℚ int (pos 0) → ⊥
  negative_conflict x h k = linear_false (x ∷ []) (le h (lt k none)) (search claims depth 40) tt

  pub refuted_by : ⊥
  unfolding right
  refuted_by =
      ⊎_elim (λ h. negative_conflict right right_nonneg h)
      (λ h. <ℚ_irrefl (subst (λ z. IsPositive z) (slack_sum ∙ h.0) (total-positive (height s) h.1.0 slack h.1.1 slack_nonneg (slack_positive h.1.0 h.1.1 h.1.2 h.1.3))))
      r.right

-- ---- some d below a reach, so that pair points stand for points
half_positive : IsPositive (inv_ℚ (int (pos 2)))
half_positive = inv_positive (positive_int 2 (lit< tt))

half_twice : int (pos 2) *ℚ inv_ℚ (int (pos 2)) ≡ int (pos 1)
half_twice = *ℚ_inv (int (pos 2)) (λ e. <ℚ_irrefl (subst (λ z. IsPositive z) e (positive_int 2 (lit< tt))))

half_below : (r h : ℚ) → int (pos 2) *ℚ h ≡ int (pos 1) → IsPositive r → IsPositive h → (r *ℚ h) <ℚ r
half_below r h e p q =
    let w : r *ℚ h ≡ r -ℚ r *ℚ h = by_equation {s = int (pos 2) *ℚ h} {t = int (pos 1)} r e (by_ring (r ∷ h ∷ []) (search reads depth 30) (search reads depth 30) tt) in
    by_lt (r ∷ h ∷ []) (subst (λ z. IsPositive z) w (positive-mul p q)) (search reads depth 30) (search reads depth 30) tt

module _ (reach : ℚ) (some : IsPositive reach) where
  pub half : ℚ
  half = reach *ℚ inv_ℚ (int (pos 2))

  pub half_some : IsPositive half
  unfolding half
  half_some = positive-mul some half_positive

  pub half_less : half <ℚ reach
  unfolding half
  half_less = half_below reach (inv_ℚ (int (pos 2))) half_twice some half_positive

pub point_of_pairs : (s : LinearSystem) (p : List (ℚ × ℚ)) → IsPairPoint s p → (v : List ℚ) × IsPoint s v
point_of_pairs s p h = (point_at p (half h.reach h.some), h.meets (half h.reach h.some) (half_some h.reach h.some) (half_less h.reach h.some))

-- ---- the theorems
pub refuted-no_point : (s : LinearSystem) (m : List ℚ) → HasWidth s.width s.rows → length m ≡ height s → Refutes s m → (v : List ℚ) → ¬ IsPoint s v
refuted-no_point s m w n r v p = refuted_by s (coordinate m) (coordinate v) (refutes_by s m (coordinate m) n (λ i h. refl) r) (point_by s w v p)

pub refuted-no_pair_point : (s : LinearSystem) (m : List ℚ) → HasWidth s.width s.rows → length m ≡ height s → Refutes s m → (p : List (ℚ × ℚ)) → ¬ IsPairPoint s p
refuted-no_pair_point s m w n r p h = let q = point_of_pairs s p h in refuted-no_point s m w n r q.0 q.1

-- and so says a test that answers true
module _ (s : LinearSystem) (m : List ℚ) (width : ℕ) (inside : List Row) (view : seen width inside ≡ s) (w : HasWidth width inside) (n : length m ≡ height s) where
  has_width : HasWidth s.width s.rows
  has_width = subst (λ (z : LinearSystem). HasWidth z.width z.rows) view w

  pub tested-no_point : (r : Result Bool Wide) → IfOk r (λ yes. IsTrue yes ↔ Refutes s m) → IfOk r (λ yes. IsTrue yes → (v : List ℚ) → ¬ IsPoint s v)
  tested-no_point (Ok found) h = λ t. refuted-no_point s m has_width n (h.0 t)
  tested-no_point (Err e) h = h

  pub tested-no_pair_point : (r : Result Bool Wide) → IfOk r (λ yes. IsTrue yes ↔ Refutes s m) → IfOk r (λ yes. IsTrue yes → (p : List (ℚ × ℚ)) → ¬ IsPairPoint s p)
  tested-no_pair_point (Ok found) h = λ t. refuted-no_pair_point s m has_width n (h.0 t)
  tested-no_pair_point (Err e) h = h
