-- The tests of who leaves and enters, on whole numbers.
use Rattle.std.proofs.Common.{◌≡◌, ◌≢◌, ℕ, zero, suc, ◌+◌, ◌-◌, ◌<◌, ◌≤◌, Bool, true, false, not, None, ℤ, pos, ◌*ℤ◌, ◌<ℤ◌, ◌≤ℤ◌, refl, sym, ◌∙◌, ap, subst, subst₂, arith, List, negsuc, ◌⊎◌, inl, inr, lit<, le-ltb, mul-pos, ◌*◌, [], ◌∷◌}
use lib.Signed.{lt_z}
use Rattle.std.proofs.lemmas.Bool.{cases_Bool}
use Rattle.std.proofs.lemmas.Int.{ints}
use Rattle.mpc_exact.specs.Rational.{ℚ, int, frac, ◌<ℚ◌, ◌≤ℚ◌, lt_ℚ}
use Rattle.mpc_exact.specs.Pair.{Pair, IsBelow, is_below}
use Rattle.mpc_exact.proofs.Pair.{is_below-false, at_most-not-below}
use Rattle.mpc_exact.proofs.Rational.{same_frac}
use Rattle.mpc_exact.proofs.IntRing.{int_reads, by_ring_ℤ, int_mul-lt, int_mul-le}
use Rattle.mpc_exact.proofs.RationalOrder.{lt_frac, le_frac, one_last, <ℚ_irrefl}
use Rattle.mpc_exact.proofs.OrderTheorems.{<ℚ_trans}
use Rattle.mpc_exact.proofs.RationalField.{lt_ℚ_is}
use Rattle.mpc_rows.specs.Least.{least, or_at}
use Rattle.mpc_rows.specs.LinearSystem.{LinearSystem}
use Rattle.mpc_rows.specs.Run.{Position, is_unknown, is_zero, bound, value, may_leave, may_enter}
use Rattle.mpc_runs.specs.declared.variables.Seat.{Seat}
use Rattle.mpc_runs.specs.declared.variables.Seat.TheVariants.{Row, Column}
use Rattle.mpc_runs.specs.Table.{seat_at, in_row}
use Rattle.mpc_whole.specs.Whole.{HasBasis, IsRowOf}
use Rattle.mpc_scaled.specs.Scaled.{whole_at}
use Rattle.mpc_runs.proofs.LeastLemmas.{LeastIs, least-is}
use Rattle.mpc_runs.proofs.Flags.{test_true, true_test}
use Rattle.mpc_runs.proofs.Turn.{is_zero-true, zero-is_zero}
use Rattle.mpc_runs.proofs.Table.{leave_test, enter_basic, enter_unknown, enter_side}
use Rattle.mpc_runs.proofs.Stays.{not_below_so}
use Rattle.mpc_runs.proofs.WholeSums.{zero_over}

-- ---- the code's tests
pub lt_so : (a b : ℤ) → lt_z a b ≡ true → a <ℤ b
lt_so a b h = grind (arith, ints)

pub not_lt_so : (a b : ℤ) → lt_z a b ≡ false → b ≤ℤ a
not_lt_so a b h = grind (arith, ints)

-- ---- pairs
below_so : (p q : Pair) → IsBelow p q → true ≡ is_below p q
below_so p q h = by (cases_Bool (is_below p q))
  where
    by : (is_below p q ≡ true) ⊎ (is_below p q ≡ false) → true ≡ is_below p q
    by (inl e) = sym e
    by (inr e) = absurd (at_most-not-below (is_below-false p q e) h)

squeezed : (u v : ℤ) → u ≤ℤ v → v ≤ℤ u → u ≡ v
squeezed u v h k = omega (arith, ints)

shifted : (b d k : ℤ) → (b *ℤ d) *ℤ k ≡ b *ℤ (d *ℤ k)
shifted b d k = by_ring_ℤ (b ∷ d ∷ k ∷ []) (search int_reads depth 30) (search int_reads depth 30) tt

-- a bound b / k against a value e / (d k)
module _ (b e : ℤ) (k d : ℕ) (scale : 0 < k) (some : 0 < d) where
  both : 0 < d * k
  both = mul-pos some scale

  above_scaled : (b *ℤ pos d) <ℤ e → frac b k <ℚ frac e (d * k)
  above_scaled h = lt_frac b k e (d * k) scale both (subst (λ z. z <ℤ (e *ℤ pos k)) (shifted b (pos d) (pos k)) (int_mul-lt k scale h))

  below_scaled : e <ℤ (b *ℤ pos d) → frac e (d * k) <ℚ frac b k
  below_scaled h = lt_frac e (d * k) b k both scale (subst (λ z. (e *ℤ pos k) <ℤ z) (shifted b (pos d) (pos k)) (int_mul-lt k scale h))

  at_most_scaled : e ≤ℤ (b *ℤ pos d) → frac e (d * k) ≤ℚ frac b k
  at_most_scaled h = le_frac e (d * k) b k both scale (subst (λ z. (e *ℤ pos k) ≤ℤ z) (shifted b (pos d) (pos k)) (int_mul-le k h))

  same_scaled : b *ℤ pos d ≡ e → frac b k ≡ frac e (d * k)
  same_scaled h = same_frac b k e (d * k) scale both (sym (shifted b (pos d) (pos k)) ∙ ap (λ z. z *ℤ pos k) h)

module _ (p q : Pair) (b e₁ : ℤ) (k d : ℕ) (scale : 0 < k) (some : 0 < d) (pb : p.first ≡ frac b k) (q₁ : q.first ≡ frac e₁ (d * k)) where
  pub out_above : (b *ℤ pos d) <ℤ e₁ → true ≡ is_below p q
  out_above h = below_so p q (record { below = inl (subst₂ (λ u v. u <ℚ v) (sym pb) (sym q₁) (above_scaled b e₁ k d scale some h)) })

  pub out_below : e₁ <ℤ (b *ℤ pos d) → false ≡ is_below p q
  out_below h = not_below_so p q (record { at_most = inl (subst₂ (λ u v. u <ℚ v) (sym q₁) (sym pb) (below_scaled b e₁ k d scale some h)) })

  module _ (m e₂ : ℤ) (pm : p.second ≡ frac m k) (q₂ : q.second ≡ frac e₂ (d * k)) (h : e₁ ≤ℤ (b *ℤ pos d)) (l : (b *ℤ pos d) ≤ℤ e₁) where
    firsts_same : p.first ≡ q.first
    firsts_same = pb ∙ same_scaled b e₁ k d scale some (squeezed (b *ℤ pos d) e₁ l h) ∙ sym q₁

    pub out_next : (m *ℤ pos d) <ℤ e₂ → true ≡ is_below p q
    out_next o = below_so p q (record { below = inr (firsts_same, subst₂ (λ u v. u <ℚ v) (sym pm) (sym q₂) (above_scaled m e₂ k d scale some o)) })

    pub out_not : e₂ ≤ℤ (m *ℤ pos d) → false ≡ is_below p q
    out_not o = not_below_so p q (record { at_most = inr (sym firsts_same, subst₂ (λ u v. u ≤ℚ v) (sym q₂) (sym pm) (at_most_scaled m e₂ k d scale some o)) })

-- ---- the least that may leave
pub none_below : (test : ℕ → Bool) (n : ℕ) → ((x : ℕ) → x < n → test x ≡ false) → least test n ≡ None
unfolding least
none_below test zero h = refl
none_below test (suc n) h = λ i. or_at (none_below test n (λ x k. h x (omega arith)) i) (h n (omega arith) i) n

pub none_up_to : (test : ℕ → Bool) (n m : ℕ) → n ≤ m → least test m ≡ None → least test n ≡ None
none_up_to test n m h e = none_below test n (λ k l. subst (λ o. LeastIs test m o) e (least-is test m) k (omega arith))

pub leaves_as : (s : LinearSystem) (p : Position) (x : ℕ) → s.width ≤ x → p.is_basic x ≡ true → is_below (bound s (s.width + (x - s.width))) (value s p (s.width + (x - s.width))) ≡ may_leave s p x
leaves_as s p x h b =
    let e : s.width + (x - s.width) ≡ x = omega arith in
    ap (λ z. is_below (bound s z) (value s p z)) e ∙ sym (leave_test s p x (le-ltb x s.width h) b)

-- ---- who may enter, where the coefficient is k / d
not_zero_test : (c : ℚ) → c ≢ int (pos 0) → is_zero c ≡ false
not_zero_test c h = by (cases_Bool (is_zero c))
  where
    by : (is_zero c ≡ true) ⊎ (is_zero c ≡ false) → is_zero c ≡ false
    by (inl e) = absurd (h (is_zero-true c e))
    by (inr e) = e

zero_left : (d : ℤ) → pos 0 *ℤ d ≡ pos 0
zero_left d = omega (arith, ints)

-- a number times a scale
module _ (x : ℤ) (k : ℕ) (scale : 0 < k) where
  pub times_above : pos 0 <ℤ x → pos 0 <ℤ (x *ℤ pos k)
  times_above h = subst (λ z. z <ℤ (x *ℤ pos k)) (zero_left (pos k)) (int_mul-lt k scale h)

  pub times_below : x <ℤ pos 0 → (x *ℤ pos k) <ℤ pos 0
  times_below h = subst (λ z. (x *ℤ pos k) <ℤ z) (zero_left (pos k)) (int_mul-lt k scale h)

  pub times_nought : x ≡ pos 0 → x *ℤ pos k ≡ pos 0
  times_nought h = ap (λ z. z *ℤ pos k) h ∙ zero_left (pos k)

module _ (c : ℚ) (k : ℤ) (d : ℕ) (some : 0 < d) (e : c ≡ frac k d) where
  positive_is : pos 0 <ℤ k → int (pos 0) <ℚ c
  positive_is h = subst (λ z. int (pos 0) <ℚ z) (sym e) (lt_frac (pos 0) 1 k d (lit< tt) some (subst₂ (λ u v. u <ℤ v) (sym (zero_left (pos d))) (sym (one_last k)) h))

  negative_is : k <ℤ pos 0 → c <ℚ int (pos 0)
  negative_is h = subst (λ z. z <ℚ int (pos 0)) (sym e) (lt_frac k d (pos 0) 1 some (lit< tt) (subst₂ (λ u v. u <ℤ v) (sym (one_last k)) (sym (zero_left (pos d))) h))

  positive_test : pos 0 <ℤ k → lt_ℚ (int (pos 0)) c ≡ true
  positive_test h = test_true _ ((lt_ℚ_is (int (pos 0)) c).1 (positive_is h))

  above_not_zero : pos 0 <ℤ k → c ≢ int (pos 0)
  above_not_zero h q = <ℚ_irrefl (subst (λ z. int (pos 0) <ℚ z) q (positive_is h))

  below_not_zero : k <ℤ pos 0 → c ≢ int (pos 0)
  below_not_zero h q = <ℚ_irrefl (subst (λ z. z <ℚ int (pos 0)) q (negative_is h))

  not_positive : (int (pos 0) <ℚ c → ⊥) → lt_ℚ (int (pos 0)) c ≡ false
  not_positive h = by (cases_Bool (lt_ℚ (int (pos 0)) c))
    where
      by : (lt_ℚ (int (pos 0)) c ≡ true) ⊎ (lt_ℚ (int (pos 0)) c ≡ false) → lt_ℚ (int (pos 0)) c ≡ false
      by (inl q) = absurd (h ((lt_ℚ_is (int (pos 0)) c).0 (true_test _ q)))
      by (inr q) = q

  negative_test : k <ℤ pos 0 → lt_ℚ (int (pos 0)) c ≡ false
  negative_test h = not_positive (λ q. <ℚ_irrefl (both q (negative_is h)))
    where
      both : int (pos 0) <ℚ c → c <ℚ int (pos 0) → int (pos 0) <ℚ int (pos 0)
      both u v = <ℚ_trans u v

  zero_is : k ≡ pos 0 → c ≡ int (pos 0)
  zero_is h = e ∙ ap (λ z. frac z d) h ∙ zero_over d some

module _ (s : LinearSystem) (p : Position) (l y : ℕ) (free : p.is_basic y ≡ false) (k : ℤ) (d : ℕ) (some : 0 < d) (e : p.coefficient l y ≡ frac k d) where
  pub enters_above : pos 0 <ℤ k → true ≡ may_enter s p l y
  enters_above h = by (cases_Bool (is_unknown s y))
    where
      by : (is_unknown s y ≡ true) ⊎ (is_unknown s y ≡ false) → true ≡ may_enter s p l y
      by (inl u) = sym (enter_unknown s p l y free u ∙ ap not (not_zero_test (p.coefficient l y) (above_not_zero (p.coefficient l y) k d some e h)))
      by (inr u) = sym (enter_side s p l y free u ∙ positive_test (p.coefficient l y) k d some e h)

  pub enters_below : k <ℤ pos 0 → (b : Bool) → b ≡ is_unknown s y → b ≡ may_enter s p l y
  enters_below h b q = by (cases_Bool (is_unknown s y))
    where
      by : (is_unknown s y ≡ true) ⊎ (is_unknown s y ≡ false) → b ≡ may_enter s p l y
      by (inl u) = q ∙ u ∙ sym (enter_unknown s p l y free u ∙ ap not (not_zero_test (p.coefficient l y) (below_not_zero (p.coefficient l y) k d some e h)))
      by (inr u) = q ∙ u ∙ sym (enter_side s p l y free u ∙ negative_test (p.coefficient l y) k d some e h)

  pub enters_not : k ≡ pos 0 → false ≡ may_enter s p l y
  enters_not h = by (cases_Bool (is_unknown s y))
    where
      nought : p.coefficient l y ≡ int (pos 0)
      nought = zero_is (p.coefficient l y) k d some e h

      by : (is_unknown s y ≡ true) ⊎ (is_unknown s y ≡ false) → false ≡ may_enter s p l y
      by (inl u) = sym (enter_unknown s p l y free u ∙ ap not (zero-is_zero (p.coefficient l y) nought))
      by (inr u) = sym (enter_side s p l y free u ∙ not_positive (p.coefficient l y) k d some e (λ q. <ℚ_irrefl (subst (λ z. int (pos 0) <ℚ z) nought q)))

sign : (k : ℤ) → (pos 0 <ℤ k) ⊎ ((k ≡ pos 0) ⊎ (k <ℤ pos 0))
sign (pos zero) = inr (inl refl)
sign (pos (suc n)) = inl (omega (arith, ints))
sign (negsuc n) = inr (inr (omega (arith, ints)))

-- whether the variable of a column may enter, by its number in the row of the variable that leaves
module _ (s : LinearSystem) (n : ℕ) (seats : List Seat) (q : List ℕ) (p : Position) (d l : ℕ) (x : List ℤ) (some : 0 < d) (h : HasBasis n seats p) (r : IsRowOf n seats q p d l x) (y : ℕ) (below : y < n) where
  pub basic_stays : (t : ℕ) → seat_at seats y ≡ Row t → may_enter s p l y ≡ false
  basic_stays t e = enter_basic s p l y (h.basic y below ∙ ap in_row e)

  module _ (c : ℕ) (e : seat_at seats y ≡ Column c) where
    free : p.is_basic y ≡ false
    free = h.basic y below ∙ ap in_row e

    pub side_enters : pos 0 <ℤ whole_at x c → true ≡ may_enter s p l y
    side_enters k = enters_above s p l y free _ _ (mul-pos some r.own) (r.coefficients y c below e) (times_above _ _ (r.some y below) k)

    pub none_enters : whole_at x c ≡ pos 0 → false ≡ may_enter s p l y
    none_enters k = enters_not s p l y free _ _ (mul-pos some r.own) (r.coefficients y c below e) (times_nought _ _ (r.some y below) k)

    pub as_unknown : whole_at x c <ℤ pos 0 → (b : Bool) → b ≡ is_unknown s y → b ≡ may_enter s p l y
    as_unknown k = enters_below s p l y free _ _ (mul-pos some r.own) (r.coefficients y c below e) (times_below _ _ (r.some y below) k)

    pub unknown_enters : is_unknown s y ≡ true → (whole_at x c ≡ pos 0 → ⊥) → true ≡ may_enter s p l y
    unknown_enters u k = by (sign (whole_at x c))
      where
        by : (pos 0 <ℤ whole_at x c) ⊎ ((whole_at x c ≡ pos 0) ⊎ (whole_at x c <ℤ pos 0)) → true ≡ may_enter s p l y
        by (inl m) = side_enters m
        by (inr (inl m)) = absurd (k m)
        by (inr (inr m)) = as_unknown m true (sym u)

    pub side_stays : is_unknown s y ≡ false → whole_at x c ≤ℤ pos 0 → false ≡ may_enter s p l y
    side_stays u k = by (sign (whole_at x c))
      where
        by : (pos 0 <ℤ whole_at x c) ⊎ ((whole_at x c ≡ pos 0) ⊎ (whole_at x c <ℤ pos 0)) → false ≡ may_enter s p l y
        by (inl m) = absurd (omega (arith, ints))
        by (inr (inl m)) = none_enters m
        by (inr (inr m)) = as_unknown m false (sym u)
