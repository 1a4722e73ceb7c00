use Rattle.std.proofs.Common.{◌≡◌, ◌≢◌, ℕ, ◌<◌, ◌≤◌, true, false, cond, not, ◌&&◌, ltb, pos, Option, Some, None, sym, ◌∙◌, ap, subst, ◌⊎◌, inl, inr, ⊎_elim, ltb-false, lt-ltb, le-ltb, ◌↔◌}
use Rattle.std.proofs.lemmas.Bool.{cond-true, cond-false, cases_Bool, both_ways, not-true, not-false, and_parts, and_cases, and_from}
use Rattle.mpc_exact.specs.Rational.{ℚ, int, ◌≤ℚ◌, le_ℚ, lt_ℚ}
use Rattle.mpc_exact.proofs.RationalOrder.{IsPositive, ≤ℚ_antisymm, ≤ℚ_refl, <ℚ_irrefl}
use Rattle.mpc_exact.proofs.RationalField.{le_ℚ_is, lt_ℚ_is}
use Rattle.mpc_rows.specs.Least.{least}
use Rattle.mpc_exact.specs.Pair.{IsBelow, IsAtMost, is_below}
use Rattle.mpc_rows.specs.LinearSystem.{LinearSystem}
use Rattle.mpc_rows.specs.Run.{Position, Turn, has_point, is_refuted, goes_on, count, is_unknown, is_zero, bound, value, may_leave, may_enter, turn, turn_at, turn_from}
use Rattle.mpc_runs.proofs.LeastLemmas.{IsLeast, LeastIs, least-is}
use Rattle.mpc_exact.proofs.Pair.{is_below-true, is_below-false}
use Rattle.mpc_runs.proofs.Flags.{true_test, test_true, not_lt}

-- x is a basic s above its bound
pub record IsViolated (s : LinearSystem) (p : Position) (x : ℕ) : Type 0 where
  pub side : s.width ≤ x
  pub basic : p.is_basic x ≡ true
  pub above : IsBelow (bound s x) (value s p x)

-- the row of l lets y enter
pub record IsEligible (s : LinearSystem) (p : Position) (l y : ℕ) : Type 0 where
  pub free : p.is_basic y ≡ false
  pub some : p.coefficient l y ≢ int (pos 0)
  pub positive : s.width ≤ y → IsPositive (p.coefficient l y)

-- l leaves: it is the least that may
pub record Leaves (s : LinearSystem) (p : Position) (l : ℕ) : Type 0 where
  pub below : l < count s
  pub violated : IsViolated s p l
  pub kept : (x : ℕ) → x < l → s.width ≤ x → p.is_basic x ≡ true → IsAtMost (value s p x) (bound s x)

-- none below n may enter
pub record NoneEnters (s : LinearSystem) (p : Position) (l n : ℕ) : Type 0 where
  pub unknown : (y : ℕ) → y < n → y < s.width → p.is_basic y ≡ false → p.coefficient l y ≡ int (pos 0)
  pub side : (y : ℕ) → y < n → s.width ≤ y → p.is_basic y ≡ false → p.coefficient l y ≤ℚ int (pos 0)

-- l leaves and e enters
pub record Goes (s : LinearSystem) (p : Position) (l e : ℕ) : Type 0 where
  pub leaves : Leaves s p l
  pub below : e < count s
  pub eligible : IsEligible s p l e
  pub before : NoneEnters s p l e

abbrev pub TurnIs : LinearSystem → Position → Turn → Type 0
TurnIs s p has_point = (x : ℕ) → x < count s → s.width ≤ x → p.is_basic x ≡ true → IsAtMost (value s p x) (bound s x)
TurnIs s p (is_refuted l) = Leaves s p l × NoneEnters s p l (count s)
TurnIs s p (goes_on l e) = Goes s p l e

-- ---- the tests
pub is_zero-true : (c : ℚ) → is_zero c ≡ true → c ≡ int (pos 0)
is_zero-true c h =
    let m = and_parts (le_ℚ c (int (pos 0))) (le_ℚ (int (pos 0)) c) h in
    ≤ℚ_antisymm ((le_ℚ_is c (int (pos 0))).0 (true_test _ m.0)) ((le_ℚ_is (int (pos 0)) c).0 (true_test _ m.1))

pub zero-is_zero : (c : ℚ) → c ≡ int (pos 0) → is_zero c ≡ true
zero-is_zero c e =
    subst (λ z. is_zero z ≡ true) (sym e)
    (and_from (le_ℚ (int (pos 0)) (int (pos 0))) (le_ℚ (int (pos 0)) (int (pos 0))) (test_true _ ((le_ℚ_is (int (pos 0)) (int (pos 0))).1 (≤ℚ_refl (int (pos 0))))) (test_true _ ((le_ℚ_is (int (pos 0)) (int (pos 0))).1 (≤ℚ_refl (int (pos 0))))))

pub zero_passes : (c : ℚ) → (is_zero c ≡ true) ↔ (c ≡ int (pos 0))
zero_passes c = (is_zero-true c, zero-is_zero c)

module _ (s : LinearSystem) (p : Position) where
  may_leave-true : (x : ℕ) → may_leave s p x ≡ true → IsViolated s p x
  unfolding may_leave
  may_leave-true x h =
      let m = and_parts (not (is_unknown s x)) (p.is_basic x && is_below (bound s x) (value s p x)) h in
      let k = and_parts (p.is_basic x) (is_below (bound s x) (value s p x)) m.1 in
      record { side = ltb-false x s.width (not-true (ltb x s.width) m.0); basic = k.0; above = is_below-true (bound s x) (value s p x) k.1 }

  may_leave-false : (x : ℕ) → may_leave s p x ≡ false → s.width ≤ x → p.is_basic x ≡ true → IsAtMost (value s p x) (bound s x)
  unfolding may_leave
  may_leave-false x h k b =
      ⊎_elim
      (λ m. absurd (both_ways (is_unknown s x) (le-ltb x s.width k) (not-false (is_unknown s x) m)))
      (λ m. ⊎_elim (λ q. absurd (both_ways (p.is_basic x) q b)) (λ q. is_below-false (bound s x) (value s p x) q) (and_cases (p.is_basic x) (is_below (bound s x) (value s p x)) m))
      (and_cases (not (is_unknown s x)) (p.is_basic x && is_below (bound s x) (value s p x)) h)

  positive_some : (c : ℚ) → IsPositive c → c ≢ int (pos 0)
  positive_some c h e = <ℚ_irrefl (subst IsPositive e h)

  enter_cases : (l y : ℕ) → p.is_basic y ≡ false → (is_unknown s y ≡ true) ⊎ (is_unknown s y ≡ false) → cond (is_unknown s y) (not (is_zero (p.coefficient l y))) (lt_ℚ (int (pos 0)) (p.coefficient l y)) ≡ true → IsEligible s p l y
  enter_cases l y b (inl k) h =
      let z = not-true (is_zero (p.coefficient l y)) (sym (cond-true (is_unknown s y) _ _ k) ∙ h) in
      record {
        free = b;
        some = λ e. both_ways (is_zero (p.coefficient l y)) z (zero-is_zero (p.coefficient l y) e);
        positive = λ q. absurd (both_ways (is_unknown s y) (le-ltb y s.width q) k);
      }
  enter_cases l y b (inr k) h =
      let z = (lt_ℚ_is (int (pos 0)) (p.coefficient l y)).0 (true_test _ (sym (cond-false (is_unknown s y) _ _ k) ∙ h)) in
      record { free = b; some = positive_some (p.coefficient l y) z; positive = λ q. z }

  may_enter-true : (l y : ℕ) → may_enter s p l y ≡ true → IsEligible s p l y
  unfolding may_enter
  may_enter-true l y h =
      let m = and_parts (not (p.is_basic y)) (cond (is_unknown s y) (not (is_zero (p.coefficient l y))) (lt_ℚ (int (pos 0)) (p.coefficient l y))) h in
      enter_cases l y (not-true (p.is_basic y) m.0) (cases_Bool (is_unknown s y)) m.1

  entry_false : (l y : ℕ) → may_enter s p l y ≡ false → p.is_basic y ≡ false → cond (is_unknown s y) (not (is_zero (p.coefficient l y))) (lt_ℚ (int (pos 0)) (p.coefficient l y)) ≡ false
  unfolding may_enter
  entry_false l y h b =
      ⊎_elim (λ m. absurd (both_ways (p.is_basic y) b (not-false (p.is_basic y) m))) (λ m. m) (and_cases (not (p.is_basic y)) (cond (is_unknown s y) (not (is_zero (p.coefficient l y))) (lt_ℚ (int (pos 0)) (p.coefficient l y))) h)

  may_enter-false_unknown : (l y : ℕ) → may_enter s p l y ≡ false → y < s.width → p.is_basic y ≡ false → p.coefficient l y ≡ int (pos 0)
  may_enter-false_unknown l y h k b =
      is_zero-true (p.coefficient l y) (not-false (is_zero (p.coefficient l y)) (sym (cond-true (is_unknown s y) _ _ (lt-ltb y s.width k)) ∙ entry_false l y h b))

  may_enter-false_side : (l y : ℕ) → may_enter s p l y ≡ false → s.width ≤ y → p.is_basic y ≡ false → p.coefficient l y ≤ℚ int (pos 0)
  may_enter-false_side l y h k b = not_lt (int (pos 0)) (p.coefficient l y) (sym (cond-false (is_unknown s y) _ _ (le-ltb y s.width k)) ∙ entry_false l y h b)

  leaves_from : (l : ℕ) → IsLeast (may_leave s p) (count s) l → Leaves s p l
  leaves_from l h = record { below = h.below; violated = may_leave-true l h.passes; kept = λ x k. may_leave-false x (h.before x k) }

  none_from : (l n : ℕ) → ((y : ℕ) → y < n → may_enter s p l y ≡ false) → NoneEnters s p l n
  none_from l n h = record { unknown = λ y k. may_enter-false_unknown l y (h y k); side = λ y k. may_enter-false_side l y (h y k) }

  turn_at-is : (l : ℕ) → Leaves s p l → (o : Option ℕ) → LeastIs (may_enter s p l) (count s) o → TurnIs s p (turn_at l o)
  turn_at-is l h None k = (h, none_from l (count s) k)
  turn_at-is l h (Some e) k = record { leaves = h; below = k.below; eligible = may_enter-true l e k.passes; before = none_from l e k.before }

  turn_from-is : (o : Option ℕ) → LeastIs (may_leave s p) (count s) o → TurnIs s p (turn_from (λ l. least (may_enter s p l) (count s)) o)
  turn_from-is None h = λ x k. may_leave-false x (h x k)
  turn_from-is (Some l) h = turn_at-is l (leaves_from l h) (least (may_enter s p l) (count s)) (least-is (may_enter s p l) (count s))

  pub turn-is : TurnIs s p (turn s p)
  unfolding turn
  turn-is = turn_from-is (least (may_leave s p) (count s)) (least-is (may_leave s p) (count s))

  pub turn-at : (t : Turn) → turn s p ≡ t → TurnIs s p t
  turn-at t e = subst (TurnIs s p) e turn-is

-- who leaves is basic
pub leaver : (s : LinearSystem) (p : Position) (n l : ℕ) → count s ≡ n → Some l ≡ least (may_leave s p) n → Leaves s p l
leaver s p n l whole e = leaves_from s p l (subst (LeastIs (may_leave s p) (count s)) (ap (least (may_leave s p)) whole ∙ sym e) (least-is (may_leave s p) (count s)))
