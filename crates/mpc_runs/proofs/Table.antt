-- The sums of values, and the tests of who leaves and enters.
use Rattle.std.proofs.Common.{◌≡◌, ℕ, zero, suc, ◌+◌, ◌-◌, ◌<◌, Bool, true, false, cond, not, ◌&&◌, pos, Option, Some, None, MatchOption, refl, sym, ◌∙◌, ap, subst, arith, add-one}
use Rattle.mpc_exact.specs.Rational.{ℚ, int, ◌+ℚ◌, ◌*ℚ◌, lt_ℚ}
use Rattle.mpc_space.specs.Total.{total}
use Rattle.mpc_rows.specs.Least.{least, or_at}
use Rattle.mpc_exact.specs.Pair.{is_below}
use Rattle.mpc_rows.specs.LinearSystem.{LinearSystem}
use Rattle.mpc_rows.specs.Run.{Position, count, is_unknown, is_zero, bound, rest, value, may_leave, may_enter}
use Rattle.std.specs.Prelude.{⊤}
use Rattle.mpc_space.proofs.Total.{total-suc}
use Rattle.mpc_runs.proofs.LeastLemmas.{LeastIs, least-is}

pub value_first : (s : LinearSystem) (p : Position) (x n : ℕ) → count s ≡ n → total n (λ y. p.coefficient x y *ℚ (rest s y).first) ≡ (value s p x).first
unfolding value
value_first s p x n e = ap (λ m. total m (λ y. p.coefficient x y *ℚ (rest s y).first)) (sym e)

pub value_second : (s : LinearSystem) (p : Position) (x n : ℕ) → count s ≡ n → total n (λ y. p.coefficient x y *ℚ (rest s y).second) ≡ (value s p x).second
unfolding value
value_second s p x n e = ap (λ m. total m (λ y. p.coefficient x y *ℚ (rest s y).second)) (sym e)

-- one more term
pub total_more : (n : ℕ) (f : ℕ → ℚ) (sum part next : ℚ) → sum ≡ total n f → part ≡ f n → next ≡ sum +ℚ part → next ≡ total (n + 1) f
total_more n f sum part next e h k = k ∙ (λ i. e i +ℚ h i) ∙ sym (total-suc n f) ∙ ap (λ m. total m f) (sym (add-one n))

-- ---- the tests
module _ (s : LinearSystem) (p : Position) where
  pub leave_unknown : (x : ℕ) → is_unknown s x ≡ true → may_leave s p x ≡ false
  unfolding may_leave
  leave_unknown x h = ap (λ b. not b && (p.is_basic x && is_below (bound s x) (value s p x))) h

  pub leave_free : (x : ℕ) → is_unknown s x ≡ false → p.is_basic x ≡ false → may_leave s p x ≡ false
  unfolding may_leave
  leave_free x h k = λ i. not (h i) && (k i && is_below (bound s x) (value s p x))

  pub leave_test : (x : ℕ) → is_unknown s x ≡ false → p.is_basic x ≡ true → may_leave s p x ≡ is_below (bound s x) (value s p x)
  unfolding may_leave
  leave_test x h k = λ i. not (h i) && (k i && is_below (bound s x) (value s p x))

  pub enter_basic : (l y : ℕ) → p.is_basic y ≡ true → may_enter s p l y ≡ false
  unfolding may_enter
  enter_basic l y h = λ i. not (h i) && cond (is_unknown s y) (not (is_zero (p.coefficient l y))) (lt_ℚ (int (pos 0)) (p.coefficient l y))

  pub enter_unknown : (l y : ℕ) → p.is_basic y ≡ false → is_unknown s y ≡ true → may_enter s p l y ≡ not (is_zero (p.coefficient l y))
  unfolding may_enter
  enter_unknown l y h k = λ i. not (h i) && cond (k i) (not (is_zero (p.coefficient l y))) (lt_ℚ (int (pos 0)) (p.coefficient l y))

  pub enter_side : (l y : ℕ) → p.is_basic y ≡ false → is_unknown s y ≡ false → may_enter s p l y ≡ lt_ℚ (int (pos 0)) (p.coefficient l y)
  unfolding may_enter
  enter_side l y h k = λ i. not (h i) && cond (k i) (not (is_zero (p.coefficient l y))) (lt_ℚ (int (pos 0)) (p.coefficient l y))

-- ---- the least
least-suc : (test : ℕ → Bool) (n : ℕ) → least test (suc n) ≡ or_at (least test n) (test n) n
unfolding least
least-suc test n = refl

pub least_stays : (test : ℕ → Bool) (a c x : ℕ) → least test a ≡ Some x → least test (a + c) ≡ Some x
least_stays test a zero x e = ap (least test) (let q : a + 0 ≡ a = omega arith in q) ∙ e
least_stays test a (suc c) x e = ap (least test) (let q : a + suc c ≡ suc (a + c) = omega arith in q) ∙ least-suc test (a + c) ∙ ap (λ o. or_at o (test (a + c)) (a + c)) (least_stays test a c x e)

pub least_none : (test : ℕ → Bool) (n : ℕ) (b : Bool) → least test n ≡ None → b ≡ test n → b ≡ false → least test (n + 1) ≡ None
least_none test n b e f g = ap (least test) (add-one n) ∙ least-suc test n ∙ (λ i. or_at (e i) ((sym f ∙ g) i) n)

pub least_some : (test : ℕ → Bool) (n x : ℕ) (b : Bool) → x < n → least test x ≡ None → b ≡ test x → b ≡ true → least test n ≡ Some x
least_some test n x b h e f g =
    subst (λ m. least test m ≡ Some x) (let q : suc x + (n - suc x) ≡ n = omega arith in q)
    (least_stays test (suc x) (n - suc x) x (least-suc test x ∙ (λ i. or_at (e i) ((sym f ∙ g) i) x)))

pub least_start : (test : ℕ → Bool) → least test 0 ≡ None
unfolding least
least_start test = refl

abbrev pub first_terms : LinearSystem → Position → ℕ → ℕ → ℚ
first_terms s p x y = p.coefficient x y *ℚ (rest s y).first

abbrev pub second_terms : LinearSystem → Position → ℕ → ℕ → ℚ
second_terms s p x y = p.coefficient x y *ℚ (rest s y).second

-- ---- the search, one number on
or_false : (o : Option ℕ) (x : ℕ) → or_at o false x ≡ o
or_false None x = refl
or_false (Some l) x = refl

pub least_next : (test : ℕ → Bool) (n : ℕ) (o r : Option ℕ) → least test n ≡ o → r ≡ or_at o (test n) n → least test (n + 1) ≡ r
least_next test n o r e f = ap (least test) (add-one n) ∙ least-suc test n ∙ ap (λ q. or_at q (test n) n) e ∙ sym f

pub least_skip : (test : ℕ → Bool) (n : ℕ) (o : Option ℕ) → least test n ≡ o → test n ≡ false → least test (n + 1) ≡ o
least_skip test n o e f = least_next test n o o e (sym (ap (λ b. or_at o b n) f ∙ or_false o n))

pub least_below : (test : ℕ → Bool) (n : ℕ) (o : Option ℕ) → o ≡ least test n → MatchOption o ⊤ (λ l. l < n)
least_below test n o e = by o (subst (λ q. LeastIs test n q) (sym e) (least-is test n))
  where
    by : (o : Option ℕ) → LeastIs test n o → MatchOption o ⊤ (λ l. l < n)
    by None h = tt
    by (Some l) h = h.below

and_false : (u b : Bool) → (u && (false && b)) ≡ false
and_false true b = refl
and_false false b = refl

module _ (s : LinearSystem) (p : Position) where
  pub leave_not_basic : (x : ℕ) → p.is_basic x ≡ false → may_leave s p x ≡ false
  unfolding may_leave
  leave_not_basic x h = ap (λ b. not (is_unknown s x) && (b && is_below (bound s x) (value s p x))) h ∙ and_false (not (is_unknown s x)) (is_below (bound s x) (value s p x))

  pub leave_basic : (x : ℕ) → p.is_basic x ≡ true → may_leave s p x ≡ (not (is_unknown s x) && is_below (bound s x) (value s p x))
  unfolding may_leave
  leave_basic x h = ap (λ b. not (is_unknown s x) && (b && is_below (bound s x) (value s p x))) h
