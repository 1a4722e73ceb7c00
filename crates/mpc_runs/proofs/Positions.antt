-- What holds at every position of a run.
use Rattle.std.proofs.Common.{◌≡◌, ℕ, zero, suc, ◌<◌, Bool, true, false, refl, sym, ◌∙◌, ap, subst, ◌⊎◌, inl, inr}
use Rattle.std.proofs.lemmas.Bool.{cond-false, cases_eq, both_ways}
use Rattle.mpc_exact.specs.Rational.{ℚ}
use Rattle.mpc_rows.specs.LinearSystem.{LinearSystem}
use Rattle.mpc_rows.specs.Run.{Position, IsTableau, Turn, has_point, is_refuted, goes_on, count, is_unknown, bound, rest, value, turn, moved, pivot, opening, position, is_pivot, leaving, entering, GoesOn}
use Rattle.mpc_runs.proofs.Pivot.{basic-at_leaving, basic-at_entering, basic-other}
use Rattle.mpc_runs.proofs.TableauRows.{Meets, meets_pivot, pivot_meets, tableau_pivot, tableau_opening, values_meet, stands}
use Rattle.mpc_runs.proofs.Turn.{TurnIs, Goes, turn-is}

-- the same values meet the rows of two positions
pub record SameRows (n : ℕ) (p q : Position) : Type 0 where
  pub there : (x : ℕ → ℚ) → Meets n p x → Meets n q x
  pub back : (x : ℕ → ℚ) → Meets n q x → Meets n p x

goes_tableau : (s : LinearSystem) (p : Position) → IsTableau p → (l e : ℕ) → Goes s p l e → IsTableau (pivot p l e)
goes_tableau s p t l e g = tableau_pivot p t l e g.leaves.violated.basic g.eligible.free g.eligible.some

goes_rows : (s : LinearSystem) (p : Position) → IsTableau p → (l e : ℕ) → Goes s p l e → SameRows (count s) p (pivot p l e)
goes_rows s p t l e g = record {
  there = λ x h. meets_pivot p t l e g.leaves.violated.basic g.eligible.free g.eligible.some (count s) g.leaves.below g.below x h;
  back = λ x h. pivot_meets p t l e g.leaves.violated.basic g.eligible.free g.eligible.some (count s) g.leaves.below g.below x h;
}

same_self : (n : ℕ) (p : Position) → SameRows n p p
same_self n p = record { there = λ x h. h; back = λ x h. h }

moved_tableau : (s : LinearSystem) (p : Position) → IsTableau p → (t : Turn) → TurnIs s p t → IsTableau (moved p t)
moved_tableau s p h has_point g = h
moved_tableau s p h (is_refuted l) g = h
moved_tableau s p h (goes_on l e) g = goes_tableau s p h l e g

moved_rows : (s : LinearSystem) (p : Position) → IsTableau p → (t : Turn) → TurnIs s p t → SameRows (count s) p (moved p t)
moved_rows s p h has_point g = same_self (count s) p
moved_rows s p h (is_refuted l) g = same_self (count s) p
moved_rows s p h (goes_on l e) g = goes_rows s p h l e g

pub tableau : (s : LinearSystem) (k : ℕ) → IsTableau (position s k)
unfolding position
tableau s zero = tableau_opening s
tableau s (suc k) = moved_tableau s (position s k) (tableau s k) (turn s (position s k)) (turn-is s (position s k))

-- all positions have the same solutions
pub same_rows : (s : LinearSystem) (k : ℕ) → SameRows (count s) (opening s) (position s k)
unfolding position
same_rows s zero = same_self (count s) (opening s)
same_rows s (suc k) = by (same_rows s k) (moved_rows s (position s k) (tableau s k) (turn s (position s k)) (turn-is s (position s k)))
  where
    by : SameRows (count s) (opening s) (position s k) → SameRows (count s) (position s k) (moved (position s k) (turn s (position s k))) → SameRows (count s) (opening s) (moved (position s k) (turn s (position s k)))
    by f g = record { there = λ x h. g.there x (f.there x h); back = λ x h. f.back x (g.back x h) }

pub rows_across : (s : LinearSystem) (i j : ℕ) (x : ℕ → ℚ) → Meets (count s) (position s i) x → Meets (count s) (position s j) x
rows_across s i j x h = (same_rows s j).there x ((same_rows s i).back x h)

-- ---- the values, part by part
pub first_rest : LinearSystem → ℕ → ℚ
first_rest s y = (rest s y).first

pub second_rest : LinearSystem → ℕ → ℚ
second_rest s y = (rest s y).second

abbrev pub firsts : LinearSystem → Position → ℕ → ℚ
firsts s p x = (value s p x).first

abbrev pub seconds : LinearSystem → Position → ℕ → ℚ
seconds s p x = (value s p x).second

pub firsts_meet : (s : LinearSystem) (k : ℕ) → Meets (count s) (position s k) (firsts s (position s k))
unfolding value
firsts_meet s k = values_meet (count s) (position s k) (tableau s k) (λ y. (rest s y).first)

pub seconds_meet : (s : LinearSystem) (k : ℕ) → Meets (count s) (position s k) (seconds s (position s k))
unfolding value
seconds_meet s k = values_meet (count s) (position s k) (tableau s k) (λ y. (rest s y).second)

-- a nonbasic variable stands where it rests
pub value_rest : (s : LinearSystem) (k y : ℕ) → y < count s → (position s k).is_basic y ≡ false → value s (position s k) y ≡ rest s y
unfolding value
value_rest s k y h b = λ i. record {
  first = stands (count s) (position s k) (tableau s k) (λ y. (rest s y).first) y h b i;
  second = stands (count s) (position s k) (tableau s k) (λ y. (rest s y).second) y h b i;
}

pub rest_side : (s : LinearSystem) (y : ℕ) → is_unknown s y ≡ false → rest s y ≡ bound s y
unfolding rest
rest_side s y h = cond-false (is_unknown s y) _ _ h

-- ---- a step that goes on
pivot_form : (t : Turn) → is_pivot t ≡ true → t ≡ goes_on (leaving t) (entering t)
pivot_form has_point h = absurd (both_ways false refl h)
pivot_form (is_refuted l) h = absurd (both_ways false refl h)
pivot_form (goes_on l e) h = refl

abbrev pub left_at : LinearSystem → ℕ → ℕ
left_at s k = leaving (turn s (position s k))

abbrev pub entered_at : LinearSystem → ℕ → ℕ
entered_at s k = entering (turn s (position s k))

pub goes_at : (s : LinearSystem) (k : ℕ) → GoesOn s k → Goes s (position s k) (left_at s k) (entered_at s k)
goes_at s k g = subst (λ t. TurnIs s (position s k) t) (pivot_form (turn s (position s k)) g.pivots) (turn-is s (position s k))

pub next_position : (s : LinearSystem) (k : ℕ) → GoesOn s k → position s (suc k) ≡ pivot (position s k) (left_at s k) (entered_at s k)
unfolding position
next_position s k g = ap (λ t. moved (position s k) t) (pivot_form (turn s (position s k)) g.pivots)

abbrev pub basic_at : LinearSystem → ℕ → ℕ → Bool
basic_at s x k = (position s k).is_basic x

module _ (s : LinearSystem) (k : ℕ) (g : GoesOn s k) where
  pub steps_apart : entered_at s k ≡ left_at s k → ⊥
  steps_apart e = both_ways (basic_at s (entered_at s k) k) (goes_at s k g).eligible.free (subst (λ x. basic_at s x k ≡ true) (sym e) (goes_at s k g).leaves.violated.basic)

  pub after_left : basic_at s (left_at s k) (suc k) ≡ false
  after_left = ap (λ p. p.is_basic (left_at s k)) (next_position s k g) ∙ basic-at_leaving (position s k) (left_at s k) (entered_at s k)

  pub after_entered : basic_at s (entered_at s k) (suc k) ≡ true
  after_entered = ap (λ p. p.is_basic (entered_at s k)) (next_position s k g) ∙ basic-at_entering (position s k) (left_at s k) (entered_at s k) steps_apart

  after_other : (x : ℕ) → (x ≡ left_at s k → ⊥) → (x ≡ entered_at s k → ⊥) → basic_at s x (suc k) ≡ basic_at s x k
  after_other x h f = ap (λ p. p.is_basic x) (next_position s k g) ∙ basic-other (position s k) (left_at s k) (entered_at s k) x h f

  -- what becomes basic entered, and what stops to be so left
  pub rise_entered : (x : ℕ) → basic_at s x k ≡ false → basic_at s x (suc k) ≡ true → entered_at s k ≡ x
  rise_entered x b a = by (cases_eq x (left_at s k)) (cases_eq x (entered_at s k))
    where
      by : (x ≡ left_at s k) ⊎ (x ≡ left_at s k → ⊥) → (x ≡ entered_at s k) ⊎ (x ≡ entered_at s k → ⊥) → entered_at s k ≡ x
      by (inl e) d = absurd (both_ways (basic_at s x (suc k)) (subst (λ z. basic_at s z (suc k) ≡ false) (sym e) after_left) a)
      by (inr f) (inl e) = sym e
      by (inr f) (inr h) = absurd (both_ways (basic_at s x k) b (sym (after_other x f h) ∙ a))

  pub fall_left : (x : ℕ) → basic_at s x k ≡ true → basic_at s x (suc k) ≡ false → left_at s k ≡ x
  fall_left x b a = by (cases_eq x (left_at s k)) (cases_eq x (entered_at s k))
    where
      by : (x ≡ left_at s k) ⊎ (x ≡ left_at s k → ⊥) → (x ≡ entered_at s k) ⊎ (x ≡ entered_at s k → ⊥) → left_at s k ≡ x
      by (inl e) d = sym e
      by (inr f) (inl e) = absurd (both_ways (basic_at s x (suc k)) a (subst (λ z. basic_at s z (suc k) ≡ true) (sym e) after_entered))
      by (inr f) (inr h) = absurd (both_ways (basic_at s x k) (sym (after_other x f h) ∙ a) b)
