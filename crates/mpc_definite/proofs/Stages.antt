-- What the outer loop keeps: the columns that are done, and what is left of the matrix.
use Rattle.std.proofs.Common.{◌≡◌, ℕ, suc, ◌+◌, ◌<◌, ◌≤◌, List, [], ◌∷◌, ◌++◌, length, get_or, pos, sym, ◌∙◌, ap, subst, arith, add-one, ◌⊎◌, inl, inr, ⊎_elim, ◌↔◌, ℤ, ◌<ℤ◌, ◌≤ℤ◌}
use Rattle.std.proofs.Math.Seq.{get_or-append_seam}
use Rattle.std.proofs.lemmas.List.{get_or_append_left, length-append}
use Rattle.std.proofs.lemmas.Bool.{cases_eq, cases_order}
use Rattle.std.proofs.lemmas.Int.{ints}
use Rattle.mpc_exact.specs.Rational.{ℚ, int, ◌-ℚ◌, ◌*ℚ◌, ◌/ℚ◌, inv_ℚ, ◌≤ℚ◌, ◌<ℚ◌}
use Rattle.mpc_exact.proofs.RationalOrder.{le_or_lt}
use Rattle.mpc_exact.proofs.Rational.{*ℚ_inv}
use Rattle.mpc_exact.proofs.RationalRing.{reads, by_ring}
use Rattle.mpc_space.specs.Matrix.{RationalMatrix, height, entry}
use Rattle.mpc_space.specs.Vector.{IsSymmetric}
use Rattle.mpc_linear.specs.Entries.{with_entry}
use Rattle.mpc_space.specs.Definite.{IsDefinite}
use Rattle.mpc_definite.specs.Pivots.{without_column, left_of, pivot, factor, IsDecomposition, StepFits, PassesBelow, IsFirstNotPositive, IsFirstWide}
use Rattle.mpc_definite.specs.Steps.{IsLike, IsLowerOf, EliminatesColumn}
use Rattle.mpc_definite.proofs.Cells.{with_entry-same, with_entry-row, with_entry-others, with_entry-shape, like-trans}
use Rattle.mpc_definite.proofs.Work.{AgreesTo, agrees_back, step_fits_of}
use Rattle.mpc_space.proofs.Total.{total-same}
use Rattle.mpc_definite.proofs.Squares.{positive_not_zero, left_of-zero, decomposed}
use Rattle.mpc_definite.proofs.Forms.{definite_of, not_definite_of}

pub record AtStep (h l : RationalMatrix) (d : List ℚ) (j : ℕ) : Type 0 where
  pub like : IsLike h l
  pub length_is : length d ≡ j
  pub passes : PassesBelow (entry h) (height h) j
  pub pivots : (m : ℕ) → m < j → get_or d m (int (pos 0)) ≡ pivot (entry h) m
  pub diagonal : (i : ℕ) → i < j → entry l i i ≡ int (pos 1)
  pub factors : (i k : ℕ) → k < j → k < i → i < height h → entry l i k ≡ factor (entry h) i k
  pub left : (i k : ℕ) → j ≤ k → k ≤ i → i < height h → entry l i k ≡ left_of (entry h) j i k
  pub above : (i k : ℕ) → i < k → entry l i k ≡ int (pos 0)

pub at_start : (h l : RationalMatrix) (d : List ℚ) → d ≡ [] → IsLowerOf h l → AtStep h l d 0
unfolding left_of
at_start h l d e w = record {
  like = w.like;
  length_is = ap length e;
  passes = record { positive = λ m a. absurd (omega arith); fits = λ m a. absurd (omega arith) };
  pivots = λ m a. absurd (omega arith);
  diagonal = λ i a. absurd (omega arith);
  factors = λ i k a b c. absurd (omega arith);
  left = λ i k a b c. w.copied i k c b;
  above = w.above;
}

agrees_left : (h l : RationalMatrix) (d : List ℚ) (j : ℕ) → AtStep h l d j → (i : ℕ) → i < height h → AgreesTo (entry l) (left_of (entry h) j) j i
agrees_left h l d j w i a = λ r k b c e. w.left r k b c (omega arith)

without_same : (h l : RationalMatrix) (d : List ℚ) (j : ℕ) → AtStep h l d j → (i k : ℕ) → j ≤ k → k ≤ i → i < height h → without_column (entry l) j i k ≡ left_of (entry h) (suc j) i k
unfolding left_of
without_same h l d j w i k a b c =
    λ t. w.left i k a b c t -ℚ (w.left i j (omega arith) (omega arith) c t /ℚ w.left j j (omega arith) (omega arith) (omega arith) t) *ℚ w.left k j (omega arith) a (omega arith) t

pub pivot_is : (h l : RationalMatrix) (d : List ℚ) (j : ℕ) (p : ℚ) → j < height h → AtStep h l d j → p ≡ entry l j j → p ≡ pivot (entry h) j
pivot_is h l d j p a w e = e ∙ w.left j j (omega arith) (omega arith) a

append-at : (d : List ℚ) (p : ℚ) (m : ℕ) → m < length d → get_or (d ++ p ∷ []) m (int (pos 0)) ≡ get_or d m (int (pos 0))
append-at d p m l = get_or_append_left d (p ∷ []) (int (pos 0)) m l

append-last : (d : List ℚ) (p : ℚ) (m : ℕ) → m ≡ length d → get_or (d ++ p ∷ []) m (int (pos 0)) ≡ p
append-last d p m e = ap (λ k. get_or (d ++ p ∷ []) k (int (pos 0))) e ∙ get_or-append_seam d p [] (int (pos 0))

pub at_next : (h l done : RationalMatrix) (d new : List ℚ) (j : ℕ) (p one : ℚ) → j < height h → AtStep h l d j → p ≡ entry l j j → int (pos 0) <ℚ p → EliminatesColumn l done j → StepFits (entry l) (height l) j → new ≡ d ++ p ∷ [] → one ≡ int (pos 1) → AtStep h (with_entry done j j one) new (j + 1)
at_next h l done d new j p one a w e positive c f q u = record {
  like = like-trans h l (with_entry done j j one) w.like (with_entry-shape done j j one (height l) (height l) (omega (arith, c.like.rows_are, w.like.rows_are)) c.like);
  length_is = ap length q ∙ length-append d (p ∷ []) ∙ ap (λ k. k + 1) w.length_is;
  passes = record {
    positive = λ m b. ⊎_elim (λ r. subst (λ z. int (pos 0) <ℚ pivot (entry h) z) (sym r) (subst (λ z. int (pos 0) <ℚ z) (pivot_is h l d j p a w e) positive)) (λ r. w.passes.positive m (omega arith)) (cases_eq m j);
    fits = λ m b. ⊎_elim
        (λ r. subst (λ z. StepFits (left_of (entry h) z) (height h) z) (sym r) (step_fits_of (entry l) (left_of (entry h) j) (height h) j (λ i k. agrees_left h l d j w i k) (subst (λ z. StepFits (entry l) z j) w.like.rows_are f)))
        (λ r. w.passes.fits m (omega arith))
        (cases_eq m j);
  };
  pivots = λ m b. ⊎_elim
      (λ r. ap (λ z. get_or z m (int (pos 0))) q ∙ append-last d p m (r ∙ sym w.length_is) ∙ pivot_is h l d j p a w e ∙ ap (pivot (entry h)) (sym r))
      (λ r. ap (λ z. get_or z m (int (pos 0))) q ∙ append-at d p m (omega (arith, w.length_is)) ∙ w.pivots m (omega arith))
      (cases_eq m j);
  diagonal = λ i b. ⊎_elim
      (λ r. subst (λ z. entry (with_entry done j j one) z z ≡ int (pos 1)) (sym r) (with_entry-same done j j one row_in column_in c.like.rectangular ∙ u))
      (λ r. with_entry-others done j j one i i r ∙ c.others i i (omega arith) ∙ w.diagonal i (omega arith))
      (cases_eq i j);
  factors = λ i k b r s. kept i k r ∙ ⊎_elim
      (λ t. subst (λ z. entry done i z ≡ factor (entry h) i z) (sym t)
      (c.factor i (omega arith) (omega (arith, w.like.rows_are)) ∙ (λ v. w.left i j (omega arith) (omega arith) s v /ℚ w.left j j (omega arith) (omega arith) a v)))
      (λ t. c.before i k (omega arith) ∙ w.factors i k (omega arith) r s)
      (cases_eq k j);
  left = λ i k b r s. with_entry-others done j j one i k (λ t. omega arith) ∙ c.rest i k (omega arith) r (omega (arith, w.like.rows_are)) ∙ without_same h l d j w i k (omega arith) r s ∙ ap (λ z. left_of (entry h) z i k) (sym (add-one j));
  above = λ i k b. ⊎_elim
      (λ t. subst (λ z. entry (with_entry done j j one) z k ≡ int (pos 0)) (sym t) (with_entry-row done j j one k row_in (λ v. omega arith) ∙ c.above j k (omega arith) ∙ w.above j k (omega arith)))
      (λ t. with_entry-others done j j one i k t ∙ c.above i k b ∙ w.above i k b)
      (cases_eq i j);
}
  where
    row_in : j < height done
    row_in = omega (arith, c.like.rows_are, w.like.rows_are)

    column_in : j < done.columns
    column_in = omega (arith, c.like.columns_are, c.like.rows_are, w.like.rows_are)

    kept : (i k : ℕ) → k < i → entry (with_entry done j j one) i k ≡ entry done i k
    kept i k b = ⊎_elim
        (λ t. subst (λ z. entry (with_entry done j j one) z k ≡ entry done z k) (sym t) (with_entry-row done j j one k row_in (λ v. omega arith)))
        (λ t. with_entry-others done j j one i k t)
        (cases_eq i j)

-- ---- the end
module _ (h l : RationalMatrix) (d : List ℚ) (j : ℕ) (e : j ≡ height h) (s : IsSymmetric h.rows) (w : AtStep h l d j) where
  positive : (m : ℕ) → m < height h → int (pos 0) <ℚ pivot (entry h) m
  positive m a = w.passes.positive m (omega arith)

  some : (m : ℕ) → m < height h → pivot (entry h) m ≡ int (pos 0) → ⊥
  some m a = positive_not_zero (positive m a)

  -- also on and above the diagonal, the entries of l are the factors
  lower_is : (i m : ℕ) → i < height h → m < height h → entry l i m ≡ factor (entry h) i m
  lower_is i m a b = by (cases_order i m)
    where
      by : (i ≡ m) ⊎ ((i < m) ⊎ (m < i)) → entry l i m ≡ factor (entry h) i m
      by (inl p) = subst (λ z. entry l i z ≡ factor (entry h) i z) p (w.diagonal i (omega arith) ∙ sym (*ℚ_inv (pivot (entry h) i) (some i a)))
      by (inr (inl p)) =
          w.above i m p
          ∙ sym (ap (λ u. u *ℚ inv_ℚ (pivot (entry h) m)) (left_of-zero (entry h) s.mirrored m i m (λ k c. some k (omega arith)) p) ∙ by_ring (inv_ℚ (pivot (entry h) m) ∷ []) (search reads depth 30) (search reads depth 30) tt)
      by (inr (inr p)) = w.factors i m (omega arith) p a

  pub decomposition : IsDecomposition h l d
  decomposition = record {
    shape = w.like;
    length_is = w.length_is ∙ e;
    diagonal = λ i a. w.diagonal i (omega arith);
    above = λ i k a b. w.above i k a;
    positive = λ i a. subst (λ z. int (pos 0) <ℚ z) (sym (w.pivots i (omega arith))) (positive i a);
    product = λ i k a b.
        decomposed (entry h) s.mirrored (height h) i k positive a
        ∙ total-same (height h) (λ m. factor (entry h) i m *ℚ pivot (entry h) m *ℚ factor (entry h) k m) (λ m. entry l i m *ℚ get_or d m (int (pos 0)) *ℚ entry l k m)
        (λ m c. λ t. sym (lower_is i m a c) t *ℚ sym (w.pivots m (omega arith)) t *ℚ sym (lower_is k m b c) t);
  }

  pub is_definite : IsDefinite h.rows
  is_definite = definite_of h.rows s positive

  pub all_pass : PassesBelow (entry h) (height h) (height h)
  all_pass = subst (PassesBelow (entry h) (height h)) e w.passes

-- ---- a step that ends the run
not_below : (x : ℚ) → (int (pos 0) <ℚ x → ⊥) → x ≤ℚ int (pos 0)
not_below x h = ⊎_elim (λ p. p) (λ p. absurd (h p)) (le_or_lt x (int (pos 0)))

-- the sign that the code tests
pub small_of_sign : (x : ℚ) (k : ℤ) → ((pos 0 <ℤ k) ↔ (int (pos 0) <ℚ x)) → k ≤ℤ pos 0 → x ≤ℚ int (pos 0)
small_of_sign x k e h = not_below x (λ p. let q : pos 0 <ℤ k = e.1 p in omega (arith, ints))

pub positive_of_sign : (x : ℚ) (k : ℤ) → ((pos 0 <ℤ k) ↔ (int (pos 0) <ℚ x)) → pos 0 <ℤ k → int (pos 0) <ℚ x
positive_of_sign x k e h = e.0 h

pub first_not_positive : (h l : RationalMatrix) (d : List ℚ) (j : ℕ) (p : ℚ) → j < height h → AtStep h l d j → p ≡ entry l j j → p ≤ℚ int (pos 0) → IsFirstNotPositive (entry h) (height h) (j + 1)
first_not_positive h l d j p a w e small = record {
  some = omega arith;
  within = omega arith;
  before = subst (PassesBelow (entry h) (height h)) (omega arith) w.passes;
  here = subst (λ z. pivot (entry h) z ≤ℚ int (pos 0)) (omega arith) (subst (λ z. z ≤ℚ int (pos 0)) (pivot_is h l d j p a w e) small);
}

pub disproved : (h l : RationalMatrix) (d : List ℚ) (j : ℕ) (p : ℚ) → IsSymmetric h.rows → j < height h → AtStep h l d j → p ≡ entry l j j → p ≤ℚ int (pos 0) → IsDefinite h.rows → ⊥
disproved h l d j p s a w e small = not_definite_of h.rows s j a w.passes.positive (subst (λ z. z ≤ℚ int (pos 0)) (pivot_is h l d j p a w e) small)

pub first_wide : (h l : RationalMatrix) (d : List ℚ) (j : ℕ) (p : ℚ) → j < height h → AtStep h l d j → p ≡ entry l j j → int (pos 0) <ℚ p → (StepFits (entry l) (height l) j → ⊥) → IsFirstWide (entry h) (height h) (j + 1)
first_wide h l d j p a w e positive wide = record {
  some = omega arith;
  within = omega arith;
  before = subst (PassesBelow (entry h) (height h)) (omega arith) w.passes;
  positive = subst (λ z. int (pos 0) <ℚ pivot (entry h) z) (omega arith) (subst (λ z. int (pos 0) <ℚ z) (pivot_is h l d j p a w e) positive);
  here = subst (λ z. StepFits (left_of (entry h) z) (height h) z → ⊥) (omega arith)
      (λ f. wide (subst (λ z. StepFits (entry l) z j) (sym w.like.rows_are)
      (step_fits_of (left_of (entry h) j) (entry l) (height h) j (λ i k. agrees_back (entry l) (left_of (entry h) j) j i (agrees_left h l d j w i k)) f)));
}
