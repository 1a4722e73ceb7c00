-- What must fit of the longer run is what must fit of the shorter one, what each further row adds before its last position, and what comes
-- from there on: nothing less, and nothing more.
use Rattle.std.proofs.Common.{◌≡◌, ℕ, ◌+◌, ◌-◌, ◌<◌, ◌≤◌, true, false, List, length, get_or, pos, sym, ◌∙◌, ap, subst, subst₂, arith, ◌⊎◌, inl, inr, ◌↔◌}
use Rattle.std.proofs.lemmas.Bool.{cases_lt, both_ways}
use Rattle.mpc_exact.specs.Rational.{ℚ, int, ◌*ℚ◌, neg_ℚ, inv_ℚ}
use Rattle.mpc_frac.specs.Fits.{FitsFrac, FitsSum}
use Rattle.mpc_space.proofs.Total.{total-same}
use Rattle.mpc_rows.specs.declared.systems.Row.{Row}
use Rattle.mpc_rows.specs.LinearSystem.{LinearSystem, no_row}
use Rattle.mpc_rows.specs.Run.{Position, IsTableau, is_refuted, goes_on, count, rest, turn, entering_row, position, is_pivot, steps, last_position}
use Rattle.mpc_rows.specs.RunWidth.{TermFits, ValueFits, ValuesFit, EnteringFits, EntryFits, RowFits, RowsFit, PositionFits, RunFits}
use Rattle.mpc_whole.specs.Judged.{IsRowFitting}
use Rattle.mpc_beginnings.specs.Beginnings.{lengthened, Agrees, late, SideTermFits, SideValueFits, SideEntryFits, SideRowFits, AppendedFits, BeginningFits, LaterFits, AllAppendedFit}
use Rattle.mpc_runs.proofs.Turn.{turn-at}
use Rattle.mpc_runs.proofs.Positions.{tableau}
use Rattle.mpc_runs.proofs.Outside.{IsBounded, within}
use Rattle.mpc_runs.proofs.Ends.{run_ends}
use Rattle.mpc_beginnings.proofs.Prefix.{count_more, rest_below, entering_agrees, appended_basic}
use Rattle.mpc_beginnings.proofs.SharedRun.{positions_agree, turns_agree, steps_longer, same_end, refuted_steps}
use Rattle.mpc_beginnings.proofs.LateRows.{appended_row}

-- ---- one term, at two systems with the same coefficients and the same bounds up to it
module _ (s t : LinearSystem) (c d : ℕ → ℚ) (y : ℕ) (e : (z : ℕ) → c z ≡ d z) (r : (z : ℕ) → z ≤ y → rest s z ≡ rest t z) where
  first_term : (z : ℕ) → z ≤ y → c z *ℚ (rest s z).first ≡ d z *ℚ (rest t z).first
  first_term z h = λ i. e z i *ℚ (r z h i).first

  second_term : (z : ℕ) → z ≤ y → c z *ℚ (rest s z).second ≡ d z *ℚ (rest t z).second
  second_term z h = λ i. e z i *ℚ (r z h i).second

  term_there : SideTermFits s c y → SideTermFits t d y
  term_there h = record {
    first_product = subst (λ z. FitsFrac z) (first_term y (omega arith)) h.first_product;
    first_sum = subst₂ (λ u v. FitsSum u v) (total-same y (λ z. c z *ℚ (rest s z).first) (λ z. d z *ℚ (rest t z).first) (λ z l. first_term z (omega arith))) (first_term y (omega arith)) h.first_sum;
    second_product = subst (λ z. FitsFrac z) (second_term y (omega arith)) h.second_product;
    second_sum = subst₂ (λ u v. FitsSum u v) (total-same y (λ z. c z *ℚ (rest s z).second) (λ z. d z *ℚ (rest t z).second) (λ z l. second_term z (omega arith))) (second_term y (omega arith)) h.second_sum;
  }

pub side_term : (s : LinearSystem) (p : Position) (x y : ℕ) → TermFits s p x y → SideTermFits s (p.coefficient x) y
side_term s p x y h = record { first_product = h.first_product; first_sum = h.first_sum; second_product = h.second_product; second_sum = h.second_sum }

pub of_side_term : (s : LinearSystem) (p : Position) (x y : ℕ) → SideTermFits s (p.coefficient x) y → TermFits s p x y
of_side_term s p x y h = record { first_product = h.first_product; first_sum = h.first_sum; second_product = h.second_product; second_sum = h.second_sum }

-- ---- one entry after a pivot, at two positions with the same new row of the entering variable
module _ (p q : Position) (l e : ℕ) (c d : ℕ → ℚ) (same : (z : ℕ) → c z ≡ d z) (w : (z : ℕ) → entering_row p l e z ≡ entering_row q l e z) where
  product_same : (z : ℕ) → c e *ℚ entering_row p l e z ≡ d e *ℚ entering_row q l e z
  product_same z = λ i. same e i *ℚ w z i

  leaving_there : FitsFrac (c e *ℚ entering_row p l e l) → FitsFrac (d e *ℚ entering_row q l e l)
  leaving_there h = subst (λ z. FitsFrac z) (product_same l) h

  entry_there : (y : ℕ) → SideEntryFits p l e c y → SideEntryFits q l e d y
  entry_there y h = record { product = subst (λ z. FitsFrac z) (product_same y) h.product; sum = subst₂ (λ u v. FitsSum u v) (same y) (product_same y) h.sum }

pub side_entry : (p : Position) (l e x y : ℕ) → EntryFits p l e x y → SideEntryFits p l e (p.coefficient x) y
side_entry p l e x y h = record { product = h.product; sum = h.sum }

pub of_side_entry : (p : Position) (l e x y : ℕ) → SideEntryFits p l e (p.coefficient x) y → EntryFits p l e x y
of_side_entry p l e x y h = record { product = h.product; sum = h.sum }

-- ---- a position of the longer run that agrees with one of the shorter
module _ (s : LinearSystem) (more : List Row) (p q : Position) (b : IsBounded (count s) p) (t : IsTableau q) (a : Agrees (count s) p q)
    (lates : (i y : ℕ) → i < length more → q.coefficient (count s + i) y ≡ late s (get_or more i no_row) p y) where
  abbrev n' : ℕ
  n' = count (lengthened s more)

  free_below : (y : ℕ) → q.is_basic y ≡ false → y < count s
  free_below y h = by (cases_lt y (count s))
    where
      by : (y < count s) ⊎ (count s ≤ y) → y < count s
      by (inl l) = l
      by (inr l) = absurd (both_ways (q.is_basic y) h (appended_basic s more p q b t a y l))

  wider : (x : ℕ) → x < count s → x < count (lengthened s more)
  wider x h = omega (arith, count_more s more)

  further : (i : ℕ) → i < length more → count s + i < count (lengthened s more)
  further i h = omega (arith, count_more s more)

  rest_back : (z : ℕ) → z < count s → rest s z ≡ rest (lengthened s more) z
  rest_back z h = sym (rest_below s more z h)

  -- the values
  own_value_there : (x : ℕ) → x < count s → ValueFits s (count s) p x → ValueFits (lengthened s more) (count (lengthened s more)) q x
  own_value_there x h v = record {
    terms = λ y k f. (let m : y < count s = free_below y f in
        of_side_term (lengthened s more) q x y (term_there s (lengthened s more) (p.coefficient x) (q.coefficient x) y (λ z. sym (a.rows x z h)) (λ z o. rest_back z (omega arith)) (side_term s p x y (v.terms y m (sym (a.basic y) ∙ f)))));
  }

  own_value_back : (x : ℕ) → x < count s → ValueFits (lengthened s more) (count (lengthened s more)) q x → ValueFits s (count s) p x
  own_value_back x h v = record {
    terms = λ y k f.
        of_side_term s p x y (term_there (lengthened s more) s (q.coefficient x) (p.coefficient x) y (λ z. a.rows x z h) (λ z o. rest_below s more z (omega arith)) (side_term (lengthened s more) q x y (v.terms y (wider y k) (a.basic y ∙ f))));
  }

  further_value_there : (i : ℕ) → i < length more → SideValueFits s p (late s (get_or more i no_row) p) → ValueFits (lengthened s more) (count (lengthened s more)) q (count s + i)
  further_value_there i h v = record {
    terms = λ y k f. (let m : y < count s = free_below y f in
        of_side_term (lengthened s more) q (count s + i) y (term_there s (lengthened s more) (late s (get_or more i no_row) p) (q.coefficient (count s + i)) y (λ z. sym (lates i z h)) (λ z o. rest_back z (omega arith)) (v.terms y m (sym (a.basic y) ∙ f))));
  }

  further_value_back : (i : ℕ) → i < length more → ValueFits (lengthened s more) (count (lengthened s more)) q (count s + i) → SideValueFits s p (late s (get_or more i no_row) p)
  further_value_back i h v = record {
    terms = λ y k f.
        term_there (lengthened s more) s (q.coefficient (count s + i)) (late s (get_or more i no_row) p) y (λ z. lates i z h) (λ z o. rest_below s more z (omega arith)) (side_term (lengthened s more) q (count s + i) y (v.terms y (wider y k) (a.basic y ∙ f)));
  }

  -- what holds of the sides of both and of the further ones holds of all
  sort : (P : ℕ → Type 0) → ((x : ℕ) → x < count s → P x) → ((i : ℕ) → i < length more → P (count s + i)) → (x : ℕ) → x < count (lengthened s more) → P x
  sort P f g x h = by (cases_lt x (count s))
    where
      by : (x < count s) ⊎ (count s ≤ x) → P x
      by (inl l) = f x l
      by (inr l) =
          let e : count s + (x - count s) ≡ x = omega arith in
          subst P e (g (x - count s) (omega (arith, count_more s more)))

  pub values_split : ValuesFit (lengthened s more) (count (lengthened s more)) q ↔ (ValuesFit s (count s) p × ((i : ℕ) → i < length more → SideValueFits s p (late s (get_or more i no_row) p)))
  values_split = (
    λ h. (record { values = λ x k f. own_value_back x k (h.values x (wider x k) (a.basic x ∙ f)) }, λ i k. further_value_back i k (h.values (count s + i) (further i k) (appended_basic s more p q b t a (count s + i) (omega arith)))),
    λ h. record { values = sort (λ x. q.is_basic x ≡ true → ValueFits (lengthened s more) (count (lengthened s more)) q x) (λ x k f. own_value_there x k (h.0.values x k (sym (a.basic x) ∙ f))) (λ i k f. further_value_there i k (h.1 i k)) },
  )

  -- a pivot
  module _ (l e : ℕ) (below : l < count s) where
    w : (z : ℕ) → entering_row q l e z ≡ entering_row p l e z
    w = entering_agrees (count s) p q a l e below

    w_back : (z : ℕ) → entering_row p l e z ≡ entering_row q l e z
    w_back z = sym (w z)

    quotient_same : (y : ℕ) → neg_ℚ (q.coefficient l y) *ℚ inv_ℚ (q.coefficient l e) ≡ neg_ℚ (p.coefficient l y) *ℚ inv_ℚ (p.coefficient l e)
    quotient_same y = λ i. neg_ℚ (a.rows l y below i) *ℚ inv_ℚ (a.rows l e below i)

    pub entering_there : EnteringFits (count s) p l e → EnteringFits (count (lengthened s more)) q l e
    entering_there h = record { quotients = λ y k f d. subst (λ z. FitsFrac z) (sym (quotient_same y)) (h.quotients y (free_below y f) (sym (a.basic y) ∙ f) d) }

    pub entering_back : EnteringFits (count (lengthened s more)) q l e → EnteringFits (count s) p l e
    entering_back h = record { quotients = λ y k f d. subst (λ z. FitsFrac z) (quotient_same y) (h.quotients y (wider y k) (a.basic y ∙ f) d) }

    own_row_there : (x : ℕ) → x < count s → RowFits (count s) p l e x → RowFits (count (lengthened s more)) q l e x
    own_row_there x h v = record {
      leaving = leaving_there p q l e (p.coefficient x) (q.coefficient x) (λ z. sym (a.rows x z h)) w_back v.leaving;
      entries = λ y k f d. of_side_entry q l e x y (entry_there p q l e (p.coefficient x) (q.coefficient x) (λ z. sym (a.rows x z h)) w_back y (side_entry p l e x y (v.entries y (free_below y f) (sym (a.basic y) ∙ f) d)));
    }

    own_row_back : (x : ℕ) → x < count s → RowFits (count (lengthened s more)) q l e x → RowFits (count s) p l e x
    own_row_back x h v = record {
      leaving = leaving_there q p l e (q.coefficient x) (p.coefficient x) (λ z. a.rows x z h) w v.leaving;
      entries = λ y k f d. of_side_entry p l e x y (entry_there q p l e (q.coefficient x) (p.coefficient x) (λ z. a.rows x z h) w y (side_entry q l e x y (v.entries y (wider y k) (a.basic y ∙ f) d)));
    }

    further_row_there : (i : ℕ) → i < length more → SideRowFits s p l e (late s (get_or more i no_row) p) → RowFits (count (lengthened s more)) q l e (count s + i)
    further_row_there i h v = record {
      leaving = leaving_there p q l e (late s (get_or more i no_row) p) (q.coefficient (count s + i)) (λ z. sym (lates i z h)) w_back v.leaving;
      entries = λ y k f d. of_side_entry q l e (count s + i) y (entry_there p q l e (late s (get_or more i no_row) p) (q.coefficient (count s + i)) (λ z. sym (lates i z h)) w_back y (v.entries y (free_below y f) (sym (a.basic y) ∙ f) d));
    }

    further_row_back : (i : ℕ) → i < length more → RowFits (count (lengthened s more)) q l e (count s + i) → SideRowFits s p l e (late s (get_or more i no_row) p)
    further_row_back i h v = record {
      leaving = leaving_there q p l e (q.coefficient (count s + i)) (late s (get_or more i no_row) p) (λ z. lates i z h) w v.leaving;
      entries = λ y k f d. entry_there q p l e (q.coefficient (count s + i)) (late s (get_or more i no_row) p) (λ z. lates i z h) w y (side_entry q l e (count s + i) y (v.entries y (wider y k) (a.basic y ∙ f) d));
    }

    pub rows_split : RowsFit (count (lengthened s more)) q l e ↔ (RowsFit (count s) p l e × ((i : ℕ) → i < length more → (late s (get_or more i no_row) p e ≡ int (pos 0) → ⊥) → SideRowFits s p l e (late s (get_or more i no_row) p)))
    rows_split = (
      λ h. (
        record { rows = λ x k f d c. own_row_back x k (h.rows x (wider x k) (a.basic x ∙ f) d (λ z. c (sym (a.rows x e k) ∙ z))) },
        λ i k c. further_row_back i k (h.rows (count s + i) (further i k) (appended_basic s more p q b t a (count s + i) (omega arith)) (λ z. omega arith) (λ z. c (sym (lates i e k) ∙ z))),
      ),
      λ h. record {
        rows = sort (λ x. q.is_basic x ≡ true → (x ≡ l → ⊥) → (q.coefficient x e ≡ int (pos 0) → ⊥) → RowFits (count (lengthened s more)) q l e x)
            (λ x k f d c. own_row_there x k (h.0.rows x k (sym (a.basic x) ∙ f) d (λ z. c (a.rows x e k ∙ z))))
            (λ i k f d c. further_row_there i k (h.1 i k (λ z. c (lates i e k ∙ z))));
      },
    )

  -- the whole position, where both go on in the same way
  module _ (same : turn (lengthened s more) q ≡ turn s p) where
    leaver_below : (l e : ℕ) → turn s p ≡ goes_on l e → l < count s
    leaver_below l e g = (turn-at s p (goes_on l e) g).leaves.below

    pub position_there : PositionFits s p → ((i : ℕ) → i < length more → AppendedFits s (get_or more i no_row) p) → PositionFits (lengthened s more) q
    position_there h d = record {
      values = values_split.1 (h.values, λ i k. (d i k).value);
      entering = λ l e g. (let z : turn s p ≡ goes_on l e = sym same ∙ g in entering_there l e (leaver_below l e z) (h.entering l e z));
      rows = λ l e g. (let z : turn s p ≡ goes_on l e = sym same ∙ g in (rows_split l e (leaver_below l e z)).1 (h.rows l e z, λ i k. (d i k).row l e z));
    }

    pub position_back : PositionFits (lengthened s more) q → PositionFits s p
    position_back h = record {
      values = (values_split.0 h.values).0;
      entering = λ l e z. entering_back l e (leaver_below l e z) (h.entering l e (same ∙ z));
      rows = λ l e z. ((rows_split l e (leaver_below l e z)).0 (h.rows l e (same ∙ z))).0;
    }

    pub appended_back : PositionFits (lengthened s more) q → (i : ℕ) → i < length more → AppendedFits s (get_or more i no_row) p
    appended_back h i k = record {
      value = (values_split.0 h.values).1 i k;
      row = λ l e z. ((rows_split l e (leaver_below l e z)).0 (h.rows l e (same ∙ z))).1 i k;
    }

    -- what fits of a further side there is what its row adds here
    pub appended_fitting : (i : ℕ) → i < length more → IsRowFitting (lengthened s more) q (count s + i) → AppendedFits s (get_or more i no_row) p
    appended_fitting i k h = record {
      value = further_value_back i k h.value;
      row = λ l e z c. further_row_back l e (leaver_below l e z) i k (h.row l e (same ∙ z));
    }

-- ---- the runs
module _ (s : LinearSystem) (more : List Row) where
  module _ (k : ℕ) (h : k ≤ steps s) where
    lates_at : (i y : ℕ) → i < length more → (position (lengthened s more) k).coefficient (count s + i) y ≡ late s (get_or more i no_row) (position s k) y
    lates_at i y b = appended_row s more k h i b y

    pub values_at : ValuesFit (lengthened s more) (count (lengthened s more)) (position (lengthened s more) k) ↔ (ValuesFit s (count s) (position s k) × ((i : ℕ) → i < length more → SideValueFits s (position s k) (late s (get_or more i no_row) (position s k))))
    values_at = values_split s more (position s k) (position (lengthened s more) k) (within s k) (tableau (lengthened s more) k) (positions_agree s more k h) lates_at

  module _ (k : ℕ) (h : k < steps s) where
    early : k ≤ steps s
    early = omega arith

    pub there_at : PositionFits s (position s k) → ((i : ℕ) → i < length more → AppendedFits s (get_or more i no_row) (position s k)) → PositionFits (lengthened s more) (position (lengthened s more) k)
    there_at = position_there s more (position s k) (position (lengthened s more) k) (within s k) (tableau (lengthened s more) k) (positions_agree s more k early) (lates_at k early) (turns_agree s more k h)

    back_at : PositionFits (lengthened s more) (position (lengthened s more) k) → PositionFits s (position s k)
    back_at = position_back s more (position s k) (position (lengthened s more) k) (within s k) (tableau (lengthened s more) k) (positions_agree s more k early) (lates_at k early) (turns_agree s more k h)

    pub further_at : PositionFits (lengthened s more) (position (lengthened s more) k) → (i : ℕ) → i < length more → AppendedFits s (get_or more i no_row) (position s k)
    further_at = appended_back s more (position s k) (position (lengthened s more) k) (within s k) (tableau (lengthened s more) k) (positions_agree s more k early) (lates_at k early) (turns_agree s more k h)

    pub fitting_at : (i : ℕ) → i < length more → IsRowFitting (lengthened s more) (position (lengthened s more) k) (count s + i) → AppendedFits s (get_or more i no_row) (position s k)
    fitting_at = appended_fitting s more (position s k) (position (lengthened s more) k) (within s k) (tableau (lengthened s more) k) (positions_agree s more k early) (lates_at k early) (turns_agree s more k h)

  no_pivot : (l e : ℕ) → turn s (position s (steps s)) ≡ goes_on l e → ⊥
  no_pivot l e g = both_ways (is_pivot (turn s (position s (steps s)))) (run_ends s).stops (ap is_pivot g)

  last_back : PositionFits (lengthened s more) (position (lengthened s more) (steps s)) → PositionFits s (position s (steps s))
  last_back h = record { values = ((values_at (steps s) (omega arith)).0 h.values).0; entering = λ l e g. absurd (no_pivot l e g); rows = λ l e g. absurd (no_pivot l e g) }

  shorter_fits : RunFits (lengthened s more) → RunFits s
  shorter_fits h = record { fits = λ k b. by k b (cases_lt k (steps s)) }
    where
      by : (k : ℕ) → k ≤ steps s → (k < steps s) ⊎ (steps s ≤ k) → PositionFits s (position s k)
      by k b (inl l) = back_at k l (h.fits k (let m : steps s ≤ steps (lengthened s more) = steps_longer s more in omega arith))
      by k b (inr l) =
          let e : steps s ≡ k = omega arith in
          subst (λ m. PositionFits s (position s m)) e (last_back (h.fits (steps s) (steps_longer s more)))

  longer_fits : RunFits s → BeginningFits s more → LaterFits s more → RunFits (lengthened s more)
  longer_fits f d g = record { fits = λ k b. by k b (cases_lt k (steps s)) }
    where
      by : (k : ℕ) → k ≤ steps (lengthened s more) → (k < steps s) ⊎ (steps s ≤ k) → PositionFits (lengthened s more) (position (lengthened s more) k)
      by k b (inl l) = there_at k l (f.fits k (omega arith)) (λ i m. d.each k i l m)
      by k b (inr l) = g.each k l b

  -- the theorem
  pub fits_split : RunFits (lengthened s more) ↔ (RunFits s × BeginningFits s more × LaterFits s more)
  fits_split = (
    λ h. (
      shorter_fits h,
      record { each = λ k i l m. further_at k l (h.fits k (let o : steps s ≤ steps (lengthened s more) = steps_longer s more in omega arith)) i m },
      record { each = λ k l b. h.fits k b },
    ),
    λ h. longer_fits h.0 h.1 h.2,
  )

  -- where the shorter system is refuted, only what the further rows add is left
  module _ (l : ℕ) (ends : turn s (last_position s) ≡ is_refuted l) where
    end_turn : turn (lengthened s more) (position (lengthened s more) (steps s)) ≡ turn s (position s (steps s))
    unfolding last_position
    end_turn = same_end s more l ends ∙ sym ends

    at_most : steps s ≤ steps s
    at_most = omega arith

    end_there : PositionFits s (position s (steps s)) → ((i : ℕ) → i < length more → AppendedFits s (get_or more i no_row) (position s (steps s))) → PositionFits (lengthened s more) (position (lengthened s more) (steps s))
    end_there = position_there s more (position s (steps s)) (position (lengthened s more) (steps s)) (within s (steps s)) (tableau (lengthened s more) (steps s)) (positions_agree s more (steps s) at_most) (lates_at (steps s) at_most) end_turn

    end_further : PositionFits (lengthened s more) (position (lengthened s more) (steps s)) → (i : ℕ) → i < length more → AppendedFits s (get_or more i no_row) (position s (steps s))
    end_further = appended_back s more (position s (steps s)) (position (lengthened s more) (steps s)) (within s (steps s)) (tableau (lengthened s more) (steps s)) (positions_agree s more (steps s) at_most) (lates_at (steps s) at_most) end_turn

    pub refuted_split : RunFits (lengthened s more) ↔ (RunFits s × AllAppendedFit s more)
    refuted_split = (
      λ h. (shorter_fits h, record { each = λ k i b m. all h k i m b (cases_lt k (steps s)) }),
      λ h. longer_fits h.0 (record { each = λ k i b m. h.1.each k i (omega arith) m }) (record { each = λ k b b'. last h.0 h.1 k b b' }),
    )
      where
        all : RunFits (lengthened s more) → (k i : ℕ) → i < length more → k ≤ steps s → (k < steps s) ⊎ (steps s ≤ k) → AppendedFits s (get_or more i no_row) (position s k)
        all h k i m b (inl c) = further_at k c (h.fits k (let o : steps s ≤ steps (lengthened s more) = steps_longer s more in omega arith)) i m
        all h k i m b (inr c) =
            let e : steps s ≡ k = omega arith in
            subst (λ z. AppendedFits s (get_or more i no_row) (position s z)) e (end_further (h.fits (steps s) (steps_longer s more)) i m)

        last : RunFits s → AllAppendedFit s more → (k : ℕ) → steps s ≤ k → k ≤ steps (lengthened s more) → PositionFits (lengthened s more) (position (lengthened s more) k)
        last f d k b b' =
            let q : steps (lengthened s more) ≡ steps s = refuted_steps s more l ends in
            let e : steps s ≡ k = omega arith in
            subst (λ z. PositionFits (lengthened s more) (position (lengthened s more) z)) e (end_there (f.fits (steps s) at_most) (λ i m. d.each (steps s) i at_most m))
