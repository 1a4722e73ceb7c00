-- One place of condensing at most is the first that is too wide.
use Rattle.std.proofs.Common.{◌≡◌, ℕ, ◌+◌, ◌-◌, ◌<◌, ◌≤◌, ◌⊎◌, inl, inr, refl, sym, ◌∙◌, ap, subst, arith}
use Rattle.std.proofs.lemmas.Bool.{cases_order}
use Rattle.std.proofs.lemmas.Option.{slice_get_within}
use Rattle.mpc_plant.specs.declared.lists.PlantRow.{PlantRow}
use Rattle.mpc_plant.specs.declared.plants.Plant.{Plant}
use Rattle.mpc_rows.specs.declared.places.Place.TheVariants.{State, Cost, Row}
use Rattle.mpc_condense.specs.Motion.{StateFits, CostFits, RowFits}
use Rattle.mpc_condense.specs.Stages.{IsRow}
use Rattle.mpc_condense.specs.Causes.{row_count, StatesFit, CostsFit, RowsFit, AllFit, IsWideState, IsWideCost, IsWideRow, IsWidePlace}
use Rattle.mpc_condense.specs.ProgramTheorems.{NoWidePlace, OneWidePlace, RowsWithin}
use Rattle.mpc_condense.proofs.RowLemmas.{stage_within, terminal_within, wide_row}

pub rows_within : RowsWithin
rows_within plant i k row (inl (r, a, b, c)) = subst (λ n. n < row_count plant) (sym c) (stage_within plant k r a (slice_get_within plant.rows r row b))
rows_within plant i k row (inr (r, a, b, c)) = subst (λ n. n < row_count plant) (sym c) (terminal_within plant r (slice_get_within plant.terminal r row b))

-- two numbers neither of which is below the other
one_of : (k n : ℕ) → (k < n → ⊥) → (n < k → ⊥) → k ≡ n
one_of k n a b = by (cases_order k n)
  where
    by : (k ≡ n) ⊎ ((k < n) ⊎ (n < k)) → k ≡ n
    by (inl e) = e
    by (inr (inl h)) = absurd (a h)
    by (inr (inr h)) = absurd (b h)

module _ (plant : Plant) where
  state_fits : (k : ℕ) → AllFit plant → IsWideState plant k → ⊥
  state_fits k fit w = w.here (fit.states (k - 1) (omega (arith, w.some, w.within)))

  cost_fits : (k : ℕ) → AllFit plant → IsWideCost plant k → ⊥
  cost_fits k fit w = w.here (fit.costs k (omega (arith, w.within)))

  row_fits : (i : ℕ) → AllFit plant → IsWideRow plant i → ⊥
  row_fits i fit w = w.here (fit.rows (i - 1) w.step w.row (rows_within plant (i - 1) w.step w.row w.is_row) w.is_row)

  one_state : (k n : ℕ) → IsWideState plant k → IsWideState plant n → k ≡ n
  one_state k n v w = one_of k n (λ h. v.here (w.before (k - 1) (omega (arith, v.some)))) (λ h. w.here (v.before (n - 1) (omega (arith, w.some))))

  one_cost : (k n : ℕ) → IsWideCost plant k → IsWideCost plant n → k ≡ n
  one_cost k n v w = one_of k n (λ h. v.here (w.before k h)) (λ h. w.here (v.before n h))

  row_before : (i n : ℕ) → IsWideRow plant i → IsWideRow plant n → i < n → ⊥
  row_before i n v w l = v.here (w.before (i - 1) v.step v.row (omega (arith, l, v.some)) v.is_row)

  one_row : (i n : ℕ) → IsWideRow plant i → IsWideRow plant n → i ≡ n
  one_row i n v w = one_of i n (row_before i n v w) (row_before n i w v)

  state_first : (k n : ℕ) → IsWideState plant k → IsWideCost plant n → ⊥
  state_first k n v w = v.here (w.states (k - 1) (omega (arith, v.some, v.within)))

  state_before_row : (k i : ℕ) → IsWideState plant k → IsWideRow plant i → ⊥
  state_before_row k i v w = v.here (w.states (k - 1) (omega (arith, v.some, v.within)))

  cost_before_row : (k i : ℕ) → IsWideCost plant k → IsWideRow plant i → ⊥
  cost_before_row k i v w = v.here (w.costs k (omega (arith, v.within)))

pub no_wide_place : NoWidePlace
no_wide_place plant place fit (inl (k, e, w)) = state_fits plant k fit w
no_wide_place plant place fit (inr (inl (k, e, w))) = cost_fits plant k fit w
no_wide_place plant place fit (inr (inr (i, e, w))) = row_fits plant i fit w

pub one_wide_place : OneWidePlace
one_wide_place plant a b (inl (k, e, v)) (inl (n, f, w)) = e ∙ ap State (one_state plant k n v w) ∙ sym f
one_wide_place plant a b (inl (k, e, v)) (inr (inl (n, f, w))) = absurd (state_first plant k n v w)
one_wide_place plant a b (inl (k, e, v)) (inr (inr (n, f, w))) = absurd (state_before_row plant k n v w)
one_wide_place plant a b (inr (inl (k, e, v))) (inl (n, f, w)) = absurd (state_first plant n k w v)
one_wide_place plant a b (inr (inl (k, e, v))) (inr (inl (n, f, w))) = e ∙ ap Cost (one_cost plant k n v w) ∙ sym f
one_wide_place plant a b (inr (inl (k, e, v))) (inr (inr (n, f, w))) = absurd (cost_before_row plant k n v w)
one_wide_place plant a b (inr (inr (k, e, v))) (inl (n, f, w)) = absurd (state_before_row plant n k w v)
one_wide_place plant a b (inr (inr (k, e, v))) (inr (inl (n, f, w))) = absurd (cost_before_row plant n k w v)
one_wide_place plant a b (inr (inr (k, e, v))) (inr (inr (n, f, w))) = e ∙ ap Row (one_row plant k n v w) ∙ sym f

-- ---- the place that a run answers
pub wide_state : (plant : Plant) (k : ℕ) → k < plant.horizon → StatesFit plant k → (StateFits plant k → ⊥) → IsWidePlace plant (State (k + 1))
wide_state plant k l before here =
    let back : k ≡ k + 1 - 1 = omega arith in
    inl (k + 1, refl, record { some = omega arith; within = omega arith; before = subst (StatesFit plant) back before; here = subst (λ n. StateFits plant n → ⊥) back here })

pub wide_cost : (plant : Plant) (n k : ℕ) → n ≡ k → k ≤ plant.horizon → StatesFit plant plant.horizon → CostsFit plant k → (CostFits plant k → ⊥) → IsWidePlace plant (Cost n)
wide_cost plant n k e l states before here =
    subst (λ m. IsWidePlace plant (Cost m)) (sym e) (let at : IsWidePlace plant (Cost k) = inr (inl (k, refl, record { within = l; states = states; before = before; here = here })) in at)

pub wide_row_place : (plant : Plant) (j i k : ℕ) (row : PlantRow) → j ≡ i → IsRow plant i k row → StatesFit plant plant.horizon → CostsFit plant (plant.horizon + 1) → RowsFit plant i → (RowFits plant k row → ⊥) → IsWidePlace plant (Row (j + 1))
wide_row_place plant j i k row e is states costs before here = inr (inr (j + 1, refl, wide_row plant j i k row e is states costs before here))
