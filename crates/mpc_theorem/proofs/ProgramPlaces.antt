-- The places of condensing and of the pivots in order are those that the libraries speak of.
use Rattle.std.proofs.Common.{◌≡◌, ℕ, suc, ◌+◌, ◌-◌, ◌<◌, ◌≤◌, ◌⊎◌, inl, inr, List, ◌++◌, pos, refl, sym, subst, arith}
use Rattle.std.specs.Prelude.{All}
use Rattle.std.proofs.lemmas.List.Elements.{All-append}
use Rattle.mpc_exact.specs.Rational.{ℚ, int, ◌≤ℚ◌, ◌<ℚ◌}
use Rattle.mpc_exact.proofs.RationalOrder.{<ℚ-≤ℚ_trans, <ℚ_irrefl}
use Rattle.mpc_space.specs.Matrix.{height, entry}
use Rattle.mpc_plant.specs.declared.lists.PlantRow.{PlantRow}
use Rattle.mpc_plant.specs.declared.plants.Plant.{Plant}
use Rattle.mpc_rows.specs.declared.places.Place.{Place}
use Rattle.mpc_rows.specs.declared.places.Place.TheVariants.{State, Cost, Row}
use Rattle.mpc_rows.specs.declared.programs.Qp.{Qp}
use Rattle.mpc_definite.specs.Pivots.{pivot, left_of, StepFits, PassesBelow, IsFirstNotPositive, IsFirstWide}
use Rattle.mpc_condense.specs.Motion.{StateFits, RowFits}
use Rattle.mpc_condense.specs.Stages.{IsRow}
use Rattle.mpc_condense.specs.Causes.{row_count, StatesFit, CostsFit, RowsFit, AllFit, IsWidePlace}
use Rattle.mpc_condense.specs.ProgramTheorems.{RowsWithin}
use Rattle.mpc_theorem.specs.Firsts.{IsFirstOf, numbered}
use Rattle.mpc_theorem.specs.Programs.{condensing_places, CondensingFits, PivotPasses}
use Rattle.mpc_theorem.proofs.FirstLemmas.{first_left, first_right, first_parts, all_left, all_right, each_numbered, numbered_each, IsFirstNumber, to_number, of_number}
use Rattle.mpc_theorem.proofs.RowPlaces.{row_exists, one_row}

back : (m : ℕ) → suc m - 1 ≡ m
back m = omega arith

-- ---- condensing
module _ (plant : Plant) where
  abbrev Fits : Place → Type 0
  Fits = CondensingFits plant

  abbrev states : List Place
  states = numbered State 1 plant.horizon

  abbrev costs : List Place
  costs = numbered Cost 0 (plant.horizon + 1)

  abbrev rows : List Place
  rows = numbered Row 1 (row_count plant)

  -- each stage fits
  states_fit : All Fits states → StatesFit plant plant.horizon
  states_fit h k l = subst (StateFits plant) (back k) (each_numbered Fits State 1 plant.horizon (suc k) h (omega arith) (omega (arith, l)))

  costs_fit : All Fits costs → CostsFit plant (plant.horizon + 1)
  costs_fit h k l = each_numbered Fits Cost 0 (plant.horizon + 1) k h (omega arith) (omega (arith, l))

  rows_fit : All Fits rows → RowsFit plant (row_count plant)
  rows_fit h i k row l r = each_numbered Fits Row 1 (row_count plant) (suc i) h (omega arith) (omega (arith, l)) k row (subst (λ m. IsRow plant m k row) (sym (back i)) r)

  fit_states : StatesFit plant plant.horizon → All Fits states
  fit_states h = numbered_each Fits State 1 plant.horizon (λ k low high. h (k - 1) (omega (arith, low, high)))

  fit_costs : CostsFit plant (plant.horizon + 1) → All Fits costs
  fit_costs h = numbered_each Fits Cost 0 (plant.horizon + 1) (λ k low high. h k (omega (arith, high)))

  fit_rows : RowsFit plant (row_count plant) → All Fits rows
  fit_rows h = numbered_each Fits Row 1 (row_count plant) (λ i low high k row r. h (i - 1) k row (omega (arith, low, high)) r)

  -- all fit
  pub to_all_fit : All (CondensingFits plant) (condensing_places plant) → AllFit plant
  to_all_fit h =
      let behind = all_right Fits states (costs ++ rows) h in
      record { states = states_fit (all_left Fits states (costs ++ rows) h); costs = costs_fit (all_left Fits costs rows behind); rows = rows_fit (all_right Fits costs rows behind) }

  pub of_all_fit : AllFit plant → All (CondensingFits plant) (condensing_places plant)
  of_all_fit h = All-append Fits states (costs ++ rows) (fit_states h.states) (All-append Fits costs rows (fit_costs h.costs) (fit_rows h.rows))

  -- the first that doesn't fit
  wide_state : (place : Place) → IsFirstNumber Fits State 1 plant.horizon place → IsWidePlace plant place
  wide_state place f = inl (f.number, f.is, record { some = f.low; within = omega (arith, f.high); before = λ k l. subst (StateFits plant) (back k) (f.before (suc k) (omega arith) (omega (arith, l))); here = f.here })

  wide_cost : (place : Place) → All Fits states → IsFirstNumber Fits Cost 0 (plant.horizon + 1) place → IsWidePlace plant place
  wide_cost place all f = inr (inl (f.number, f.is, record { within = omega (arith, f.high); states = states_fit all; before = λ k l. f.before k (omega arith) l; here = f.here }))

  wide_row : (place : Place) → All Fits states → All Fits costs → IsFirstNumber Fits Row 1 (row_count plant) place → IsWidePlace plant place
  wide_row place all fit f =
      let row = row_exists plant (f.number - 1) (omega (arith, f.low, f.high)) in
      inr (inr (
        f.number,
        f.is,
        record {
          some = f.low;
          states = states_fit all;
          costs = costs_fit fit;
          before = λ i k other l r. f.before (suc i) (omega arith) (omega (arith, l)) k other (subst (λ m. IsRow plant m k other) (sym (back i)) r);
          step = row.0;
          row = row.1;
          is_row = row.2;
          here = λ here. f.here (λ k other r. same row.0 k row.1 other (one_row plant (f.number - 1) row.0 k row.1 other row.2 r) here);
        },
      ))
    where
      same : (k l : ℕ) (row other : PlantRow) → (k ≡ l) × (row ≡ other) → RowFits plant k row → RowFits plant l other
      same k l row other e h = subst (λ r. RowFits plant l r) e.1 (subst (λ m. RowFits plant m row) e.0 h)

  pub to_wide_place : (place : Place) → IsFirstOf (CondensingFits plant) (condensing_places plant) place → IsWidePlace plant place
  to_wide_place place h = by (first_parts Fits states (costs ++ rows) place h)
    where
      behind : All Fits states → IsFirstOf Fits costs place ⊎ (All Fits costs × IsFirstOf Fits rows place) → IsWidePlace plant place
      behind all (inl f) = wide_cost place all (to_number Fits Cost 0 (plant.horizon + 1) place f)
      behind all (inr f) = wide_row place all f.0 (to_number Fits Row 1 (row_count plant) place f.1)

      by : IsFirstOf Fits states place ⊎ (All Fits states × IsFirstOf Fits (costs ++ rows) place) → IsWidePlace plant place
      by (inl f) = wide_state place (to_number Fits State 1 plant.horizon place f)
      by (inr f) = behind f.0 (first_parts Fits costs rows place f.1)

  pub of_wide_place : RowsWithin → (place : Place) → IsWidePlace plant place → IsFirstOf (CondensingFits plant) (condensing_places plant) place
  of_wide_place within place (inl (k, e, w)) =
      first_left Fits states (costs ++ rows) place (of_number Fits State 1 plant.horizon place (record {
        number = k;
        low = w.some;
        high = omega (arith, w.within);
        is = e;
        before = λ i low high. w.before (i - 1) (omega (arith, low, high));
        here = w.here;
      }))
  of_wide_place within place (inr (inl (k, e, w))) =
      first_right Fits states (costs ++ rows) place (fit_states w.states) (first_left Fits costs rows place (of_number Fits Cost 0 (plant.horizon + 1) place (record {
        number = k;
        low = omega arith;
        high = omega (arith, w.within);
        is = e;
        before = λ i low high. w.before i high;
        here = w.here;
      })))
  of_wide_place within place (inr (inr (i, e, w))) =
      let last = within plant (i - 1) w.step w.row w.is_row in
      first_right Fits states (costs ++ rows) place (fit_states w.states) (first_right Fits costs rows place (fit_costs w.costs) (of_number Fits Row 1 (row_count plant) place (record {
        number = i;
        low = w.some;
        high = omega (arith, last, w.some);
        is = e;
        before = λ n low high k row r. w.before (n - 1) k row (omega (arith, low, high)) r;
        here = λ here. w.here (here w.step w.row w.is_row);
      })))

-- ---- the pivots
module _ (qp : Qp) where
  abbrev n : ℕ
  n = height qp.h

  abbrev Passes : ℕ → Type 0
  Passes = PivotPasses qp

  abbrev pivots : List ℕ
  pivots = numbered (λ i. i) 1 n

  passes_below : (j : ℕ) → ((i : ℕ) → 1 ≤ i → i < suc j → Passes i) → PassesBelow (entry qp.h) n j
  passes_below j h = record {
    positive = λ m l. subst (λ i. int (pos 0) <ℚ pivot (entry qp.h) i) (back m) (h (suc m) (omega arith) (omega (arith, l))).0;
    fits = λ m l. subst (λ i. StepFits (left_of (entry qp.h) i) n i) (back m) (h (suc m) (omega arith) (omega (arith, l))).1;
  }

  below_passes : (j : ℕ) → PassesBelow (entry qp.h) n j → (i : ℕ) → 1 ≤ i → i < suc j → Passes i
  below_passes j h i low high = (h.positive (i - 1) (omega (arith, low, high)), h.fits (i - 1) (omega (arith, low, high)))

  -- this pivot is the first that doesn't pass
  record IsFirst (j : ℕ) : Type 0 where
    some : 0 < j
    within : j ≤ n
    before : PassesBelow (entry qp.h) n (j - 1)
    here : ¬ Passes j

  at_number : (j : ℕ) → IsFirstNumber Passes (λ i. i) 1 n j → IsFirst j
  at_number j f =
      subst IsFirst (sym f.is) (record { some = f.low; within = omega (arith, f.high); before = passes_below (f.number - 1) (λ i low high. f.before i low (let some = f.low in omega (arith, high, some))); here = f.here })

  to_first : (j : ℕ) → IsFirstOf Passes pivots j → IsFirst j
  to_first j h = at_number j (to_number Passes (λ i. i) 1 n j h)

  of_first : (j : ℕ) → 0 < j → j ≤ n → PassesBelow (entry qp.h) n (j - 1) → (¬ Passes j) → IsFirstOf Passes pivots j
  of_first j some within before here =
      of_number Passes (λ i. i) 1 n j (record { number = j; low = some; high = omega (arith, within); is = refl; before = λ i low high. below_passes (j - 1) before i low (omega (arith, high)); here = here })

  -- all of them pass
  pub to_all_pass : All (PivotPasses qp) (numbered (λ i. i) 1 (height qp.h)) → PassesBelow (entry qp.h) (height qp.h) (height qp.h)
  to_all_pass h = passes_below n (λ i low high. each_numbered Passes (λ i. i) 1 n i h low (omega (arith, high)))

  pub of_all_pass : PassesBelow (entry qp.h) (height qp.h) (height qp.h) → All (PivotPasses qp) (numbered (λ i. i) 1 (height qp.h))
  of_all_pass h = numbered_each Passes (λ i. i) 1 n (λ i low high. below_passes n h i low (omega (arith, high)))

  apart : {x : ℚ} → x ≤ℚ int (pos 0) → int (pos 0) <ℚ x → ⊥
  apart low high = <ℚ_irrefl (<ℚ-≤ℚ_trans high low)

  pub to_not_positive : (j : ℕ) → IsFirstOf (PivotPasses qp) (numbered (λ i. i) 1 (height qp.h)) j → pivot (entry qp.h) (j - 1) ≤ℚ int (pos 0) → IsFirstNotPositive (entry qp.h) (height qp.h) j
  to_not_positive j h sign = let f = to_first j h in record { some = f.some; within = f.within; before = f.before; here = sign }

  pub of_not_positive : (j : ℕ) → IsFirstNotPositive (entry qp.h) (height qp.h) j → IsFirstOf (PivotPasses qp) (numbered (λ i. i) 1 (height qp.h)) j
  of_not_positive j f = of_first j f.some f.within f.before (λ passes. apart f.here passes.0)

  pub to_wide_pivot : (j : ℕ) → IsFirstOf (PivotPasses qp) (numbered (λ i. i) 1 (height qp.h)) j → int (pos 0) <ℚ pivot (entry qp.h) (j - 1) → IsFirstWide (entry qp.h) (height qp.h) j
  to_wide_pivot j h sign = let f = to_first j h in record { some = f.some; within = f.within; before = f.before; positive = sign; here = λ fits. f.here (sign, fits) }

  pub of_wide_pivot : (j : ℕ) → IsFirstWide (entry qp.h) (height qp.h) j → IsFirstOf (PivotPasses qp) (numbered (λ i. i) 1 (height qp.h)) j
  of_wide_pivot j f = of_first j f.some f.within f.before (λ passes. f.here passes.1)
