-- When the rows and the grid of a plant file are read.
use Rattle.std.proofs.Common.{◌≡◌, ◌≤◌, ℕ, ℤ, pos, negsuc, List, [], ◌∷◌, length, codes, Bool, true, false, cond, Some, nat_le, Ok, refl, sym, ◌∙◌, ap, subst, arith}
use Rattle.std.proofs.lemmas.Bool.Decides.{nat_tests}
use Rattle.std.proofs.lemmas.Int.{ints}
use Rattle.serde_json.specs.Data.{Data}
use Rattle.serde_json.specs.Find.{get}
use Rattle.mpc_exact.specs.Rational.{ℚ, int, lt_ℚ, IsPositive}
use Rattle.mpc_plant.specs.declared.faults.PlantKind.TheVariants.{StepNotPositive, OverLimit}
use Rattle.mpc_plant.specs.declared.lists.PlantRow.{PlantRow}
use Rattle.mpc_plant.specs.declared.lists.Coordinate.{Coordinate}
use Rattle.mpc_plant.specs.Limits.{IsFromTo, IsCoordinate, FitsRow, greatest_count}
use Rattle.mpc_plant.specs.Keys.{axis_keys, row_keys, terminal_row_keys}
use Rattle.mpc_plant.specs.Faults.{◌>>=◌, fault, ensure, under}
use Rattle.mpc_plant.specs.CheckedEntries.{number_of, whole_number_of, vector_of, is_from_to}
use Rattle.mpc_plant.specs.CheckedObjects.{object_with, needed}
use Rattle.mpc_plant.specs.CheckedRows.{vector_or_zeros, stage_row_of, terminal_row_of, step_of, count_in, count_of, axis_of}
use Rattle.mpc_plant.specs.CheckedPlant.{steps_in, horizon_of}
use Rattle.mpc_theorem.specs.PlantFile.{IsInteger, IsRow, IsTerminalRow, IsAxis}
use Rattle.mpc_theorem.proofs.PlantChecks.{ok_is, both_ok, then_ok, inner_ok, outer_ok}
use Rattle.mpc_theorem.proofs.PlantValues.{number_read, number_ok, integer_read, integer_ok, between_test, vector_read, vector_ok, zeros_read, zeros_ok}
use Rattle.mpc_theorem.proofs.PlantObjects.{needed_read, needed_ok, only_read, only_ok}

-- ---- rows before the end
module _ (n p : ℕ) (row : PlantRow) (d : Data) where
  pub row_read : stage_row_of n p d ≡ Ok row → IsRow n p row d
  row_read e =
      let keys = both_ok (object_with row_keys d) _ row e in
      let top = both_ok (needed (codes "max") d) _ row keys.2 in
      let x = both_ok (vector_or_zeros (codes "x") n (get (codes "x") d)) _ row top.2 in
      let u = both_ok (vector_or_zeros (codes "u") p (get (codes "u") d)) _ row x.2 in
      let max = both_ok (under (codes "max") (number_of top.0)) _ row u.2 in
      subst (λ r. IsRow n p r d) (ok_is (record { x = x.0; u = u.0; max = max.0 }) row max.2)
      (record {
        keys = only_read row_keys d keys.0 keys.1;
        x = zeros_read (codes "x") n x.0 _ x.1;
        u = zeros_read (codes "u") p u.0 _ u.1;
        max = record { value = top.0; found = needed_read (codes "max") d top.0 top.1; is = number_read max.0 top.0 (inner_ok (codes "max") (number_of top.0) max.0 max.1) };
      })

  pub row_ok : FitsRow n p row → IsRow n p row d → stage_row_of n p d ≡ Ok row
  row_ok fits is =
      then_ok (object_with row_keys d) _ tt (Ok row) (only_ok row_keys d is.max.value (codes "max") is.max.found is.keys)
      (then_ok (needed (codes "max") d) _ is.max.value (Ok row) (needed_ok (codes "max") d is.max.value is.max.found)
      (then_ok (vector_or_zeros (codes "x") n (get (codes "x") d)) _ row.x (Ok row) (zeros_ok (codes "x") n row.x _ fits.x_size is.x)
      (then_ok (vector_or_zeros (codes "u") p (get (codes "u") d)) _ row.u (Ok row) (zeros_ok (codes "u") p row.u _ fits.u_size is.u)
      (then_ok (under (codes "max") (number_of is.max.value)) _ row.max (Ok row) (outer_ok (codes "max") (number_of is.max.value) row.max (number_ok row.max is.max.value is.max.is)) refl))))

-- ---- rows at the end
no_entries : {A : Type 0} (xs : List A) → length xs ≡ 0 → xs ≡ []
no_entries [] e = refl
no_entries (x ∷ xs) e = absurd (omega (arith, e))

module _ (n : ℕ) (row : PlantRow) (d : Data) where
  pub terminal_row_read : terminal_row_of n d ≡ Ok row → IsTerminalRow row d
  terminal_row_read e =
      let keys = both_ok (object_with terminal_row_keys d) _ row e in
      let side = both_ok (needed (codes "x") d) _ row keys.2 in
      let top = both_ok (needed (codes "max") d) _ row side.2 in
      let x = both_ok (under (codes "x") (vector_of n side.0)) _ row top.2 in
      let max = both_ok (under (codes "max") (number_of top.0)) _ row x.2 in
      subst (λ r. IsTerminalRow r d) (ok_is (record { x = x.0; u = []; max = max.0 }) row max.2)
      (record {
        keys = only_read terminal_row_keys d keys.0 keys.1;
        x = record { value = side.0; found = needed_read (codes "x") d side.0 side.1; is = vector_read n x.0 side.0 (inner_ok (codes "x") (vector_of n side.0) x.0 x.1) };
        max = record { value = top.0; found = needed_read (codes "max") d top.0 top.1; is = number_read max.0 top.0 (inner_ok (codes "max") (number_of top.0) max.0 max.1) };
      })

  pub terminal_row_ok : FitsRow n 0 row → IsTerminalRow row d → terminal_row_of n d ≡ Ok row
  terminal_row_ok fits is =
      then_ok (object_with terminal_row_keys d) _ tt (Ok row) (only_ok terminal_row_keys d is.max.value (codes "max") is.max.found is.keys)
      (then_ok (needed (codes "x") d) _ is.x.value (Ok row) (needed_ok (codes "x") d is.x.value is.x.found)
      (then_ok (needed (codes "max") d) _ is.max.value (Ok row) (needed_ok (codes "max") d is.max.value is.max.found)
      (then_ok (under (codes "x") (vector_of n is.x.value)) _ row.x (Ok row) (outer_ok (codes "x") (vector_of n is.x.value) row.x (vector_ok n row.x is.x.value fits.x_size is.x.is))
      (then_ok (under (codes "max") (number_of is.max.value)) _ row.max (Ok row) (outer_ok (codes "max") (number_of is.max.value) row.max (number_ok row.max is.max.value is.max.is))
      (λ i. Ok (record { x = row.x; u = sym (no_entries row.u fits.u_size) i; max = row.max }))))))

-- ---- whole numbers in a range
count_read : (z : ℤ) (k : ℕ) → count_in z ≡ Ok k → z ≡ pos k
count_read (pos m) k e = by (nat_le m greatest_count) e
  where
    by : (b : Bool) → cond b (Ok m) (fault OverLimit) ≡ Ok k → pos m ≡ pos k
    by true e = ap pos (ok_is m k e)
    by false e = absurd cc
count_read (negsuc m) k e = absurd cc

steps_read : (z : ℤ) (k : ℕ) → steps_in z ≡ Ok k → z ≡ pos k
steps_read (pos m) k e = by (is_from_to 1 6 m) e
  where
    by : (b : Bool) → cond b (Ok m) (fault OverLimit) ≡ Ok k → pos m ≡ pos k
    by true e = ap pos (ok_is m k e)
    by false e = absurd cc
steps_read (negsuc m) k e = absurd cc

pub horizon_read : (steps : ℕ) (d : Data) → horizon_of d ≡ Ok steps → IsInteger (pos steps) d
horizon_read steps d e = let one = both_ok (whole_number_of d) steps_in steps e in integer_read one.0 d one.1 ∙ ap Some (steps_read one.0 steps one.2)

pub horizon_ok : (steps : ℕ) (d : Data) → IsFromTo 1 6 steps → IsInteger (pos steps) d → horizon_of d ≡ Ok steps
horizon_ok steps d h is = then_ok (whole_number_of d) steps_in (pos steps) (Ok steps) (integer_ok (pos steps) d is) (ap (λ b. cond b (Ok steps) (fault OverLimit)) (between_test 1 6 steps h.from_low h.to_high))

pub few : (k limit : ℕ) → k ≤ limit → nat_le k limit ≡ true
few k limit h = grind (arith, nat_tests)

-- ---- the grid
step_test : (x : ℚ) → IsPositive x → lt_ℚ (int (pos 0)) x ≡ true
step_test x h = let below = h.below in grind (arith, ints)

module _ (axis : Coordinate) (d : Data) where
  pub axis_read : axis_of d ≡ Ok axis → IsAxis axis d
  axis_read e =
      let keys = both_ok (object_with axis_keys d) _ axis e in
      let first = both_ok (needed (codes "low") d) _ axis keys.2 in
      let second = both_ok (needed (codes "step") d) _ axis first.2 in
      let third = both_ok (needed (codes "count") d) _ axis second.2 in
      let low = both_ok (under (codes "low") (number_of first.0)) _ axis third.2 in
      let step = both_ok (under (codes "step") (step_of second.0)) _ axis low.2 in
      let count = both_ok (under (codes "count") (count_of third.0)) _ axis step.2 in
      let in_step = inner_ok (codes "step") (step_of second.0) step.0 step.1 in
      let size = both_ok (number_of second.0) (λ x. ensure (lt_ℚ (int (pos 0)) x) StepNotPositive >>= λ _. Ok x) step.0 in_step in
      let tested = both_ok (ensure (lt_ℚ (int (pos 0)) size.0) StepNotPositive) (λ _. Ok size.0) step.0 size.2 in
      let in_count = both_ok (whole_number_of third.0) count_in count.0 (inner_ok (codes "count") (count_of third.0) count.0 count.1) in
      subst (λ a. IsAxis a d) (ok_is (record { low = low.0; step = step.0; count = count.0 }) axis count.2)
      (record {
        keys = only_read axis_keys d keys.0 keys.1;
        low = record { value = first.0; found = needed_read (codes "low") d first.0 first.1; is = number_read low.0 first.0 (inner_ok (codes "low") (number_of first.0) low.0 low.1) };
        step = record { value = second.0; found = needed_read (codes "step") d second.0 second.1; is = number_read step.0 second.0 (size.1 ∙ ap Ok (ok_is size.0 step.0 tested.2)) };
        count = record { value = third.0; found = needed_read (codes "count") d third.0 third.1; is = integer_read in_count.0 third.0 in_count.1 ∙ ap Some (count_read in_count.0 count.0 in_count.2) };
      })

  pub axis_ok : IsCoordinate axis → IsAxis axis d → axis_of d ≡ Ok axis
  axis_ok fits is =
      then_ok (object_with axis_keys d) _ tt (Ok axis) (only_ok axis_keys d is.low.value (codes "low") is.low.found is.keys)
      (then_ok (needed (codes "low") d) _ is.low.value (Ok axis) (needed_ok (codes "low") d is.low.value is.low.found)
      (then_ok (needed (codes "step") d) _ is.step.value (Ok axis) (needed_ok (codes "step") d is.step.value is.step.found)
      (then_ok (needed (codes "count") d) _ is.count.value (Ok axis) (needed_ok (codes "count") d is.count.value is.count.found)
      (then_ok (under (codes "low") (number_of is.low.value)) _ axis.low (Ok axis) (outer_ok (codes "low") (number_of is.low.value) axis.low (number_ok axis.low is.low.value is.low.is))
      (then_ok (under (codes "step") (step_of is.step.value)) _ axis.step (Ok axis) (outer_ok (codes "step") (step_of is.step.value) axis.step
      (then_ok (number_of is.step.value) (λ x. ensure (lt_ℚ (int (pos 0)) x) StepNotPositive >>= λ _. Ok x) axis.step (Ok axis.step) (number_ok axis.step is.step.value is.step.is)
      (ap (λ b. ensure b StepNotPositive >>= λ _. Ok axis.step) (step_test axis.step fits.step_positive))))
      (then_ok (under (codes "count") (count_of is.count.value)) _ axis.count (Ok axis) (outer_ok (codes "count") (count_of is.count.value) axis.count
      (then_ok (whole_number_of is.count.value) count_in (pos axis.count) (Ok axis.count) (integer_ok (pos axis.count) is.count.value is.count.is)
      (ap (λ b. cond b (Ok axis.count) (fault OverLimit)) (few axis.count greatest_count fits.count_small))))
      refl))))))
