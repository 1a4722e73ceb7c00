-- So it does of a weight, a row and a coordinate.
use Rattle.std.proofs.Common.{◌≡◌, ℕ, zero, suc, ◌+◌, ◌-◌, pos, List, [], ◌∷◌, ◌++◌, codes, decimal, Bool, true, false, not, cond, Option, Some, None, option_map, Ok, refl, sym, ◌∙◌, ap, subst, arith, is_eq}
use Rattle.std.specs.Prelude.{unwrap_or}
use Rattle.std.specs.List.{flat_map, range_with_len}
use Rattle.serde_json.specs.Data.{Data, null, array, Items}
use Rattle.serde_json.specs.Find.{get, get_item}
use Rattle.mpc_exact.specs.Rational.{ℚ, int, lt_ℚ, cmp_ℚ}
use Rattle.mpc_space.specs.Vector.{coordinate, cell}
use Rattle.mpc_plant.specs.declared.faults.PlantKind.TheVariants.{OverLimit, NotSymmetric, StepNotPositive}
use Rattle.mpc_plant.specs.Keys.{axis_keys, row_keys, terminal_row_keys}
use Rattle.mpc_plant.specs.Limits.{greatest_count}
use Rattle.mpc_plant.specs.Numbers.{integer_of}
use Rattle.mpc_plant.specs.Faults.{◌>>=◌, ensure, under as under_key}
use Rattle.mpc_plant.specs.CheckedEntries.{number_of as checked_number, list_of_length, vector_of, rows_of}
use Rattle.mpc_plant.specs.CheckedRows.{vector_or_zeros, stage_row_of, terminal_row_of, step_of, count_in, count_of, axis_of}
use Rattle.mpc_plant.specs.CheckedPlant.{first_passing, differs, difference_at, difference_from, no_difference, weight_of}
use Rattle.mpc_theorem.specs.PlantFile.{IsVector, IsNumber, AreItems, no_more, one_more}
use Rattle.mpc_theorem.specs.PlantFaults.{Fault, unless, under, at_key, item_at, number as value, number_faults, integer_faults, sized_faults, vector_faults, rows_faults, mirror_faults, weight_faults, row_faults, terminal_row_faults, step_faults, axis_faults}
use Rattle.mpc_theorem.proofs.PlantValues.{sized_read, rows_read, number_ok}
use Rattle.mpc_theorem.proofs.FaultChecks.{Agrees, then_agrees, value_agrees, under_agrees, ensure_agrees, found_at, object_then, needed_then, number_agrees, number_is, integer_agrees, count_agrees, sized_agrees, vector_agrees, rows_agree}

-- ---- weights
-- the number at a place of what was read
entry_is : (xs : List ℚ) (items : Items) (i : ℕ) → AreItems IsNumber xs items → value (unwrap_or (get_item i items) null) ≡ coordinate xs i
entry_is _ _ i no_more = refl
entry_is _ _ zero (one_more x d xs ds is rest) = number_is x d (number_ok x d is)
entry_is _ _ (suc i) (one_more x d xs ds is rest) = entry_is xs ds i rest

row_entry_is : (rows : List (List ℚ)) (items : Items) (i j : ℕ) → AreItems IsVector rows items → value (item_at j (unwrap_or (get_item i items) null)) ≡ cell rows i j
row_entry_is _ _ i j no_more = refl
row_entry_is _ _ zero j (one_more x d xs ds is rest) = ap (λ v. value (item_at j v)) is.list ∙ entry_is x is.items j is.are
row_entry_is _ _ (suc i) j (one_more x d xs ds is rest) = row_entry_is xs ds i j rest

module _ (m : List (List ℚ)) (d : Data) (reads : (i j : ℕ) → value (item_at j (item_at i d)) ≡ cell m i j) where
  abbrev mirrored : ℕ → ℕ → Bool
  mirrored i j = is_eq (cmp_ℚ (cell m i j) (cell m j i))

  mirror_is : (i j : ℕ) → mirror_faults d i j ≡ under (decimal i) (under (decimal j) (unless (mirrored i j) NotSymmetric))
  mirror_is i j = λ k. under (decimal i) (under (decimal j) (unless (is_eq (cmp_ℚ (reads i j k) (reads j i k))) NotSymmetric))

  row_agrees_from : (i from count : ℕ) (rest : Option (ℕ × ℕ)) (faults : List Fault) → Agrees (no_difference rest) faults
      → Agrees (no_difference (difference_at i (first_passing (differs m i) from count) rest)) (flat_map (mirror_faults d i) (range_with_len from count) ++ faults)
  row_agrees_from i from zero rest faults h = h
  row_agrees_from i from (suc count) rest faults h =
      subst (λ l. Agrees (no_difference (difference_at i (first_passing (differs m i) from (suc count)) rest)) ((l ++ flat_map (mirror_faults d i) (range_with_len (from + 1) count)) ++ faults)) (sym (mirror_is i from))
      (by (mirrored i from) (subst (λ next. Agrees (no_difference (difference_at i (first_passing (differs m i) (suc from) count) rest)) (flat_map (mirror_faults d i) (range_with_len next count) ++ faults)) (omega arith) (row_agrees_from i (suc from) count rest faults h)))
    where
      later : List Fault
      later = flat_map (mirror_faults d i) (range_with_len (from + 1) count)

      by : (b : Bool) → Agrees (no_difference (difference_at i (first_passing (differs m i) (suc from) count) rest)) (flat_map (mirror_faults d i) (range_with_len (from + 1) count) ++ faults)
          → Agrees (no_difference (difference_at i (cond (not b) (Some from) (first_passing (differs m i) (suc from) count)) rest)) ((under (decimal i) (under (decimal from) (unless b NotSymmetric)) ++ flat_map (mirror_faults d i) (range_with_len (from + 1) count)) ++ faults)
      by true later = later
      by false later = (flat_map (mirror_faults d i) (range_with_len (from + 1) count) ++ faults, refl)

  differences_agree : (n i count : ℕ) → Agrees (no_difference (difference_from m n i count)) (flat_map (λ i. flat_map (mirror_faults d i) (range_with_len (i + 1) (n - (i + 1)))) (range_with_len i count))
  differences_agree n i zero = refl
  differences_agree n i (suc count) =
      row_agrees_from i (i + 1) (n - (i + 1)) (difference_from m n (suc i) count) _
      (subst (λ next. Agrees (no_difference (difference_from m n (suc i) count)) (flat_map (λ i. flat_map (mirror_faults d i) (range_with_len (i + 1) (n - (i + 1)))) (range_with_len next count))) (omega arith) (differences_agree n (suc i) count))

pub weight_agrees : (n : ℕ) (d : Data) → Agrees (weight_of n d) (weight_faults n d)
weight_agrees n d =
    then_agrees (list_of_length n d) (λ items. rows_of n items >>= λ rows. no_difference (difference_from rows n 0 n) >>= λ _. Ok rows) (sized_faults n d) _ (sized_agrees n d)
    (λ items e. let is : d ≡ array items = (sized_read n d items e).0 in
    then_agrees (rows_of n items) (λ rows. no_difference (difference_from rows n 0 n) >>= λ _. Ok rows) (rows_faults n d) _ (rows_agree n d items is)
    (λ rows e. value_agrees (no_difference (difference_from rows n 0 n)) (λ _. rows) _
    (differences_agree rows d (λ i j. ap (λ v. value (item_at j (item_at i v))) is ∙ row_entry_is rows items i j (rows_read n rows items e)) n 0 n)))

-- ---- rows and axes
pub zeros_agree : (key : List ℕ) (n : ℕ) (o : Option Data) → Agrees (vector_or_zeros key n o) (under key (unwrap_or (option_map (vector_faults n) o) []))
zeros_agree key n None = refl
zeros_agree key n (Some d) = under_agrees key (vector_of n d) (vector_faults n d) (vector_agrees n d)

pub row_agrees : (n p : ℕ) (d : Data) → Agrees (stage_row_of n p d) (row_faults n p d)
row_agrees n p d =
    object_then d row_keys (codes "max" ∷ []) _ _ (λ _. needed_then d (codes "max") [] _ _ (λ top e.
    then_agrees (vector_or_zeros (codes "x") n (get (codes "x") d)) _ (at_key (codes "x") (vector_faults n) d) _ (zeros_agree (codes "x") n (get (codes "x") d)) (λ x _.
    then_agrees (vector_or_zeros (codes "u") p (get (codes "u") d)) _ (at_key (codes "u") (vector_faults p) d) _ (zeros_agree (codes "u") p (get (codes "u") d)) (λ u _.
    value_agrees (under_key (codes "max") (checked_number top)) _ (at_key (codes "max") number_faults d) (found_at (codes "max") checked_number number_faults d top e (number_agrees top))))))

pub terminal_agrees : (n : ℕ) (d : Data) → Agrees (terminal_row_of n d) (terminal_row_faults n d)
terminal_agrees n d =
    object_then d terminal_row_keys terminal_row_keys _ _ (λ _. needed_then d (codes "x") (codes "max" ∷ []) _ _ (λ side in_x. needed_then d (codes "max") [] _ _ (λ top in_max.
    then_agrees (under_key (codes "x") (vector_of n side)) _ (at_key (codes "x") (vector_faults n) d) _ (found_at (codes "x") (vector_of n) (vector_faults n) d side in_x (vector_agrees n side)) (λ x _.
    value_agrees (under_key (codes "max") (checked_number top)) _ (at_key (codes "max") number_faults d) (found_at (codes "max") checked_number number_faults d top in_max (number_agrees top))))))

step_agrees : (d : Data) → Agrees (step_of d) (step_faults d)
step_agrees d =
    then_agrees (checked_number d) _ (number_faults d) _ (number_agrees d)
    (λ x e. subst (λ y. Agrees (ensure (lt_ℚ (int (pos 0)) x) StepNotPositive >>= λ _. Ok x) (unless (lt_ℚ (int (pos 0)) y) StepNotPositive)) (sym (number_is x d e))
    (value_agrees (ensure (lt_ℚ (int (pos 0)) x) StepNotPositive) (λ _. x) _ (ensure_agrees (lt_ℚ (int (pos 0)) x) StepNotPositive)))

pub axis_agrees : (d : Data) → Agrees (axis_of d) (axis_faults d)
axis_agrees d =
    object_then d axis_keys axis_keys _ _ (λ _. needed_then d (codes "low") (codes "step" ∷ codes "count" ∷ []) _ _ (λ low in_low. needed_then d (codes "step") (codes "count" ∷ []) _ _ (λ step in_step. needed_then d (codes "count") [] _ _ (λ count in_count.
    then_agrees (under_key (codes "low") (checked_number low)) _ (at_key (codes "low") number_faults d) _ (found_at (codes "low") checked_number number_faults d low in_low (number_agrees low)) (λ _ _.
    then_agrees (under_key (codes "step") (step_of step)) _ (at_key (codes "step") step_faults d) _ (found_at (codes "step") step_of step_faults d step in_step (step_agrees step)) (λ _ _.
    value_agrees (under_key (codes "count") (count_of count)) _ (at_key (codes "count") (integer_faults 0 greatest_count OverLimit) d) (found_at (codes "count") count_of (integer_faults 0 greatest_count OverLimit) d count in_count (integer_agrees 0 greatest_count OverLimit count_in count_agrees (integer_of count)))))))))
