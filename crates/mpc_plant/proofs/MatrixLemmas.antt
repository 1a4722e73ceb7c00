-- Matrices of a plant file: where they differ from their mirror image, and how their sizes are read.
use Rattle.std.proofs.Common.{◌≡◌, ℕ, zero, suc, ◌+◌, ◌-◌, ◌<◌, List, [], length, Bool, true, false, cond, Option, Some, None, Ok, Err, refl, sym, ◌∙◌, ap, add-one, add-zero, ◌*◌, nat_le, arith}
use Rattle.serde_json.specs.Data.{Data}
use Rattle.serde_json.specs.Events.{items_len}
use Rattle.serde_json.specs.View.{items_view}
use Rattle.serde_json.specs.declared.value.Value.{Value}
use Rattle.serde_json.proofs.Views.{items_len-items_view}
use Rattle.mpc_exact.specs.Rational.{ℚ}
use Rattle.std.specs.Prelude.{⊤}
use Rattle.mpc_plant.specs.declared.faults.PlantKind.TheVariants.{OverLimit}
use Rattle.mpc_plant.specs.Faults.{Checked, ◌>>=◌, ensure}
use Rattle.mpc_plant.specs.Limits.{row_limit}
use Rattle.mpc_plant.specs.WholePlant.{few_rows}
use Rattle.mpc_plant.specs.CheckedEntries.{list_between, rows_of}
use Rattle.mpc_plant.specs.CheckedPlant.{first_passing, row_difference, difference_at, difference_from, square_of, width_of}

-- ---- a search, one number further
less_one : (j size : ℕ) → j < size → size - j ≡ suc (size - (j + 1))
less_one j size h = omega arith

search_turn : (test : ℕ → Bool) (j size : ℕ) → j < size → first_passing test j (size - j) ≡ cond (test j) (Some j) (first_passing test (suc j) (size - (j + 1)))
search_turn test j size h = ap (first_passing test j) (less_one j size h)

pub search_passes : (test : ℕ → Bool) (j size : ℕ) → j < size → test j ≡ false → first_passing test j (size - j) ≡ first_passing test (j + 1) (size - (j + 1))
search_passes test j size h e = search_turn test j size h ∙ ap (λ b. cond b (Some j) (first_passing test (suc j) (size - (j + 1)))) e ∙ ap (λ k. first_passing test k (size - (j + 1))) (sym (add-one j))

pub search_finds : (test : ℕ → Bool) (j size : ℕ) → j < size → test j ≡ true → first_passing test j (size - j) ≡ Some j
search_finds test j size h e = search_turn test j size h ∙ ap (λ b. cond b (Some j) (first_passing test (suc j) (size - (j + 1)))) e

pub rows_turn : (m : List (List ℚ)) (size i : ℕ) → i < size → row_difference m size i ≡ None → difference_from m size i (size - i) ≡ difference_from m size (i + 1) (size - (i + 1))
rows_turn m size i h e =
    ap (difference_from m size i) (less_one i size h) ∙ ap (λ o. difference_at i o (difference_from m size (suc i) (size - (i + 1)))) e ∙ ap (λ k. difference_from m size k (size - (i + 1))) (sym (add-one i))

-- ---- sizes
pub square_at : (d : Data) (vs : List Value) (r : Checked (List (List ℚ))) → list_between 1 4 d ≡ Ok (items_view vs) → rows_of (length vs) (items_view vs) ≡ r → square_of d ≡ r
square_at d vs r e h = ap (λ l. l >>= λ items. rows_of (items_len items) items) e ∙ ap (λ n. rows_of n (items_view vs)) (items_len-items_view vs) ∙ h

pub width_at : (d : Data) (vs : List Value) → list_between 1 3 d ≡ Ok (items_view vs) → width_of d ≡ Ok (length vs)
width_at d vs e = ap (λ l. l >>= λ items. Ok (items_len items)) e ∙ ap Ok (items_len-items_view vs)

module _ (steps p : ℕ) (stage end : List Value) where
  few_at : (r : Checked ⊤) → ensure (nat_le (steps * length stage + length end) (row_limit (p * steps))) OverLimit ≡ r → few_rows steps p (items_view stage) (items_view end) ≡ r
  few_at r e = (λ k. ensure (nat_le (steps * items_len-items_view stage k + items_len-items_view end k) (row_limit (p * steps))) OverLimit) ∙ e

  module _ (limit : ℕ) (test : Bool) (most : limit ≡ row_limit (p * steps)) (is : test ≡ nat_le (steps * length stage + length end) limit) where
    test_is : (b : Bool) → test ≡ b → nat_le (steps * length stage + length end) (row_limit (p * steps)) ≡ b
    test_is b e = sym (is ∙ ap (nat_le (steps * length stage + length end)) most) ∙ e

    pub few_ok : test ≡ true → few_rows steps p (items_view stage) (items_view end) ≡ Ok tt
    few_ok e = few_at (Ok tt) (ap (λ b. ensure b OverLimit) (test_is true e))

    pub few_bad : test ≡ false → few_rows steps p (items_view stage) (items_view end) ≡ Err (OverLimit, [])
    few_bad e = few_at (Err (OverLimit, [])) (ap (λ b. ensure b OverLimit) (test_is false e))

-- ---- a matrix without differences is symmetric
at_none : (i : ℕ) (o : Option ℕ) (rest : Option (ℕ × ℕ)) → difference_at i o rest ≡ None → (o ≡ None) × (rest ≡ None)
at_none i None rest e = (refl, e)
at_none i (Some j) rest e = absurd (cc)

if_none : (b : Bool) (k : ℕ) (rest : Option ℕ) → cond b (Some k) rest ≡ None → (b ≡ false) × (rest ≡ None)
if_none true k rest e = absurd (cc)
if_none false k rest e = (refl, e)

pub none_found : (test : ℕ → Bool) (from count k : ℕ) → first_passing test from count ≡ None → k < count → test (from + k) ≡ false
none_found test from zero k e h = absurd (omega arith)
none_found test from (suc count) zero e h = ap test (add-zero from) ∙ (if_none (test from) from _ e).0
none_found test from (suc count) (suc k) e h = ap test (shift from k) ∙ none_found test (suc from) count k (if_none (test from) from _ e).1 (omega arith)
  where
    shift : (from k : ℕ) → from + suc k ≡ suc from + k
    shift from k = omega arith

pub no_row_differs : (m : List (List ℚ)) (size i count k : ℕ) → difference_from m size i count ≡ None → k < count → row_difference m size (i + k) ≡ None
no_row_differs m size i zero k e h = absurd (omega arith)
no_row_differs m size i (suc count) zero e h = ap (row_difference m size) (add-zero i) ∙ (at_none i (row_difference m size i) _ e).0
no_row_differs m size i (suc count) (suc k) e h = ap (row_difference m size) (shift i k) ∙ no_row_differs m size (suc i) count k (at_none i (row_difference m size i) _ e).1 (omega arith)
  where
    shift : (i k : ℕ) → i + suc k ≡ suc i + k
    shift i k = omega arith
