-- A symmetric matrix passes the test of its mirror image.
use Rattle.std.proofs.Common.{◌≡◌, ℕ, zero, suc, ◌+◌, ◌-◌, List, length, All, false, cond, not, Some, None, Ok, ℤ, pos, ◌*ℤ◌, Equal, is_eq, int_cmp, refl, ◌∙◌, ap, subst, arith}
use Rattle.std.proofs.lemmas.Int.{ints}
use Rattle.serde_json.specs.Data.{Data}
use Rattle.mpc_exact.specs.Rational.{ℚ, cmp_ℚ}
use Rattle.mpc_space.specs.Vector.{cell, IsSymmetric}
use Rattle.mpc_plant.specs.Faults.{◌>>=◌}
use Rattle.mpc_plant.specs.CheckedEntries.{list_of_length, rows_of}
use Rattle.mpc_plant.specs.CheckedPlant.{first_passing, differs, difference_at, difference_from, no_difference, weight_of}
use Rattle.mpc_theorem.specs.PlantFile.{AreItems, IsVector, IsMatrix}
use Rattle.mpc_theorem.proofs.PlantChecks.{ok_is, both_ok, then_ok, items_length}
use Rattle.mpc_theorem.proofs.PlantValues.{sized_read, sized_ok, rows_read, rows_ok}

equal_itself : (z : ℤ) → int_cmp z z ≡ Equal
equal_itself z = grind (arith, ints)

same_passes : (x y : ℚ) → x ≡ y → not (is_eq (cmp_ℚ x y)) ≡ false
same_passes x y e = subst (λ z. not (is_eq (cmp_ℚ x z)) ≡ false) e (ap (λ o. not (is_eq o)) (equal_itself (x.numer *ℤ pos x.denom)))

module _ (m : List (List ℚ)) (symmetric : IsSymmetric m) where
  none_passes : (i from count : ℕ) → first_passing (differs m i) from count ≡ None
  none_passes i from zero = refl
  none_passes i from (suc count) = ap (λ b. cond b (Some from) (first_passing (differs m i) (suc from) count)) (same_passes (cell m i from) (cell m from i) (symmetric.mirrored i from)) ∙ none_passes i (suc from) count

  no_differences : (size i count : ℕ) → difference_from m size i count ≡ None
  no_differences size i zero = refl
  no_differences size i (suc count) = ap (λ o. difference_at i o (difference_from m size (suc i) count)) (none_passes i (i + 1) (size - (i + 1))) ∙ no_differences size (suc i) count

pub weight_read : (size : ℕ) (rows : List (List ℚ)) (d : Data) → weight_of size d ≡ Ok rows → IsMatrix rows d
weight_read size rows d e =
    let one = both_ok (list_of_length size d) (λ items. rows_of size items >>= λ m. no_difference (difference_from m size 0 size) >>= λ _. Ok m) rows e in
    let two = both_ok (rows_of size one.0) (λ m. no_difference (difference_from m size 0 size) >>= λ _. Ok m) rows one.2 in
    let three = both_ok (no_difference (difference_from two.0 size 0 size)) (λ _. Ok two.0) rows two.2 in
    record { items = one.0; list = (sized_read size d one.0 one.1).0; are = subst (λ m. AreItems IsVector m one.0) (ok_is two.0 rows three.2) (rows_read size two.0 one.0 two.1) }

pub weight_ok : (size : ℕ) (rows : List (List ℚ)) (d : Data) → length rows ≡ size → All (λ row. length row ≡ size) rows → IsSymmetric rows → IsMatrix rows d → weight_of size d ≡ Ok rows
weight_ok size rows d n all s m =
    then_ok (list_of_length size d) (λ items. rows_of size items >>= λ m. no_difference (difference_from m size 0 size) >>= λ _. Ok m) m.items (Ok rows) (sized_ok size d m.items m.list (items_length IsVector rows m.items m.are ∙ n))
    (then_ok (rows_of size m.items) (λ m. no_difference (difference_from m size 0 size) >>= λ _. Ok m) rows (Ok rows) (rows_ok size rows m.items all m.are)
    (ap (λ o. no_difference o >>= λ _. Ok rows) (no_differences rows s size 0 size)))
