-- The rows of a leaf's system by their places.
use Rattle.std.proofs.Common.{◌≡◌, ℕ, suc, ◌-◌, ◌*◌, ◌<◌, ◌≤◌, List, [], ◌∷◌, ◌++◌, length, get_or, refl, sym, ◌∙◌, subst, arith, Result, IfOk}
use Rattle.std.proofs.lemmas.List.{get_or_append_left, get_or-append_right}
use Rattle.mpc_rows.specs.declared.systems.Row.{Row}
use Rattle.mpc_rows.specs.LinearSystem.{no_row}
use Rattle.mpc_rows.specs.SetRuns.{box_from}

-- ---- the rows of a box
pub box_count : (width i : ℕ) (counts : List ℕ) → length (box_from width i counts) ≡ 2 * length counts
box_count width i [] = refl
box_count width i (count ∷ counts) = let rest = box_count width (suc i) counts in omega arith

-- ---- a row by its place
module _ (box path last : List Row) (boxed passed place : ℕ) (b : length box ≡ boxed) (p : length path ≡ passed) where
  pub in_box : place < boxed → get_or box place no_row ≡ get_or (box ++ (path ++ last)) place no_row
  in_box h = sym (get_or_append_left box (path ++ last) no_row place (omega arith))

  behind_box : boxed ≤ place → get_or (box ++ (path ++ last)) place no_row ≡ get_or (path ++ last) (place - boxed) no_row
  behind_box h = get_or-append_right box (path ++ last) boxed place no_row b h

  pub in_path : boxed ≤ place → place - boxed < passed → get_or path (place - boxed) no_row ≡ get_or (box ++ (path ++ last)) place no_row
  in_path h k = sym (behind_box h ∙ get_or_append_left path last no_row (place - boxed) (omega arith))

  pub in_last : boxed ≤ place → passed ≤ place - boxed → get_or last (place - boxed - passed) no_row ≡ get_or (box ++ (path ++ last)) place no_row
  in_last h k = sym (behind_box h ∙ get_or-append_right path last passed (place - boxed) no_row p k)

-- ---- values of results
pub same_value : {E : Type 0} (r : Result Row E) (x y : Row) → x ≡ y → IfOk r (λ z. z ≡ x) → IfOk r (λ z. z ≡ y)
same_value r x y e h = subst (λ v. IfOk r (λ z. z ≡ v)) e h
