-- Heights of trees, from the last node to the first.
use Rattle.std.proofs.Common.{◌≡◌, ◌≢◌, ℕ, ◌+◌, ◌<◌, ◌≤◌, ◌⊎◌, inl, inr, List, length, get_or, set, max, Some, refl, sym, ◌∙◌, subst, arith}
use Rattle.std.specs.Prelude.{slice_get, slice_index}
use Rattle.std.proofs.lemmas.Bool.{cases_lt}
use Rattle.std.proofs.lemmas.List.{length-set, get_or-set_same, get_or-set_other}
use Rattle.mpc_rows.specs.declared.trees.Node.{Node}
use Rattle.mpc_rows.specs.declared.trees.Node.TheVariants.{Split, Law, NoMove}
use Rattle.mpc_table.specs.Steps.{AreNoSides}
use Rattle.mpc_block.specs.Heights.{height_by, IsHeightBy, AreHeightsFrom}

module _ (nodes : List Node) (sides : List ℕ) (are_sides : AreNoSides nodes sides) (heights : List ℕ) (place height : ℕ) (inside : place < length nodes) (behind : AreHeightsFrom nodes sides (place + 1) heights)
    (is : IsHeightBy nodes sides heights place height) (low : height + place < length nodes) where
  abbrev new : List ℕ
  new = set heights place height

  here : get_or new place 0 ≡ height
  here = get_or-set_same heights place height 0 (omega (arith, behind.one_each))

  there : (q : ℕ) → place < q → get_or new q 0 ≡ get_or heights q 0
  there q lt = let apart : q ≢ place = omega arith in get_or-set_other heights place q height 0 apart

  -- what is written at a place changes no height behind it
  kept : (q : ℕ) (node : Node) → place ≤ q → slice_get nodes q ≡ Some node → height_by sides new q node ≡ height_by sides heights q node
  kept q (Split row) le at = let side = are_sides.each q row at in λ i. 1 + max (there (q + 1) (omega arith) i) (there (slice_index sides q) (omega (arith, side.after)) i)
  kept q (Law law certs) le at = refl
  kept q (NoMove cert) le at = refl

  pub one_lower : AreHeightsFrom nodes sides place (set heights place height)
  one_lower = record {
    one_each = length-set heights place height ∙ behind.one_each;
    each = λ q le node at. each_at q node le at (cases_lt place q);
    low = λ q le lt. low_at q lt le (cases_lt place q);
  }
    where
      each_at : (q : ℕ) (node : Node) → place ≤ q → slice_get nodes q ≡ Some node → (place < q) ⊎ (q ≤ place) → get_or (set heights place height) q 0 ≡ height_by sides (set heights place height) q node
      each_at q node le at (inl lt) = there q lt ∙ behind.each q (omega arith) node at ∙ sym (kept q node le at)
      each_at q node le at (inr ge) =
          let same : place ≡ q = omega arith in
          subst (λ k. get_or (set heights place height) k 0 ≡ height_by sides (set heights place height) k node) same
          (let at_place : slice_get nodes place ≡ Some node = subst (λ k. slice_get nodes k ≡ Some node) (sym same) at in here ∙ is node at_place ∙ sym (kept place node (omega arith) at_place))

      low_at : (q : ℕ) → q < length nodes → place ≤ q → (place < q) ⊎ (q ≤ place) → get_or (set heights place height) q 0 + q < length nodes
      low_at q lt le (inl more) = subst (λ h. h + q < length nodes) (sym (there q more)) (behind.low q (omega arith) lt)
      low_at q lt le (inr ge) = let same : place ≡ q = omega arith in subst (λ k. get_or (set heights place height) k 0 + k < length nodes) same (subst (λ h. h + place < length nodes) (sym here) low)
