use Rattle.std.proofs.Common.{rules, sym, ◌∙◌, ◌+◌, ◌*◌, ◌^◌, ◌*ℤ◌, pos, get_or, length, ◌≡◌, to_z, of_z, FitsSigned}
use Rattle.std.specs.Int.{w64, w128}
use Rattle.std.proofs.lemmas.Int.{to_z-of_z}
use Rattle.mpc_scaled.specs.Scaled.{whole_at, whole_cell}
use Rattle.mpc_runs.proofs.WholeSums.{whole_total-zero}
use Rattle.mpc_quotients.proofs.WholeRooms.{old_room, term_room, next_total}
use Rattle.mpc_runs.proofs.WholeWidths.{back128, both_back}
use Rattle.mpc_quotients.proofs.wide_numbers.short_row_value.Goals as goal
use Rattle.mpc_quotients.proofs.wide_numbers.short_row_value.Goals.{After-product-term}

pub loop-place-init : goal.loop-place-init
loop-place-init c = sym (whole_total-zero _)

term_is : (c : After-product-term) → to_z w128 (of_z w128 c.product-term.result) ≡ whole_cell (length c.args.vector.now) c.args.matrix.now c.args.row c.loop-place.place *ℤ whole_at c.args.vector.now c.loop-place.place
term_is c =
    let f : FitsSigned w64 (get_or c.args.matrix.now (c.args.row * length c.args.vector.now + c.loop-place.place) (pos 0)) = search rules in
    let g : FitsSigned w128 (get_or c.args.vector.now c.loop-place.place (pos 0)) = search rules in
    let h : FitsSigned w64 c.narrow.result = search rules in
    back128 _ c.product-term.type_inv ∙ both_back _ _ _ f h c.product-term.ensures ∙ (λ k. whole_cell (length c.args.vector.now) c.args.matrix.now c.args.row c.loop-place.place *ℤ (c.narrow.ensures ∙ to_z-of_z w128 _ g) k)

pub sum-total-requires-clause-left : goal.sum-total-requires-clause-left
sum-total-requires-clause-left c = old_room (length c.args.vector.now) (2 ^ 62) c.args.matrix.now c.args.row (λ j. whole_at c.args.vector.now j) c.requires.room (λ j. c.requires.small.each j) c.loop-place.place c.loop-place-test.true _ (pos 0) (pos 0) c.loop-place.invariant

pub sum-total-requires-clause-right : goal.sum-total-requires-clause-right
sum-total-requires-clause-right c =
    let at = goal.at.sum-total-requires-clause-right c in
    term_room (length c.args.vector.now) (2 ^ 62) c.args.matrix.now c.args.row (λ j. whole_at c.args.vector.now j) c.requires.room (λ j. c.requires.small.each j) c.loop-place.place c.loop-place-test.true _ _ (pos 0) c.loop-place.invariant (term_is at.After-product-term)

pub loop-place-preserved : goal.loop-place-preserved
loop-place-preserved c =
    let at = goal.at.loop-place-preserved c in
    next_total (length c.args.vector.now) (2 ^ 62) c.args.matrix.now c.args.row (λ j. whole_at c.args.vector.now j) c.requires.room (λ j. c.requires.small.each j) c.loop-place.place c.loop-place-test.true _ _ _ c.loop-place.invariant (term_is at.After-product-term) (back128 _ c.sum-total.type_inv ∙ c.sum-total.ensures)
