use Rattle.std.proofs.Common.{rules, sym, ◌∙◌, ◌≤◌, ◌+◌, ◌*◌, ◌^◌, ◌*ℤ◌, pos, get_or, length, ◌≡◌, to_z, of_z, FitsSigned, subst, unsigned_abs}
use Rattle.std.specs.Int.{w64, w128}
use Rattle.mpc_scaled.specs.Scaled.{whole_at, whole_cell}
use Rattle.mpc_runs.proofs.WholeSums.{whole_total-zero}
use Rattle.mpc_quotients.proofs.WholeRooms.{partial_small, old_room, term_room, next_total}
use Rattle.mpc_runs.proofs.WholeWidths.{back128, both_back}
use Rattle.mpc_quotients.proofs.whole_numbers.wide_row_times.Goals as goal
use Rattle.mpc_quotients.proofs.whole_numbers.wide_row_times.Goals.{After-product}

pub loop-place-init : goal.loop-place-init
loop-place-init c = sym (whole_total-zero _)

term_is : (c : After-product) → to_z w128 (of_z w128 c.product.result) ≡ whole_cell (length c.args.vector.now) c.args.matrix.now c.args.row c.loop-place.place *ℤ get_or c.args.vector.now c.loop-place.place (pos 0)
term_is c =
    let f : FitsSigned w64 (get_or c.args.matrix.now (c.args.row * length c.args.vector.now + c.loop-place.place) (pos 0)) = search rules in
    let g : FitsSigned w64 (get_or c.args.vector.now c.loop-place.place (pos 0)) = search rules in
    back128 _ c.product.type_inv ∙ both_back _ _ _ f g c.product.ensures

pub sum-total-requires-clause-left : goal.sum-total-requires-clause-left
sum-total-requires-clause-left c = old_room (length c.args.vector.now) (2 ^ 62) c.args.matrix.now c.args.row (λ j. whole_at c.args.vector.now j) c.requires.room (λ j. c.requires.small.each j) c.loop-place.place c.loop-place-test.true _ (pos 0) (pos 0) c.loop-place.invariant

pub sum-total-requires-clause-right : goal.sum-total-requires-clause-right
sum-total-requires-clause-right c = term_room (length c.args.vector.now) (2 ^ 62) c.args.matrix.now c.args.row (λ j. whole_at c.args.vector.now j) c.requires.room (λ j. c.requires.small.each j) c.loop-place.place c.loop-place-test.true _ _ (pos 0) c.loop-place.invariant (term_is c)

pub loop-place-preserved : goal.loop-place-preserved
loop-place-preserved c =
    let at = goal.at.loop-place-preserved c in
    next_total (length c.args.vector.now) (2 ^ 62) c.args.matrix.now c.args.row (λ j. whole_at c.args.vector.now j) c.requires.room (λ j. c.requires.small.each j) c.loop-place.place c.loop-place-test.true _ _ _ c.loop-place.invariant (term_is at.After-product) (back128 _ c.sum-total.type_inv ∙ c.sum-total.ensures)

pub returns-clause-small : goal.returns-clause-small
returns-clause-small c =
    subst (λ z. unsigned_abs z ≤ 2 ^ 124) (sym c.loop-place.invariant) (partial_small (length c.args.vector.now) (2 ^ 62) c.args.matrix.now c.args.row (λ j. whole_at c.args.vector.now j) c.requires.room (λ j. c.requires.small.each j) c.loop-place.place c.loop-place.auto.place-end)
