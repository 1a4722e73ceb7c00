use Rattle.std.proofs.Common.{[], ◌<◌, ◌≤◌, get_or, subst}
use Rattle.mpc_space.specs.Vector.{column}
use Rattle.mpc_check.proofs.SumLemmas.{moved_more, moved_wide, moved_value, moved_fits}
use Rattle.mpc_check.proofs.gradients.add_moves.Goals as goal

pub loop-place-init : goal.loop-place-init
loop-place-init c = c.sum_theorems.ensures.none c.args.start.now (get_or c.args.matrix.now.rows c.args.at_row []) (column c.args.moves.now.rows c.args.at_column)

pub loop-place-preserved : goal.loop-place-preserved
loop-place-preserved c =
    moved_more c.sum_theorems.ensures c.args.matrix.now c.args.moves.now c.args.at_row c.args.at_column c.args.start.now c.requires.row c.cols-place-end.ensures.rectangular c.requires.size c.loop-place.place c.loop-place.sum c.loop-place.invariant _ _ (subst (λ n. c.loop-place.place < n) c.cols-place-end.ensures.value c.loop-place-test.true) c.get.ensures c.get-in-loop-place.ensures
    _ c.in-Ok.ensures.value c.in-Ok.ensures.wide

pub returns-in-Err-clause-wide : goal.returns-in-Err-clause-wide
returns-in-Err-clause-wide c =
    moved_wide c.sum_theorems.ensures c.args.matrix.now c.args.moves.now c.args.at_row c.args.at_column c.args.start.now c.requires.row c.cols-place-end.ensures.rectangular c.requires.size c.loop-place.place c.loop-place.sum c.loop-place.invariant _ _ (subst (λ n. c.loop-place.place < n) c.cols-place-end.ensures.value c.loop-place-test.true) c.get.ensures c.get-in-loop-place.ensures
    c.in-Err.ensures.wide

pub returns-clause-value : goal.returns-clause-value
returns-clause-value c =
    moved_value c.sum_theorems.ensures c.args.matrix.now c.args.moves.now c.args.at_row c.args.at_column c.args.start.now c.requires.row c.cols-place-end.ensures.rectangular c.requires.size c.loop-place.place c.loop-place.sum c.loop-place.invariant (subst (λ n. n ≤ c.loop-place.place) c.cols-place-end.ensures.value c.loop-place-test.false)

pub returns-clause-wide : goal.returns-clause-wide
returns-clause-wide c =
    moved_fits c.sum_theorems.ensures c.args.matrix.now c.args.moves.now c.args.at_row c.args.at_column c.args.start.now c.requires.row c.cols-place-end.ensures.rectangular c.requires.size c.loop-place.place c.loop-place.sum c.loop-place.invariant (subst (λ n. n ≤ c.loop-place.place) c.cols-place-end.ensures.value c.loop-place-test.false)
