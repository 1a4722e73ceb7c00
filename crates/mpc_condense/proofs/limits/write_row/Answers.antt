use Rattle.std.proofs.Common.{rules}
use Rattle.std.proofs.lemmas.Result.{MatchResult-from_err}
use Rattle.mpc_condense.proofs.Writing.{fits_as, on_ok_as}
use Rattle.mpc_condense.proofs.Advance.{products_within}
use Rattle.mpc_condense.proofs.RowLemmas.{adds_row, row_fits, dots_of_row, bounds_of_row}
use Rattle.mpc_condense.proofs.limits.write_row.Goals as goal

pub returns-in_err-write_dots-clause-wide : goal.returns-in_err-write_dots-clause-wide
returns-in_err-write_dots-clause-wide c =
    let plant = c.args.plant.now in
    MatchResult-from_err c.from_residual.result _ _ (search rules)
    (λ _ q. c.in_err-write_dots.ensures.wide (dots_of_row plant c.args.step c.args.row.now c.args.at_row c.args.motion.now.x c.args.motion.now.z c.as_slice.result.now c.requires.motion (products_within plant.p c.args.step plant.horizon c.requires.step) c.as_slice.ensures q))

pub returns-clause-ok : goal.returns-clause-ok
returns-clause-ok c =
    let plant = c.args.plant.now in
    on_ok_as c.write_right.result _ _
    (λ right. adds_row plant c.args.step c.args.row.now c.args.at_row c.args.motion.now.x c.args.motion.now.z c.args.limits.now.g c.args.limits.now.w c.write_dots.new.out c.write_move.new.out c.write_right.new.out c.as_slice.result.now c.requires.motion (products_within plant.p c.args.step plant.horizon c.requires.step) c.as_slice.ensures c.requires.u_size c.requires.empty
    c.in_ok-write_dots.ensures.ok c.write_move.ensures right)
    c.write_right.ensures.ok

pub returns-clause-wide : goal.returns-clause-wide
returns-clause-wide c =
    let plant = c.args.plant.now in
    fits_as c.write_right.result _ _
    (λ right. row_fits plant c.args.step c.args.row.now c.args.at_row c.args.motion.now.x c.args.motion.now.z c.as_slice.result.now c.requires.motion (products_within plant.p c.args.step plant.horizon c.requires.step) c.as_slice.ensures c.in_ok-write_dots.ensures.wide right)
    (λ q. bounds_of_row plant c.args.step c.args.row.now c.args.at_row c.args.motion.now.x c.args.motion.now.z c.as_slice.result.now c.requires.motion (products_within plant.p c.args.step plant.horizon c.requires.step) c.as_slice.ensures q)
    c.write_right.ensures.wide
