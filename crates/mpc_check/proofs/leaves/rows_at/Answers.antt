use Rattle.std.proofs.Common.{Some, sym, ap, ◌∙◌}
use Rattle.std.proofs.lemmas.Option.{slice_get-get_or}
use Rattle.mpc_check.proofs.leaves.rows_at.Goals as goal

pub returns-clause-at : goal.returns-clause-at
returns-clause-at c =
    let found = c.in_ok-get.ensures.lookup in
    (c.in_ok-get.field-0.now, slice_get-get_or c.args.borders.now c.args.place c.in_ok-get.field-0.now found.3.0 ∙ ap Some (sym found.1), c.as_slice-rows.ensures.value)
