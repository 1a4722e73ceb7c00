use Rattle.std.proofs.Common.{◌+◌, Err, All, length, subst, sym, ap, ◌∙◌}
use Rattle.std.proofs.lemmas.List.{length_push}
use Rattle.std.proofs.lemmas.List.Elements.{All-nil, All-push}
use Rattle.std.proofs.lemmas.Result.{err_from_is_err_and, IfOk-at_ok}
use Rattle.mpc_plant.specs.Limits.{FitsRow}
use Rattle.mpc_plant.specs.CheckedRows.{stage_row_of}
use Rattle.mpc_plant.proofs.Each.{EachFrom, error_told, each_start, each_more_by, each_failed_by}
use Rattle.mpc_plant.proofs.rows.stage_rows.Goals as goal

pub loop-i-init : goal.loop-i-init
loop-i-init c = record {
  so_far = subst (λ xs. EachFrom (stage_row_of c.args.states c.args.inputs) c.args.items.now 0 xs) (sym c.new-rows.ensures) (each_start (stage_row_of c.args.states c.args.inputs) c.args.items.now);
  len = ap length c.new-rows.ensures;
  fit = subst (λ xs. All (FitsRow c.args.states c.args.inputs) xs) (sym c.new-rows.ensures) (All-nil (FitsRow c.args.states c.args.inputs));
}

pub loop-i-preserved : goal.loop-i-preserved
loop-i-preserved c = record {
  so_far = each_more_by (stage_row_of c.args.states c.args.inputs) c.args.items.now c.loop-i.i c.index-items-i.result c.stage_row.result c.in_ok-row.row c.loop-i.rows c.push.new.self c.loop-i.invariant.so_far c.loop-i-test.true c.index-items-i.is
      c.in_ok-row.ensures.ok c.stage_row.ensures.ok c.in_ok-push.ensures.ok;
  len = ap length c.in_ok-push.ensures.ok ∙ length_push c.loop-i.rows c.in_ok-row.row ∙ ap (λ n. n + 1) c.loop-i.invariant.len;
  fit = subst (λ xs. All (FitsRow c.args.states c.args.inputs) xs) (sym c.in_ok-push.ensures.ok) (All-push (FitsRow c.args.states c.args.inputs) c.loop-i.rows c.in_ok-row.row c.loop-i.invariant.fit (IfOk-at_ok (FitsRow c.args.states c.args.inputs) c.in_ok-row.ensures.ok c.stage_row.ensures.fits));
}

pub returns-in_err-row-clause-bad : goal.returns-in_err-row-clause-bad
returns-in_err-row-clause-bad c = λ kind path e.
    let gone = err_from_is_err_and c.from_residual.result c.from_residual.ensures.1 in
    let told = c.in_err-row.ensures.bad kind path (ap Err (error_told c.from_residual.result gone.0 c.in_err-row.field-0.0 kind path gone.1 gone.2 e)) in
    each_failed_by (stage_row_of c.args.states c.args.inputs) c.args.items.now c.loop-i.i c.index-items-i.result c.stage_row.result kind path told.0 c.loop-i.rows c.loop-i.invariant.so_far c.loop-i-test.true c.index-items-i.is told.1 told.2 c.stage_row.ensures.bad
