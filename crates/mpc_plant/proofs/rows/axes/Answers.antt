use Rattle.std.proofs.Common.{◌+◌, Err, All, length, subst, sym, ap, ◌∙◌}
use Rattle.std.proofs.lemmas.List.{length_push}
use Rattle.std.proofs.lemmas.List.Elements.{All-nil, All-push}
use Rattle.std.proofs.lemmas.Result.{err_from_is_err_and, IfOk-at_ok}
use Rattle.mpc_plant.specs.Limits.{IsCoordinate}
use Rattle.mpc_plant.specs.CheckedRows.{axis_of}
use Rattle.mpc_plant.proofs.Each.{EachFrom, error_told, each_start, each_more_by, each_failed_by}
use Rattle.mpc_plant.proofs.rows.axes.Goals as goal

pub loop-i-init : goal.loop-i-init
loop-i-init c = record {
  so_far = subst (λ xs. EachFrom (axis_of) c.args.items.now 0 xs) (sym c.new-grid.ensures) (each_start (axis_of) c.args.items.now);
  len = ap length c.new-grid.ensures;
  fit = subst (λ xs. All (IsCoordinate) xs) (sym c.new-grid.ensures) (All-nil (IsCoordinate));
}

pub loop-i-preserved : goal.loop-i-preserved
loop-i-preserved c = record {
  so_far = each_more_by (axis_of) c.args.items.now c.loop-i.i c.index-items-i.result c.axis.result c.in_ok-found.found c.loop-i.grid c.push.new.self c.loop-i.invariant.so_far c.loop-i-test.true c.index-items-i.is
      c.in_ok-found.ensures.ok c.axis.ensures.ok c.in_ok-push.ensures.ok;
  len = ap length c.in_ok-push.ensures.ok ∙ length_push c.loop-i.grid c.in_ok-found.found ∙ ap (λ n. n + 1) c.loop-i.invariant.len;
  fit = subst (λ xs. All (IsCoordinate) xs) (sym c.in_ok-push.ensures.ok) (All-push (IsCoordinate) c.loop-i.grid c.in_ok-found.found c.loop-i.invariant.fit (IfOk-at_ok (IsCoordinate) c.in_ok-found.ensures.ok c.axis.ensures.fits));
}

pub returns-in_err-found-clause-bad : goal.returns-in_err-found-clause-bad
returns-in_err-found-clause-bad c = λ kind path e.
    let gone = err_from_is_err_and c.from_residual.result c.from_residual.ensures.1 in
    let told = c.in_err-found.ensures.bad kind path (ap Err (error_told c.from_residual.result gone.0 c.in_err-found.field-0.0 kind path gone.1 gone.2 e)) in
    each_failed_by (axis_of) c.args.items.now c.loop-i.i c.index-items-i.result c.axis.result kind path told.0 c.loop-i.grid c.loop-i.invariant.so_far c.loop-i-test.true c.index-items-i.is told.1 told.2 c.axis.ensures.bad
