use Rattle.std.proofs.Common.{◌≡◌, ◌<◌, ◌+◌, Err, All, length, set, take, subst, sym, ap, ◌∙◌}
use Rattle.std.proofs.lemmas.List.{length-set, length-replicate}
use Rattle.std.proofs.lemmas.Result.{err_from_is_err_and, IfOk-at_ok}
use Rattle.mpc_plant.specs.CheckedEntries.{vector_of}
use Rattle.mpc_plant.proofs.Each.{error_told, each_start, each_more_by, each_failed_by}
use Rattle.mpc_plant.proofs.MatrixRows.{rectangular-set, zeros_rectangular, take-written}
use Rattle.mpc_plant.proofs.matrices.matrix_with_rows.Goals as goal

pub loop-i-init : goal.loop-i-init
loop-i-init c = record {
  so_far = each_start (vector_of c.args.columns) c.args.items.now;
  tall = ap (λ m. length m.rows) c.in_ok-matrix.ensures ∙ length-replicate (length c.args.items.now) _;
  wide = ap (λ m. m.columns) c.in_ok-matrix.ensures;
  rectangular = subst (λ m. All (λ r. length r ≡ m.columns) m.rows) (sym c.in_ok-matrix.ensures) (zeros_rectangular (length c.args.items.now) c.args.columns);
}

pub loop-i-preserved : goal.loop-i-preserved
loop-i-preserved c =
    let within : c.loop-i.i < length c.loop-i.matrix.rows = subst (λ n. c.loop-i.i < n) (sym c.loop-i.invariant.tall) c.loop-i-test.true in
    let size = IfOk-at_ok (λ row. length row ≡ c.args.columns) c.in_ok-row.ensures.ok c.vector.ensures.len in
    record {
      so_far = each_more_by (vector_of c.args.columns) c.args.items.now c.loop-i.i c.index-items-i.result c.vector.result c.in_ok-row.row (take c.loop-i.i c.loop-i.matrix.rows) _ c.loop-i.invariant.so_far c.loop-i-test.true
          c.index-items-i.is c.in_ok-row.ensures.ok c.vector.ensures.ok (ap (take (c.loop-i.i + 1)) c.write_row.ensures.rows ∙ take-written c.loop-i.matrix.rows c.loop-i.i c.in_ok-row.row within);
      tall = ap length c.write_row.ensures.rows ∙ length-set c.loop-i.matrix.rows c.loop-i.i c.in_ok-row.row ∙ c.loop-i.invariant.tall;
      wide = c.write_row.ensures.columns ∙ c.loop-i.invariant.wide;
      rectangular = subst (λ rows. All (λ r. length r ≡ c.write_row.new.matrix.columns) rows) (sym c.write_row.ensures.rows)
          (subst (λ w. All (λ r. length r ≡ w) (set c.loop-i.matrix.rows c.loop-i.i c.in_ok-row.row)) (sym c.write_row.ensures.columns) (rectangular-set c.loop-i.matrix.rows c.loop-i.matrix.columns c.loop-i.i c.in_ok-row.row c.loop-i.invariant.rectangular (size ∙ sym c.loop-i.invariant.wide)));
    }

pub returns-in_err-row-clause-bad : goal.returns-in_err-row-clause-bad
returns-in_err-row-clause-bad c = λ kind path e.
    let gone = err_from_is_err_and c.from_residual-in_err-row.result c.from_residual-in_err-row.ensures.1 in
    let told = c.in_err-row.ensures.bad kind path (ap Err (error_told c.from_residual-in_err-row.result gone.0 c.in_err-row.field-0.0 kind path gone.1 gone.2 e)) in
    each_failed_by (vector_of c.args.columns) c.args.items.now c.loop-i.i c.index-items-i.result c.vector.result kind path told.0 (take c.loop-i.i c.loop-i.matrix.rows) c.loop-i.invariant.so_far c.loop-i-test.true c.index-items-i.is told.1 told.2
    c.vector.ensures.bad
