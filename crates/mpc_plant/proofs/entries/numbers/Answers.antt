use Rattle.std.proofs.Common.{Err, length, ◌+◌, subst, sym, ap, ◌∙◌}
use Rattle.std.proofs.lemmas.List.{length_push}
use Rattle.std.proofs.lemmas.Result.{err_from_is_err_and}
use Rattle.mpc_plant.specs.CheckedEntries.{number_of}
use Rattle.mpc_plant.proofs.Each.{EachFrom, error_told, each_start, each_more_by, each_failed_by}
use Rattle.mpc_plant.proofs.entries.numbers.Goals as goal

pub loop-i-init : goal.loop-i-init
loop-i-init c = record {
  so_far = subst (λ xs. EachFrom number_of c.args.items.now 0 xs) (sym c.new-entries.ensures) (each_start number_of c.args.items.now);
  len = ap length c.new-entries.ensures;
}

pub loop-i-preserved : goal.loop-i-preserved
loop-i-preserved c = record {
  so_far = each_more_by number_of c.args.items.now c.loop-i.i c.index-items-i.result c.number.result c.in_ok-entry.entry c.loop-i.entries c.push.new.self c.loop-i.invariant.so_far c.loop-i-test.true c.index-items-i.is
      c.in_ok-entry.ensures.ok c.number.ensures.ok c.in_ok-push.ensures.ok;
  len = ap length c.in_ok-push.ensures.ok ∙ length_push c.loop-i.entries c.in_ok-entry.entry ∙ ap (λ n. n + 1) c.loop-i.invariant.len;
}

pub returns-in_err-entry-clause-bad : goal.returns-in_err-entry-clause-bad
returns-in_err-entry-clause-bad c = λ kind path e.
    let gone = err_from_is_err_and c.from_residual.result c.from_residual.ensures.1 in
    let told = c.in_err-entry.ensures.bad kind path (ap Err (error_told c.from_residual.result gone.0 c.in_err-entry.field-0.0 kind path gone.1 gone.2 e)) in
    each_failed_by number_of c.args.items.now c.loop-i.i c.index-items-i.result c.number.result kind path told.0 c.loop-i.entries c.loop-i.invariant.so_far c.loop-i-test.true c.index-items-i.is told.1 told.2 c.number.ensures.bad
