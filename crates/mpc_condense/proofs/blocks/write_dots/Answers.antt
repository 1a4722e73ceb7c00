use Rattle.std.proofs.Common.{◌+◌, arith, rules, sym, ◌∙◌, ap, subst}
use Rattle.std.proofs.lemmas.Result.{MatchResult-from_err}
use Rattle.mpc_space.specs.Vector.{dot}
use Rattle.mpc_linear.specs.Dot.{DotFits}
use Rattle.mpc_condense.specs.Blocks.{row_at}
use Rattle.mpc_condense.proofs.Writing.{writes_entry_as, all_entry_as, all_to, not_entry}
use Rattle.mpc_condense.proofs.blocks.write_dots.Goals as goal

pub loop-column-preserved : goal.loop-column-preserved
loop-column-preserved c = record {
  written = writes_entry_as c.args.out.now c.loop-column.out c.set.new.self c.args.at_row 0 c.loop-column.column (c.loop-column.column + 1) c.in_ok-value.value _ c.set.ensures (omega arith) c.requires.row (omega arith) (omega arith)
      (c.in_ok-value.ensures.value ∙ ap (λ r. dot r c.args.vector.now) c.row.ensures) c.loop-column.invariant.written;
  fits = all_entry_as c.args.at_row 0 c.loop-column.column (c.loop-column.column + 1) _ (omega arith) (subst (λ r. DotFits r c.args.vector.now) c.row.ensures c.in_ok-value.ensures.wide) c.loop-column.invariant.fits;
}

pub returns-in_err-value-clause-wide : goal.returns-in_err-value-clause-wide
returns-in_err-value-clause-wide c =
    MatchResult-from_err c.from_residual.result _ _ (search rules)
    (λ _. not_entry c.args.at_row 0 c.args.count c.loop-column.column (λ _ b. DotFits (row_at c.args.matrix.now b) c.args.vector.now) (omega arith) (omega arith) (λ h. c.in_err-value.ensures.wide (subst (λ r. DotFits r c.args.vector.now) (sym c.row.ensures) h)))

pub returns-clause-wide : goal.returns-clause-wide
returns-clause-wide c = all_to c.args.at_row (c.args.at_row + 1) 0 c.loop-column.column (c.args.at_row + 1) c.args.count _ (omega arith) (omega arith) c.loop-column.invariant.fits
