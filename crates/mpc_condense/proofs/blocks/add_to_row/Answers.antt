use Rattle.std.proofs.Common.{◌+◌, arith, rules, sym, ◌∙◌, length, pos, refl}
use Rattle.std.proofs.lemmas.List.{get_or_read_under}
use Rattle.std.proofs.lemmas.Result.{MatchResult-from_err}
use Rattle.mpc_exact.specs.Rational.{int}
use Rattle.mpc_frac.specs.Fits.{FitsSum}
use Rattle.mpc_space.specs.Vector.{coordinate}
use Rattle.mpc_space.specs.Matrix.{entry}
use Rattle.mpc_condense.proofs.Writing.{writes_entry_as, unwritten_entry, all_entry_as, not_entry, sum_is, fits_sum_as}
use Rattle.mpc_condense.proofs.blocks.add_to_row.Goals as goal

pub loop-column-preserved : goal.loop-column-preserved
loop-column-preserved c =
    let k = c.loop-column.column in
    let g = c.get.ensures ∙ unwritten_entry c.args.out.now c.loop-column.out c.args.at_row 0 k _ c.loop-column.invariant.written in
    let p = get_or_read_under c.args.vector.now k (length c.args.vector.now) c.index-vector-column.result (int (pos 0)) c.index-vector-column.is (omega arith) refl in
    record {
      written = writes_entry_as c.args.out.now c.loop-column.out c.set.new.self c.args.at_row 0 k (k + 1) c.in_ok-sum.sum _ c.set.ensures (omega arith) c.requires.row (omega arith) (omega arith)
          (sum_is c.get.result c.index-vector-column.result c.in_ok-sum.sum _ _ g p c.in_ok-sum.ensures.value) c.loop-column.invariant.written;
      fits = all_entry_as c.args.at_row 0 k (k + 1) _ (omega arith) (fits_sum_as c.get.result c.index-vector-column.result _ _ g p c.in_ok-sum.ensures.wide) c.loop-column.invariant.fits;
    }

pub returns-in_err-sum-clause-wide : goal.returns-in_err-sum-clause-wide
returns-in_err-sum-clause-wide c =
    let k = c.loop-column.column in
    let g = c.get.ensures ∙ unwritten_entry c.args.out.now c.loop-column.out c.args.at_row 0 k _ c.loop-column.invariant.written in
    let p = get_or_read_under c.args.vector.now k (length c.args.vector.now) c.index-vector-column.result (int (pos 0)) c.index-vector-column.is (omega arith) refl in
    MatchResult-from_err c.from_residual.result _ _ (search rules)
    (λ _. not_entry c.args.at_row 0 (length c.args.vector.now) k (λ a b. FitsSum (entry c.args.out.now a b) (coordinate c.args.vector.now b)) (omega arith) (omega arith)
    (λ h. c.in_err-sum.ensures.wide (fits_sum_as _ _ c.get.result c.index-vector-column.result (sym g) (sym p) h)))
