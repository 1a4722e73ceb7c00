use Rattle.std.proofs.Common.{◌≡◌, ◌+◌, ◌-◌, arith, rules, sym, ◌∙◌}
use Rattle.std.proofs.lemmas.Result.{MatchResult-from_err}
use Rattle.mpc_frac.specs.Fits.{FitsSum}
use Rattle.mpc_space.specs.Matrix.{entry}
use Rattle.mpc_condense.proofs.Writing.{writes_entry_as, unwritten_entry, all_entry_as, not_entry, sum_is, fits_sum_as}
use Rattle.mpc_condense.proofs.blocks.add_row.Goals as goal

pub loop-column-preserved : goal.loop-column-preserved
loop-column-preserved c =
    let r = c.args.first + c.args.at_row in
    let k = c.args.first + c.loop-column.column in
    let back_i : r - c.args.first ≡ c.args.at_row = omega arith in
    let back_l : k - c.args.first ≡ c.loop-column.column = omega arith in
    let g = c.get.ensures ∙ unwritten_entry c.args.out.now c.loop-column.out r c.args.first k _ c.loop-column.invariant.written in
    let p = c.get-in-loop-column.ensures ∙ (λ t. entry c.args.matrix.now (sym back_i t) (sym back_l t)) in
    record {
      written = writes_entry_as c.args.out.now c.loop-column.out c.set.new.self r c.args.first k (c.args.first + (c.loop-column.column + 1)) c.in_ok-sum.sum _ c.set.ensures (omega arith) (omega arith) (omega arith) (omega arith)
          (sum_is c.get.result c.get-in-loop-column.result c.in_ok-sum.sum _ _ g p c.in_ok-sum.ensures.value) c.loop-column.invariant.written;
      fits = all_entry_as r c.args.first k (c.args.first + (c.loop-column.column + 1)) _ (omega arith) (fits_sum_as c.get.result c.get-in-loop-column.result _ _ g p c.in_ok-sum.ensures.wide) c.loop-column.invariant.fits;
    }

pub returns-in_err-sum-clause-wide : goal.returns-in_err-sum-clause-wide
returns-in_err-sum-clause-wide c =
    let r = c.args.first + c.args.at_row in
    let k = c.args.first + c.loop-column.column in
    let back_i : r - c.args.first ≡ c.args.at_row = omega arith in
    let back_l : k - c.args.first ≡ c.loop-column.column = omega arith in
    let g = c.get.ensures ∙ unwritten_entry c.args.out.now c.loop-column.out r c.args.first k _ c.loop-column.invariant.written in
    let p = c.get-in-loop-column.ensures ∙ (λ t. entry c.args.matrix.now (sym back_i t) (sym back_l t)) in
    MatchResult-from_err c.from_residual.result _ _ (search rules)
    (λ _. not_entry r c.args.first (c.args.first + c.args.matrix.now.columns) k (λ a b. FitsSum (entry c.args.out.now a b) (entry c.args.matrix.now (a - c.args.first) (b - c.args.first))) (omega arith) (omega arith)
    (λ h. c.in_err-sum.ensures.wide (fits_sum_as _ _ c.get.result c.get-in-loop-column.result (sym g) (sym p) h)))
