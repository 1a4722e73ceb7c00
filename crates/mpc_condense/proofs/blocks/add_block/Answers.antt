use Rattle.std.proofs.Common.{◌≡◌, ℕ, ◌+◌, ◌-◌, arith, rules, sym, subst}
use Rattle.std.proofs.lemmas.Result.{MatchResult-from_err}
use Rattle.mpc_frac.specs.Fits.{FitsSum}
use Rattle.mpc_space.specs.Matrix.{height, entry}
use Rattle.mpc_condense.proofs.Writing.{writes_no_row, writes_to, unwritten_row, all_no_row, all_to, not_row}
use Rattle.mpc_condense.proofs.blocks.add_block.Goals as goal

pub loop-at_row-init : goal.loop-at_row-init
loop-at_row-init c = record {
  written = writes_to c.args.out.now c.args.out.now c.args.first c.args.first c.args.first (c.args.first + c.args.matrix.now.columns) (c.args.first + 0) (c.args.first + c.args.matrix.now.columns) _ (omega arith) (omega arith)
      (writes_no_row c.args.out.now c.args.first c.args.first (c.args.first + c.args.matrix.now.columns) _ c.rows.ensures.rectangular);
  fits = all_to c.args.first c.args.first c.args.first (c.args.first + c.args.matrix.now.columns) (c.args.first + 0) (c.args.first + c.args.matrix.now.columns) _ (omega arith) (omega arith)
      (all_no_row c.args.first c.args.first (c.args.first + c.args.matrix.now.columns) _);
}

pub returns-in_err-add_row-clause-wide : goal.returns-in_err-add_row-clause-wide
returns-in_err-add_row-clause-wide c =
    let i = c.args.first + c.loop-at_row.at_row in
    let g : (b : ℕ) → entry c.loop-at_row.out i b ≡ entry c.args.out.now i b = λ b. unwritten_row c.args.out.now c.loop-at_row.out c.args.first i c.args.first (c.args.first + c.args.matrix.now.columns) _ b c.loop-at_row.invariant.written in
    MatchResult-from_err c.from_residual.result _ _ (search rules)
    (λ _. not_row c.args.first (c.args.first + height c.args.matrix.now) i c.args.first (c.args.first + c.args.matrix.now.columns)
    (λ a b. FitsSum (entry c.args.out.now a b) (entry c.args.matrix.now (a - c.args.first) (b - c.args.first)))
    (λ a b. FitsSum (entry c.loop-at_row.out a b) (entry c.args.matrix.now (a - c.args.first) (b - c.args.first)))
    (omega arith) (omega arith) (λ b _ _ h. subst (λ z. FitsSum z (entry c.args.matrix.now (i - c.args.first) (b - c.args.first))) (sym (g b)) h) c.in_err-add_row.ensures.wide)
