use Rattle.std.proofs.Common.{◌+◌, arith, rules, sym, subst}
use Rattle.std.proofs.lemmas.Result.{MatchResult-from_err}
use Rattle.mpc_space.specs.Matrix.{entry}
use Rattle.mpc_definite.specs.Steps.{EliminatesRow}
use Rattle.mpc_definite.proofs.Work.{RowSome, factor_is, rest_is, rest_fits, rest_wide, row_step, row_done, fits_step}
use Rattle.mpc_definite.proofs.eliminate_row.Goals as goal

pub loop-k-preserved : goal.loop-k-preserved
loop-k-preserved c =
    let old = c.args.lower.now in
    let k = c.loop-k.k in
    let f = factor_is old c.args.column c.args.row c.in_ok-factor.factor c.get.result c.get-2.result c.get.ensures c.get-2.ensures c.in_ok-factor.ensures.value in
    let v = rest_is old c.loop-k.lower c.args.column c.args.row k c.in_ok-factor.factor c.get-in-loop-k.result c.get-in-loop-k-2.result c.loop-k.invariant.row f c.get-in-loop-k.ensures c.get-in-loop-k-2.ensures c.in_ok-rest.rest c.in_ok-rest.ensures.value in
    record {
      row = subst (λ z. RowSome old z c.args.column c.args.row (k + 1)) (sym c.set.ensures) (row_step old c.loop-k.lower c.args.column c.args.row k c.in_ok-rest.rest (omega arith) (omega arith) c.requires.within v c.loop-k.invariant.row);
      fits = fits_step (entry old) c.args.column c.args.row k
          (rest_fits old c.loop-k.lower c.args.column c.args.row k c.in_ok-factor.factor c.get-in-loop-k.result c.get-in-loop-k-2.result c.loop-k.invariant.row f c.get-in-loop-k.ensures c.get-in-loop-k-2.ensures c.in_ok-rest.ensures.wide)
          c.loop-k.invariant.fits;
    }

pub returns-in_err-rest-clause-wide : goal.returns-in_err-rest-clause-wide
returns-in_err-rest-clause-wide c =
    let old = c.args.lower.now in
    let k = c.loop-k.k in
    let f = factor_is old c.args.column c.args.row c.in_ok-factor.factor c.get.result c.get-2.result c.get.ensures c.get-2.ensures c.in_ok-factor.ensures.value in
    MatchResult-from_err c.from_residual-in_err-rest.result _ _ (search rules)
    (λ _. rest_wide old c.loop-k.lower c.args.column c.args.row k c.in_ok-factor.factor c.get-in-loop-k.result c.get-in-loop-k-2.result c.loop-k.invariant.row f c.get-in-loop-k.ensures c.get-in-loop-k-2.ensures (omega arith) (omega arith) c.in_err-rest.ensures.wide)

pub returns-clause-ok : goal.returns-clause-ok
returns-clause-ok c =
    subst (λ z. EliminatesRow c.args.lower.now z c.args.column c.args.row) (sym c.set-2.ensures)
    (row_done c.args.lower.now c.loop-k.lower c.args.column c.args.row c.loop-k.k c.in_ok-factor.factor c.requires.below c.requires.within (omega arith)
    (factor_is c.args.lower.now c.args.column c.args.row c.in_ok-factor.factor c.get.result c.get-2.result c.get.ensures c.get-2.ensures c.in_ok-factor.ensures.value)
    c.loop-k.invariant.row)
