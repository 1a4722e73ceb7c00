use Rattle.std.proofs.Common.{◌<◌, ◌≤◌, subst}
use Rattle.mpc_rows.proofs.LawRowLemmas.{excess_more, excess_wide, excess_value}
use Rattle.mpc_rows.proofs.law_rows.excess_at.Goals as goal

pub loop-k-preserved : goal.loop-k-preserved
loop-k-preserved c =
    excess_more c.sum_theorems.ensures c.args.qp.now c.args.law.now c.args.row c.args.column c.requires.shape c.requires.from_one c.requires.to_last c.loop-k.k c.loop-k.sum _ _ (subst (λ n. c.loop-k.k < n) c.cols-k-end.ensures.value c.loop-k-test.true) c.get-in-loop-k.ensures c.get-in-loop-k-2.ensures c.loop-k.invariant
    _ c.in-Ok.ensures.value c.in-Ok.ensures.wide

pub returns-in-Err-clause-wide : goal.returns-in-Err-clause-wide
returns-in-Err-clause-wide c =
    excess_wide c.sum_theorems.ensures c.args.qp.now c.args.law.now c.args.row c.args.column c.requires.shape c.requires.from_one c.requires.to_last c.loop-k.k c.loop-k.sum _ _ (subst (λ n. c.loop-k.k < n) c.cols-k-end.ensures.value c.loop-k-test.true) c.get-in-loop-k.ensures c.get-in-loop-k-2.ensures c.loop-k.invariant
    c.requires.outside c.in-Err.ensures.wide

pub returns-clause-value : goal.returns-clause-value
returns-clause-value c =
    excess_value c.sum_theorems.ensures c.args.qp.now c.args.law.now c.args.row c.args.column c.requires.shape c.requires.from_one c.requires.to_last c.loop-k.k c.loop-k.sum (subst (λ n. n ≤ c.loop-k.k) c.cols-k-end.ensures.value c.loop-k-test.false) c.loop-k.invariant c.requires.column
