use Rattle.mpc_rows.proofs.SumLemmas.{sum_more, sum_wide, sum_value}
use Rattle.mpc_space.specs.Vector.{coordinate}
use Rattle.mpc_rows.specs.declared.systems.Row.{Row}
use Rattle.mpc_rows.proofs.refuting.column_sum.Goals as goal

pub returns-in-Err-clause-wide : goal.returns-in-Err-clause-wide
returns-in-Err-clause-wide c =
    sum_wide c.sum_theorems.ensures _ _ _ _ (λ (r : Row). coordinate r.a c.args.unknown) _ _ c.system.view_is c.requires.lengths c.loop-i.invariant
    _ c.loop-i-test.true c.len-i-end.ensures _ _ _ c.at.ensures c.at-row.ensures c.at-in-loop-i.ensures c.in-Err.ensures.wide

pub loop-i-preserved : goal.loop-i-preserved
loop-i-preserved c =
    sum_more c.sum_theorems.ensures _ _ _ _ (λ (r : Row). coordinate r.a c.args.unknown) _ _ c.system.view_is c.requires.lengths c.loop-i.invariant
    _ c.loop-i-test.true c.len-i-end.ensures _ _ _ c.at.ensures c.at-row.ensures c.at-in-loop-i.ensures _ c.in-Ok.ensures.value c.in-Ok.ensures.wide

pub returns-clause-value : goal.returns-clause-value
returns-clause-value c =
    sum_value c.sum_theorems.ensures _ _ _ _ (λ (r : Row). coordinate r.a c.args.unknown) _ _ c.system.view_is c.requires.lengths c.loop-i.invariant _ c.loop-i-test.false c.len-i-end.ensures
