use Rattle.std.proofs.Common.{◌≤◌, ◌↔◌, IsTrue, subst, arith}
use Rattle.mpc_rows.specs.LinearSystem.{LinearSystem, height}
use Rattle.mpc_rows.specs.RunWidth.{RunFits}
use Rattle.mpc_simplex.specs.Answer.{HasPoint}
use Rattle.mpc_bench.proofs.GoingOn.{all_rows}
use Rattle.mpc_bench.proofs.going_on.go_on.Goals as goal

pub returns-clause-answer : goal.returns-clause-answer
returns-clause-answer c =
    let far : height c.args.system.now ≤ c.loop-i.i = let h = c.height-i-end.ensures in let k = c.loop-i-test.false in omega arith in
    subst (λ (s : LinearSystem). IsTrue c.has_point.result ↔ HasPoint s) (all_rows c.args.system.now c.loop-i.i far c.loop-i.run c.loop-i.invariant) c.has_point.ensures.answer

pub returns-clause-fits : goal.returns-clause-fits
returns-clause-fits c =
    let far : height c.args.system.now ≤ c.loop-i.i = let h = c.height-i-end.ensures in let k = c.loop-i-test.false in omega arith in
    subst RunFits (all_rows c.args.system.now c.loop-i.i far c.loop-i.run c.loop-i.invariant) c.has_point.ensures.fits
