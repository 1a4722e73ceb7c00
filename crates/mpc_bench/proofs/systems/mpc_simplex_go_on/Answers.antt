use Rattle.std.proofs.Common.{◌≤◌, ◌<◌, subst, arith}
use Rattle.mpc_rows.specs.LinearSystem.{height}
use Rattle.mpc_bench.specs.Courses.{IfLost}
use Rattle.mpc_bench.proofs.GoingOn.{sent_height, kept_point, kept_none, kept_fits}
use Rattle.mpc_bench.proofs.systems.mpc_simplex_go_on.Goals as goal

pub go_on-requires : goal.go_on-requires
go_on-requires c =
    let h = sent_height c.args.width c.args.coefficients.now c.args.sides.now c.in-Ok.system c.in-Ok.ensures.value in
    let k = c.if-sides-first.false in
    omega arith

pub returns-in-Ok-Lost-clause-not_before : goal.returns-in-Ok-Lost-clause-not_before
returns-in-Ok-Lost-clause-not_before c = λ _. subst (λ f. IfLost f (λ n. c.args.first ≤ n)) c.in-Ok-Lost.field-0-is c.in-Ok-Lost.ensures.not_before

pub returns-in-Ok-Lost-clause-some_left : goal.returns-in-Ok-Lost-clause-some_left
returns-in-Ok-Lost-clause-some_left c =
    let h = sent_height c.args.width c.args.coefficients.now c.args.sides.now c.in-Ok.system c.in-Ok.ensures.value in
    λ _. subst (λ m. c.in-Ok-Lost.count < m) h (subst (λ f. IfLost f (λ n. n < height c.in-Ok.system)) c.in-Ok-Lost.field-0-is c.in-Ok-Lost.ensures.some_left)

pub returns-then-has_point-clause-has_point : goal.returns-then-has_point-clause-has_point
returns-then-has_point-clause-has_point c =
    λ _. kept_point _ c.in-Ok.system c.in-Ok.ensures.value c.in-Ok-Kept.field-0 c.in-Ok-Kept.has_point c.in-Ok-Kept.field-0-is c.in-Ok-Kept.ensures.answer c.if-has_point.true

pub returns-then-has_point-clause-fits : goal.returns-then-has_point-clause-fits
returns-then-has_point-clause-fits c =
    λ _. kept_fits _ c.in-Ok.system c.in-Ok.ensures.value c.in-Ok-Kept.field-0 c.in-Ok-Kept.has_point c.in-Ok-Kept.field-0-is c.in-Ok-Kept.ensures.fits

pub returns-in-Ok-Kept-clause-no_point : goal.returns-in-Ok-Kept-clause-no_point
returns-in-Ok-Kept-clause-no_point c =
    λ _. kept_none _ c.in-Ok.system c.in-Ok.ensures.value c.in-Ok-Kept.field-0 c.in-Ok-Kept.has_point c.in-Ok-Kept.field-0-is c.in-Ok-Kept.ensures.answer c.if-has_point.false

pub returns-in-Ok-Kept-clause-fits : goal.returns-in-Ok-Kept-clause-fits
returns-in-Ok-Kept-clause-fits c =
    λ _. kept_fits _ c.in-Ok.system c.in-Ok.ensures.value c.in-Ok-Kept.field-0 c.in-Ok-Kept.has_point c.in-Ok-Kept.field-0-is c.in-Ok-Kept.ensures.fits
