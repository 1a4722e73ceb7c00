use Rattle.std.proofs.Common.{◌≡◌, length, subst, arith}
use Rattle.mpc_recur.specs.Forms.{substituted_sides, SidesFit}
use Rattle.mpc_recur.proofs.RowLemmas.{substituted_none, substituted_more}
use Rattle.mpc_recur.proofs.rows.substituted_sides.Goals as goal

pub dot_with_forms-requires-clause-column : goal.dot_with_forms-requires-clause-column
dot_with_forms-requires-clause-column c = λ k d h. let size = c.requires.affine k d h in omega (arith, size, c.loop-j-test.true)

pub loop-j-init : goal.loop-j-init
loop-j-init c = substituted_none c.args.forms.now c.args.coefficients.now _ c.new-sides.ensures

pub loop-j-preserved : goal.loop-j-preserved
loop-j-preserved c =
    substituted_more c.args.forms.now c.args.coefficients.now c.loop-j.sides c.push.new.self c.loop-j.j c.in-Ok.x c.loop-j.invariant c.in_ok-push-in-Ok.ensures.ok c.in-Ok.ensures.value c.in-Ok.ensures.wide

pub returns-in-Err-clause-wide : goal.returns-in-Err-clause-wide
returns-in-Err-clause-wide c = λ f. c.in-Err.ensures.wide (f c.loop-j.j c.loop-j-test.true)

pub returns-clause-value : goal.returns-clause-value
returns-clause-value c =
    let over : c.loop-j.j ≡ length c.args.forms.now = omega (arith, c.loop-j-test.false, c.loop-j.auto.j-end) in
    subst (λ n. c.loop-j.sides ≡ substituted_sides n c.args.forms.now c.args.coefficients.now) over c.loop-j.invariant.entries

pub returns-clause-wide : goal.returns-clause-wide
returns-clause-wide c =
    let over : c.loop-j.j ≡ length c.args.forms.now = omega (arith, c.loop-j-test.false, c.loop-j.auto.j-end) in
    subst (λ n. SidesFit n c.args.forms.now c.args.coefficients.now) over c.loop-j.invariant.fits
