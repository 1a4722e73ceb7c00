use Rattle.std.proofs.Common.{◌≡◌, ◌+◌, take, sym, ◌∙◌, ap, arith}
use Rattle.std.proofs.lemmas.List.{take_all}
use Rattle.mpc_exact.specs.Gcd.{lcm}
use Rattle.mpc_exact.specs.Denominator.{common_denom}
use Rattle.mpc_exact.proofs.Denominator.{common_denom-nil}
use Rattle.mpc_block.proofs.FormLemmas.{prefix_below, next_denom}
use Rattle.mpc_block.proofs.forms.denominator.Goals as goal

pub loop-fraction-init : goal.loop-fraction-init
loop-fraction-init c = sym common_denom-nil

pub least_multiple-all-requires-clause-small : goal.least_multiple-all-requires-clause-small
least_multiple-all-requires-clause-small c =
    let next : lcm c.loop-fraction.all c.denominator_of.result ≡ common_denom (take (c.loop-fraction.fraction-index + 1) c.args.form.now) =
    next_denom c.args.form.now c.loop-fraction.fraction-index c.loop-fraction.all _ _ c.loop-fraction-test.true c.loop-fraction.invariant c.fraction-item.is c.denominator_of.ensures.value
    in
    omega (arith, next, prefix_below c.args.form.now (c.loop-fraction.fraction-index + 1), c.requires)

pub loop-fraction-preserved : goal.loop-fraction-preserved
loop-fraction-preserved c = c.least_multiple-all.ensures ∙ next_denom c.args.form.now c.loop-fraction.fraction-index c.loop-fraction.all _ _ c.loop-fraction-test.true c.loop-fraction.invariant c.fraction-item.is c.denominator_of.ensures.value

pub returns : goal.returns
returns c = c.loop-fraction.invariant ∙ ap common_denom (take_all c.loop-fraction.fraction-index c.args.form.now c.loop-fraction-test.false)
