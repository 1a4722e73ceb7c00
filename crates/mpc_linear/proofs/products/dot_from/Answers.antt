use Rattle.std.proofs.Common.{◌<◌, subst}
use Rattle.mpc_linear.proofs.DotLemmas.{goes_none, goes_more, goes_wide, goes_value, goes_fits}
use Rattle.mpc_linear.proofs.products.dot_from.Goals as goal

pub loop-k-init : goal.loop-k-init
loop-k-init c = goes_none _ _ _

pub loop-k-preserved : goal.loop-k-preserved
loop-k-preserved c =
    goes_more _ _ _ _ _ _ _ c.loop-k-test.true (subst (λ n. c.loop-k.k < n) c.requires c.loop-k-test.true) c.index-left-k.is c.index-right-k.is c.loop-k.invariant
    _ c.in-Ok.ensures.value c.in-Ok.ensures.wide

pub returns-in-Err-clause-wide : goal.returns-in-Err-clause-wide
returns-in-Err-clause-wide c =
    goes_wide _ _ _ _ _ _ _ c.loop-k-test.true (subst (λ n. c.loop-k.k < n) c.requires c.loop-k-test.true) c.index-left-k.is c.index-right-k.is c.loop-k.invariant
    c.in-Err.ensures.wide

pub returns-clause-value : goal.returns-clause-value
returns-clause-value c = goes_value _ _ _ _ _ c.loop-k-test.false c.loop-k.invariant

pub returns-clause-wide : goal.returns-clause-wide
returns-clause-wide c = goes_fits _ _ _ _ _ c.loop-k-test.false c.loop-k.invariant
