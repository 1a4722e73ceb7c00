use Rattle.std.proofs.Common.{refl, ◌∙◌, ◌<◌, length, arith}
use Rattle.mpc_tree.proofs.CertLists.{false_true, cert_grows, more_of_zero, more_of_nonzero}
use Rattle.mpc_tree.proofs.certs.cert_of.Goals as goal
use Rattle.mpc_tree.proofs.certs.cert_of.Goals.{then-not-is_zero+in_ok-push, else-not-is_zero}

pub push-requires : goal.push-requires
push-requires c = cert_grows c.args.multipliers.now c.loop-index.index c.at-multiplier.result.now (omega arith) c.at-multiplier.ensures c.loop-index.cert c.loop-index.invariant (λ z. false_true (c.if-not-is_zero.ensures.value.1 z))

pub loop-index-preserved : goal.loop-index-preserved
loop-index-preserved c =
    let within : c.loop-index.index < length c.args.multipliers.now = omega arith in
    elim c.if-not-is_zero.branch [
      | then-not-is_zero+in_ok-push w ↦ w.cert-is ∙ more_of_nonzero c.args.multipliers.now c.loop-index.index c.at-multiplier.result.now within c.at-multiplier.ensures c.loop-index.cert w.push.new.self c.loop-index.invariant (λ z. false_true (w.if-not-is_zero.ensures.value.1 z)) w.in_ok-push.ensures.ok
      | else-not-is_zero w ↦ w.cert-is ∙ more_of_zero c.args.multipliers.now c.loop-index.index c.at-multiplier.result.now within c.at-multiplier.ensures c.loop-index.cert c.loop-index.invariant (w.if-not-is_zero.ensures.value.0 refl)
    ]
