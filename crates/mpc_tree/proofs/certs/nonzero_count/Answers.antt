use Rattle.std.proofs.Common.{refl, ◌∙◌, ◌<◌, length, arith}
use Rattle.mpc_tree.proofs.CertLists.{false_true, count_of_zero, count_of_nonzero}
use Rattle.mpc_tree.proofs.certs.nonzero_count.Goals as goal
use Rattle.mpc_tree.proofs.certs.nonzero_count.Goals.{then-not-is_zero, else-not-is_zero}

pub loop-index-preserved : goal.loop-index-preserved
loop-index-preserved c =
    let within : c.loop-index.index < length c.args.multipliers.now = omega arith in
    elim c.if-not-is_zero.branch [
      | then-not-is_zero w ↦ record {
        is = count_of_nonzero c.args.multipliers.now c.loop-index.index c.at.result.now within c.at.ensures c.loop-index.count c.if-not-is_zero.count c.loop-index.invariant.is (λ z. false_true (w.if-not-is_zero.ensures.value.1 z)) w.count-is;
        within = omega arith;
      }
      | else-not-is_zero w ↦ record {
        is = w.count-is ∙ count_of_zero c.args.multipliers.now c.loop-index.index c.at.result.now within c.at.ensures c.loop-index.count c.loop-index.invariant.is (w.if-not-is_zero.ensures.value.0 refl);
        within = omega arith;
      }
    ]
