use Rattle.std.proofs.Common.{take, negsuc, ◌++◌, ◌∷◌, [], ◌∙◌, ap, sym, arith}
use Rattle.mpc_exact.specs.Rational.{int}
use Rattle.mpc_space.specs.Vector.{vec_scale}
use Rattle.mpc_systems.proofs.RowWriting.{negatives_more, pushed}
use Rattle.mpc_systems.proofs.entries.push_negatives.Goals as goal

pub loop-x-preserved : goal.loop-x-preserved
loop-x-preserved c =
    pushed c.args.out.now c.loop-x.out c.push.new.self (vec_scale (int (negsuc 0)) (take c.loop-x.x-index c.args.entries.now)) _ c.neg.result c.loop-x.invariant c.in_ok-push.ensures.ok
    (negatives_more c.args.entries.now c.loop-x.x-index c.x-item.result (omega arith) c.x-item.is ∙ ap (λ y. vec_scale (int (negsuc 0)) (take c.loop-x.x-index c.args.entries.now) ++ y ∷ []) (sym c.neg.ensures))
