use Rattle.std.proofs.Common.{◌<◌, ◌^◌, ◌∙◌, ap, get_or, map, take, negsuc, unsigned_abs, pos, arith}
use Rattle.std.proofs.lemmas.List.Elements.{All-get_or}
use Rattle.mpc_exact.specs.Rational.{int, neg_ℚ}
use Rattle.mpc_space.specs.Vector.{vec_scale}
use Rattle.mpc_space.proofs.Words.{read_back}
use Rattle.mpc_systems.proofs.RowWriting.{pushed, negated_more}
use Rattle.mpc_systems.proofs.entries.push_negated_wholes.Goals as goal

pub loop-z-preserved : goal.loop-z-preserved
loop-z-preserved c =
    let small = All-get_or (λ z. unsigned_abs z < 2 ^ 127) c.args.numbers.now c.loop-z.z-index (pos 0) (omega arith) c.requires in
    pushed c.args.out.now c.loop-z.out c.push.new.self (vec_scale (int (negsuc 0)) (map int (take c.loop-z.z-index c.args.numbers.now))) _ c.neg.result c.loop-z.invariant c.in_ok-push.ensures.ok
    (negated_more c.args.numbers.now c.loop-z.z-index (pos 0) c.neg.result (omega arith) (c.neg.ensures ∙ ap neg_ℚ c.whole.ensures ∙ ap (λ z. neg_ℚ (int z)) (read_back (get_or c.args.numbers.now c.loop-z.z-index (pos 0)) small)))
