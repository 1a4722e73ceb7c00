use Rattle.std.proofs.Common.{◌≡◌}
use Rattle.std.specs.Prelude.{◌||◌}
use Rattle.mpc_workers.proofs.Joins.{one_back, or_then, or_else}
use Rattle.mpc_workers.proofs.joining.join_post.Goals as goal
use Rattle.mpc_workers.proofs.joining.join_post.Goals.{then-first, else-first, then-first-2, else-first-2}

pub returns : goal.returns
returns c =
    let gave : c.if-first.first ≡ (c.args.first.now.gave_up || c.args.post.gave_up) = elim c.if-first.branch [ then-first w ↦ or_then _ _ _ w.if-first.true w.first-is | else-first w ↦ or_else _ _ _ w.if-first.false w.first-is ] in
    let saw : c.if-first-2.first ≡ (c.args.first.now.saw_end || c.args.post.saw_end) = elim c.if-first-2.branch [ then-first-2 w ↦ or_then _ _ _ w.if-first-2.true w.first-is | else-first-2 w ↦ or_else _ _ _ w.if-first-2.false w.first-is ] in
    one_back c.args.turn.now c.args._qp.now c.args._workers c.args._worker c.args.first.now _ c.args.post c.requires.worker c.requires.post c.requires.first c.join_pass.ensures.joined c.facts.ensures c.join_pass.ensures.seen.0 c.join_pass.ensures.seen.1 gave saw
