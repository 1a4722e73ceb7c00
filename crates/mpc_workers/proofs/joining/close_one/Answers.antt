use Rattle.mpc_workers.proofs.Lasting.{left_of_all}
use Rattle.mpc_workers.proofs.joining.close_one.Goals as goal

pub settle-requires : goal.settle-requires
settle-requires c =
    left_of_all c.history_theorems.ensures.ended_is_whole c.legal_theorems.ensures.appended c.args.turn c.args.qp.now c.args.workers c.args.first.pass c.close-registry.result c.requires.joins (c.requires.kept c.if-gave_up.false) (c.requires.seen c.if-not-saw_end.false) c.close-registry.ensures
