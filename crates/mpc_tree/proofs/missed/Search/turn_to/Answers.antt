use Rattle.std.proofs.Common.{sym, ap, take, ◌∙◌}
use Rattle.mpc_tree.proofs.MissedLaws.{missed_turned}
use Rattle.mpc_tree.proofs.missed.Search.turn_to.Goals as goal

pub returns : goal.returns
returns c qp borders kept =
    let alike = ap (take c.shared_rows-shared.result) (sym c.deref.ensures.value) ∙ c.shared_rows-shared.ensures.alike in
    record { missed = missed_turned qp borders c.args.self.now.rows.items c.args.self.now.missed kept.missed c.shared_rows-shared.result c.args.rows.now c.shared_rows-shared.ensures.within.1 alike c.forget.new.self c.forget.ensures; joints = kept.joints }
