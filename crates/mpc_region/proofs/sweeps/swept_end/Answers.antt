use Rattle.std.proofs.Common.{◌<◌, get_or, subst, arith}
use Rattle.mpc_region.specs.Sweeps.{rights, IsTableOf}
use Rattle.mpc_region.specs.SweptSets.{IsSweptEnd}
use Rattle.mpc_region.proofs.SweptTables.{shows_none}
use Rattle.mpc_region.proofs.SweptLaws.{law_shown}
use Rattle.mpc_region.proofs.sweeps.swept_end.Goals as goal

pub returns-then-size-eq0-clause-end : goal.returns-then-size-eq0-clause-end
returns-then-size-eq0-clause-end c =
    let some : 0 < c.turn_to.new.sweeps.count = omega arith in
    let shown : IsTableOf c.args.qp.now c.args.set (rights c.args.qp.now) (get_or c.turn_to.new.sweeps.tables.items 0 c.turn_to.new.sweeps.last) =
    shows_none c.args.qp.now c.turn_to.new.sweeps.set c.turn_to.new.sweeps.count c.turn_to.new.sweeps.tables.items c.turn_to.ensures.sweeps c.args.set some (omega arith) c.turn_to.new.sweeps.last in
    law_shown c.args.qp.now c.args.set c.requires.set_of_rows c.sweep_theorems.ensures.solved shown.pivots shown.fits c.requires.few

pub returns-clause-end : goal.returns-clause-end
returns-clause-end c = subst (λ s. IsSweptEnd c.args.qp.now s c.last_end.result) c.turn_to.ensures.set c.last_end.ensures
