use Rattle.mpc_region.proofs.SweptTables.{tables_room}
use Rattle.mpc_region.proofs.sweeps.make_room.Goals as goal

pub returns-clause-sweeps : goal.returns-clause-sweeps
returns-clause-sweeps c = tables_room c.args.qp.now c.args.sweeps.now.set c.args.sweeps.now.count c.args.sweeps.now.tables.items c.requires.sweeps c.empty.result c.push.new.self.items c.in-Ok.ensures.items
