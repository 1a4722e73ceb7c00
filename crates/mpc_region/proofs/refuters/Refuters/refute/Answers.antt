use Rattle.mpc_region.proofs.RefutedLaws.{no_region}
use Rattle.mpc_region.proofs.SmallRegions.{region_fits}
use Rattle.mpc_region.proofs.SweptLawRows.{law_fits}
use Rattle.mpc_region.proofs.refuters.Refuters.refute.Goals as goal

pub returns-then-refutes-clause-empty : goal.returns-then-refutes-clause-empty
returns-then-refutes-clause-empty c = λ _.
    no_region c.sweep_theorems.ensures.reduced c.over_theorems.ensures c.args.qp.now c.args.set c.args.table.now c.requires.set_of_rows c.requires.table c.region_theorems.ensures c.requires.law
    (c.refutes.ensures c.if-refutes.true)

pub returns-then-refutes-clause-rows_fit : goal.returns-then-refutes-clause-rows_fit
returns-then-refutes-clause-rows_fit c = λ _.
    law_fits c.sweep_theorems.ensures.reduced c.over_theorems.ensures c.args.qp.now c.args.set c.args.table.now c.requires.set_of_rows c.requires.table

pub returns-then-refutes-clause-region_fits : goal.returns-then-refutes-clause-region_fits
returns-then-refutes-clause-region_fits c = λ _.
    region_fits c.sweep_theorems.ensures.reduced c.over_theorems.ensures c.law_theorems.ensures c.args.qp.now c.args.set c.args.table.now c.requires.set_of_rows c.requires.table
    (c.has_room.ensures c.if-not-has_room.false)
