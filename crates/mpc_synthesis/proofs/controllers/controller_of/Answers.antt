use Rattle.mpc_synthesis.proofs.ControllerLemmas.{has_table, compiled_sealed, controlled, wide_checked}
use Rattle.mpc_synthesis.proofs.controllers.controller_of.Goals as goal

pub sealed-requires-clause-table : goal.sealed-requires-clause-table
sealed-requires-clause-table g c = has_table c.args.plant c.args.registry c.in-Ok.table c.requires c.in-Ok.ensures

pub accepted-requires-clause-compiled : goal.accepted-requires-clause-compiled
accepted-requires-clause-compiled g c = compiled_sealed c.args.plant c.in-Ok-sealed.parts (c.in-Ok.table.program, c.in-Ok-sealed.ensures.parts)

pub returns-clause-controller : goal.returns-clause-controller
returns-clause-controller g c = controlled c.args.plant c.in-Ok-sealed.parts c.accepted.result (c.in-Ok.table.program, c.in-Ok-sealed.ensures.parts) c.accepted.ensures.same c.accepted.ensures.accepted

pub returns-clause-refused : goal.returns-clause-refused
returns-clause-refused g c = wide_checked c.args.plant c.in-Ok-sealed.parts c.accepted.result (c.in-Ok.table.program, c.in-Ok-sealed.ensures.parts) c.accepted.ensures.refused
