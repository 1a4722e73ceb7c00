use Rattle.std.proofs.Common.{[], subst, IfSome}
use Rattle.mpc_space.specs.Matrix.{height, entry}
use Rattle.mpc_sweep.specs.Numbers.{IsSwept}
use Rattle.mpc_region.proofs.SweptTables.{read_table}
use Rattle.mpc_region.proofs.sweeps.first_table.Goals as goal

pub swept_at_unknowns-requires : goal.swept_at_unknowns-requires
swept_at_unknowns-requires c =
    read_table c.args.qp.now c.in_ok-table.table c.in-Some.whole c.in_ok-table.ensures
    (subst (λ o. IfSome o (IsSwept (entry c.in_ok-table.table) [] (height c.in_ok-table.table) c.in_ok-table.table.columns 0)) c.in-Some.is c.in_ok-whole.ensures)
