use Rattle.mpc_region.specs.Sweeps.{swept_law}
use Rattle.mpc_region.proofs.rows.law_of_table.Goals as goal

pub returns : goal.returns
unfolding swept_law
returns c = λ i. record { set = c.args.set; moves = c.in_ok-table_moves.ensures i; mults = c.in_ok-table_mults.ensures i }
