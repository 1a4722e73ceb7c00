use Rattle.mpc_region.proofs.LawRowLists.{never_wide}
use Rattle.mpc_region.proofs.verdicts.by_rows.Goals as goal

pub unreachable-requires : goal.unreachable-requires
unreachable-requires c = never_wide c.args.qp.now c.args.law _ c.requires.rows_fit (rw c.in-Err-Wide.field-0-is at c.in-Err-Wide.ensures.wide)
