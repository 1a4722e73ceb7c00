use Rattle.mpc_region.proofs.examiner.Examiner.once.Goals as goal

pub invariant_of-result : goal.invariant_of-result
invariant_of-result c = (c.no_sweeps.ensures c.args.qp.now, tt, c.in_ok-kept.ensures)
