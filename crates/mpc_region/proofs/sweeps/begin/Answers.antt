use Rattle.std.proofs.Common.{subst, IfSome}
use Rattle.std.specs.List.{range_with_len}
use Rattle.mpc_space.specs.Matrix.{height}
use Rattle.mpc_sweep.specs.Numbers.{IsSwept}
use Rattle.mpc_region.specs.Shared.{shared_entry}
use Rattle.mpc_region.specs.Sweeps.{rights, all_columns}
use Rattle.mpc_region.proofs.sweeps.begin.Goals as goal

pub sweeps_from-requires : goal.sweeps_from-requires
sweeps_from-requires c =
    subst (λ o. IfSome o (IsSwept (shared_entry c.args.qp.now) (range_with_len 0 (height c.args.qp.now.h)) (rights c.args.qp.now) (all_columns c.args.qp.now) (height c.args.qp.now.h))) c.in-Some.is c.in_ok-first.ensures

pub returns-in-None : goal.returns-in-None
returns-in-None c = c.no_sweeps.ensures c.args.qp.now
