use Rattle.std.proofs.Common.{refl, arith}
use Rattle.mpc_space.proofs.Entries.{nonneg_by_entries}
use Rattle.mpc_rows.proofs.refuting.are_nonneg.Goals as goal

pub returns : goal.returns
returns c = (λ _. nonneg_by_entries c.args.multipliers.now (λ k h. c.loop-m.invariant k (omega arith)), λ _. refl)
