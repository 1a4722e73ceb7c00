use Rattle.std.proofs.Common.{sym, subst, arith, ◌<◌, ◌^◌, unsigned_abs}
use Rattle.mpc_table.proofs.WholeNumbers.{mul_fits, add_fits, affine_read, affine_small}
use Rattle.mpc_table.proofs.values.add_term.Goals as goal

pub overflow_mul-result : goal.overflow_mul-result
overflow_mul-result c = mul_fits c.args.sum c.args.slope c.from.result c.args.count c.ranges.sum c.ranges.slope c.from.ensures (omega arith) c.requires

pub overflow_add-result : goal.overflow_add-result
overflow_add-result c = add_fits c.args.sum c.args.slope c.from.result c.args.count c.ranges.sum c.ranges.slope c.from.ensures (omega arith) c.requires

pub returns : goal.returns
returns c =
    let is = affine_read c.args.sum c.args.slope c.from.result c.args.count c.ranges.sum c.ranges.slope c.from.ensures (omega arith) c.requires in
    record { value = is; fits = subst (λ z. unsigned_abs z < 2 ^ 127) (sym is) (affine_small c.args.sum c.args.slope c.args.count c.requires) }
