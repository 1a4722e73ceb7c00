use Rattle.std.proofs.Common.{rules, subst}
use Rattle.mpc_wholes.specs.Wholes.{AreOver}
use Rattle.mpc_wholes.proofs.WholeDots.{rows_more}
use Rattle.mpc_wholes.proofs.numerators.rows_over.Goals as goal

pub loop-i-preserved : goal.loop-i-preserved
loop-i-preserved c = record {
  size = search rules;
  at = rows_more c.args.matrix.now c.args.den c.args.limit c.loop-i.i c.loop-i.rows.items c.push.new.self.items c.in_ok-row.row (search rules) c.loop-i.invariant.size
      (subst (λ xs. AreOver xs c.args.den c.args.limit c.in_ok-row.row) c.row.ensures c.in_ok-row.ensures) c.loop-i.invariant.at;
}
