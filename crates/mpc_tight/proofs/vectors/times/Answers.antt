use Rattle.mpc_space.specs.Vector.{column, dot}
use Rattle.mpc_space.proofs.Outcomes.{below_next}
use Rattle.mpc_linear.specs.Dot.{DotFits}
use Rattle.mpc_tight.proofs.Products.{listed_more}
use Rattle.mpc_tight.proofs.vectors.times.Goals as goal

pub loop-at_column-preserved : goal.loop-at_column-preserved
loop-at_column-preserved c = record {
  items = listed_more (λ i. dot c.args.row.now (column c.args.matrix.now.rows i)) c.loop-at_column.at_column c.loop-at_column.product c.push.new.self c.in_ok-value.value c.loop-at_column.invariant.items c.in_ok-push.ensures.ok c.in_ok-value.ensures.value;
  fits = below_next (λ i. DotFits c.args.row.now (column c.args.matrix.now.rows i)) c.loop-at_column.at_column c.loop-at_column.invariant.fits c.in_ok-value.ensures.wide;
}
