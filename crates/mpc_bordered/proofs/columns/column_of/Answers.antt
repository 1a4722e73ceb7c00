use Rattle.std.proofs.Common.{◌+◌, length, Some, [], ◌∷◌, ap, ◌∙◌}
use Rattle.std.proofs.lemmas.List.{length-append}
use Rattle.mpc_space.specs.Matrix.{entry}
use Rattle.mpc_bordered.proofs.Formed.{formed_first}
use Rattle.mpc_bordered.proofs.Clearing.{entry_added}
use Rattle.mpc_bordered.proofs.columns.column_of.Goals as goal

pub loop-row-preserved : goal.loop-row-preserved
loop-row-preserved c = record {
  size = ap length c.in_ok-push.ensures.items ∙ length-append c.loop-row.column.items (Some c.get-value.result ∷ []) ∙ ap (λ k. k + 1) c.loop-row.invariant.size;
  formed = entry_added (entry c.args.table.now) c.args.at_column c.loop-row.row c.loop-row.column.items c.push.new.self.items c.get-value.result c.in_ok-push.ensures.items c.loop-row.invariant.size
      (formed_first (entry c.args.table.now) c.loop-row.row c.args.at_column c.get-value.result c.get-value.ensures c.num-fits.ensures.fits) c.loop-row.invariant.formed;
}
