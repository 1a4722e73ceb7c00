use Rattle.std.proofs.Common.{◌∙◌, sym, ap, ◌++◌, ◌∷◌, []}
use Rattle.mpc_condense.proofs.Condensing.{counts_more}
use Rattle.mpc_condense.proofs.programs.counts.Goals as goal

pub loop-i-preserved : goal.loop-i-preserved
loop-i-preserved c = c.in_ok-push.ensures.ok ∙ ap (λ xs. xs ++ c.at.result.now.count ∷ []) c.loop-i.invariant ∙ sym (counts_more c.args.grid.now c.loop-i.i c.at.result.now c.at.ensures)
