use Rattle.std.proofs.Common.{◌∙◌, ◌<◌, ◌+◌, sym, ap, arith, cond, pos, negsuc, neg_ℤ}
use Rattle.mpc_exact.specs.Rational.{int}
use Rattle.mpc_scaled.specs.Scaled.{scale_at}
use Rattle.mpc_runs.proofs.LeftSides.{bound-second}
use Rattle.mpc_whole.proofs.WholeChanges.{strict_over}
use Rattle.mpc_runs.proofs.WholeWidths.{read_small}
use Rattle.mpc_runs.proofs.WholeSums.{zero_over}
use Rattle.mpc_whole.proofs.whole_values.step_of.Goals as goal
use Rattle.mpc_whole.proofs.whole_values.step_of.Goals.{Start}

scale : (c : Start) → 0 < scale_at c.args.scales.now (c.args.system.now.width + c.args.side)
scale c = c.requires.scales.some (c.args.system.now.width + c.args.side) (let h = c.requires.side in omega arith)

pub returns-then-is_strict-clause-value : goal.returns-then-is_strict-clause-value
returns-then-is_strict-clause-value c =
    let at = goal.at.returns-then-is_strict-clause-value c in
    bound-second c.args.system.now c.args.side ∙ ap (λ t. cond t (int (negsuc 0)) (int (pos 0))) (sym c.is_strict.ensures ∙ c.if-is_strict.true)
    ∙ strict_over _ _ (scale at.Start)
    (read_small _ (let k = c.minus.ensures.small in omega arith) ∙ c.minus.ensures.value ∙ ap (λ w. neg_ℤ (pos (scale_at c.args.scales.now (w + c.args.side)))) c.unknowns.ensures)

pub returns-clause-value : goal.returns-clause-value
returns-clause-value c =
    let at = goal.at.returns-clause-value c in
    bound-second c.args.system.now c.args.side ∙ ap (λ t. cond t (int (negsuc 0)) (int (pos 0))) (sym c.is_strict.ensures ∙ c.if-is_strict.false)
    ∙ sym (zero_over _ (scale at.Start))
