use Rattle.std.proofs.Common.{◌∷◌, [], ◌∙◌, ap, ◌++◌}
use Rattle.mpc_recur.specs.Targets.{with_rows}
use Rattle.mpc_recur.proofs.TargetLemmas.{found_there}
use Rattle.mpc_recur.proofs.targets.rule_out_row.Goals as goal

pub returns : goal.returns
returns c =
    found_there c.rule_out.result _ _ c.args.one (ap (with_rows c.args.base.now) (c.in_ok-push.ensures.rows ∙ ap (λ r. r ++ c.args.row ∷ []) c.in_ok-rows.ensures.rows)) c.rule_out.ensures
