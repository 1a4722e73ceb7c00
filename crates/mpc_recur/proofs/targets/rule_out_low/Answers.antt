use Rattle.std.proofs.Common.{◌∷◌, [], ap, length, ◌∙◌}
use Rattle.mpc_rows.specs.declared.systems.Row.{Row}
use Rattle.mpc_recur.specs.Targets.{with_rows}
use Rattle.mpc_recur.proofs.RowLemmas.{low_size}
use Rattle.mpc_recur.proofs.TargetLemmas.{found_there}
use Rattle.mpc_recur.proofs.targets.rule_out_low.Goals as goal

pub rule_out_row-requires : goal.rule_out_row-requires
rule_out_row-requires c = ap (λ (r : Row). length r.a) c.in_ok-row.ensures ∙ low_size c.args.form.now c.args.base.now.width c.requires

pub returns : goal.returns
returns c = found_there c.rule_out_row.result _ _ c.args.one (ap (λ r. with_rows c.args.base.now (r ∷ [])) c.in_ok-row.ensures) c.rule_out_row.ensures
