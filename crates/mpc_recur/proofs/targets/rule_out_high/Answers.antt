use Rattle.std.proofs.Common.{◌∷◌, [], ap, length, ◌∙◌, refl}
use Rattle.mpc_rows.specs.declared.systems.Row.{Row}
use Rattle.mpc_recur.specs.Forms.{high_row, HighFits}
use Rattle.mpc_recur.specs.Targets.{with_rows}
use Rattle.mpc_recur.proofs.RowLemmas.{high_size}
use Rattle.mpc_recur.proofs.TargetLemmas.{found_there, found_with}
use Rattle.mpc_recur.proofs.targets.rule_out_high.Goals as goal

pub rule_out_row-requires : goal.rule_out_row-requires
rule_out_row-requires c = ap (λ (r : Row). length r.a) c.in-Ok.ensures.value ∙ high_size c.args.form.now c.args.count c.args.base.now.width c.requires

pub returns-in-Ok : goal.returns-in-Ok
returns-in-Ok c =
    found_with (HighFits c.args.form.now c.args.count) (with_rows c.args.base.now (high_row c.args.form.now c.args.count ∷ [])) c.args.one c.in-Ok.ensures.wide c.rule_out_row.result
    (found_there c.rule_out_row.result _ _ c.args.one (ap (λ r. with_rows c.args.base.now (r ∷ [])) c.in-Ok.ensures.value) c.rule_out_row.ensures)

pub returns-in-Err-TooWide : goal.returns-in-Err-TooWide
returns-in-Err-TooWide c = (refl, λ f. (rw c.in-Err-TooWide.field-0-is at c.in-Err-TooWide.ensures.wide) f.rows_fit)
