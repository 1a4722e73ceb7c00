use Rattle.std.proofs.Common.{length, map, refl, All, ap, sym, ◌∙◌}
use Rattle.mpc_recur.specs.Forms.{substituted, SubstitutedFits}
use Rattle.mpc_controller.specs.Ways.{way_rows}
use Rattle.mpc_recur.specs.Targets.{with_rows}
use Rattle.mpc_recur.proofs.TargetLemmas.{found_there, found_with}
use Rattle.mpc_recur.proofs.targets.rule_out_leaf.Goals as goal

pub rule_out-requires : goal.rule_out-requires
rule_out-requires c = c.in-Ok.ensures.met.width ∙ sym c.requires.width

pub returns-in-Ok-clause-found : goal.returns-in-Ok-clause-found
returns-in-Ok-clause-found c =
    let forms = c.args.met.now.forms.items in
    let n = length forms in
    let more = map (substituted n forms) (way_rows c.args.tree.now c.args.way.now) in
    found_with (All (SubstitutedFits n forms) (way_rows c.args.tree.now c.args.way.now)) (with_rows c.args.base.now more) c.args.one c.in-Ok.ensures.wide c.rule_out.result
    (found_there c.rule_out.result _ _ c.args.one (ap (with_rows c.args.base.now) c.in-Ok.ensures.met.rows) c.rule_out.ensures)

pub returns-in-Err-TooWide-clause-found : goal.returns-in-Err-TooWide-clause-found
returns-in-Err-TooWide-clause-found c = (refl, λ f. (rw c.in-Err-TooWide.field-0-is at c.in-Err-TooWide.ensures.wide) f.rows_fit)
