use Rattle.std.proofs.Common.{◌≡◌, ◌++◌, ◌∷◌, [], take, sym, subst, rules, arith}
use Rattle.mpc_controller.specs.Parts.{IsLawFor}
use Rattle.mpc_controller.specs.Bounds.{LawFits, InputsFit}
use Rattle.mpc_table.proofs.ElementLemmas.{all_at}
use Rattle.mpc_table.proofs.TableLemmas.{law_inputs, law_columns}
use Rattle.mpc_table.proofs.SharedFormLemmas.{AreLawsTo, laws_none, laws_next, laws_all}
use Rattle.mpc_table.proofs.forms.law_forms.Goals as goal

pub forms_of-requires-clause-inputs : goal.forms_of-requires-clause-inputs
forms_of-requires-clause-inputs c = law_inputs c.args.plant.now c.at.result.now (all_at (IsLawFor c.args.plant.now) c.args.laws.now c.loop-j.j c.at.result.now c.at.ensures c.requires.shapes)

pub forms_of-requires-clause-columns : goal.forms_of-requires-clause-columns
forms_of-requires-clause-columns c =
    law_columns c.args.plant.now c.at.result.now c.args.counts.now c.requires.counts (all_at (IsLawFor c.args.plant.now) c.args.laws.now c.loop-j.j c.at.result.now c.at.ensures c.requires.shapes)

pub forms_of-requires-clause-fits : goal.forms_of-requires-clause-fits
forms_of-requires-clause-fits c =
    subst (λ counts. InputsFit counts c.at.result.now c.args.plant.now.p) (sym c.requires.counts) (all_at (LawFits c.args.plant.now) c.args.laws.now c.loop-j.j c.at.result.now c.at.ensures c.requires.fits)

pub forms_of-requires-clause-kept : goal.forms_of-requires-clause-kept
forms_of-requires-clause-kept c = c.loop-j.invariant.lines_are

pub loop-j-init : goal.loop-j-init
loop-j-init c =
    let none : c.new-forms.result.items ≡ [] = search rules in
    let first : c.new-all.result.items ≡ [] = search rules in
    subst (λ forms. AreLawsTo c.args.counts.now c.args.plant.now.p (take 0 c.args.laws.now) forms c.new-lines.result c.new-all.result.items) (sym none)
    (subst (AreLawsTo c.args.counts.now c.args.plant.now.p (take 0 c.args.laws.now) [] c.new-lines.result) (sym first) (laws_none c.args.counts.now c.args.plant.now.p c.args.laws.now c.new-lines.result c.new-lines.ensures))

pub loop-j-preserved : goal.loop-j-preserved
loop-j-preserved c =
    let pushed : c.push.new.self.items ≡ c.loop-j.all.items ++ c.in_ok-places.places ∷ [] = search rules in
    laws_next c.args.counts.now c.args.plant.now.p c.args.laws.now c.loop-j.j c.at.result.now _ _ _ _ _ _ _ c.at.ensures pushed c.loop-j.invariant c.in_ok-places.ensures.places

pub returns : goal.returns
returns c = laws_all c.args.counts.now c.args.plant.now.p c.args.laws.now c.loop-j.j c.loop-j.forms.items c.loop-j.lines c.loop-j.all.items c.loop-j.invariant (omega arith)
