use Rattle.std.proofs.Common.{◌≡◌, ◌++◌, ◌∷◌, [], map, ap, ◌∙◌, arith, rules}
use Rattle.std.specs.List.{range_with_len}
use Rattle.mpc_recur.specs.Forms.{next_form}
use Rattle.mpc_recur.proofs.FormLemmas.{forms_none, forms_more, wide_weaker}
use Rattle.mpc_recur.proofs.forms.next_forms.Goals as goal

pub loop-index-init : goal.loop-index-init
loop-index-init c = forms_none c.args.plant.now c.args.law.now _ c.new-forms.ensures.items

pub loop-index-preserved : goal.loop-index-preserved
loop-index-preserved c =
    let pushed : c.push.new.self.items ≡ c.loop-index.forms.items ++ c.in-Ok.form ∷ [] = search rules in
    forms_more c.args.plant.now c.args.law.now c.loop-index.index c.loop-index.forms.items c.push.new.self.items c.in-Ok.form c.loop-index.invariant pushed c.in-Ok.ensures.value c.in-Ok.ensures.wide

pub returns-in-Err-clause-wide : goal.returns-in-Err-clause-wide
returns-in-Err-clause-wide c = wide_weaker c.in-Err.error _ _ (λ not_here all. not_here (all c.loop-index.index c.loop-index-test.true)) c.in-Err.ensures.wide

pub returns-clause-value : goal.returns-clause-value
returns-clause-value c =
    let over : c.loop-index.index ≡ c.args.plant.now.n = omega (arith, c.loop-index-test.false, c.loop-index.auto.index-end) in
    c.loop-index.invariant.entries ∙ ap (λ n. map (next_form c.args.plant.now c.args.law.now) (range_with_len 0 n)) over

pub returns-clause-wide : goal.returns-clause-wide
returns-clause-wide c = λ i h. c.loop-index.invariant.fits i (omega (arith, h, c.loop-index-test.false))
