use Rattle.std.proofs.Common.{subst, refl}
use Rattle.std.specs.Prelude.{All}
use Rattle.std.proofs.lemmas.List.{take_all}
use Rattle.std.proofs.lemmas.List.Elements.{All-more}
use Rattle.mpc_controller.specs.Bounds.{FormFits}
use Rattle.mpc_grammar.specs.LawGrammar.{form_named}
use Rattle.mpc_law_lines.proofs.named_laws.named_fit.Goals as goal

pub loop-number-preserved : goal.loop-number-preserved
loop-number-preserved c =
    All-more (λ k. FormFits c.args.counts.now (form_named c.args.forms.now k)) c.args.numbers.now c.loop-number.number-index 0 c.loop-number-test.true c.loop-number.invariant
    (subst (FormFits c.args.counts.now) c.at.ensures (c.in_ok-form_fits.ensures.0 c.if-not-branch.false))

pub returns : goal.returns
returns c = ((λ t. subst (All (λ k. FormFits c.args.counts.now (form_named c.args.forms.now k))) (take_all c.loop-number.number-index c.args.numbers.now c.loop-number-test.false) c.loop-number.invariant), (λ all. refl))
