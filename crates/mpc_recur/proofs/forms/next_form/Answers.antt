use Rattle.std.proofs.Common.{arith}
use Rattle.mpc_recur.proofs.FormLemmas.{form_none, form_more, form_done}
use Rattle.mpc_recur.proofs.forms.next_form.Goals as goal

pub loop-term-init : goal.loop-term-init
loop-term-init c = form_none c.args.plant.now c.args.law.now c.args.index _ c.new-form.ensures

pub loop-term-preserved : goal.loop-term-preserved
loop-term-preserved c = form_more c.args.plant.now c.args.law.now c.args.index c.loop-term.term c.loop-term.form c.push.new.self c.in-Ok.x c.loop-term.invariant c.in_ok-push-in-Ok.ensures.ok c.in-Ok.ensures.value c.in-Ok.ensures.wide

pub returns-in-Err-clause-wide : goal.returns-in-Err-clause-wide
returns-in-Err-clause-wide c = λ f. c.in-Err.ensures.wide (f c.loop-term.term c.loop-term-test.true)

pub returns-clause-value : goal.returns-clause-value
returns-clause-value c = form_done c.args.plant.now c.args.law.now c.args.index c.loop-term.term c.loop-term.form (omega (arith, c.loop-term-test.false, c.loop-term.auto.term-end)) c.loop-term.invariant

pub returns-clause-wide : goal.returns-clause-wide
returns-clause-wide c = λ j h. c.loop-term.invariant.fits j (omega (arith, h, c.loop-term-test.false))
