use Rattle.std.proofs.Common.{Ok, None}
use Rattle.mpc_check.proofs.SideLemmas.{answers_as_one, passed_over, first_at, none_of}
use Rattle.mpc_check.proofs.trees.first_answer.Goals as goal

pub returns-then-not-is_met : goal.returns-then-not-is_met
returns-then-not-is_met c =
    answers_as_one c.args.answers.now c.answer-item.result (first_at c.args.answers.now c.loop-answer.answer-index c.answer-item.result c.loop-answer-test.true c.answer-item.is (λ none. let yes = c.is_met.ensures.1 none in absurd cc) c.loop-answer.invariant)

pub loop-answer-preserved : goal.loop-answer-preserved
loop-answer-preserved c = passed_over c.args.answers.now c.loop-answer.answer-index c.answer-item.result c.loop-answer-test.true c.answer-item.is (c.is_met.ensures.0 c.if-not-is_met.false) c.loop-answer.invariant

pub returns : goal.returns
returns c = answers_as_one c.args.answers.now (Ok None) (none_of c.args.answers.now c.loop-answer.answer-index c.loop-answer-test.false c.loop-answer.invariant)
