use Rattle.std.proofs.Common.{◌∙◌, ap, sym, subst, arith, length, Some}
use Rattle.mpc_tight.proofs.NoiseLines.{HasNumbers, numbers_none, begins, behind_some, behind_none, words_more, word_bad, words_many, last_fits, last_other}
use Rattle.mpc_tight.proofs.noise.numbers.Goals as goal

pub words-init : goal.words-init
words-init c = numbers_none c.args.line.now c.new-noise.result c.new-noise.ensures

pub words-preserved : goal.words-preserved
words-preserved c =
    let h = words_more c.args.line.now c.words.rest.now c.split_word.result.0.now c.in-Some-behind.after.now c.words.noise c.in-Some.number c.words.invariant
    (behind_some _ _ c.split_word.result.1 _ c.in-Some-behind.is c.split_word.ensures.words) (sym c.in-Some.ensures.value) c.in-Some.ensures.nonneg in
    subst (HasNumbers c.args.line.now c.in-Some-behind.after.now) (sym c.in_ok-push-in-Some.ensures.ok) h

pub returns-then-len-count-clause-bad : goal.returns-then-len-count-clause-bad
returns-then-len-count-clause-bad c =
    words_many c.args.line.now c.words.rest.now c.split_word.result.0.now c.words.noise c.args.count c.words.invariant (begins (λ behind. behind.now) c.words.rest.now c.split_word.result.0.now c.split_word.result.1 c.split_word.ensures.words)
    (omega (arith, c.len.ensures))

pub returns-in-None-clause-bad : goal.returns-in-None-clause-bad
returns-in-None-clause-bad c =
    word_bad c.args.line.now c.words.rest.now c.split_word.result.0.now c.words.noise c.args.count c.words.invariant (begins (λ behind. behind.now) c.words.rest.now c.split_word.result.0.now c.split_word.result.1 c.split_word.ensures.words)
    (sym c.in-None.ensures.value)

pub returns-then-len-count-2-clause-value : goal.returns-then-len-count-2-clause-value
returns-then-len-count-2-clause-value c =
    last_fits c.args.line.now c.words.rest.now c.split_word.result.0.now c.words.noise c.in-Some.number c.args.count c.words.invariant
    (behind_none _ _ c.split_word.result.1 c.in-None-behind.is c.split_word.ensures.words) (sym c.in-Some.ensures.value)
    (omega (arith, ap length c.in_ok-push-in-Some.ensures.ok, c.len-in-None-behind.ensures, c.if-len-count-2.true)) ∙ ap Some (sym c.in_ok-push-in-Some.ensures.ok)

pub returns-in-None-behind-clause-bad : goal.returns-in-None-behind-clause-bad
returns-in-None-behind-clause-bad c =
    last_other c.args.line.now c.words.rest.now c.split_word.result.0.now c.words.noise c.in-Some.number c.args.count c.words.invariant
    (behind_none _ _ c.split_word.result.1 c.in-None-behind.is c.split_word.ensures.words) (sym c.in-Some.ensures.value)
    (λ e. let other = c.if-len-count-2.false in let is = c.len-in-None-behind.ensures in let long = ap length c.in_ok-push-in-Some.ensures.ok in omega arith)
