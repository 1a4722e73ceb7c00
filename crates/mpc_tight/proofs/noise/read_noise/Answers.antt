use Rattle.std.proofs.Common.{◌≡◌, ◌∙◌, sym, arith, false, eqb, Some}
use Rattle.std.proofs.lemmas.Result.{IfOk-weaker, IfErr-weaker}
use Rattle.std.proofs.lemmas.Bool.Decides.{nat_tests}
use Rattle.mpc_tight.specs.Noise.{noise_of, sized_numbers}
use Rattle.mpc_words.specs.Words.{words_of}
use Rattle.mpc_tight.proofs.NoiseLines.{no_line, words_line, empty_line, no_numbers, some_missing, if_bad_weaker}
use Rattle.mpc_tight.proofs.noise.read_noise.Goals as goal

pub returns-in_default-clause-bad : goal.returns-in_default-clause-bad
returns-in_default-clause-bad c = no_line c.args.bytes.now c.args.states (sym c.in_default.ensures)

pub returns-then-not-is_empty-clause-value : goal.returns-then-not-is_empty-clause-value
returns-then-not-is_empty-clause-value c =
    let e = words_line c.args.bytes.now c.in-Some.line.now c.args.states (sym c.in-Some.ensures) (sym c.is_empty.ensures ∙ c.if-not-is_empty.true) in
    IfOk-weaker c.numbers.result (λ noise. sized_numbers c.args.states (words_of c.in-Some.line.now) ≡ Some noise) (λ noise. noise_of c.args.bytes.now c.args.states ≡ Some noise) (λ noise h. e ∙ h) c.numbers.ensures.value

pub returns-then-not-is_empty-clause-bad : goal.returns-then-not-is_empty-clause-bad
returns-then-not-is_empty-clause-bad c =
    let e = words_line c.args.bytes.now c.in-Some.line.now c.args.states (sym c.in-Some.ensures) (sym c.is_empty.ensures ∙ c.if-not-is_empty.true) in
    IfErr-weaker c.numbers.result _ _ (λ error h. if_bad_weaker error _ _ (λ k. e ∙ k) h) c.numbers.ensures.bad

pub returns-then-states-eq0-clause-value : goal.returns-then-states-eq0-clause-value
returns-then-states-eq0-clause-value c =
    empty_line c.args.bytes.now c.in-Some.line.now c.args.states (sym c.in-Some.ensures) (sym c.is_empty.ensures ∙ c.if-not-is_empty.false) ∙ no_numbers c.args.states c.new.result c.if-states-eq0.true c.new.ensures

pub returns-clause-bad : goal.returns-clause-bad
returns-clause-bad c =
    let other = c.if-states-eq0.false in
    let test : eqb 0 c.args.states ≡ false = grind (arith, nat_tests) in
    empty_line c.args.bytes.now c.in-Some.line.now c.args.states (sym c.in-Some.ensures) (sym c.is_empty.ensures ∙ c.if-not-is_empty.false) ∙ some_missing c.args.states test
