use Rattle.std.proofs.Common.{sym, subst}
use Rattle.std.specs.Fmt.{signed_decimal}
use Rattle.mpc_grammar.proofs.SpellingLemmas.{IsReadTo, start_read, refused, less_left, more_words, all_words, IsSmall, small_word, small_same}
use Rattle.mpc_grammar.proofs.spelling.integers_of.Goals as goal

pub loop-rest-init : goal.loop-rest-init
loop-rest-init c =
    let start = start_read signed_decimal IsSmall c.args.name.now c.args.text.now c.in-Some.rest c.in-Some.ensures in
    subst (IsReadTo signed_decimal IsSmall c.args.name.now c.args.text.now c.in-Some.rest) (sym c.new-integers.ensures) start

-- the word is none of these
pub returns-in_default-read_integer : goal.returns-in_default-read_integer
returns-in_default-read_integer c = λ xs are.
    refused signed_decimal IsSmall (small_word c.integer_theorems.ensures.word) c.line_theorems.ensures.parts c.line_theorems.ensures.some_words c.args.name.now c.args.text.now c.loop-rest.rest c.loop-rest.integers c.loop-rest.invariant c.in-Some-rest.words c.split_word.result.0.now c.split_word.result.1 c.in-Some-rest.is c.split_word.ensures.words
    (λ x fits spelled. c.in_default-read_integer.ensures x (record { spelled = spelled; fits = fits })) xs are.small are.spelled

pub loop-rest-smaller : goal.loop-rest-smaller
loop-rest-smaller c = less_left c.loop-rest.rest c.split_word.result.1 c.in-Some-rest.words c.in-Some-rest.is c.split_word.ensures.shorter

pub loop-rest-preserved : goal.loop-rest-preserved
loop-rest-preserved c =
    more_words signed_decimal IsSmall c.args.name.now c.args.text.now c.loop-rest.rest c.loop-rest.integers c.loop-rest.invariant c.in-Some-rest.words c.split_word.result.0.now c.split_word.result.1 c.in-Some-read_integer.integer c.push.new.self c.in-Some-rest.is c.split_word.ensures.cut
    c.in-Some-read_integer.ensures.spelled c.in-Some-read_integer.ensures.fits (small_same c.in-Some-read_integer.integer c.loop-rest.integers c.push.new.self c.in-Some-read_integer.ensures.fits c.in_ok-push.ensures.ok)

pub returns : goal.returns
returns c = record {
  spelled = all_words signed_decimal IsSmall c.args.name.now c.args.text.now c.loop-rest.rest c.loop-rest.integers c.loop-rest.invariant c.in_default-rest.is;
  small = c.loop-rest.invariant.fits;
}
