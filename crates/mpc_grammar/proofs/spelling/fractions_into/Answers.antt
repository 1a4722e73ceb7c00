use Rattle.std.proofs.Common.{sym, subst}
use Rattle.mpc_frac.specs.Fits.{FitsFrac}
use Rattle.mpc_frac.specs.Text.{text_of as fraction_text}
use Rattle.mpc_grammar.proofs.SpellingLemmas.{IsReadTo, start_read, refused, less_left, more_words, all_words}
use Rattle.mpc_grammar.proofs.spelling.fractions_into.Goals as goal

pub loop-rest-init : goal.loop-rest-init
loop-rest-init c =
    let start = start_read fraction_text FitsFrac c.args.name.now c.args.text.now c.in-Some.rest c.in-Some.ensures in
    subst (IsReadTo fraction_text FitsFrac c.args.name.now c.args.text.now c.in-Some.rest) (sym c.requires) start

-- the word is none of these
pub returns-in_default-read_fraction : goal.returns-in_default-read_fraction
returns-in_default-read_fraction c = λ xs are.
    refused fraction_text FitsFrac c.fraction_theorems.ensures.word c.line_theorems.ensures.parts c.line_theorems.ensures.some_words c.args.name.now c.args.text.now c.loop-rest.rest c.loop-rest.fractions c.loop-rest.invariant c.in-Some-rest.words c.split_word.result.0.now c.split_word.result.1 c.in-Some-rest.is c.split_word.ensures.words
    (λ x fits spelled. c.in_default-read_fraction.ensures x (record { spelled = spelled; fits = fits })) xs are.fits are.spelled

pub loop-rest-smaller : goal.loop-rest-smaller
loop-rest-smaller c = less_left c.loop-rest.rest c.split_word.result.1 c.in-Some-rest.words c.in-Some-rest.is c.split_word.ensures.shorter

pub loop-rest-preserved : goal.loop-rest-preserved
loop-rest-preserved c =
    more_words fraction_text FitsFrac c.args.name.now c.args.text.now c.loop-rest.rest c.loop-rest.fractions c.loop-rest.invariant c.in-Some-rest.words c.split_word.result.0.now c.split_word.result.1 c.in-Some-read_fraction.fraction c.push.new.self c.in-Some-rest.is c.split_word.ensures.cut
    c.in-Some-read_fraction.ensures.spelled c.in-Some-read_fraction.ensures.fits c.in_ok-push.ensures.ok

pub returns : goal.returns
returns c = record {
  spelled = all_words fraction_text FitsFrac c.args.name.now c.args.text.now c.loop-rest.rest c.loop-rest.fractions c.loop-rest.invariant c.in_default-rest.is;
  fits = c.loop-rest.invariant.fits;
}
