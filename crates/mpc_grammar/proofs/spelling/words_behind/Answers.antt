use Rattle.std.proofs.Common.{Some, None}
use Rattle.std.proofs.lemmas.Bool.Decides.{Decides-eqb}
use Rattle.std.proofs.lemmas.Slice.Eq.{strip_prefix_is}
use Rattle.mpc_words.specs.Words.{behind_blanks}
use Rattle.mpc_grammar.proofs.SpellingLemmas.{name_alone, no_blank}
use Rattle.mpc_grammar.proofs.spelling.words_behind.Goals as goal

pub returns-in_default : goal.returns-in_default
returns-in_default c = λ words. strip_prefix_is Decides-eqb c.args.text.now c.args.name.now None c.in_default.ensures.cases (behind_blanks words)

pub returns-in-None : goal.returns-in-None
returns-in-None c =
    name_alone c.args.text.now c.args.name.now c.in-Some.rest.now
    (strip_prefix_is Decides-eqb c.args.text.now c.args.name.now (Some c.in-Some.rest) c.in-Some.ensures.cases) c.in-None.ensures.cases

pub returns-then-first-eq32 : goal.returns-then-first-eq32
returns-then-first-eq32 c =
    let text_is = strip_prefix_is Decides-eqb c.args.text.now c.args.name.now (Some c.in-Some.rest) c.in-Some.ensures.cases in
    let rest_is = c.in-Some-split_first.ensures.cases.0 in
    cc

pub returns-else-first-eq32 : goal.returns-else-first-eq32
returns-else-first-eq32 c =
    no_blank c.args.text.now c.args.name.now c.in-Some.rest.now
    (strip_prefix_is Decides-eqb c.args.text.now c.args.name.now (Some c.in-Some.rest) c.in-Some.ensures.cases)
    c.in-Some-split_first.first.now c.in-Some-split_first.words.now c.in-Some-split_first.ensures.cases.0 c.if-first-eq32.false
