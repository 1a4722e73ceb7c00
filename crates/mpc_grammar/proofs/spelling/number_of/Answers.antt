use Rattle.std.proofs.Common.{◌≡◌, ◌∷◌, ◌++◌}
use Rattle.mpc_grammar.specs.Outcomes.{at_some}
use Rattle.mpc_grammar.proofs.SpellingLemmas.{number_read, count_read}
use Rattle.mpc_grammar.proofs.spelling.number_of.Goals as goal

pub returns-in-Some-Some-clause-number : goal.returns-in-Some-Some-clause-number
returns-in-Some-Some-clause-number c = number_read c.args.name.now c.args.text.now c.in-Some-Some.word.now c.read_natural.result (at_some (c.args.text.now ≡ c.args.name.now) (λ rest. c.args.text.now ≡ c.args.name.now ++ 32 ∷ rest.now) c.in-Some-Some.field-0 c.in-Some-Some.word c.in-Some-Some.field-0-is c.in-Some-Some.ensures) c.read_natural.ensures.spelled

pub returns-in-Some-Some-clause-count : goal.returns-in-Some-Some-clause-count
returns-in-Some-Some-clause-count c = count_read c.args.name.now c.args.text.now c.in-Some-Some.word.now c.read_natural.result (at_some (c.args.text.now ≡ c.args.name.now) (λ rest. c.args.text.now ≡ c.args.name.now ++ 32 ∷ rest.now) c.in-Some-Some.field-0 c.in-Some-Some.word c.in-Some-Some.field-0-is c.in-Some-Some.ensures) c.read_natural.ensures.printed
