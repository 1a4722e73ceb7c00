use Rattle.mpc_frac.specs.Fits.{FitsFrac}
use Rattle.mpc_frac.specs.Text.{text_of as fraction_text}
use Rattle.mpc_grammar.proofs.SpellingLemmas.{one_list_of}
use Rattle.mpc_grammar.proofs.line_theorems.one_fractions.Goals as goal

pub returns : goal.returns
returns c = λ name xs ys. one_list_of fraction_text FitsFrac c.fraction_theorems.ensures.word c.line_theorems.ensures.parts c.fraction_theorems.ensures.one_number name xs ys
