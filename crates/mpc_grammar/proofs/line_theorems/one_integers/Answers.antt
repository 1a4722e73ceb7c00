use Rattle.std.proofs.Common.{arith}
use Rattle.std.specs.Fmt.{signed_decimal}
use Rattle.mpc_grammar.proofs.SpellingLemmas.{IsSmall, small_word, one_list_of}
use Rattle.mpc_grammar.proofs.line_theorems.one_integers.Goals as goal

pub returns : goal.returns
returns c = λ name xs ys.
    one_list_of signed_decimal IsSmall (small_word c.integer_theorems.ensures.word) c.line_theorems.ensures.parts
    (λ y z small_y small_z. c.integer_theorems.ensures.one_number y z (omega arith) (omega arith)) name xs ys
