use Rattle.mpc_grammar.proofs.line_theorems.word_theorems.Goals as goal

pub returns : goal.returns
returns c = record {
  one_list = c.line_theorems.ensures.one_list;
  one_natural = c.natural_theorems.ensures.one_number;
  natural_word = c.natural_theorems.ensures.word;
  printed = c.natural_theorems.ensures.printed;
  one_integer = c.integer_theorems.ensures.one_number;
  integer_word = c.integer_theorems.ensures.word;
  one_fraction = c.fraction_theorems.ensures.one_number;
  fraction_word = c.fraction_theorems.ensures.word;
}
