use Rattle.mpc_grammar.proofs.NumberLines.{one_numeral_line, one_count_line, count_is_numeral}
use Rattle.mpc_grammar.proofs.line_theorems.one_number.Goals as goal

pub returns-clause-numeral : goal.returns-clause-numeral
returns-clause-numeral c = one_numeral_line c.natural_theorems.ensures.one_number

pub returns-clause-count : goal.returns-clause-count
returns-clause-count c = one_count_line c.natural_theorems.ensures.one_number c.natural_theorems.ensures.printed

pub returns-clause-printed : goal.returns-clause-printed
returns-clause-printed c = count_is_numeral c.natural_theorems.ensures.printed
