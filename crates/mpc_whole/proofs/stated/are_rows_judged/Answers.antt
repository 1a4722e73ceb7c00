use Rattle.mpc_whole.proofs.stated.are_rows_judged.Goals as goal

pub is_row_below-requires-clause-numbers : goal.is_row_below-requires-clause-numbers
is_row_below-requires-clause-numbers c = c.requires.numbers

pub is_row_below-requires-clause-here : goal.is_row_below-requires-clause-here
is_row_below-requires-clause-here c = c.requires.here

pub is_row_stated-requires-clause-numbers : goal.is_row_stated-requires-clause-numbers
is_row_stated-requires-clause-numbers c = c.requires.numbers

pub is_row_stated-requires-clause-here : goal.is_row_stated-requires-clause-here
is_row_stated-requires-clause-here c = c.requires.here

pub is_row_stated-requires-clause-by : goal.is_row_stated-requires-clause-by
is_row_stated-requires-clause-by c = c.requires.by

pub is_row_stated-requires-clause-pivot : goal.is_row_stated-requires-clause-pivot
is_row_stated-requires-clause-pivot c = c.requires.pivot

pub is_row_stated-requires-clause-pivot_some : goal.is_row_stated-requires-clause-pivot_some
is_row_stated-requires-clause-pivot_some c = c.requires.pivot_some
