use Rattle.mpc_beginnings.proofs.kept.multipliers_of.Goals as goal

pub put_multipliers-requires-clause-numbers : goal.put_multipliers-requires-clause-numbers
put_multipliers-requires-clause-numbers c = c.requires.numbers

pub put_multipliers-requires-clause-kept : goal.put_multipliers-requires-clause-kept
put_multipliers-requires-clause-kept c = c.requires.kept
