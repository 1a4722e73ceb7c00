use Rattle.mpc_beginnings.proofs.kept.KeptRun.longer_end.Goals as goal

pub run_longer-requires-clause-longer : goal.run_longer-requires-clause-longer
run_longer-requires-clause-longer c = c.requires

pub run_longer-requires-clause-numbers : goal.run_longer-requires-clause-numbers
run_longer-requires-clause-numbers c = c.numbers_of-numbers.ensures
