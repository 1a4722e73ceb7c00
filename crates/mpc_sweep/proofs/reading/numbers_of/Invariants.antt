use Rattle.mpc_sweep.specs.Reading.{HasNumbers}
use Rattle.mpc_sweep.proofs.reading.numbers_of.Given as goal

abbrev pub invariant-loop-at_row : goal.invariant-loop-at_row
invariant-loop-at_row l = HasNumbers l.table l.at_row l.scale l.numbers.items
