use Rattle.mpc_space.specs.Vector.{coordinate}
use Rattle.mpc_sweep.specs.Reading.{AreBehind}
use Rattle.mpc_sweep.proofs.reading.put_row.Given as goal

abbrev pub invariant-loop-number : goal.invariant-loop-number
invariant-loop-number l = AreBehind l.fn.numbers.items l.numbers.items (coordinate l.row) l.number-index l.scale
