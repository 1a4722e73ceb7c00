use Rattle.mpc_space.specs.Matrix.{entry}
use Rattle.mpc_definite.proofs.Work.{RowSome, RowFitsTo}
use Rattle.mpc_definite.proofs.eliminate_row.Given as goal

abbrev pub invariant-loop-k : goal.invariant-loop-k
invariant-loop-k l = record {
  row : RowSome l.fn.lower l.lower l.column l.row l.k;
  fits : RowFitsTo (entry l.fn.lower) l.column l.row l.k;
}
