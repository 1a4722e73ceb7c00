use Rattle.mpc_systems.proofs.EntryWriting.{IsWritten}
use Rattle.mpc_systems.proofs.equations.matrix_of.Given as goal

abbrev pub invariant-loop-row : goal.invariant-loop-row
invariant-loop-row g l = IsWritten l.rows l.columns (goal.F-post g l.entry) l.out l.row 0

abbrev pub invariant-loop-column : goal.invariant-loop-column
invariant-loop-column g l = IsWritten l.rows l.columns (goal.F-post g l.entry) l.out l.row l.column
