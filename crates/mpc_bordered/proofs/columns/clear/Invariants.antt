use Rattle.std.proofs.Common.{ℕ, suc}
use Rattle.mpc_linear.specs.Elimination.{Table}
use Rattle.mpc_bordered.specs.Kept.{IfFormed, IsFormedColumn}
use Rattle.mpc_bordered.proofs.Clearing.{Clearing}
use Rattle.mpc_bordered.proofs.columns.clear.Given as goal

abbrev pub invariant-loop-row : goal.invariant-loop-row
invariant-loop-row l = (t : Table) (j : ℕ) → IsFormedColumn t l.pivot_column l.pivot_column l.factors → IsFormedColumn t l.pivot_column j l.fn.column → IfFormed t (suc l.pivot_column) l.pivot_column j l.quotient × Clearing t l.pivot_column j l.row l.column
