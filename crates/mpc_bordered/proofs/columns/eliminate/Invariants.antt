use Rattle.std.proofs.Common.{ℕ, ◌≤◌, length}
use Rattle.mpc_linear.specs.Elimination.{Table}
use Rattle.mpc_bordered.specs.Kept.{IsFormedColumn, AreFormed}
use Rattle.mpc_bordered.proofs.columns.eliminate.Given as goal

abbrev pub invariant-loop-pivot_column : goal.invariant-loop-pivot_column
invariant-loop-pivot_column l = (t : Table) (u j : ℕ) → l.count ≤ u → AreFormed t u (length l.fn.column) l.count l.done → IsFormedColumn t 0 j l.fn.column → IsFormedColumn t l.pivot_column j l.column
