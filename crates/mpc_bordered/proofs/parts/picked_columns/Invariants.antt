use Rattle.std.proofs.Common.{◌+◌, length}
use Rattle.mpc_space.specs.Matrix.{entry}
use Rattle.mpc_bordered.specs.Parts.{part, IsPicked}
use Rattle.mpc_bordered.proofs.RowWriting.{FillingTable}
use Rattle.mpc_bordered.proofs.parts.picked_columns.Given as goal

abbrev pub invariant-loop-row : goal.invariant-loop-row
invariant-loop-row l = FillingTable (λ i j. IsPicked (part (entry l.kept.table) l.kept.front l.rows l.rights) l.kept.front i (l.first + j)) l.out (l.kept.front + length l.rows) l.count l.row
