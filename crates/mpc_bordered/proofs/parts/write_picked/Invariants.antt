use Rattle.std.proofs.Common.{◌+◌}
use Rattle.mpc_space.specs.Matrix.{entry}
use Rattle.mpc_bordered.specs.Parts.{part, IsPicked}
use Rattle.mpc_bordered.proofs.RowWriting.{FillingRow}
use Rattle.mpc_bordered.proofs.parts.write_picked.Given as goal

abbrev pub invariant-loop-column : goal.invariant-loop-column
invariant-loop-column l = FillingRow (λ j. IsPicked (part (entry l.kept.table) l.kept.front l.rows l.rights) l.kept.front l.row (l.first + j)) l.fn.out l.out l.row l.column
