use Rattle.std.proofs.Common.{◌-◌, pos}
use Rattle.mpc_exact.specs.Rational.{int}
use Rattle.mpc_rows.specs.LawRows.{member_form}
use Rattle.mpc_tree.specs.WholeRows.{AreSides}
use Rattle.mpc_tree.proofs.rows.member_sides.Given as goal

abbrev pub invariant-loop-column : goal.invariant-loop-column
invariant-loop-column l = AreSides (int (pos l.mults.den)) (member_form l.law l.place) (l.column - 1) l.sides
