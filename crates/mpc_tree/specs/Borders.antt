-- The rows of all laws of a table.
use Rattle.std.specs.Prelude.{◌≡◌, ℕ, List, length, map, Option, Some, IfSome, slice_get}
use Rattle.mpc_linear.specs.declared.integers.RowInt.{RowInt}
use Rattle.mpc_rows.specs.declared.programs.Qp.{Qp}
use Rattle.mpc_rows.specs.declared.laws.Law.{Law}
use Rattle.mpc_rows.specs.Laws.{IsLaw}
use Rattle.mpc_rows.specs.LawRows.{AreLawRows, whole_row}
use Rattle.mpc_rows.specs.LinearSystem.{LinearSystem}
use Rattle.mpc_systems.specs.Writing.{AreOfSize}

-- the rows of a law of the program
pub record IsBorder (qp : Qp) (law : Law) (rows : List RowInt) : Type 0 where
  pub is_law : IsLaw qp law
  pub of_law : AreLawRows qp law rows
  pub plain : AreOfSize (length qp.counts) rows

-- the rows of each law, in the laws' order
pub record AreBorders (qp : Qp) (laws : List Law) (borders : List (List RowInt)) : Type 0 where
  pub one_each : length borders ≡ length laws
  pub each : (i : ℕ) (law : Law) (rows : List RowInt) → slice_get laws i ≡ Some law → slice_get borders i ≡ Some rows → IsBorder qp law rows

-- if a system is there, it has these rows
abbrev pub AreWhole : List RowInt → Option LinearSystem → Type 0
AreWhole rows whole = IfSome whole (λ s. s.rows ≡ map whole_row rows)
