-- The runs that are kept of the cells of a search.
use Rattle.std.specs.Prelude.{◌≡◌, ◌++◌, List, [], ◌∷◌, Option, Some, IfSome, length}
use Rattle.mpc_rows.specs.declared.programs.Qp.{Qp}
use Rattle.mpc_rows.specs.declared.systems.Row.{Row}
use Rattle.mpc_rows.specs.LinearSystem.{LinearSystem}
use Rattle.mpc_rows.specs.SetRuns.{box_rows}
use Rattle.mpc_beginnings.specs.Beginnings.{lengthened}
use Rattle.mpc_beginnings.specs.Open.{IsOpenFor}
use Rattle.mpc_beginnings.specs.declared.kept.Workspace.{Workspace}

-- in the unknowns t: the box and the cell
unfoldable pub boxed_cell : Qp → List Row → LinearSystem
boxed_cell qp cell = record { width = length qp.counts; rows = box_rows (length qp.counts) qp.counts ++ cell }

-- where a run is kept, it is that of the box and the cell
abbrev pub IsRunOf : Qp → List Row → Option LinearSystem → Type 0
IsRunOf qp cell run = IfSome run (λ s. s ≡ boxed_cell qp cell)

-- where the second run is kept, it is the first with one more row
abbrev pub IsRunWith : Option LinearSystem → Row → Option LinearSystem → Type 0
IsRunWith run row longer = IfSome longer (λ s. (shorter : LinearSystem) × (run ≡ Some shorter) × (s ≡ lengthened shorter (row ∷ [])))

-- where a run is kept, the workspace is open for it
abbrev pub IsOpenAt : Option LinearSystem → Workspace → Type 0
IsOpenAt run work = IfSome run (λ s. IsOpenFor s work)
