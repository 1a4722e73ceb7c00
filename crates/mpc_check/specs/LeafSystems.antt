-- The systems of a search tree's leaves.
use Rattle.std.specs.Prelude.{ℕ, ◌+◌, List, length, map}
use Rattle.mpc_plant.specs.Limits.{IsFromTo}
use Rattle.mpc_rows.specs.declared.programs.Qp.{Qp}
use Rattle.mpc_rows.specs.declared.systems.Row.{Row}
use Rattle.mpc_rows.specs.declared.trees.Node.{Node}
use Rattle.mpc_rows.specs.declared.trees.Node.TheVariants.{Split, Law, NoMove}
use Rattle.mpc_rows.specs.LinearSystem.{LinearSystem}
use Rattle.mpc_systems.specs.Writing.{widened}
use Rattle.mpc_systems.specs.Systems.{cell_system}
use Rattle.mpc_controller.specs.declared.ways.Turn.{Turn}
use Rattle.mpc_controller.specs.Ways.{way_rows}

-- a leaf names one of so many laws, from 1
abbrev pub NamesLaw : ℕ → Node → Type 0
NamesLaw laws (Split row) = Unit {0}
NamesLaw laws (Law law certs) = IsFromTo 1 laws law
NamesLaw laws (NoMove cert) = Unit {0}

-- the system of a leaf, in so many more unknowns than there are coordinates: the box, the way's rows, and some more rows
abbrev pub system_at : Qp → List Node → List Turn → ℕ → List Row → LinearSystem
system_at qp nodes way more last = cell_system (length qp.counts + more) qp.counts (map (widened more) (way_rows nodes way)) last
