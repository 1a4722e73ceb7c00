-- What is kept from one leaf without a law to the next.
use Rattle.std.specs.Prelude.{◌≡◌, ℕ, ◌+◌, ◌<◌, ◌≤◌, ◌++◌, List, Option, None, IfSome, length, map, take, get_or}
use Rattle.mpc_space.specs.Matrix.{height}
use Rattle.mpc_rows.specs.declared.programs.Qp.{Qp}
use Rattle.mpc_rows.specs.declared.systems.Row.{Row}
use Rattle.mpc_rows.specs.LinearSystem.{LinearSystem}
use Rattle.mpc_rows.specs.SetRuns.{box_rows, joint_rows}
use Rattle.mpc_systems.specs.Writing.{widened}
use Rattle.mpc_tree.specs.declared.joints.Joints.{Joints}

-- how many unknowns (t, z) there are
abbrev pub joint_width : Qp → ℕ
joint_width qp = length qp.counts + height qp.h

-- where the program's rows are kept, they are its own
abbrev pub AreProgramRows : Qp → Option LinearSystem → Type 0
AreProgramRows qp rows = IfSome rows (λ s. s ≡ record { width = joint_width qp; rows = joint_rows qp })

-- in the unknowns (t, z): the box and the cell
unfoldable pub joint_cell : Qp → List Row → LinearSystem
joint_cell qp cell = record { width = joint_width qp; rows = box_rows (joint_width qp) qp.counts ++ map (widened (height qp.h)) cell }

-- where a run is kept, it is that of the box and the cell
abbrev pub IsJointRun : Qp → List Row → Option LinearSystem → Type 0
IsJointRun qp cell run = IfSome run (λ s. s ≡ joint_cell qp cell)

-- the run at a place is that of so many first rows
pub record AreRunsOf (qp : Qp) (cell : List Row) (runs : List (Option LinearSystem)) : Type 0 where
  pub within : length runs ≤ length cell + 1
  pub each : (k : ℕ) → k < length runs → IsJointRun qp (take k cell) (get_or runs k None)

pub record AreJoints (qp : Qp) (joints : Joints) : Type 0 where
  pub rows : AreProgramRows qp joints.rows
  pub runs : AreRunsOf qp joints.cell.items joints.runs.items

-- each number of first rows has its run
abbrev pub HasRunForEach : Joints → Type 0
HasRunForEach joints = length joints.runs.items ≡ length joints.cell.items + 1

-- the same, or nothing is kept
pub record IsCutBack (joints : Joints) : Type 0 where
  pub none : length joints.runs.items ≡ 0 → length joints.cell.items ≡ 0
  pub each : 0 < length joints.runs.items → HasRunForEach joints
