-- Where a controller's loop goes in one step, and when it is safe: when it stays where the controller has a move.
use Rattle.std.specs.Prelude.{ℕ, ◌-◌, List, [], ◌∷◌, pos, slice_index}
use Rattle.mpc_exact.specs.Rational.{ℚ, int, ◌-ℚ◌, ◌/ℚ◌, ◌<ℚ◌}
use Rattle.mpc_space.specs.Vector.{coordinate, vec_add, mat_vec}
use Rattle.mpc_plant.specs.declared.lists.Coordinate.{Coordinate}
use Rattle.mpc_plant.specs.declared.plants.Plant.{Plant}
use Rattle.mpc_plant.specs.Trajectory.{IsInBox, state_of}
use Rattle.mpc_plant.specs.Reply.{move}
use Rattle.mpc_rows.specs.LinearSystem.{point_at}
use Rattle.mpc_rows.specs.declared.laws.Law.{Law as LawOfSet}
use Rattle.mpc_rows.specs.declared.trees.Node.TheVariants.{Law, NoMove as NoMoveLeaf}
use Rattle.mpc_controller.specs.Parts.{Parts, limits_of}
use Rattle.mpc_controller.specs.Walk.{EndsAt}
use Rattle.mpc_controller.specs.Replies.{RepliesAt, first_move, IsLawNumbered}
use Rattle.mpc_recur.specs.declared.answers.Target.{Target}
use Rattle.mpc_recur.specs.declared.answers.Target.TheVariants.{Low, High, NoMove}
use Rattle.mpc_recur.specs.declared.answers.Next.{Next}

-- ---- one step
-- the state behind x under the move u: A x + B u + drift
abbrev pub successor : Plant → List ℚ → List ℚ → List ℚ
successor plant x u = vec_add (vec_add (mat_vec plant.a.rows x) (mat_vec plant.b.rows u)) plant.drift

-- (x - low) / step, coordinate by coordinate
abbrev pub steps_from_low : List Coordinate → List ℚ → List ℚ
steps_from_low [] xs = []
steps_from_low (axis ∷ grid) [] = []
steps_from_low (axis ∷ grid) (x ∷ xs) = ((x -ℚ axis.low) /ℚ axis.step) ∷ steps_from_low grid xs

-- the point of a state
abbrev pub point_of_state : Plant → List ℚ → List ℚ
point_of_state plant x = steps_from_low plant.grid x

-- the point to which the move u leads from the point t
abbrev pub next : Plant → List ℚ → List ℚ → List ℚ
next plant t u = point_of_state plant (successor plant (state_of plant t) u)

-- ---- safe controllers
-- a point of the box at which the walk ends at a leaf with a law, whose first move is replied
pub record HasMove (parts : Parts) (t : List ℚ) : Type 0 where
  pub in_box : IsInBox parts.plant t
  pub u : List ℚ
  pub replies : RepliesAt parts t (move u)

-- from each such point the first move leads to such a point
pub record IsSafe (parts : Parts) : Type 0 where
  pub stays : (t u : List ℚ) → IsInBox parts.plant t → RepliesAt parts t (move u) → HasMove parts (next parts.plant t u)

-- ---- targets, places where a safe controller doesn't lead
-- the point s lies below coordinate i of the box or above it, the coordinates counted from 1, or in the box, where the walk ends at the leaf
-- with this number, which has no law
abbrev pub IsAtTarget : Parts → List ℚ → Target → Type 0
IsAtTarget parts s (Low i) = coordinate s (i - 1) <ℚ int (pos 0)
IsAtTarget parts s (High i) = int (pos (slice_index (limits_of parts.plant) (i - 1))) <ℚ coordinate s (i - 1)
IsAtTarget parts s (NoMove number) = IsInBox parts.plant s × ((cert : List (ℕ × ℚ)) × EndsAt parts.tree s (number - 1) (NoMoveLeaf cert))

-- at the point t of the box the walk ends at this leaf, whose law's first move leads to the target; nodes and laws are counted from 1
pub record LeadsToTarget (parts : Parts) (one : Next) (t : List ℚ) : Type 0 where
  pub in_box : IsInBox parts.plant t
  pub number : ℕ
  pub certs : List (List (ℕ × ℚ))
  pub law : LawOfSet
  pub ends : EndsAt parts.tree t (one.leaf - 1) (Law number certs)
  pub named : IsLawNumbered parts.laws number law
  pub arrives : IsAtTarget parts (next parts.plant t (first_move parts.plant.p law t)) one.target

-- so it is at the pair point at every small enough positive d
pub record LeadsAway (parts : Parts) (one : Next) (pairs : List (ℚ × ℚ)) : Type 0 where
  pub reach : ℚ
  pub some : int (pos 0) <ℚ reach
  pub away : (d : ℚ) → int (pos 0) <ℚ d → d <ℚ reach → LeadsToTarget parts one (point_at pairs d)
