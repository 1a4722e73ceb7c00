-- What a controller replies: the first move of the law at the leaf of its tree, or `infeasible`, or which count is above its limit.
use Rattle.std.specs.Prelude.{◌≡◌, ℕ, ◌+◌, ◌-◌, if◌then◌else◌, nat_lt, Option, Some, None, List, [], ◌∷◌, take, slice_get}
use Rattle.mpc_exact.specs.Rational.{ℚ}
use Rattle.mpc_plant.specs.Reply.{Reply, move, infeasible}
use Rattle.mpc_plant.specs.Trajectory.{point_of}
use Rattle.mpc_rows.specs.Laws.{moves_at}
use Rattle.mpc_rows.specs.declared.laws.Law.{Law as LawOfSet}
use Rattle.mpc_rows.specs.declared.trees.Node.TheVariants.{Law, NoMove}
use Rattle.mpc_controller.specs.Parts.{Parts, limits_of}
use Rattle.mpc_controller.specs.Walk.{EndsAt}

-- the number of the first count above its limit, where the first has this number
abbrev pub outside_from : ℕ → List ℕ → List ℕ → Option ℕ
outside_from i [] counts = None
outside_from i (limit ∷ limits) [] = None
outside_from i (limit ∷ limits) (count ∷ counts) = if nat_lt limit count then Some i else outside_from (i + 1) limits counts

-- the number, from 1, of the first count above its limit
abbrev pub first_outside : List ℕ → List ℕ → Option ℕ
first_outside limits counts = outside_from 1 limits counts

-- the moves of the first step, by a law for p inputs
abbrev pub first_move : ℕ → LawOfSet → List ℚ → List ℚ
first_move p law t = take p (moves_at law t)

-- the law with this number, from 1
abbrev pub IsLawNumbered : List LawOfSet → ℕ → LawOfSet → Type 0
IsLawNumbered laws number law = slice_get laws (number - 1) ≡ Some law

-- the reply of the tree at a point t, also at one between the grid states
pub data RepliesAt (parts : Parts) (t : List ℚ) : Reply → Type 0 where
  by_law : (place number : ℕ) (certs : List (List (ℕ × ℚ))) (law : LawOfSet) → EndsAt parts.tree t place (Law number certs) → IsLawNumbered parts.laws number law → RepliesAt parts t (move (first_move parts.plant.p law t))
  by_no_law : (place : ℕ) (cert : List (ℕ × ℚ)) → EndsAt parts.tree t place (NoMove cert) → RepliesAt parts t infeasible

-- what is answered to counts
pub data Answer : Type 0 where
  at_state : Reply → Answer
  outside : ℕ → Answer

-- the answer to counts: which is the first above its limit, or the reply of the tree where none is
abbrev pub IsAnswerTo : Parts → List ℕ → Answer → Type 0
IsAnswerTo parts counts (at_state reply) = (first_outside (limits_of parts.plant) counts ≡ None) × RepliesAt parts (point_of counts) reply
IsAnswerTo parts counts (outside i) = first_outside (limits_of parts.plant) counts ≡ Some i
