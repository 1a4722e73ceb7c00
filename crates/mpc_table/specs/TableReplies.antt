-- The replies of a table, and how they are written.
use Rattle.std.specs.Prelude.{◌≡◌, ℕ, ◌+◌, ◌≤◌, List, ◌++◌, codes, decimal, map, length, None, Some}
use Rattle.std.specs.List.{join_with_byte}
use Rattle.mpc_exact.specs.Rational.{ℚ}
use Rattle.mpc_frac.specs.Text.{text_of}
use Rattle.mpc_plant.specs.Reply.{move, infeasible}
use Rattle.mpc_plant.specs.Trajectory.{point_of}
use Rattle.mpc_rows.specs.declared.trees.Node.TheVariants.{Law, NoMove}
use Rattle.mpc_controller.specs.Parts.{Parts, limits_of}
use Rattle.mpc_controller.specs.Walk.{EndsAt}
use Rattle.mpc_controller.specs.Replies.{Answer, at_state, outside, first_outside, IsAnswerTo}
use Rattle.mpc_table.specs.declared.answers.Reply.{Reply}
use Rattle.mpc_table.specs.declared.answers.Reply.TheVariants.{Move, Infeasible, Outside}
use Rattle.mpc_table.specs.Forms.{AreUpTo}
use Rattle.mpc_table.specs.Lookup.{Lookup}

-- no count is above its limit, and the walk ends at this node, counted from 1, which names this law
pub record IsMoveReply (parts : Parts) (counts : List ℕ) (node law : ℕ) : Type 0 where
  pub inside : first_outside (limits_of parts.plant) counts ≡ None
  pub place : ℕ
  pub node_is : node ≡ place + 1
  pub certs : List (List (ℕ × ℚ))
  pub ends : EndsAt parts.tree (point_of counts) place (Law law certs)

-- no count is above its limit, and the walk ends at this node, counted from 1, which names no law
pub record IsInfeasibleReply (parts : Parts) (counts : List ℕ) (node : ℕ) : Type 0 where
  pub inside : first_outside (limits_of parts.plant) counts ≡ None
  pub place : ℕ
  pub node_is : node ≡ place + 1
  pub cert : List (ℕ × ℚ)
  pub ends : EndsAt parts.tree (point_of counts) place (NoMove cert)

-- the reply of a controller to counts
abbrev pub IsReply : Parts → List ℕ → Reply → Type 0
IsReply parts counts (Move node law) = IsMoveReply parts counts node law
IsReply parts counts (Infeasible node) = IsInfeasibleReply parts counts node
IsReply parts counts (Outside i) = first_outside (limits_of parts.plant) counts ≡ Some i

-- the law is one of the table's, and no count is above its limit
pub record CanMove (table : Lookup) (counts : List ℕ) (law : ℕ) : Type 0 where
  pub from_first : 1 ≤ law
  pub to_last : law ≤ length table.laws
  pub inside : AreUpTo counts table.limits

abbrev pub IsWritable : Lookup → List ℕ → Reply → Type 0
IsWritable table counts (Move node law) = CanMove table counts law
IsWritable table counts (Infeasible node) = Unit {0}
IsWritable table counts (Outside i) = Unit {0}

-- the moves with one space between two, `infeasible`, or `outside` and the number of the count
abbrev pub answer_text : Answer → List ℕ
answer_text (at_state (move u)) = join_with_byte 32 (map text_of u)
answer_text (at_state infeasible) = codes "infeasible"
answer_text (outside i) = codes "outside " ++ decimal i

-- a text, and behind it the text of what a controller answers to counts
pub record AddsAnswer (parts : Parts) (counts before after : List ℕ) : Type 0 where
  pub answer : Answer
  pub is_answer : IsAnswerTo parts counts answer
  pub added : after ≡ before ++ answer_text answer
