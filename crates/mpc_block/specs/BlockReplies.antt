-- What a block replies.
use Rattle.std.specs.Prelude.{◌≡◌, ℕ, ◌<◌, ℤ, pos, ◌<ℤ◌, List, length, map, All, slice_index_or}
use Rattle.mpc_exact.specs.Rational.{ℚ, quotient}
use Rattle.mpc_space.specs.Vector.{dot}
use Rattle.mpc_plant.specs.Reply.{move, infeasible}
use Rattle.mpc_plant.specs.Trajectory.{point_of}
use Rattle.mpc_rows.specs.ActiveSets.{extended}
use Rattle.mpc_rows.specs.declared.laws.Law.{Law as LawOfSet}
use Rattle.mpc_controller.specs.Parts.{Parts}
use Rattle.mpc_controller.specs.Bounds.{first_move_form}
use Rattle.mpc_controller.specs.Replies.{at_state, outside, IsAnswerTo}
use Rattle.mpc_table.specs.TableReplies.{IsMoveReply, IsInfeasibleReply}
use Rattle.mpc_block.specs.declared.replies.Move.{Move}
use Rattle.mpc_block.specs.declared.replies.BlockReply.{BlockReply}
use Rattle.mpc_block.specs.declared.replies.BlockReply.TheVariants.{Moves, Infeasible, Outside, BadBlock}
use Rattle.mpc_block.specs.Words.{signed_number}
use Rattle.mpc_block.specs.Block.{IsBlockOf}

abbrev pub num_of : Move → ℤ
num_of step = signed_number step.num_low step.num_high

abbrev pub den_of : Move → ℤ
den_of step = signed_number step.den_low step.den_high

-- the fraction
abbrev pub value_of : Move → ℚ
value_of step = quotient (num_of step) (den_of step)

abbrev pub IsPositiveOver : Move → Type 0
IsPositiveOver step = pos 0 <ℤ den_of step

-- what the law gives an input, counted from 0, at counts
pub record IsMoveOf (law : LawOfSet) (counts : List ℕ) (input : ℕ) (step : Move) : Type 0 where
  pub positive : IsPositiveOver step
  pub value : value_of step ≡ dot (first_move_form law input) (extended (point_of counts))

-- the first of these moves are those of the law
abbrev pub BeginWith : LawOfSet → List ℕ → ℕ → List Move → Type 0
BeginWith law counts inputs moves = (input : ℕ) (d : Move) → input < inputs → IsMoveOf law counts input (slice_index_or moves input d)

-- the leaf at this node names this law, and the moves, over positive denominators, are what the controller answers
pub record IsMovesReply (parts : Parts) (counts : List ℕ) (moves : List Move) (node law : ℕ) : Type 0 where
  pub leaf : IsMoveReply parts counts node law
  pub positive : All IsPositiveOver moves
  pub answer : IsAnswerTo parts counts (at_state (move (map value_of moves)))

-- the leaf at this node names no law, and the controller answers so
pub record IsNoMoveReply (parts : Parts) (counts : List ℕ) (node : ℕ) : Type 0 where
  pub leaf : IsInfeasibleReply parts counts node
  pub answer : IsAnswerTo parts counts (at_state infeasible)

-- the reply of a controller to counts, with the moves where there are any
abbrev pub IsBlockReply : Parts → List ℕ → List Move → BlockReply → Type 0
IsBlockReply parts counts moves (Moves node law) = IsMovesReply parts counts moves node law
IsBlockReply parts counts moves (Infeasible node) = IsNoMoveReply parts counts node
IsBlockReply parts counts moves (Outside i) = IsAnswerTo parts counts (outside i)
IsBlockReply parts counts moves BadBlock = ⊥

-- where there are no moves, none is written
abbrev pub KeepsMoves : List Move → List Move → BlockReply → Type 0
KeepsMoves old new (Moves node law) = Unit {0}
KeepsMoves old new (Infeasible node) = new ≡ old
KeepsMoves old new (Outside i) = new ≡ old
KeepsMoves old new BadBlock = new ≡ old

-- a controller's block, a count for each of its coordinates, and room for a move of each of its inputs
pub record Suits (words counts : List ℕ) (room : ℕ) (parts : Parts) : Type 0 where
  pub block : IsBlockOf words parts
  pub one_each : length counts ≡ parts.plant.n
  pub room_each : room ≡ parts.plant.p
