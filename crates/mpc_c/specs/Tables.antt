-- A table at rest: how it is laid out, and what it replies.
use Rattle.std.specs.Prelude.{◌≡◌, ◌≢◌, ℕ, zero, suc, ◌-◌, ◌^◌, ◌<◌, min, List, map, None}
use Rattle.mpc_plant.specs.declared.plants.Plant.{Plant}
use Rattle.mpc_plant.specs.Reply.{Reply, move, infeasible, IsRight}
use Rattle.mpc_plant.specs.Trajectory.{point_of}
use Rattle.mpc_controller.specs.Parts.{Parts, limits_of}
use Rattle.mpc_controller.specs.Replies.{first_outside, outside, IsAnswerTo}
use Rattle.mpc_check.specs.Acceptance.{Accepts}
use Rattle.mpc_files.specs.FileAnswers.{HasController}
use Rattle.mpc_block.specs.declared.replies.Move.{Move}
use Rattle.mpc_block.specs.Block.{block_size, IsBlockOf}
use Rattle.mpc_block.specs.BlockReplies.{value_of, IsMovesReply, IsNoMoveReply}
use Rattle.mpc_status.specs.declared.status.Status.{Status}
use Rattle.mpc_status.specs.declared.status.Status.TheVariants.{Done}
use Rattle.mpc_status.specs.StatusText.{code_of}
use Rattle.mpc_cli.specs.declared.commands.FileCommand.{FileCommand}
use Rattle.mpc_cli.specs.declared.commands.FileCommand.TheVariants.{Check, Convert}
use Rattle.mpc_cli.specs.Statuses.{ComesToFile}

-- a word; for a number that is greater the greatest word
abbrev pub word_of : ℕ → ℕ
word_of n = min n (2 ^ 64 - 1)

-- ---- a file
-- the bytes spell a controller whose block has so many words; where a check was asked for, the checker accepts it
pub record IsMeasured (file : List ℕ) (check words : ℕ) (parts : Parts) : Type 0 where
  pub given : HasController file parts
  pub accepted : check ≢ 0 → Accepts parts
  pub size : words ≡ word_of (block_size parts)

-- and the block has it
pub record IsLoaded (file : List ℕ) (check words : ℕ) (block : List ℕ) : Type 0 where
  pub parts : Parts
  pub measured : IsMeasured file check words parts
  pub laid_out : IsBlockOf block parts

-- it has more words than there is room for
pub record IsTooLarge (file : List ℕ) (check words room : ℕ) : Type 0 where
  pub parts : Parts
  pub measured : IsMeasured file check words parts
  pub larger : room < block_size parts

-- the command whose refusals are answered: `convert` reads, and `check` checks too
abbrev pub command_of : ℕ → FileCommand
command_of zero = Convert
command_of (suc n) = Check

-- the code is that of a status which is due to that command, and which isn't Done
pub record IsRefusedWith (file : List ℕ) (check code : ℕ) : Type 0 where
  pub status : Status
  pub due : ComesToFile (command_of check) file status
  pub other : status ≢ Done
  pub code_is : code ≡ code_of status

-- ---- a reply
-- no count is above its limit, and the reply is right there
abbrev pub IsRightAt : Plant → List ℕ → Reply → Type 0
IsRightAt plant counts reply = (first_outside (limits_of plant) counts ≡ None) × IsRight plant (point_of counts) reply

-- the moves are those that the controller answers, and right where it is accepted
pub record HasMoves (parts : Parts) (counts : List ℕ) (moves : List Move) : Type 0 where
  pub node : ℕ
  pub law : ℕ
  pub reply : IsMovesReply parts counts moves node law
  pub right : Accepts parts → IsRightAt parts.plant counts (move (map value_of moves))

-- the controller answers that no sequence of moves is admissible, and where it is accepted none is
pub record HasNoMoves (parts : Parts) (counts : List ℕ) : Type 0 where
  pub node : ℕ
  pub reply : IsNoMoveReply parts counts node
  pub right : Accepts parts → IsRightAt parts.plant counts infeasible

abbrev pub IsOutside : Parts → List ℕ → Type 0
IsOutside parts counts = (i : ℕ) × IsAnswerTo parts counts (outside i)
