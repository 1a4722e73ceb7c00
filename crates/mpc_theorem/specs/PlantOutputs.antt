-- What `run`, `solve` and `robust` write: one line for each line of counts.
use Rattle.std.specs.Prelude.{◌≡◌, ◌↔◌, ◌⊎◌, MatchOption, ℕ, List, [], ◌∷◌, ◌++◌, codes, Some}
use Rattle.mpc_exact.specs.Rational.{ℚ}
use Rattle.mpc_plant.specs.declared.plants.Plant.{Plant}
use Rattle.mpc_plant.specs.Trajectory.{point_of}
use Rattle.mpc_plant.specs.Reply.{Reply, IsRight}
use Rattle.mpc_controller.specs.Parts.{limits_of}
use Rattle.mpc_controller.specs.Replies.{at_state, outside, first_outside}
use Rattle.mpc_table.specs.TableReplies.{answer_text}
use Rattle.mpc_condense.specs.Convex.{IsConvexProgram}
use Rattle.mpc_table.specs.CountLine.{counts_of}
use Rattle.mpc_table.specs.Cut.{head_of, count_lines}
use Rattle.mpc_table.specs.ReplyLines.{AreReplies}
use Rattle.mpc_rows.specs.declared.programs.Qp.{Qp}
use Rattle.mpc_tight.specs.Disturbed.{IsRobustlyRight}
use Rattle.mpc_tight.specs.Tightened.{IsTightened}
use Rattle.mpc_states.specs.NoisePart.{plant_part, noise_in}
use Rattle.mpc_states.specs.StateLines.{IsStateLine}
use Rattle.mpc_states.specs.Inputs.{IsSolved as IsSolvedByRun, IsRobustlySolved as IsRobustlySolvedByRun}
use Rattle.mpc_theorem.specs.PlantFile.{IsPlantText}

-- ---- lines
-- a reply that is right at the state, and its line
pub record IsReplyAt (Right : List ℚ → Reply → Type 0) (t : List ℚ) (text : List ℕ) : Type 0 where
  pub reply : Reply
  pub right : Right t reply
  pub written : text ≡ answer_text (at_state reply) ++ codes "\n"

-- or that it was too wide to be found
abbrev pub IsReplyOrWide : (List ℚ → Reply → Type 0) → List ℚ → List ℕ → Type 0
IsReplyOrWide Right t text = IsReplyAt Right t text ⊎ (text ≡ codes "too wide\n")

-- to counts: at a state of the grid its line, and else the number of the first count above its limit
abbrev pub IsLineTo : (List ℚ → List ℕ → Type 0) → Plant → List ℕ → List ℕ → Type 0
IsLineTo AtState plant counts text = MatchOption (first_outside (limits_of plant) counts) (AtState (point_of counts) text) (λ i. text ≡ answer_text (outside i) ++ codes "\n")

-- to a line, which is to have one count for each coordinate
abbrev pub IsLine : (List ℚ → List ℕ → Type 0) → Plant → List ℕ → List ℕ → Type 0
IsLine AtState plant line text = MatchOption (counts_of line plant.n) (text ≡ codes "bad line\n") (λ counts. IsLineTo AtState plant counts text)

-- one line for each, in their order
pub data AreLines (AtState : List ℚ → List ℕ → Type 0) (plant : Plant) : List (List ℕ) → List ℕ → Type 0 where
  no_lines : AreLines AtState plant [] []
  one_more : (line text : List ℕ) (lines : List (List ℕ)) (texts : List ℕ) → IsLine AtState plant line text → AreLines AtState plant lines texts → AreLines AtState plant (line ∷ lines) (text ++ texts)

-- ---- outputs
-- what stands before the line `states` is the file of a plant, and at each state the reply is right
pub record IsReplies (input output : List ℕ) : Type 0 where
  pub plant : Plant
  pub read : IsPlantText (head_of input) plant
  pub lines : AreLines (IsReplyAt (IsRight plant)) plant (count_lines input) output

-- or it is too wide
pub record IsSolved (input output : List ℕ) : Type 0 where
  pub plant : Plant
  pub read : IsPlantText (head_of input) plant
  pub lines : AreLines (IsReplyOrWide (IsRight plant)) plant (count_lines input) output

-- likewise under the noise that stands behind the line `noise`
pub record IsRobustlySolved (input output : List ℕ) : Type 0 where
  pub plant : Plant
  pub read : IsPlantText (plant_part (head_of input)) plant
  pub noise : List ℚ
  pub noise_is : noise_in input plant.n ≡ Some noise
  pub lines : AreLines (IsReplyOrWide (IsRobustlyRight plant noise)) plant (count_lines input) output

-- ---- where `too wide` stands: exactly where a number of the state's online run is too wide
-- the run is that of the plant's convex program
pub record IsSolvedExactly (input output : List ℕ) : Type 0 where
  pub plant : Plant
  pub read : IsPlantText (head_of input) plant
  pub qp : Qp
  pub is_convex : IsConvexProgram plant qp
  pub lines : AreLines (IsStateLine (IsRight plant) qp) plant (count_lines input) output

-- or of that program, tightened
pub record IsRobustlySolvedExactly (input output : List ℕ) : Type 0 where
  pub plant : Plant
  pub read : IsPlantText (plant_part (head_of input)) plant
  pub noise : List ℚ
  pub noise_is : noise_in input plant.n ≡ Some noise
  pub qp : Qp
  pub is_convex : IsConvexProgram plant qp
  pub tight : Qp
  pub is_tightened : IsTightened plant noise qp tight
  pub lines : AreLines (IsStateLine (IsRobustlyRight plant noise) tight) plant (count_lines input) output

-- ---- laws
-- the replies of a plant are these lines
abbrev pub RepliesAreLines : Type 0
RepliesAreLines = (plant : Plant) (lines : List (List ℕ)) (text : List ℕ) → AreReplies plant lines text ↔ AreLines (IsReplyAt (IsRight plant)) plant lines text

-- what the stated run solves is such lines, which are right or too wide
abbrev pub SolvedByRun : Type 0
SolvedByRun = (input output : List ℕ) → IsSolvedByRun input output ↔ IsSolvedExactly input output

abbrev pub RobustlySolvedByRun : Type 0
RobustlySolvedByRun = (input output : List ℕ) → IsRobustlySolvedByRun input output ↔ IsRobustlySolvedExactly input output

abbrev pub ExactIsSolved : Type 0
ExactIsSolved = (input output : List ℕ) → IsSolvedExactly input output → IsSolved input output

abbrev pub ExactIsRobustlySolved : Type 0
ExactIsRobustlySolved = (input output : List ℕ) → IsRobustlySolvedExactly input output → IsRobustlySolved input output

-- `run` has one output
abbrev pub OneReplies : Type 0
OneReplies = (input one other : List ℕ) → IsReplies input one → IsReplies input other → one ≡ other
