-- The reply lines to lines of counts.
use Rattle.std.specs.Prelude.{◌≡◌, ℕ, MatchOption, List, [], ◌∷◌, ◌++◌, codes}
use Rattle.mpc_exact.specs.Rational.{ℚ}
use Rattle.mpc_plant.specs.declared.plants.Plant.{Plant}
use Rattle.mpc_plant.specs.Reply.{Reply, IsRight}
use Rattle.mpc_plant.specs.Trajectory.{IsInBox, point_of}
use Rattle.mpc_controller.specs.Parts.{Parts, limits_of}
use Rattle.mpc_controller.specs.Preorder.{IsTree}
use Rattle.mpc_controller.specs.Replies.{Answer, at_state, outside, first_outside, RepliesAt, IsAnswerTo}
use Rattle.mpc_table.specs.TableReplies.{answer_text}
use Rattle.mpc_table.specs.CountLine.{counts_of}

-- ---- of a controller's parts

-- the line of what the parts answer to counts
pub record IsAnswerLine (parts : Parts) (counts text : List ℕ) : Type 0 where
  pub answer : Answer
  pub is_answer : IsAnswerTo parts counts answer
  pub written : text ≡ answer_text answer ++ codes "\n"

-- the reply line of the parts to a line
abbrev pub IsReplyLineOf : Parts → List ℕ → List ℕ → Type 0
IsReplyLineOf parts line text = MatchOption (counts_of line parts.plant.n) (text ≡ codes "bad line\n") (λ counts. IsAnswerLine parts counts text)

-- one reply line of the parts a line, in their order
pub data AreRepliesOf (parts : Parts) : List (List ℕ) → List ℕ → Type 0 where
  none_of : AreRepliesOf parts [] []
  more_of : (line text : List ℕ) (lines : List (List ℕ)) (texts : List ℕ) → IsReplyLineOf parts line text → AreRepliesOf parts lines texts → AreRepliesOf parts (line ∷ lines) (text ++ texts)

-- a text and the reply line to a line behind it
pub record AddsReply (parts : Parts) (line before after : List ℕ) : Type 0 where
  pub reply : List ℕ
  pub right : IsReplyLineOf parts line reply
  pub added : after ≡ before ++ reply

-- lines have one text of replies
abbrev pub OneText : Type 0
OneText = (parts : Parts) (lines : List (List ℕ)) (text other : List ℕ) → IsTree parts.tree → AreRepliesOf parts lines text → AreRepliesOf parts lines other → text ≡ other

-- ---- of a plant

-- the line of a reply that is right at the counts
pub record IsRightLine (plant : Plant) (counts text : List ℕ) : Type 0 where
  pub reply : Reply
  pub right : IsRight plant (point_of counts) reply
  pub written : text ≡ answer_text (at_state reply) ++ codes "\n"

-- the reply line to counts: to a grid state its reply, and else the number of the first count above its limit
abbrev pub IsReplyTo : Plant → List ℕ → List ℕ → Type 0
IsReplyTo plant counts text = MatchOption (first_outside (limits_of plant) counts) (IsRightLine plant counts text) (λ i. text ≡ answer_text (outside i) ++ codes "\n")

-- the reply line to a line
abbrev pub IsReplyLine : Plant → List ℕ → List ℕ → Type 0
IsReplyLine plant line text = MatchOption (counts_of line plant.n) (text ≡ codes "bad line\n") (λ counts. IsReplyTo plant counts text)

-- one reply line a line, in their order
pub data AreReplies (plant : Plant) : List (List ℕ) → List ℕ → Type 0 where
  no_lines : AreReplies plant [] []
  one_more : (line text : List ℕ) (lines : List (List ℕ)) (texts : List ℕ) → IsReplyLine plant line text → AreReplies plant lines texts → AreReplies plant (line ∷ lines) (text ++ texts)

-- parts of the plant, whose reply at each point of the grid's box is right
pub record ReplyRightly (plant : Plant) (parts : Parts) : Type 0 where
  pub plant_is : parts.plant ≡ plant
  pub right : (t : List ℚ) (reply : Reply) → IsInBox plant t → RepliesAt parts t reply → IsRight plant t reply

-- the replies of such parts are those of the plant
abbrev pub RepliesAreRight : Type 0
RepliesAreRight = (plant : Plant) (parts : Parts) (lines : List (List ℕ)) (text : List ℕ) → ReplyRightly plant parts → AreRepliesOf parts lines text → AreReplies plant lines text
