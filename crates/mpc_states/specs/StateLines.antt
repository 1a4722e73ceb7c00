-- The reply lines to lines of counts, of a program that is solved at each state.
use Rattle.std.specs.Prelude.{◌≡◌, ℕ, MatchOption, List, [], ◌∷◌, ◌++◌, codes, take}
use Rattle.mpc_exact.specs.Rational.{ℚ}
use Rattle.mpc_plant.specs.Reply.{Reply, move, infeasible}
use Rattle.mpc_plant.specs.Trajectory.{point_of}
use Rattle.mpc_rows.specs.declared.programs.Qp.{Qp}
use Rattle.mpc_rows.specs.ActiveSets.{IsFeasible}
use Rattle.mpc_cover.specs.Cheapest.{IsCheapest}
use Rattle.mpc_controller.specs.Replies.{at_state, outside, first_outside}
use Rattle.mpc_table.specs.TableReplies.{answer_text}
use Rattle.mpc_table.specs.CountLine.{counts_of}
use Rattle.mpc_online.specs.OnlineRun.{IsRunEnd, wide_in}

-- a number of the online run of the program at t is too wide
abbrev pub IsTooWide : Qp → List ℚ → Type 0
IsTooWide qp t = (step : ℕ) × IsRunEnd qp t (wide_in step)

-- the line of a reply
abbrev pub reply_text : Reply → List ℕ
reply_text reply = answer_text (at_state reply) ++ codes "\n"

-- the line at a grid state: `too wide` exactly where a number of the online run is too wide, and otherwise that of a reply which is right
pub data IsStateLine (Right : List ℚ → Reply → Type 0) (qp : Qp) (t : List ℚ) : List ℕ → Type 0 where
  has_reply : (reply : Reply) → ¬ IsTooWide qp t → Right t reply → IsStateLine Right qp t (reply_text reply)
  has_wide_run : IsTooWide qp t → IsStateLine Right qp t (codes "too wide\n")

-- the line to counts: to a grid state its own, and else the number of the first count above its limit
abbrev pub IsLineTo : (List ℚ → Reply → Type 0) → Qp → List ℕ → List ℕ → Type 0
IsLineTo Right qp counts text = MatchOption (first_outside qp.counts counts) (IsStateLine Right qp (point_of counts) text) (λ i. text ≡ answer_text (outside i) ++ codes "\n")

-- the line to a line, which is to be n counts
abbrev pub IsReplyLine : (List ℚ → Reply → Type 0) → Qp → ℕ → List ℕ → List ℕ → Type 0
IsReplyLine Right qp n line text = MatchOption (counts_of line n) (text ≡ codes "bad line\n") (λ counts. IsLineTo Right qp counts text)

-- one reply line a line, in their order
pub data AreStateLines (Right : List ℚ → Reply → Type 0) (qp : Qp) (n : ℕ) : List (List ℕ) → List ℕ → Type 0 where
  no_lines : AreStateLines Right qp n [] []
  one_more : (line text : List ℕ) (lines : List (List ℕ)) (texts : List ℕ) → IsReplyLine Right qp n line text → AreStateLines Right qp n lines texts → AreStateLines Right qp n (line ∷ lines) (text ++ texts)

-- a text and the reply line to a line behind it
pub record AddsLine (Right : List ℚ → Reply → Type 0) (qp : Qp) (n : ℕ) (line before after : List ℕ) : Type 0 where
  pub reply : List ℕ
  pub right : IsReplyLine Right qp n line reply
  pub added : after ≡ before ++ reply

-- a text and the line of a grid state behind it
pub record AddsStateLine (Right : List ℚ → Reply → Type 0) (qp : Qp) (t : List ℚ) (before after : List ℕ) : Type 0 where
  pub line : List ℕ
  pub is_line : IsStateLine Right qp t line
  pub added : after ≡ before ++ line

-- what the program says at t: the first moves of its cheapest choice of unknowns, or that there is no choice
abbrev pub IsOf : Qp → ℕ → List ℚ → Reply → Type 0
IsOf qp p t (move u) = (z : List ℚ) × IsCheapest qp t z × (u ≡ take p z)
IsOf qp p t infeasible = (z : List ℚ) → ¬ IsFeasible qp t z
