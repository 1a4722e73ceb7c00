-- The reply lines of the libraries as lines of which each is right.
use Rattle.std.proofs.Common.{sym, ap, ◌≡◌, inl, inr, ℕ, Option, Some, None, List, ◌++◌, codes, refl, ◌∙◌, subst}
use Rattle.std.specs.Prelude.{MatchOption}
use Rattle.mpc_exact.specs.Rational.{ℚ}
use Rattle.mpc_plant.specs.declared.plants.Plant.{Plant}
use Rattle.mpc_plant.specs.Trajectory.{point_of}
use Rattle.mpc_plant.specs.Reply.{Reply, IsRight, OneRightReply}
use Rattle.mpc_rows.specs.declared.programs.Qp.{Qp}
use Rattle.mpc_controller.specs.Parts.{limits_of}
use Rattle.mpc_controller.specs.Replies.{at_state, outside, first_outside}
use Rattle.mpc_table.specs.TableReplies.{answer_text}
use Rattle.mpc_table.specs.CountLine.{counts_of}
use Rattle.mpc_table.specs.ReplyLines.{IsRightLine, IsReplyTo, IsReplyLine, AreReplies, no_lines as no_replies, one_more as one_more_reply}
use Rattle.mpc_tight.specs.Disturbed.{IsRobustlyRight}
use Rattle.mpc_states.specs.StateLines.{IsStateLine, has_reply, has_wide_run, AreStateLines, IsLineTo as IsStateLineTo, no_lines as no_state_lines, one_more as one_more_state}
use Rattle.mpc_theorem.specs.PlantFile.{PlantTextsAreRead, OnePlantText}
use Rattle.mpc_theorem.specs.PlantOutputs.{IsReplyAt, IsReplyOrWide, IsLineTo, IsLine, AreLines, no_lines, one_more, RepliesAreLines, OneReplies, SolvedByRun, RobustlySolvedByRun, ExactIsSolved, ExactIsRobustlySolved}

-- ---- in both cases of a value that may be missing
both_cases : {A : Type 0} (o : Option A) (No NoOther : Type 0) (Yes Other : A → Type 0) → (No → NoOther) → ((x : A) → Yes x → Other x) → MatchOption o No Yes → MatchOption o NoOther Other
both_cases None No NoOther Yes Other f g h = f h
both_cases (Some x) No NoOther Yes Other f g h = g x h

same : {P : Type 0} → P → P
same p = p

-- ---- of a plant
module _ (plant : Plant) where
  line_of_reply : (line text : List ℕ) → IsReplyLine plant line text → IsLine (IsReplyAt (IsRight plant)) plant line text
  line_of_reply line text =
      both_cases (counts_of line plant.n) _ _ _ (λ counts. IsLineTo (IsReplyAt (IsRight plant)) plant counts text) same
      (λ counts. both_cases (first_outside (limits_of plant) counts) (IsRightLine plant counts text) (IsReplyAt (IsRight plant) (point_of counts) text) _ _ (λ r. record { reply = r.reply; right = r.right; written = r.written }) (λ i. same))

  reply_of_line : (line text : List ℕ) → IsLine (IsReplyAt (IsRight plant)) plant line text → IsReplyLine plant line text
  reply_of_line line text =
      both_cases (counts_of line plant.n) _ _ (λ counts. IsLineTo (IsReplyAt (IsRight plant)) plant counts text) (λ counts. IsReplyTo plant counts text) same
      (λ counts. both_cases (first_outside (limits_of plant) counts) (IsReplyAt (IsRight plant) (point_of counts) text) (IsRightLine plant counts text) _ _ (λ r. record { reply = r.reply; right = r.right; written = r.written }) (λ i. same))

  lines_of_replies : (lines : List (List ℕ)) (text : List ℕ) → AreReplies plant lines text → AreLines (IsReplyAt (IsRight plant)) plant lines text
  lines_of_replies _ _ no_replies = no_lines
  lines_of_replies _ _ (one_more_reply line text lines texts is rest) = one_more line text lines texts (line_of_reply line text is) (lines_of_replies lines texts rest)

  replies_of_lines : (lines : List (List ℕ)) (text : List ℕ) → AreLines (IsReplyAt (IsRight plant)) plant lines text → AreReplies plant lines text
  replies_of_lines _ _ no_lines = no_replies
  replies_of_lines _ _ (one_more line text lines texts is rest) = one_more_reply line text lines texts (reply_of_line line text is) (replies_of_lines lines texts rest)

pub replies_are_lines : RepliesAreLines
replies_are_lines plant lines text = (lines_of_replies plant lines text, replies_of_lines plant lines text)

-- ---- one text
module _ (right : OneRightReply) (plant : Plant) where
  same_reply : (t : List ℚ) (text other : List ℕ) → IsReplyAt (IsRight plant) t text → IsReplyAt (IsRight plant) t other → text ≡ other
  same_reply t text other h k = h.written ∙ ap (λ r. answer_text (at_state r) ++ codes "\n") (right plant t h.reply k.reply h.right k.right) ∙ sym k.written

  same_to : (o : Option ℕ) (t : List ℚ) (text other : List ℕ) → MatchOption o (IsReplyAt (IsRight plant) t text) (λ i. text ≡ answer_text (outside i) ++ codes "\n")
      → MatchOption o (IsReplyAt (IsRight plant) t other) (λ i. other ≡ answer_text (outside i) ++ codes "\n") → text ≡ other
  same_to None t text other h k = same_reply t text other h k
  same_to (Some i) t text other h k = h ∙ sym k

  same_line : (o : Option (List ℕ)) (text other : List ℕ) → MatchOption o (text ≡ codes "bad line\n") (λ counts. IsLineTo (IsReplyAt (IsRight plant)) plant counts text)
      → MatchOption o (other ≡ codes "bad line\n") (λ counts. IsLineTo (IsReplyAt (IsRight plant)) plant counts other) → text ≡ other
  same_line None text other h k = h ∙ sym k
  same_line (Some counts) text other h k = same_to (first_outside (limits_of plant) counts) (point_of counts) text other h k

  same_text : (lines : List (List ℕ)) (text other : List ℕ) → AreLines (IsReplyAt (IsRight plant)) plant lines text → AreLines (IsReplyAt (IsRight plant)) plant lines other → text ≡ other
  same_text _ _ _ no_lines no_lines = refl
  same_text _ _ _ (one_more line text lines texts h rest) (one_more _ text' _ texts' k rest') =
      let first = same_line (counts_of line plant.n) text text' h k in
      let others = same_text lines texts texts' rest rest' in
      λ i. first i ++ others i

pub one_replies : OnePlantText → OneRightReply → OneReplies
one_replies one right input text other h k =
    same_text right k.plant _ text other (subst (λ plant. AreLines (IsReplyAt (IsRight plant)) plant _ text) (one _ h.plant k.plant h.read k.read) h.lines) k.lines

-- ---- of a program that is solved at each state
module _ (Right : List ℚ → Reply → Type 0) (plant : Plant) (qp : Qp) where
  reply_or_wide : (t : List ℚ) (text : List ℕ) → IsStateLine Right qp t text → IsReplyOrWide Right t text
  reply_or_wide t _ (has_reply reply fits right) = inl (record { reply = reply; right = right; written = refl })
  reply_or_wide t _ (has_wide_run wide) = inr refl

  right_or_wide : (lines : List (List ℕ)) (text : List ℕ) → AreLines (IsStateLine Right qp) plant lines text → AreLines (IsReplyOrWide Right) plant lines text
  right_or_wide _ _ no_lines = no_lines
  right_or_wide _ _ (one_more line text lines texts is rest) =
      one_more line text lines texts
      (both_cases (counts_of line plant.n) _ _ (λ counts. IsLineTo (IsStateLine Right qp) plant counts text) (λ counts. IsLineTo (IsReplyOrWide Right) plant counts text) same
      (λ counts. both_cases (first_outside (limits_of plant) counts) (IsStateLine Right qp (point_of counts) text) _ _ _ (reply_or_wide (point_of counts) text) (λ i. same)) is)
      (right_or_wide lines texts rest)

  module _ (counts_are : qp.counts ≡ limits_of plant) where
    abbrev AtLimits : List ℕ → List ℕ → List ℕ → Type 0
    AtLimits counts text limits = MatchOption (first_outside limits counts) (IsStateLine Right qp (point_of counts) text) (λ i. text ≡ answer_text (outside i) ++ codes "\n")

    lines_of_states : (lines : List (List ℕ)) (text : List ℕ) → AreStateLines Right qp plant.n lines text → AreLines (IsStateLine Right qp) plant lines text
    lines_of_states _ _ no_state_lines = no_lines
    lines_of_states _ _ (one_more_state line text lines texts is rest) =
        one_more line text lines texts (both_cases (counts_of line plant.n) _ _ (λ counts. IsStateLineTo Right qp counts text) (λ counts. IsLineTo (IsStateLine Right qp) plant counts text) same (λ counts. subst (AtLimits counts text) counts_are) is) (lines_of_states lines texts rest)

    states_of_lines : (lines : List (List ℕ)) (text : List ℕ) → AreLines (IsStateLine Right qp) plant lines text → AreStateLines Right qp plant.n lines text
    states_of_lines _ _ no_lines = no_state_lines
    states_of_lines _ _ (one_more line text lines texts is rest) =
        one_more_state line text lines texts (both_cases (counts_of line plant.n) _ _ (λ counts. IsLineTo (IsStateLine Right qp) plant counts text) (λ counts. IsStateLineTo Right qp counts text) same (λ counts. subst (AtLimits counts text) (sym counts_are)) is) (states_of_lines lines texts rest)

pub solved_by_run : PlantTextsAreRead → SolvedByRun
solved_by_run texts input output = (
  λ s. record {
    plant = s.plant;
    read = (texts _ s.plant).0 s.read;
    qp = s.solved.qp;
    is_convex = s.solved.is_convex;
    lines = lines_of_states (IsRight s.plant) s.plant s.solved.qp s.solved.is_convex.has_program.condensed.counts_are _ output s.solved.state_lines;
  },
  λ s. record {
    plant = s.plant;
    read = (texts _ s.plant).1 s.read;
    solved = record { qp = s.qp; is_convex = s.is_convex; state_lines = states_of_lines (IsRight s.plant) s.plant s.qp s.is_convex.has_program.condensed.counts_are _ output s.lines };
  },
)

pub robustly_solved_by_run : PlantTextsAreRead → RobustlySolvedByRun
robustly_solved_by_run texts input output = (
  λ s. record {
    plant = s.plant;
    read = (texts _ s.plant).0 s.read;
    noise = s.solved.noise;
    noise_is = s.solved.noise_is;
    qp = s.solved.qp;
    is_convex = s.solved.is_convex;
    tight = s.solved.tight;
    is_tightened = s.solved.is_tightened;
    lines = lines_of_states (IsRobustlyRight s.plant s.solved.noise) s.plant s.solved.tight (s.solved.is_tightened.same_counts ∙ s.solved.is_convex.has_program.condensed.counts_are) _ output s.solved.state_lines;
  },
  λ s. record {
    plant = s.plant;
    read = (texts _ s.plant).1 s.read;
    solved = record {
      noise = s.noise;
      noise_is = s.noise_is;
      qp = s.qp;
      is_convex = s.is_convex;
      tight = s.tight;
      is_tightened = s.is_tightened;
      state_lines = states_of_lines (IsRobustlyRight s.plant s.noise) s.plant s.tight (s.is_tightened.same_counts ∙ s.is_convex.has_program.condensed.counts_are) _ output s.lines;
    };
  },
)

pub exact_is_solved : ExactIsSolved
exact_is_solved input output s = record { plant = s.plant; read = s.read; lines = right_or_wide (IsRight s.plant) s.plant s.qp _ output s.lines }

pub exact_is_robustly_solved : ExactIsRobustlySolved
exact_is_robustly_solved input output s = record { plant = s.plant; read = s.read; noise = s.noise; noise_is = s.noise_is; lines = right_or_wide (IsRobustlyRight s.plant s.noise) s.plant s.tight _ output s.lines }
