-- Replies that are right, and how many texts of replies there are.
use Rattle.std.proofs.Common.{◌≡◌, ℕ, ◌-◌, List, ◌++◌, length, Option, Some, None, refl, sym, ◌∙◌, ap, subst}
use Rattle.std.specs.Prelude.{MatchOption, codes, slice_get}
use Rattle.mpc_exact.specs.Rational.{ℚ}
use Rattle.mpc_plant.specs.declared.plants.Plant.{Plant}
use Rattle.mpc_plant.specs.Reply.{Reply, move}
use Rattle.mpc_plant.specs.Trajectory.{point_of}
use Rattle.mpc_rows.specs.declared.laws.Law.{Law as LawOfSet}
use Rattle.mpc_rows.specs.declared.trees.Node.{Node}
use Rattle.mpc_rows.specs.declared.trees.Node.TheVariants.{Law, NoMove}
use Rattle.mpc_controller.specs.Parts.{Parts, limits_of}
use Rattle.mpc_controller.specs.Preorder.{IsTree}
use Rattle.mpc_controller.specs.Walk.{EndsAt}
use Rattle.mpc_controller.specs.OneLeaf.{OneLeaf}
use Rattle.mpc_controller.specs.Replies.{Answer, at_state, outside, first_outside, first_move, RepliesAt, by_law, by_no_law, IsAnswerTo}
use Rattle.mpc_table.specs.TableReplies.{answer_text}
use Rattle.mpc_table.specs.CountLine.{counts_of}
use Rattle.mpc_table.specs.ReplyLines.{IsAnswerLine, IsReplyLineOf, AreRepliesOf, none_of, more_of, OneText, IsRightLine, IsReplyTo, IsReplyLine, AreReplies, no_lines, one_more, ReplyRightly, RepliesAreRight}
use Rattle.mpc_table.proofs.BoxLemmas.{in_box}
use Rattle.mpc_table.proofs.ReplyLineLemmas.{counts_size}

-- ---- right replies
module _ (plant : Plant) (parts : Parts) (rightly : ReplyRightly plant parts) where
  outside_is : (counts : List ℕ) → first_outside (limits_of plant) counts ≡ first_outside (limits_of parts.plant) counts
  outside_is counts = ap (λ p. first_outside (limits_of p) counts) (sym rightly.plant_is)

  right_answer : (counts text : List ℕ) (answer : Answer) → length counts ≡ plant.n → IsAnswerTo parts counts answer → text ≡ answer_text answer ++ codes "\n" → IsReplyTo plant counts text
  right_answer counts text (at_state reply) size h written =
      let inside : first_outside (limits_of plant) counts ≡ None = outside_is counts ∙ h.0 in
      let one : IsRightLine plant counts text = record { reply = reply; right = rightly.right (point_of counts) reply (in_box plant counts size inside) h.1; written = written } in
      subst (λ o. MatchOption o (IsRightLine plant counts text) (λ i. text ≡ answer_text (outside i) ++ codes "\n")) (sym inside) one
  right_answer counts text (outside i) size h written =
      subst (λ o. MatchOption o (IsRightLine plant counts text) (λ k. text ≡ answer_text (outside k) ++ codes "\n")) (sym (outside_is counts ∙ h)) written

  right_option : (line text : List ℕ) (o : Option (List ℕ)) → counts_of line plant.n ≡ o → MatchOption o (text ≡ codes "bad line\n") (λ counts. IsAnswerLine parts counts text)
      → MatchOption o (text ≡ codes "bad line\n") (λ counts. IsReplyTo plant counts text)
  right_option line text None e h = h
  right_option line text (Some counts) e h = right_answer counts text h.answer (counts_size line plant.n counts e) h.is_answer h.written

  right_line : (line text : List ℕ) → IsReplyLineOf parts line text → IsReplyLine plant line text
  right_line line text h =
      right_option line text (counts_of line plant.n) refl (subst (λ p. MatchOption (counts_of line p.n) (text ≡ codes "bad line\n") (λ counts. IsAnswerLine parts counts text)) rightly.plant_is h)

  right_lines : (lines : List (List ℕ)) (text : List ℕ) → AreRepliesOf parts lines text → AreReplies plant lines text
  right_lines _ _ none_of = no_lines
  right_lines _ _ (more_of line text lines texts h rest) = one_more line text lines texts (right_line line text h) (right_lines lines texts rest)

pub replies_are_right : RepliesAreRight
replies_are_right plant parts lines text rightly h = right_lines plant parts rightly lines text h

-- ---- one text of replies
module _ (parts : Parts) (leaves : OneLeaf) (tree : IsTree parts.tree) where
  same_leaf : (t : List ℚ) (place other : ℕ) (leaf node : Node) → EndsAt parts.tree t place leaf → EndsAt parts.tree t other node → leaf ≡ node
  same_leaf t place other leaf node h k =
      let once = leaves parts.tree t tree in
      let same : place ≡ other = once.only place leaf h ∙ sym (once.only other node k) in
      let both : (◌≡◌ {A = Option Node} (Some leaf) (Some node)) = sym h.node_at ∙ ap (slice_get parts.tree) same ∙ k.node_at in
      cc

  same_law : (number other : ℕ) (law with_other : LawOfSet) → number ≡ other → slice_get parts.laws (number - 1) ≡ Some law → slice_get parts.laws (other - 1) ≡ Some with_other → law ≡ with_other
  same_law number other law with_other e h k =
      let both : (◌≡◌ {A = Option LawOfSet} (Some law) (Some with_other)) = sym h ∙ ap (λ n. slice_get parts.laws (n - 1)) e ∙ k in
      cc

  same_reply : (t : List ℚ) (reply other : Reply) → RepliesAt parts t reply → RepliesAt parts t other → reply ≡ other
  same_reply t _ _ (by_law place number certs law ends numbered) (by_law place' number' certs' law' ends' numbered') =
      let leaf : (Law number certs ≡ Law number' certs') = same_leaf t place place' (Law number certs) (Law number' certs') ends ends' in
      let same : number ≡ number' = cc in
      ap (λ l. move (first_move parts.plant.p l t)) (same_law number number' law law' same numbered numbered')
  same_reply t _ _ (by_law place number certs law ends numbered) (by_no_law place' cert' ends') =
      let leaf : (Law number certs ≡ NoMove cert') = same_leaf t place place' (Law number certs) (NoMove cert') ends ends' in absurd (cc)
  same_reply t _ _ (by_no_law place cert ends) (by_law place' number' certs' law' ends' numbered') =
      let leaf : (NoMove cert ≡ Law number' certs') = same_leaf t place place' (NoMove cert) (Law number' certs') ends ends' in absurd (cc)
  same_reply t _ _ (by_no_law place cert ends) (by_no_law place' cert' ends') = refl

  same_answer : (counts : List ℕ) (answer other : Answer) → IsAnswerTo parts counts answer → IsAnswerTo parts counts other → answer ≡ other
  same_answer counts (at_state reply) (at_state other) h k = ap at_state (same_reply (point_of counts) reply other h.1 k.1)
  same_answer counts (at_state reply) (outside i) h k = let both = sym h.0 ∙ k in absurd (cc)
  same_answer counts (outside i) (at_state reply) h k = let both = sym h ∙ k.0 in absurd (cc)
  same_answer counts (outside i) (outside j) h k =
      let both : (◌≡◌ {A = Option ℕ} (Some i) (Some j)) = sym h ∙ k in
      let same : i ≡ j = cc in ap outside same

  same_line : (o : Option (List ℕ)) (text other : List ℕ) → MatchOption o (text ≡ codes "bad line\n") (λ counts. IsAnswerLine parts counts text)
      → MatchOption o (other ≡ codes "bad line\n") (λ counts. IsAnswerLine parts counts other) → text ≡ other
  same_line None text other h k = h ∙ sym k
  same_line (Some counts) text other h k =
      h.written ∙ ap (λ a. answer_text a ++ codes "\n") (same_answer counts h.answer k.answer h.is_answer k.is_answer) ∙ sym k.written

  same_text : (lines : List (List ℕ)) (text other : List ℕ) → AreRepliesOf parts lines text → AreRepliesOf parts lines other → text ≡ other
  same_text _ _ _ none_of none_of = refl
  same_text _ _ _ (more_of line text lines texts h rest) (more_of _ text' _ texts' k rest') =
      let one = same_line (counts_of line parts.plant.n) text text' h k in
      let all = same_text lines texts texts' rest rest' in
      λ i. one i ++ all i

pub one_text : OneLeaf → OneText
one_text leaves parts lines text other tree h k = same_text parts leaves tree lines text other h k
