-- What a line adds to the replies.
use Rattle.std.proofs.Common.{◌≡◌, ℕ, Bool, true, false, List, ◌∷◌, ◌++◌, take, map, Some, None, refl, sym, ◌∙◌, ap, subst, append_assoc}
use Rattle.std.specs.Prelude.{MatchOption, MatchBool, codes}
use Rattle.std.specs.List.{join_with_byte}
use Rattle.std.proofs.lemmas.Bool.{false≢true}
use Rattle.mpc_exact.specs.Rational.{ℚ}
use Rattle.mpc_frac.specs.Text.{text_of}
use Rattle.mpc_plant.specs.Reply.{Reply, move, infeasible}
use Rattle.mpc_plant.specs.Trajectory.{point_of}
use Rattle.mpc_rows.specs.declared.programs.Qp.{Qp}
use Rattle.mpc_rows.specs.ActiveSets.{IsFeasible}
use Rattle.mpc_cover.specs.Cheapest.{IsCheapest}
use Rattle.mpc_controller.specs.Replies.{outside, first_outside}
use Rattle.mpc_table.specs.TableReplies.{answer_text}
use Rattle.mpc_table.specs.CountLine.{counts_of}
use Rattle.mpc_online.specs.declared.Online.{Online}
use Rattle.mpc_online.specs.OnlineRun.{IsRunEnd, answered, wide_in, OneRunEnd}
use Rattle.mpc_states.specs.StateLines.{IsTooWide, reply_text, IsStateLine, has_reply, has_wide_run, IsLineTo, IsReplyLine, AreStateLines, one_more, AddsLine, AddsStateLine, IsOf}

pub at_true : (b : Bool) (P Q : Type 0) → b ≡ true → MatchBool b P Q → P
at_true true P Q e h = h
at_true false P Q e h = absurd (false≢true e)

-- ---- the end of the run
pub narrow : OneRunEnd → (qp : Qp) (t : List ℚ) (o : Online) → IsRunEnd qp t (answered o) → IsTooWide qp t → ⊥
narrow one qp t o h (step, w) = let e = one qp t (answered o) (wide_in step) h w in absurd (cc)

module _ (qp : Qp) (p : ℕ) (t : List ℚ) (before after : List ℕ) where
  pub adds_moves : (z u : List ℚ) → (IsTooWide qp t → ⊥) → IsCheapest qp t z → u ≡ take p z → after ≡ before ++ (join_with_byte 32 (map text_of u) ++ codes "\n") → AddsStateLine (IsOf qp p) qp t before after
  adds_moves z u fits best e added = record { line = reply_text (move u); is_line = has_reply (move u) fits (z, best, e); added = added }

  pub adds_none : (IsTooWide qp t → ⊥) → ((z : List ℚ) → IsFeasible qp t z → ⊥) → after ≡ before ++ codes "infeasible\n" → AddsStateLine (IsOf qp p) qp t before after
  adds_none fits empty added = record { line = reply_text infeasible; is_line = has_reply infeasible fits empty; added = added }

  pub adds_wide : (step : ℕ) → IsRunEnd qp t (wide_in step) → after ≡ before ++ codes "too wide\n" → AddsStateLine (IsOf qp p) qp t before after
  adds_wide step w added = record { line = codes "too wide\n"; is_line = has_wide_run (step, w); added = added }

-- ---- the line to a line
module _ (Right : List ℚ → Reply → Type 0) (qp : Qp) (n : ℕ) (line before after : List ℕ) where
  pub adds_bad_line : counts_of line n ≡ None → after ≡ before ++ codes "bad line\n" → AddsLine Right qp n line before after
  adds_bad_line e added = record {
    reply = codes "bad line\n";
    right = subst (λ o. MatchOption o (codes "bad line\n" ≡ codes "bad line\n") (λ counts. IsLineTo Right qp counts (codes "bad line\n"))) (sym e) refl;
    added = added;
  }

  line_to : (counts text : List ℕ) → counts_of line n ≡ Some counts → IsLineTo Right qp counts text → IsReplyLine Right qp n line text
  line_to counts text e h = subst (λ o. MatchOption o (text ≡ codes "bad line\n") (λ counts. IsLineTo Right qp counts text)) (sym e) h

  pub adds_outside : (counts : List ℕ) (i : ℕ) → counts_of line n ≡ Some counts → first_outside qp.counts counts ≡ Some i → after ≡ before ++ (answer_text (outside i) ++ codes "\n") → AddsLine Right qp n line before after
  adds_outside counts i e o added =
      let text = answer_text (outside i) ++ codes "\n" in
      record {
        reply = text;
        right = line_to counts text e (subst (λ r. MatchOption r (IsStateLine Right qp (point_of counts) text) (λ j. text ≡ answer_text (outside j) ++ codes "\n")) (sym o) refl);
        added = added;
      }

  pub adds_state : (counts : List ℕ) → counts_of line n ≡ Some counts → first_outside qp.counts counts ≡ None → AddsStateLine Right qp (point_of counts) before after → AddsLine Right qp n line before after
  adds_state counts e o h = record {
    reply = h.line;
    right = line_to counts h.line e (subst (λ r. MatchOption r (IsStateLine Right qp (point_of counts) h.line) (λ j. h.line ≡ answer_text (outside j) ++ codes "\n")) (sym o) h.is_line);
    added = h.added;
  }

-- ---- the loop over the lines
pub lines_more : (Right : List ℚ → Reply → Type 0) (qp : Qp) (n : ℕ) (lines : List (List ℕ)) (line : List ℕ) (more : List (List ℕ)) (before after : List ℕ) (whole : List (List ℕ)) → lines ≡ line ∷ more
    → AddsLine Right qp n line before after → ((texts : List ℕ) → AreStateLines Right qp n lines texts → AreStateLines Right qp n whole (before ++ texts))
    → (texts : List ℕ) → AreStateLines Right qp n more texts → AreStateLines Right qp n whole (after ++ texts)
lines_more Right qp n lines line more before after whole e added h texts rest =
    let one : AreStateLines Right qp n lines (added.reply ++ texts) = subst (λ ls. AreStateLines Right qp n ls (added.reply ++ texts)) (sym e) (one_more line added.reply more texts added.right rest) in
    subst (λ t. AreStateLines Right qp n whole t) (sym (append_assoc before added.reply texts) ∙ ap (λ t. t ++ texts) (sym added.added)) (h (added.reply ++ texts) one)
