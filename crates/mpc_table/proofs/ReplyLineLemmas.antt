-- Reply lines of a table.
use Rattle.std.proofs.Common.{◌≡◌, ℕ, Bool, true, false, cond, eqb, ◌&&◌, List, ◌∷◌, ◌++◌, length, Some, None, refl, sym, ◌∙◌, ap, subst, arith, append_assoc}
use Rattle.std.specs.Prelude.{MatchOption, MatchBool, codes, map}
use Rattle.std.specs.List.{list_all}
use Rattle.std.proofs.lemmas.List.{length-map}
use Rattle.std.proofs.lemmas.Bool.Decides.{nat_tests}
use Rattle.std.proofs.lemmas.Bool.{false≢true}
use Rattle.mpc_words.specs.Words.{words_of}
use Rattle.mpc_controller.specs.Parts.{Parts}
use Rattle.mpc_table.specs.Lookup.{Lookup, IsTableOf}
use Rattle.mpc_table.specs.TableReplies.{answer_text, AddsAnswer}
use Rattle.mpc_table.specs.CountLine.{is_count, value_of, counts_of}
use Rattle.mpc_table.specs.ReplyLines.{IsAnswerLine, AreRepliesOf, more_of, AddsReply}
use Rattle.mpc_table.proofs.BoxLemmas.{limits_size}

-- a line that is n counts has n of them
pub counts_size : (line : List ℕ) (n : ℕ) (counts : List ℕ) → counts_of line n ≡ Some counts → length counts ≡ n
unfolding counts_of
counts_size line n counts e = by (length (words_of line)) refl (eqb (length (words_of line)) n) refl (list_all is_count (words_of line)) e
  where
    by : (k : ℕ) → length (words_of line) ≡ k → (a : Bool) → eqb (length (words_of line)) n ≡ a → (b : Bool) → cond (a && b) (Some (map value_of (words_of line))) None ≡ Some counts → length counts ≡ n
    by k s true same true h =
        let is : map value_of (words_of line) ≡ counts = cc in
        let size : length (map value_of (words_of line)) ≡ length (words_of line) = simp length-map in
        let n_is : length (words_of line) ≡ n = grind (arith, nat_tests) in
        ap length (sym is) ∙ size ∙ n_is
    by k s true same false h = absurd cc
    by k s false same true h = absurd cc
    by k s false same false h = absurd cc

-- ---- the loop over the lines
pub replies_more : (parts : Parts) (lines : List (List ℕ)) (line : List ℕ) (more : List (List ℕ)) (before after : List ℕ) (whole : List (List ℕ)) → lines ≡ line ∷ more
    → AddsReply parts line before after → ((texts : List ℕ) → AreRepliesOf parts lines texts → AreRepliesOf parts whole (before ++ texts))
    → (texts : List ℕ) → AreRepliesOf parts more texts → AreRepliesOf parts whole (after ++ texts)
replies_more parts lines line more before after whole e added h texts rest =
    let one : AreRepliesOf parts lines (added.reply ++ texts) = subst (λ ls. AreRepliesOf parts ls (added.reply ++ texts)) (sym e) (more_of line added.reply more texts added.right rest) in
    subst (λ t. AreRepliesOf parts whole t) (sym (append_assoc before added.reply texts) ∙ ap (λ t. t ++ texts) (sym added.added)) (h (added.reply ++ texts) one)

-- ---- what the code knows
pub at_true : (b : Bool) (P Q : Type 0) → b ≡ true → MatchBool b P Q → P
at_true true P Q e h = h
at_true false P Q e h = absurd (false≢true e)

-- the number of coordinates that the code has is the plant's
pub states_are : (parts : Parts) (table : Lookup) (states : ℕ) → IsTableOf parts table → states ≡ length table.limits → states ≡ parts.plant.n
states_are parts table states of_parts size = size ∙ ap length of_parts.limits_are ∙ limits_size parts.plant

-- ---- what a line adds
module _ (parts : Parts) (table : Lookup) (of_parts : IsTableOf parts table) (line before after : List ℕ) (states : ℕ) (size : states ≡ length table.limits) where
  read_as : counts_of line parts.plant.n ≡ counts_of line states
  read_as = ap (counts_of line) (sym (states_are parts table states of_parts size))

  pub adds_answer : (counts middle : List ℕ) → counts_of line states ≡ Some counts → AddsAnswer parts counts before middle → after ≡ middle ++ codes "\n" → AddsReply parts line before after
  adds_answer counts middle read a e =
      let text = answer_text a.answer ++ codes "\n" in
      let one : IsAnswerLine parts counts text = record { answer = a.answer; is_answer = a.is_answer; written = refl } in
      record {
        reply = text;
        right = subst (λ o. MatchOption o (text ≡ codes "bad line\n") (λ counts. IsAnswerLine parts counts text)) (sym (read_as ∙ read)) one;
        added = e ∙ ap (λ t. t ++ codes "\n") a.added ∙ append_assoc before (answer_text a.answer) (codes "\n");
      }

  pub adds_bad_line : counts_of line states ≡ None → after ≡ before ++ codes "bad line\n" → AddsReply parts line before after
  adds_bad_line read added = record {
    reply = codes "bad line\n";
    right = subst (λ o. MatchOption o (codes "bad line\n" ≡ codes "bad line\n") (λ counts. IsAnswerLine parts counts (codes "bad line\n"))) (sym (read_as ∙ read)) refl;
    added = added;
  }
