-- Reply lines of a program, carried over to another notion of right replies.
use Rattle.std.proofs.Common.{◌≡◌, ℕ, ◌+◌, nat_lt, Bool, true, false, cond, eqb, ◌&&◌, List, [], ◌∷◌, ◌++◌, length, map, pos, refl, sym, ◌∙◌, ap, arith, Option, Some, None}
use Rattle.std.specs.Prelude.{if◌then◌else◌, MatchOption, codes}
use Rattle.std.specs.List.{list_all}
use Rattle.std.proofs.lemmas.List.{length-map}
use Rattle.std.proofs.lemmas.Bool.{ltb-false}
use Rattle.std.proofs.lemmas.Bool.Decides.{nat_tests}
use Rattle.mpc_exact.specs.Rational.{ℚ, int, ◌≤ℚ◌}
use Rattle.mpc_exact.proofs.School.{natural_le}
use Rattle.mpc_plant.specs.Reply.{Reply}
use Rattle.mpc_plant.specs.Trajectory.{point_of}
use Rattle.mpc_rows.specs.declared.programs.Qp.{Qp}
use Rattle.mpc_rows.specs.ActiveSets.{IsInBox}
use Rattle.mpc_words.specs.Words.{words_of}
use Rattle.mpc_controller.specs.Replies.{outside_from, outside, first_outside}
use Rattle.mpc_table.specs.TableReplies.{answer_text}
use Rattle.mpc_table.specs.CountLine.{is_count, value_of, counts_of}
use Rattle.mpc_states.specs.StateLines.{IsStateLine, has_reply, has_wide_run, IsLineTo, IsReplyLine, AreStateLines, no_lines, one_more}

-- ---- counts of which none is above its limit are a point of the box
not_outside : (over : Bool) (i : ℕ) (rest : Option ℕ) → (if over then Some i else rest) ≡ None → (over ≡ false) × (rest ≡ None)
not_outside true i rest h = absurd (cc)
not_outside false i rest h = (refl, h)

from_zero : (n : ℕ) → int (pos 0) ≤ℚ int (pos n)
from_zero n = (natural_le 0 n).1 (omega arith)

within_box : (i : ℕ) (limits counts : List ℕ) → length counts ≡ length limits → outside_from i limits counts ≡ None → IsInBox limits (point_of counts)
within_box i [] [] e h = tt
within_box i [] (count ∷ counts) e h = absurd (omega arith)
within_box i (limit ∷ limits) [] e h = absurd (omega arith)
within_box i (limit ∷ limits) (count ∷ counts) e h =
    let parts = not_outside (nat_lt limit count) i (outside_from (i + 1) limits counts) h in
    (from_zero count, (natural_le count limit).1 (ltb-false limit count parts.0), within_box (i + 1) limits counts (omega arith) parts.1)

pub in_box : (limits counts : List ℕ) → length counts ≡ length limits → first_outside limits counts ≡ None → IsInBox limits (point_of counts)
in_box limits counts e h = within_box 1 limits counts e h

-- a line that is n counts has n of them
pub counts_size : (line : List ℕ) (n : ℕ) (counts : List ℕ) → counts_of line n ≡ Some counts → length counts ≡ n
unfolding counts_of
counts_size line n counts e = by (length (words_of line)) refl (eqb (length (words_of line)) n) refl (list_all is_count (words_of line)) e
  where
    by : (k : ℕ) → length (words_of line) ≡ k → (a : Bool) → eqb (length (words_of line)) n ≡ a → (b : Bool) → cond (a && b) (Some (map value_of (words_of line))) None ≡ Some counts → length counts ≡ n
    by k s true same true h =
        let is : map value_of (words_of line) ≡ counts = cc in
        let size : length (map value_of (words_of line)) ≡ length (words_of line) = simp length-map in
        let n_is : length (words_of line) ≡ n = grind (arith, nat_tests) in
        ap length (sym is) ∙ size ∙ n_is
    by k s true same false h = absurd cc
    by k s false same true h = absurd cc
    by k s false same false h = absurd cc

-- ---- line by line
module _ (One Other : List ℚ → Reply → Type 0) (qp : Qp) (n : ℕ) (size : length qp.counts ≡ n) (turn : (t : List ℚ) (reply : Reply) → IsInBox qp.counts t → One t reply → Other t reply) where
  carried_state : (t : List ℚ) (text : List ℕ) → IsInBox qp.counts t → IsStateLine One qp t text → IsStateLine Other qp t text
  carried_state t _ inside (has_reply reply narrow right) = has_reply reply narrow (turn t reply inside right)
  carried_state t _ inside (has_wide_run wide) = has_wide_run wide

  carried_counts : (counts text : List ℕ) → length counts ≡ n → IsLineTo One qp counts text → IsLineTo Other qp counts text
  carried_counts counts text e h = by (first_outside qp.counts counts) refl h
    where
      by : (o : Option ℕ) → first_outside qp.counts counts ≡ o → MatchOption o (IsStateLine One qp (point_of counts) text) (λ i. text ≡ answer_text (outside i) ++ codes "\n")
          → MatchOption o (IsStateLine Other qp (point_of counts) text) (λ i. text ≡ answer_text (outside i) ++ codes "\n")
      by None o k = carried_state (point_of counts) text (in_box qp.counts counts (e ∙ sym size) o) k
      by (Some i) o k = k

  carried_line : (line text : List ℕ) → IsReplyLine One qp n line text → IsReplyLine Other qp n line text
  carried_line line text h = by (counts_of line n) refl h
    where
      by : (o : Option (List ℕ)) → counts_of line n ≡ o → MatchOption o (text ≡ codes "bad line\n") (λ counts. IsLineTo One qp counts text) → MatchOption o (text ≡ codes "bad line\n") (λ counts. IsLineTo Other qp counts text)
      by None o k = k
      by (Some counts) o k = carried_counts counts text (counts_size line n counts o) k

  pub carried_lines : (lines : List (List ℕ)) (text : List ℕ) → AreStateLines One qp n lines text → AreStateLines Other qp n lines text
  carried_lines _ _ no_lines = no_lines
  carried_lines _ _ (one_more line first rest texts h more) = one_more line first rest texts (carried_line line first h) (carried_lines rest texts more)
