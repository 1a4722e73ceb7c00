use Rattle.std.proofs.Math.Seq.{take-length}
use Rattle.std.proofs.Common.{◌≡◌, ◌<◌, ◌+◌, List, ℕ, [], ◌∷◌, ◌++◌, length, map, take, sym, subst, ap, ◌∙◌, arith}
use Rattle.std.proofs.lemmas.List.{take_more, take_all}
use Rattle.mpc_writing.specs.FormNames.{AreNumbered}
use Rattle.mpc_writing.specs.Names.{IsNamed, AreNames}
use Rattle.mpc_writing.specs.FormNames.{form_line}
use Rattle.mpc_writing.proofs.FormNameLemmas.{numbered_none, numbered_more}
use Rattle.mpc_writing.proofs.KeptTexts.{kept_then}
use Rattle.mpc_writing.proofs.law_lines.write_numbers.Goals as goal

pub loop-i-init : goal.loop-i-init
loop-i-init c = record {
  numbered = λ forms are. numbered_none forms c.args.out.now.items (AreNames c.args.names.now) are;
  kept = take-length c.args.out.now.items;
  names_kept = take-length c.args.names.now.text.items;
}

pub loop-i-preserved : goal.loop-i-preserved
loop-i-preserved c = record {
  numbered = λ forms are.
      let rows = c.args.matrix.now.rows in
      let row = c.row.result.now in
      let i = c.loop-i.i in
      let before = c.loop-i.invariant.numbered forms are in
      let inside : i < length rows = omega (arith, c.rows-i-end.ensures.value) in
      let named : (lines : List (List ℕ)) → AreNames c.loop-i.names lines → IsNamed lines (form_line row) c.in_ok-number.number (AreNames c.number.new.self) =
      λ lines h. subst (λ t. IsNamed lines t c.in_ok-number.number (AreNames c.number.new.self)) c.in_ok-text.ensures.text (c.in_ok-number.ensures.named lines h) in
      let same : take i rows ++ row ∷ [] ≡ take (i + 1) rows = ap (λ r. take i rows ++ r ∷ []) c.row.ensures ∙ sym (take_more rows i [] inside) in
      subst (λ rs. AreNumbered forms rs c.args.out.now.items c.write_count.new.out.items (AreNames c.number.new.self)) same
      (numbered_more c.one_fractions.ensures forms (take i rows) row c.in_ok-number.number c.args.out.now.items c.loop-i.out.items c.write_count.new.out.items (AreNames c.loop-i.names) (AreNames c.number.new.self) c.in_ok-text.ensures.fits before (named (map form_line before.all) before.forms_are.names_are) c.in_ok-write_count.ensures.text);
  kept = kept_then _ _ _ c.loop-i.invariant.kept c.write_count.ensures.kept;
  names_kept = kept_then _ _ _ c.loop-i.invariant.names_kept c.number.ensures.kept;
}

pub returns-in_err-number-clause-names_kept : goal.returns-in_err-number-clause-names_kept
returns-in_err-number-clause-names_kept c = kept_then _ _ _ c.loop-i.invariant.names_kept c.number.ensures.kept

pub returns-in_err-write_count-clause-kept : goal.returns-in_err-write_count-clause-kept
returns-in_err-write_count-clause-kept c = kept_then _ _ _ c.loop-i.invariant.kept c.write_count.ensures.kept

pub returns-in_err-write_count-clause-names_kept : goal.returns-in_err-write_count-clause-names_kept
returns-in_err-write_count-clause-names_kept c = kept_then _ _ _ c.loop-i.invariant.names_kept c.number.ensures.kept

pub returns-clause-numbered : goal.returns-clause-numbered
returns-clause-numbered c = λ forms are.
    subst (λ rs. AreNumbered forms rs c.args.out.now.items c.loop-i.out.items (AreNames c.loop-i.names)) (take_all c.loop-i.i c.args.matrix.now.rows (omega (arith, c.rows-i-end.ensures.value, c.loop-i-test.false))) (c.loop-i.invariant.numbered forms are)
