use Rattle.std.proofs.Common.{◌≡◌, ◌+◌, ◌∷◌, ◌++◌, [], take, sym, ap, subst, ◌∙◌, arith}
use Rattle.std.proofs.lemmas.List.{take_more, take_all}
use Rattle.std.proofs.lemmas.Option.{slice_get_within, get_or_from_slice_get}
use Rattle.mpc_writing.specs.FormNames.{AreLawsNumbered}
use Rattle.mpc_writing.specs.Names.{AreNames}
use Rattle.mpc_writing.proofs.FormNameLemmas.{laws_more}
use Rattle.mpc_writing.proofs.KeptTexts.{kept_then}
use Rattle.mpc_writing.proofs.law_lines.write_laws.Goals as goal

pub loop-j-preserved : goal.loop-j-preserved
loop-j-preserved c = record {
  numbered = λ none.
      let laws = c.args.laws.now in
      let law = c.at.result.now in
      let j = c.loop-j.j in
      let before = c.loop-j.invariant.numbered none in
      let same : take j laws ++ law ∷ [] ≡ take (j + 1) laws = ap (λ l. take j laws ++ l ∷ []) (sym (get_or_from_slice_get laws j law law c.at.ensures)) ∙ sym (take_more laws j law (slice_get_within laws j law c.at.ensures)) in
      subst (λ ls. AreLawsNumbered ls c.args.out.now.items c.write_law.new.out.items (AreNames c.write_law.new.names)) same
      (laws_more (take j laws) law c.args.out.now.items c.loop-j.out.items c.write_law.new.out.items (AreNames c.loop-j.names) (AreNames c.write_law.new.names) before (c.in_ok-write_law.ensures.numbered before.forms before.forms_are));
  kept = kept_then _ _ _ c.loop-j.invariant.kept c.write_law.ensures.kept;
  names_kept = kept_then _ _ _ c.loop-j.invariant.names_kept c.write_law.ensures.names_kept;
}

pub returns-in_err-write_law-clause-kept : goal.returns-in_err-write_law-clause-kept
returns-in_err-write_law-clause-kept c = kept_then _ _ _ c.loop-j.invariant.kept c.write_law.ensures.kept

pub returns-in_err-write_law-clause-names_kept : goal.returns-in_err-write_law-clause-names_kept
returns-in_err-write_law-clause-names_kept c = kept_then _ _ _ c.loop-j.invariant.names_kept c.write_law.ensures.names_kept

pub returns-clause-numbered : goal.returns-clause-numbered
returns-clause-numbered c = λ none.
    subst (λ ls. AreLawsNumbered ls c.args.out.now.items c.loop-j.out.items (AreNames c.loop-j.names)) (take_all c.loop-j.j c.args.laws.now (omega (arith, c.len-j-end.ensures, c.loop-j-test.false))) (c.loop-j.invariant.numbered none)
