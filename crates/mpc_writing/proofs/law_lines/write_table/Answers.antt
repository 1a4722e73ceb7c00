use Rattle.std.proofs.Common.{[], ◌∙◌, ap, subst, ◌++◌}
use Rattle.std.proofs.lemmas.Result.{on_ok_weaker}
use Rattle.std.specs.Prelude.{codes}
use Rattle.mpc_grammar.specs.Lines.{count_line}
use Rattle.mpc_writing.specs.Writing.{ended}
use Rattle.mpc_writing.specs.FormNames.{AreLawsNumbered}
use Rattle.mpc_writing.specs.Names.{AreNames}
use Rattle.mpc_writing.proofs.FormNameLemmas.{no_forms, table_written}
use Rattle.mpc_writing.proofs.KeptTexts.{kept_then}
use Rattle.mpc_writing.proofs.law_lines.write_table.Goals as goal

pub returns-clause-written : goal.returns-clause-written
returns-clause-written c =
    let numbered : AreLawsNumbered c.args.laws.now [] c.write_laws.new.out.items (AreNames c.write_laws.new.names) =
    subst (λ t. AreLawsNumbered c.args.laws.now t c.write_laws.new.out.items (AreNames c.write_laws.new.names)) c.new-text.ensures.items (c.in_ok-write_laws.ensures.numbered (no_forms (AreNames c.new-names.result) c.new-names.ensures)) in
    on_ok_weaker c.write_piece-2.result
    (λ added. table_written c.args.laws.now c.args.out.now.items c.write_count_line.new.out.items c.write_piece.new.out.items c.write_count_line-2.new.out.items c.write_piece-2.new.out.items
    c.write_laws.new.out.items c.text.result.now c.len.result c.write_laws.new.names numbered c.len.ensures c.text.ensures
    c.in_ok-write_count_line.ensures.text c.in_ok-write_piece.ensures.text
    (c.in_ok-write_count_line-2.ensures.text ∙ ap (λ n. c.write_piece.new.out.items ++ ended (count_line (codes "laws") n)) c.len-2.ensures)
    (added ∙ ap (λ t. c.write_count_line-2.new.out.items ++ t) c.as_slice.ensures.value))
    c.write_piece-2.ensures.text

pub returns-in_err-write_piece-clause-kept : goal.returns-in_err-write_piece-clause-kept
returns-in_err-write_piece-clause-kept c = kept_then _ _ _ c.write_count_line.ensures.kept c.write_piece.ensures.kept

pub returns-in_err-write_count_line-2-clause-kept : goal.returns-in_err-write_count_line-2-clause-kept
returns-in_err-write_count_line-2-clause-kept c = kept_then _ _ _ (kept_then _ _ _ c.write_count_line.ensures.kept c.write_piece.ensures.kept) c.write_count_line-2.ensures.kept

pub returns-clause-kept : goal.returns-clause-kept
returns-clause-kept c = kept_then _ _ _ (kept_then _ _ _ (kept_then _ _ _ c.write_count_line.ensures.kept c.write_piece.ensures.kept) c.write_count_line-2.ensures.kept) c.write_piece-2.ensures.kept
