use Rattle.std.proofs.Common.{◌≤◌, ◌∙◌, sym, length, arith}
use Rattle.std.proofs.lemmas.Result.{on_ok_weaker}
use Rattle.mpc_writing.specs.Names.{AreNames}
use Rattle.mpc_writing.proofs.FormNameLemmas.{law_without, law_with_mults, no_rows}
use Rattle.mpc_writing.proofs.KeptTexts.{kept_then}
use Rattle.mpc_writing.proofs.law_lines.write_law.Goals as goal

pub returns-then-rows-eq0-clause-numbered : goal.returns-then-rows-eq0-clause-numbered
returns-then-rows-eq0-clause-numbered c = λ forms are.
    law_without forms c.args.law.now c.args.out.now.items c.write_set.new.out.items c.write_piece.new.out.items c.write_numbers.new.out.items c.end_line.new.out.items (AreNames c.write_numbers.new.names)
    c.in_ok-write_set.ensures.text c.in_ok-write_piece.ensures.text (c.in_ok-write_numbers.ensures.numbered forms are) c.in_ok-end_line.ensures.text (no_rows c.args.law.now.mults.rows (sym c.rows.ensures.value ∙ c.if-rows-eq0.true))

pub returns-clause-numbered : goal.returns-clause-numbered
returns-clause-numbered c =
    let some : 1 ≤ length c.args.law.now.mults.rows = omega (arith, c.rows.ensures.value, c.if-rows-eq0.false) in
    on_ok_weaker c.end_line-2.result
    (λ added. λ forms are. let moves = c.in_ok-write_numbers.ensures.numbered forms are in law_with_mults forms c.args.law.now c.args.out.now.items c.write_set.new.out.items c.write_piece.new.out.items c.write_numbers.new.out.items c.end_line.new.out.items c.write_piece-2.new.out.items c.write_numbers-2.new.out.items c.end_line-2.new.out.items
    (AreNames c.write_numbers.new.names) (AreNames c.write_numbers-2.new.names)
    c.in_ok-write_set.ensures.text c.in_ok-write_piece.ensures.text moves c.in_ok-end_line.ensures.text c.in_ok-write_piece-2.ensures.text (c.in_ok-write_numbers-2.ensures.numbered moves.all moves.forms_are) added some)
    c.end_line-2.ensures.text

pub returns-in_err-write_piece-clause-kept : goal.returns-in_err-write_piece-clause-kept
returns-in_err-write_piece-clause-kept c = kept_then _ _ _ c.write_set.ensures.kept c.write_piece.ensures.kept

pub returns-in_err-write_numbers-clause-kept : goal.returns-in_err-write_numbers-clause-kept
returns-in_err-write_numbers-clause-kept c = kept_then _ _ _ (kept_then _ _ _ c.write_set.ensures.kept c.write_piece.ensures.kept) c.write_numbers.ensures.kept

pub returns-in_err-end_line-clause-kept : goal.returns-in_err-end_line-clause-kept
returns-in_err-end_line-clause-kept c = kept_then _ _ _ (kept_then _ _ _ (kept_then _ _ _ c.write_set.ensures.kept c.write_piece.ensures.kept) c.write_numbers.ensures.kept) c.end_line.ensures.kept

pub returns-in_err-write_piece-2-clause-kept : goal.returns-in_err-write_piece-2-clause-kept
returns-in_err-write_piece-2-clause-kept c = kept_then _ _ _ (kept_then _ _ _ (kept_then _ _ _ (kept_then _ _ _ c.write_set.ensures.kept c.write_piece.ensures.kept) c.write_numbers.ensures.kept) c.end_line.ensures.kept) c.write_piece-2.ensures.kept

pub returns-in_err-write_numbers-2-clause-kept : goal.returns-in_err-write_numbers-2-clause-kept
returns-in_err-write_numbers-2-clause-kept c = kept_then _ _ _ (kept_then _ _ _ (kept_then _ _ _ (kept_then _ _ _ (kept_then _ _ _ c.write_set.ensures.kept c.write_piece.ensures.kept) c.write_numbers.ensures.kept) c.end_line.ensures.kept) c.write_piece-2.ensures.kept) c.write_numbers-2.ensures.kept

pub returns-then-rows-eq0-clause-kept : goal.returns-then-rows-eq0-clause-kept
returns-then-rows-eq0-clause-kept c = kept_then _ _ _ (kept_then _ _ _ (kept_then _ _ _ c.write_set.ensures.kept c.write_piece.ensures.kept) c.write_numbers.ensures.kept) c.end_line.ensures.kept

pub returns-clause-kept : goal.returns-clause-kept
returns-clause-kept c = kept_then _ _ _ (kept_then _ _ _ (kept_then _ _ _ (kept_then _ _ _ (kept_then _ _ _ (kept_then _ _ _ c.write_set.ensures.kept c.write_piece.ensures.kept) c.write_numbers.ensures.kept) c.end_line.ensures.kept) c.write_piece-2.ensures.kept) c.write_numbers-2.ensures.kept) c.end_line-2.ensures.kept

pub returns-in_err-write_numbers-2-clause-names_kept : goal.returns-in_err-write_numbers-2-clause-names_kept
returns-in_err-write_numbers-2-clause-names_kept c = kept_then _ _ _ c.write_numbers.ensures.names_kept c.write_numbers-2.ensures.names_kept

pub returns-clause-names_kept : goal.returns-clause-names_kept
returns-clause-names_kept c = kept_then _ _ _ c.write_numbers.ensures.names_kept c.write_numbers-2.ensures.names_kept
