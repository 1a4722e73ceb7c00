use Rattle.std.proofs.lemmas.Result.{on_ok_weaker}
use Rattle.mpc_grammar.specs.FileGrammar.{parts_with}
use Rattle.mpc_writing.proofs.FilePrints.{written}
use Rattle.mpc_writing.proofs.KeptTexts.{kept_then}
use Rattle.mpc_writing.proofs.writing.write_parts.Goals as goal

pub returns-clause-spells : goal.returns-clause-spells
returns-clause-spells c =
    on_ok_weaker c.write_piece.result
    (λ added. λ is empty. written c.word_theorems.ensures (parts_with c.args.plant.now c.args.laws.now c.args.tree.now) c.args.out.now.items c.write_count_line.new.out.items c.write_plant.new.out.items c.write_table.new.out.items c.write_tree.new.out.items c.write_piece.new.out.items
    is empty c.in_ok-write_count_line.ensures.text c.in_ok-write_plant.ensures.text c.in_ok-write_plant.ensures.prints c.in_ok-write_table.ensures.written c.in_ok-write_tree.ensures.written added)
    c.write_piece.ensures.text

pub returns-in_err-write_plant-clause-kept : goal.returns-in_err-write_plant-clause-kept
returns-in_err-write_plant-clause-kept c = kept_then _ _ _ c.write_count_line.ensures.kept c.write_plant.ensures.kept

pub returns-in_err-write_table-clause-kept : goal.returns-in_err-write_table-clause-kept
returns-in_err-write_table-clause-kept c = kept_then _ _ _ (kept_then _ _ _ c.write_count_line.ensures.kept c.write_plant.ensures.kept) c.write_table.ensures.kept

pub returns-in_err-write_tree-clause-kept : goal.returns-in_err-write_tree-clause-kept
returns-in_err-write_tree-clause-kept c = kept_then _ _ _ (kept_then _ _ _ (kept_then _ _ _ c.write_count_line.ensures.kept c.write_plant.ensures.kept) c.write_table.ensures.kept) c.write_tree.ensures.kept

pub returns-clause-kept : goal.returns-clause-kept
returns-clause-kept c = kept_then _ _ _ (kept_then _ _ _ (kept_then _ _ _ (kept_then _ _ _ c.write_count_line.ensures.kept c.write_plant.ensures.kept) c.write_table.ensures.kept) c.write_tree.ensures.kept) c.write_piece.ensures.kept
