use Rattle.std.proofs.Common.{sym, ◌∙◌, ap, subst, ◌++◌, length, ◌<◌, ◌^◌}
use Rattle.std.proofs.lemmas.Result.{on_ok_weaker}
use Rattle.mpc_writing.specs.PlaneNames.{AreNodesNumbered}
use Rattle.mpc_writing.specs.Names.{AreNames}
use Rattle.mpc_writing.proofs.PlaneLemmas.{no_planes, tree_written, few_bytes}
use Rattle.mpc_writing.proofs.KeptTexts.{kept_then}
use Rattle.mpc_writing.proofs.tree_lines.write_tree.Goals as goal

pub returns-clause-written : goal.returns-clause-written
returns-clause-written c =
    on_ok_weaker c.write_piece-3.result
    (λ added. λ plant good. tree_written c.word_theorems.ensures plant c.args.tree.now c.args.out.now.items c.write_count_line.new.out.items c.write_piece.new.out.items c.write_piece-2.new.out.items c.write_piece-3.new.out.items
    c.write_nodes.new.out.items c.text.result.now c.len.result c.write_nodes.new.names
    (subst (λ t. AreNodesNumbered plant c.args.tree.now t c.write_nodes.new.out.items (AreNames c.write_nodes.new.names)) c.new-text.ensures.items (c.in_ok-write_nodes.ensures.numbered plant good (no_planes plant (AreNames c.new-names.result) c.new-names.ensures)))
    c.len.ensures c.text.ensures (subst (λ t. length t < 2 ^ 63) (sym c.text.ensures) (few_bytes c.write_nodes.new.names.text))
    c.in_ok-write_count_line.ensures.text c.in_ok-write_piece.ensures.text c.in_ok-write_piece-2.ensures.text
    (added ∙ ap (λ t. c.write_piece-2.new.out.items ++ t) c.as_slice.ensures.value))
    c.write_piece-3.ensures.text

pub returns-in_err-write_piece-clause-kept : goal.returns-in_err-write_piece-clause-kept
returns-in_err-write_piece-clause-kept c = kept_then _ _ _ c.write_count_line.ensures.kept c.write_piece.ensures.kept

pub returns-in_err-write_piece-2-clause-kept : goal.returns-in_err-write_piece-2-clause-kept
returns-in_err-write_piece-2-clause-kept c = kept_then _ _ _ (kept_then _ _ _ c.write_count_line.ensures.kept c.write_piece.ensures.kept) c.write_piece-2.ensures.kept

pub returns-clause-kept : goal.returns-clause-kept
returns-clause-kept c = kept_then _ _ _ (kept_then _ _ _ (kept_then _ _ _ c.write_count_line.ensures.kept c.write_piece.ensures.kept) c.write_piece-2.ensures.kept) c.write_piece-3.ensures.kept
