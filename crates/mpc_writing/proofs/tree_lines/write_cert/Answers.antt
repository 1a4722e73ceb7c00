use Rattle.mpc_writing.proofs.KeptTexts.{kept_then}
use Rattle.mpc_writing.proofs.tree_lines.write_cert.Goals as goal

pub returns-in_err-write_pairs-clause-kept : goal.returns-in_err-write_pairs-clause-kept
returns-in_err-write_pairs-clause-kept c = kept_then _ _ _ c.write_piece.ensures.kept c.write_pairs.ensures.kept

pub returns-clause-kept : goal.returns-clause-kept
returns-clause-kept c = kept_then _ _ _ (kept_then _ _ _ c.write_piece.ensures.kept c.write_pairs.ensures.kept) c.end_line.ensures.kept
