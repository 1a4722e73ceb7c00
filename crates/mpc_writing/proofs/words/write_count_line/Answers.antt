use Rattle.mpc_writing.proofs.KeptTexts.{kept_then}
use Rattle.mpc_writing.proofs.words.write_count_line.Goals as goal

pub returns-in_err-write_count-clause-kept : goal.returns-in_err-write_count-clause-kept
returns-in_err-write_count-clause-kept c = kept_then _ _ _ c.write_piece.ensures.kept c.write_count.ensures.kept

pub returns-clause-kept : goal.returns-clause-kept
returns-clause-kept c = kept_then _ _ _ (kept_then _ _ _ c.write_piece.ensures.kept c.write_count.ensures.kept) c.end_line.ensures.kept
