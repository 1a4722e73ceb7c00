use Rattle.mpc_writing.proofs.KeptTexts.{kept_then}
use Rattle.mpc_writing.proofs.words.write_fractions_line.Goals as goal

pub returns-in_err-write_fractions-clause-kept : goal.returns-in_err-write_fractions-clause-kept
returns-in_err-write_fractions-clause-kept c = kept_then _ _ _ c.write_piece.ensures.kept c.write_fractions.ensures.kept

pub returns-clause-kept : goal.returns-clause-kept
returns-clause-kept c = kept_then _ _ _ (kept_then _ _ _ c.write_piece.ensures.kept c.write_fractions.ensures.kept) c.end_line.ensures.kept
