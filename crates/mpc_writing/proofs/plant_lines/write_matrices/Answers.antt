use Rattle.mpc_writing.proofs.KeptTexts.{kept_then}
use Rattle.mpc_writing.proofs.plant_lines.write_matrices.Goals as goal

pub returns-in_err-write_matrix-2-clause-kept : goal.returns-in_err-write_matrix-2-clause-kept
returns-in_err-write_matrix-2-clause-kept c = kept_then _ _ _ c.write_matrix.ensures.kept c.write_matrix-2.ensures.kept

pub returns-in_err-write_matrix-3-clause-kept : goal.returns-in_err-write_matrix-3-clause-kept
returns-in_err-write_matrix-3-clause-kept c = kept_then _ _ _ (kept_then _ _ _ c.write_matrix.ensures.kept c.write_matrix-2.ensures.kept) c.write_matrix-3.ensures.kept

pub returns-in_err-write_matrix-4-clause-kept : goal.returns-in_err-write_matrix-4-clause-kept
returns-in_err-write_matrix-4-clause-kept c = kept_then _ _ _ (kept_then _ _ _ (kept_then _ _ _ c.write_matrix.ensures.kept c.write_matrix-2.ensures.kept) c.write_matrix-3.ensures.kept) c.write_matrix-4.ensures.kept

pub returns-clause-kept : goal.returns-clause-kept
returns-clause-kept c = kept_then _ _ _ (kept_then _ _ _ (kept_then _ _ _ (kept_then _ _ _ c.write_matrix.ensures.kept c.write_matrix-2.ensures.kept) c.write_matrix-3.ensures.kept) c.write_matrix-4.ensures.kept) c.write_matrix-5.ensures.kept
