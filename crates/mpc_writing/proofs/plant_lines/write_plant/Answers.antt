use Rattle.std.proofs.Common.{◌≡◌, ◌++◌, ◌∷◌, [], map}
use Rattle.std.proofs.lemmas.Result.{on_ok_weaker}
use Rattle.std.proofs.lemmas.List.{append-nil}
use Rattle.std.proofs.Common.{◌∙◌, sym, ap}
use Rattle.mpc_grammar.specs.Lines.{grid_line}
use Rattle.mpc_writing.specs.Writing.{ended, text_of_lines, size_line, matrix_lines, drift_line, goal_line, row_lines, last_lines}
use Rattle.mpc_writing.proofs.GrownTexts.{joined, line_and_blocks}
use Rattle.mpc_writing.proofs.PlantPrints.{lines_print}
use Rattle.mpc_writing.proofs.KeptTexts.{kept_then}
use Rattle.mpc_writing.proofs.plant_lines.write_plant.Goals as goal

pub returns-clause-text : goal.returns-clause-text
returns-clause-text c =
    let plant = c.args.plant.now in
    let drift : c.write_drift.new.out.items ≡ c.write_size.new.out.items ++ text_of_lines (matrix_lines plant ++ drift_line plant ∷ []) =
    joined ended (matrix_lines plant) (drift_line plant ∷ []) c.write_size.new.out.items c.write_matrices.new.out.items c.write_drift.new.out.items c.in_ok-write_matrices.ensures.text
    (c.in_ok-write_drift.ensures.text ∙ ap (λ t. c.write_matrices.new.out.items ++ t) (sym (append-nil (ended (drift_line plant))))) in
    let terms : c.write_goal.new.out.items ≡ c.write_size.new.out.items ++ text_of_lines ((matrix_lines plant ++ drift_line plant ∷ []) ++ goal_line plant ∷ []) =
    joined ended (matrix_lines plant ++ drift_line plant ∷ []) (goal_line plant ∷ []) c.write_size.new.out.items c.write_drift.new.out.items c.write_goal.new.out.items drift
    (c.in_ok-write_goal.ensures.text ∙ ap (λ t. c.write_drift.new.out.items ++ t) (sym (append-nil (ended (goal_line plant))))) in
    on_ok_weaker c.write_grid.result
    (λ added. line_and_blocks (size_line plant) (matrix_lines plant ++ drift_line plant ∷ goal_line plant ∷ []) (row_lines plant.rows) (last_lines plant.terminal) (map grid_line plant.grid)
    c.args.out.now.items c.write_size.new.out.items c.write_goal.new.out.items c.write_rows.new.out.items c.write_terminal.new.out.items c.write_grid.new.out.items
    c.in_ok-write_size.ensures.text terms c.in_ok-write_rows.ensures.text c.in_ok-write_terminal.ensures.text added)
    c.write_grid.ensures.text

pub returns-clause-prints : goal.returns-clause-prints
returns-clause-prints c =
    on_ok_weaker c.write_grid.result
    (λ fits. lines_print c.word_theorems.ensures c.args.plant.now
    (record {
      matrices = c.in_ok-write_matrices.ensures.fits;
      drift = c.in_ok-write_drift.ensures.fits;
      goal = c.in_ok-write_goal.ensures.fits;
      rows = c.in_ok-write_rows.ensures.fits;
      terminal = c.in_ok-write_terminal.ensures.fits;
      grid = fits;
    }))
    c.write_grid.ensures.fits

pub returns-in_err-write_matrices-clause-kept : goal.returns-in_err-write_matrices-clause-kept
returns-in_err-write_matrices-clause-kept c = kept_then _ _ _ c.write_size.ensures.kept c.write_matrices.ensures.kept

pub returns-in_err-write_drift-clause-kept : goal.returns-in_err-write_drift-clause-kept
returns-in_err-write_drift-clause-kept c = kept_then _ _ _ (kept_then _ _ _ c.write_size.ensures.kept c.write_matrices.ensures.kept) c.write_drift.ensures.kept

pub returns-in_err-write_goal-clause-kept : goal.returns-in_err-write_goal-clause-kept
returns-in_err-write_goal-clause-kept c = kept_then _ _ _ (kept_then _ _ _ (kept_then _ _ _ c.write_size.ensures.kept c.write_matrices.ensures.kept) c.write_drift.ensures.kept) c.write_goal.ensures.kept

pub returns-in_err-write_rows-clause-kept : goal.returns-in_err-write_rows-clause-kept
returns-in_err-write_rows-clause-kept c = kept_then _ _ _ (kept_then _ _ _ (kept_then _ _ _ (kept_then _ _ _ c.write_size.ensures.kept c.write_matrices.ensures.kept) c.write_drift.ensures.kept) c.write_goal.ensures.kept) c.write_rows.ensures.kept

pub returns-in_err-write_terminal-clause-kept : goal.returns-in_err-write_terminal-clause-kept
returns-in_err-write_terminal-clause-kept c = kept_then _ _ _ (kept_then _ _ _ (kept_then _ _ _ (kept_then _ _ _ (kept_then _ _ _ c.write_size.ensures.kept c.write_matrices.ensures.kept) c.write_drift.ensures.kept) c.write_goal.ensures.kept) c.write_rows.ensures.kept) c.write_terminal.ensures.kept

pub returns-clause-kept : goal.returns-clause-kept
returns-clause-kept c = kept_then _ _ _ (kept_then _ _ _ (kept_then _ _ _ (kept_then _ _ _ (kept_then _ _ _ (kept_then _ _ _ c.write_size.ensures.kept c.write_matrices.ensures.kept) c.write_drift.ensures.kept) c.write_goal.ensures.kept) c.write_rows.ensures.kept) c.write_terminal.ensures.kept) c.write_grid.ensures.kept
