-- The theorems of whole numbers that stand for a position of a run.
use Rattle.std.proofs.Common.{ℕ, ◌≤◌, refl}
use Rattle.mpc_rows.specs.LinearSystem.{LinearSystem}
use Rattle.mpc_rows.specs.Run.{position, count, steps}
use Rattle.mpc_runs.proofs.Ends.{Reached}
use Rattle.mpc_whole.specs.PositionTheorems.{PositionTheorems}
use Rattle.mpc_whole.proofs.WholeForm.{narrow_by_norms, narrow_fits, judged_over, judged_row, side_norm, side_over}
use Rattle.mpc_whole.proofs.WholeRows.{form_first}
use Rattle.mpc_whole.proofs.WholeSizes.{opening_underway}

reached : (s : LinearSystem) (q : ℕ) → q ≤ steps s → Reached s (position s q)
reached s q h = record { after = q; order = h; is = refl }

pub position_theorems : PositionTheorems
unfolding opening_underway
position_theorems = record {
  opening = λ s k scales seats o v u c_1 c_2 h_1 h_2. (opening_underway s k (count s) seats v (form_first s (count s) refl seats o k scales v u) c_1 c_2 h_1 h_2, refl);
  narrow = λ s k a b most g n seats d v small dens. narrow_by_norms s k a b v g.most_entry g.most_side g.most_scale most g.bounds small n seats d dens;
  narrow_fits = λ s k a b w most g q h seats d v f narrow. narrow_fits s (position s q) (reached s q h) k a b w (count s) refl seats d v f narrow g.most_side g.bounds.sides;
  judged_fits = λ s k a b w q h seats d v f enters top size judged rows. judged_over s (position s q) (reached s q h) k a b w (count s) refl seats d v f enters top size judged rows;
  judged_row = λ s k a b w q h seats d v f enters top size divisor left split rows i below judged. judged_row s (position s q) (reached s q h) k a b w (count s) refl seats d v f enters top size i below judged divisor left split rows;
  side_size = side_norm;
  side_over = λ s k a b w q h seats d v f i m y below cells l. side_over s (position s q) (reached s q h) k a b w (count s) refl seats d v f i m y below cells l;
}
