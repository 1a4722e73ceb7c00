-- A row that stands there already, the other way round: its numbers are the negatives.
use Rattle.std.proofs.Common.{◌≡◌, ℕ, ◌<◌, length, negsuc, neg_ℤ, [], ◌∷◌, ◌+◌, ◌∙◌, sym, ap, subst, arith}
use Rattle.mpc_exact.specs.Rational.{ℚ, int, frac, neg_ℚ, ◌*ℚ◌}
use Rattle.mpc_exact.proofs.Rational.{frac-neg}
use Rattle.mpc_exact.proofs.RationalRing.{reads, by_ring}
use Rattle.mpc_space.specs.Vector.{coordinate}
use Rattle.mpc_space.proofs.Entries.{coordinate-listed, coordinate-scale, length-listed, length-scale}
use Rattle.mpc_rows.specs.SetRuns.{turned}
use Rattle.mpc_scaled.specs.declared.systems.WholeLists.{WholeLists}
use Rattle.mpc_scaled.specs.Scaled.{whole_at, whole_cell}
use Rattle.mpc_rows.specs.LinearSystem.{LinearSystem, height, row_at}
use Rattle.mpc_scaled.specs.WholeSystems.{row_scale, kept_row, system_of, AreLists}
use Rattle.mpc_scaled.proofs.WholeSystems.{height_is, row_is}

minus : (x : ℚ) → int (negsuc 0) *ℚ x ≡ neg_ℚ x
minus x = by_ring (x ∷ []) (search reads depth 30) (search reads depth 30) tt

module _ (l : WholeLists) (i : ℕ) (some : 0 < row_scale l i) where
  pub turned_length : length (turned (kept_row l i)).a ≡ l.width
  turned_length = length-scale (int (negsuc 0)) (kept_row l i).a ∙ length-listed l.width (λ j. frac (whole_cell l.width l.a.items i j) (row_scale l i))

  pub turned_entry : (j : ℕ) → j < l.width → coordinate (turned (kept_row l i)).a j ≡ frac (neg_ℤ (whole_cell l.width l.a.items i j)) (row_scale l i)
  turned_entry j h =
      coordinate-scale (int (negsuc 0)) (kept_row l i).a j
      ∙ ap (λ u. int (negsuc 0) *ℚ u) (coordinate-listed l.width (λ c. frac (whole_cell l.width l.a.items i c) (row_scale l i)) j h)
      ∙ minus (frac (whole_cell l.width l.a.items i j) (row_scale l i))
      ∙ frac-neg (whole_cell l.width l.a.items i j) (row_scale l i) some

  pub turned_side : (turned (kept_row l i)).b ≡ frac (neg_ℤ (whole_at l.b.items i)) (row_scale l i)
  turned_side = frac-neg (whole_at l.b.items i) (row_scale l i) some

-- ---- row i of a system, by its lists
module _ (l : WholeLists) (o : AreLists l) (s : LinearSystem) (view : system_of l ≡ s) (i : ℕ) (h : i < height s) where
  in_system : i < height (system_of l)
  in_system = subst (λ (u : LinearSystem). i < height u) (sym view) h

  pub in_lists : i < length l.b.items
  in_lists = subst (λ m. i < m) (height_is l o) in_system

  some_scale : 0 < row_scale l i
  some_scale = o.some (l.width + i) (let e = o.scales_size in let k = in_lists in omega arith)

  pub turned_wide : length (turned (kept_row l i)).a ≡ l.width
  turned_wide = turned_length l i some_scale

  pub turned_row : turned (kept_row l i) ≡ turned (row_at s i)
  turned_row = ap turned (sym (row_is l o i in_system)) ∙ ap (λ (u : LinearSystem). turned (row_at u i)) view
