-- The matrices that the code forms are the program of the plant.
use Rattle.std.proofs.Common.{◌≡◌, ℕ, ◌+◌, ◌*◌, ◌<◌, ◌≤◌, List, [], ◌∷◌, ◌++◌, length, get_or, take, pos, refl, sym, ◌∙◌, ap, subst, arith, ⊎_elim, Some, slice_get}
use Rattle.std.proofs.Math.ListN.{get_or-eq_default}
use Rattle.std.proofs.lemmas.Bool.{cases_lt}
use Rattle.std.proofs.lemmas.List.{take_more, map-append}
use Rattle.std.proofs.lemmas.Option.{get_or_from_slice_get, slice_get_within}
use Rattle.mpc_exact.specs.Rational.{ℚ, int, ◌+ℚ◌, ◌-ℚ◌}
use Rattle.mpc_exact.proofs.RationalRing.{reads, by_ring}
use Rattle.mpc_space.specs.Vector.{coordinate, dot, IsSymmetric}
use Rattle.mpc_space.specs.Matrix.{RationalMatrix, entry}
use Rattle.mpc_space.proofs.Entries.{coordinate_past}
use Rattle.mpc_plant.specs.declared.lists.PlantRow.{PlantRow}
use Rattle.mpc_plant.specs.declared.lists.Coordinate.{Coordinate}
use Rattle.mpc_plant.specs.declared.plants.Plant.{Plant}
use Rattle.mpc_plant.specs.Limits.{FitsRow}
use Rattle.mpc_linear.specs.Shape.{HasShape}
use Rattle.mpc_plant.specs.Trajectory.{IsSequence, move_at, state_at}
use Rattle.mpc_rows.specs.declared.programs.Qp.{Qp}
use Rattle.mpc_condense.specs.Condensed.{counts_of, stage_row, terminal_row, HasRoom, IsCondensed}
use Rattle.mpc_condense.specs.Motion.{kernel_with}
use Rattle.mpc_condense.specs.Stages.{HoldsSums}
use Rattle.mpc_condense.specs.Rows.{RowsDone}
use Rattle.mpc_condense.specs.Causes.{row_count}
use Rattle.mpc_condense.proofs.CostForm.{kernel_with-sym}
use Rattle.mpc_condense.proofs.SameProgram.{HasEntries, cost-is, room-is}
use Rattle.mpc_condense.proofs.RowLemmas.{stage_place, terminal_place, stage_within, terminal_within}

pub counts_more : (grid : List Coordinate) (i : ℕ) (axis : Coordinate) → slice_get grid i ≡ Some axis → counts_of (take (i + 1) grid) ≡ counts_of (take i grid) ++ axis.count ∷ []
counts_more grid i axis e =
    ap counts_of (take_more grid i axis (slice_get_within grid i axis e) ∙ ap (λ x. take i grid ++ x ∷ []) (get_or_from_slice_get grid i axis axis e))
    ∙ map-append (λ a. a.count) (take i grid) (axis ∷ [])

-- an entry past the end
entry_past_row : (m : RationalMatrix) (r c i j : ℕ) → HasShape m r c → r ≤ i → entry m i j ≡ int (pos 0)
entry_past_row m r c i j s l = ap (λ x. coordinate x j) (get_or-eq_default m.rows [] (omega (arith, s.rows_are)))

entry_past_column : (m : RationalMatrix) (r c i j : ℕ) → HasShape m r c → i < r → c ≤ j → entry m i j ≡ int (pos 0)
entry_past_column m r c i j s l k = coordinate_past (get_or m.rows i []) j (omega (arith, s.rectangular i [] (omega (arith, s.rows_are)), s.columns_are))

-- a square matrix with symmetric entries
symmetric_square : (m : RationalMatrix) (n : ℕ) (f : ℕ → ℕ → ℚ) → HasShape m n n → ((i j : ℕ) → f i j ≡ f j i) → ((i j : ℕ) → i < n → j < n → entry m i j ≡ f i j) → IsSymmetric m.rows
symmetric_square m n f s sym_f h = record {
  mirrored = λ i j. ⊎_elim
      (λ l. ⊎_elim
      (λ k. h i j l k ∙ sym_f i j ∙ sym (h j i k l))
      (λ k. entry_past_column m n n i j s l k ∙ sym (entry_past_row m n n j i s k))
      (cases_lt j n))
      (λ l. entry_past_row m n n i j s l ∙ sym (⊎_elim (λ k. entry_past_column m n n j i s k l) (λ k. entry_past_row m n n j i s k) (cases_lt j n)))
      (cases_lt i n);
}

dot_empty : (u x : List ℚ) → length u ≡ 0 → dot u x ≡ int (pos 0)
dot_empty [] x e = refl
dot_empty (y ∷ u) x e = absurd (omega arith)

module _ (plant : Plant) (qp : Qp) (counts : qp.counts ≡ counts_of plant.grid) (sums : HoldsSums plant (kernel_with plant plant.horizon) qp.h qp.f qp.y) (rows : RowsDone plant qp.g qp.w (row_count plant)) where
  sums_sym : (i j : ℕ) → kernel_with plant plant.horizon i j ≡ kernel_with plant plant.horizon j i
  sums_sym i j = kernel_with-sym plant plant.is_plant.q_weight.symmetric plant.is_plant.r_weight.symmetric plant.is_plant.last_weight.symmetric plant.horizon i j

  entries : HasEntries plant qp.h.rows qp.f.rows qp.y.rows
  entries = record { h_is = sums.h_is; f_is = sums.f_is; y_is = sums.y_is }

  stage_row_fits : (r : ℕ) (row : PlantRow) → slice_get plant.rows r ≡ Some row → FitsRow plant.n plant.p row
  stage_row_fits r row e = subst (FitsRow plant.n plant.p) (get_or_from_slice_get plant.rows r row row e) (plant.is_plant.rows_fit r row (slice_get_within plant.rows r row e))

  terminal_row_fits : (r : ℕ) (row : PlantRow) → slice_get plant.terminal r ≡ Some row → FitsRow plant.n 0 row
  terminal_row_fits r row e = subst (FitsRow plant.n 0) (get_or_from_slice_get plant.terminal r row row e) (plant.is_plant.terminal_fits r row (slice_get_within plant.terminal r row e))

  has_room : (t : List ℚ) (v : List (List ℚ)) → length t ≡ plant.n → IsSequence plant v → HasRoom qp plant t v
  has_room t v size sequence = record {
    stage = λ k r row l e.
        room-is plant t v size sequence plant.is_plant.grid_size k row _ _ (omega arith) (omega (arith, (stage_row_fits r row e).u_size))
        (rows.rows (stage_row plant k r) k row (stage_within plant k r l (slice_get_within plant.rows r row e)) (stage_place plant k r row l e));
    terminal = λ r row e.
        room-is plant t v size sequence plant.is_plant.grid_size plant.horizon row _ _ (omega arith) (omega (arith, (terminal_row_fits r row e).u_size))
        (rows.rows (terminal_row plant r) plant.horizon row (terminal_within plant r (slice_get_within plant.terminal r row e)) (terminal_place plant r row e))
        ∙ no_move (dot row.x (state_at plant t v plant.horizon)) (dot row.u (move_at v plant.horizon)) row.max (dot_empty row.u (move_at v plant.horizon) (terminal_row_fits r row e).u_size);
  }
    where
      no_move : (x u m : ℚ) → u ≡ int (pos 0) → m -ℚ (x +ℚ u) ≡ m -ℚ x
      no_move x u m e = ap (λ z. m -ℚ (x +ℚ z)) e ∙ by_ring (x ∷ m ∷ []) (search reads depth 30) (search reads depth 30) tt

  pub condensed : IsCondensed qp plant
  condensed = record {
    counts_are = counts;
    unknowns_are = sums.h_shape.rows_are;
    rows_are = rows.g_shape.rows_are;
    h_symmetric = symmetric_square qp.h (plant.p * plant.horizon) (λ i j. kernel_with plant plant.horizon (plant.n + 1 + i) (plant.n + 1 + j)) sums.h_shape (λ i j. sums_sym (plant.n + 1 + i) (plant.n + 1 + j)) sums.h_is;
    y_symmetric = symmetric_square qp.y (plant.n + 1) (kernel_with plant plant.horizon) sums.y_shape sums_sym sums.y_is;
    same_cost = λ t v size sequence. cost-is plant t v size sequence plant.is_plant.grid_size qp.h.rows qp.f.rows qp.y.rows plant.is_plant.q_weight.symmetric plant.is_plant.r_weight.symmetric plant.is_plant.last_weight.symmetric entries;
    same_rows = has_room;
  }
