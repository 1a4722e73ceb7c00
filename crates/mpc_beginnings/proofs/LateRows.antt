-- At each position of a run the row of a side is the combination of the rows of the unknowns.
use Rattle.std.proofs.Common.{◌≡◌, ℕ, ◌+◌, ◌<◌, ◌≤◌, List, length, get_or, pos, [], ◌∷◌, sym, ◌∙◌, ap, arith, ◌⊎◌, inl, inr, length-append}
use Rattle.std.proofs.lemmas.Bool.{cases_lt}
use Rattle.mpc_exact.specs.Rational.{ℚ, int, ◌*ℚ◌}
use Rattle.mpc_exact.proofs.RationalRing.{reads, by_ring}
use Rattle.mpc_space.specs.Total.{total, unit}
use Rattle.mpc_space.specs.Vector.{coordinate}
use Rattle.mpc_space.proofs.Total.{total-same, total-zeros, total-unit}
use Rattle.mpc_rows.specs.declared.systems.Row.{Row}
use Rattle.mpc_rows.specs.LinearSystem.{LinearSystem, height, row_at, no_row, entry}
use Rattle.mpc_rows.specs.Run.{count, opening, position, steps}
use Rattle.mpc_beginnings.specs.Beginnings.{lengthened, Agrees, late}
use Rattle.mpc_runs.proofs.TableauRows.{Meets, row_value, values_meet}
use Rattle.mpc_runs.proofs.LeftSides.{side_value}
use Rattle.mpc_runs.proofs.Positions.{tableau, same_rows}
use Rattle.mpc_runs.proofs.Outside.{within}
use Rattle.mpc_beginnings.proofs.Prefix.{row_above}
use Rattle.mpc_beginnings.proofs.SharedRun.{positions_agree}

times_unit : (n : ℕ) (c : ℕ → ℚ) (y : ℕ) → y < n → total n (λ z. c z *ℚ unit y z) ≡ c y
times_unit n c y h =
    total-same n (λ z. c z *ℚ unit y z) (λ z. unit y z *ℚ c z) (λ z l. by_ring (c z ∷ unit y z ∷ []) (search reads depth 30) (search reads depth 30) tt) ∙ total-unit n y c h

zero_right : (x : ℚ) → x *ℚ int (pos 0) ≡ int (pos 0)
zero_right x = by_ring (x ∷ []) (search reads depth 30) (search reads depth 30) tt

module _ (s : LinearSystem) (k : ℕ) where
  -- each column of a position meets its rows, and with them the rows of the opening
  column : ℕ → ℕ → ℚ
  column y = row_value (count s) (position s k) (unit y)

  column_at : (x y : ℕ) → y < count s → column y x ≡ (position s k).coefficient x y
  unfolding column
  column_at x y h = times_unit (count s) ((position s k).coefficient x) y h

  column_meets : (y : ℕ) → Meets (count s) (opening s) (column y)
  unfolding column
  column_meets y = (same_rows s k).back (row_value (count s) (position s k) (unit y)) (values_meet (count s) (position s k) (tableau s k) (unit y))

  row_cases : (i y : ℕ) → i < height s → (y < count s) ⊎ (count s ≤ y) → (position s k).coefficient (s.width + i) y ≡ late s (row_at s i) (position s k) y
  unfolding late entry
  row_cases i y h (inl b) =
      sym (column_at (s.width + i) y b)
      ∙ side_value s (column y) (column_meets y) i h
      ∙ total-same s.width (λ j. entry s i j *ℚ column y j) (λ j. coordinate (row_at s i).a j *ℚ (position s k).coefficient j y) (λ j l. ap (λ u. coordinate (row_at s i).a j *ℚ u) (column_at j y b))
  row_cases i y h (inr b) =
      (within s k).column (s.width + i) y (omega arith) b
      ∙ sym (total-zeros s.width (λ j. coordinate (row_at s i).a j *ℚ (position s k).coefficient j y)
      (λ j l. ap (λ u. coordinate (row_at s i).a j *ℚ u) ((within s k).column j y (omega arith) b) ∙ zero_right (coordinate (row_at s i).a j)))

  -- the row of side i
  pub side_row : (i y : ℕ) → i < height s → (position s k).coefficient (s.width + i) y ≡ late s (row_at s i) (position s k) y
  side_row i y h = row_cases i y h (cases_lt y (count s))

-- ---- a further side, from the unknowns at the shorter system's position
module _ (s : LinearSystem) (more : List Row) (k : ℕ) (h : k ≤ steps s) (i : ℕ) (b : i < length more) where
  place : s.width + (height s + i) ≡ count s + i
  place = omega arith

  inside : height s + i < height (lengthened s more)
  inside = omega (arith, length-append s.rows more)

  agrees : Agrees (count s) (position s k) (position (lengthened s more) k)
  agrees = positions_agree s more k h

  late_agrees : (r : Row) (y : ℕ) → late (lengthened s more) r (position (lengthened s more) k) y ≡ late s r (position s k) y
  unfolding late
  late_agrees r y = total-same s.width (λ j. coordinate r.a j *ℚ (position (lengthened s more) k).coefficient j y) (λ j. coordinate r.a j *ℚ (position s k).coefficient j y) (λ j l. ap (λ u. coordinate r.a j *ℚ u) (agrees.rows j y (omega arith)))

  pub appended_row : (y : ℕ) → (position (lengthened s more) k).coefficient (count s + i) y ≡ late s (get_or more i no_row) (position s k) y
  appended_row y =
      ap (λ x. (position (lengthened s more) k).coefficient x y) (sym place)
      ∙ side_row (lengthened s more) k (height s + i) y inside
      ∙ ap (λ r. late (lengthened s more) r (position (lengthened s more) k) y) (row_above s more i)
      ∙ late_agrees (get_or more i no_row) y
