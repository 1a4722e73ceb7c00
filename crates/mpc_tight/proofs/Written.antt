-- A matrix with one entry written.
use Rattle.std.proofs.Common.{◌≡◌, ◌≢◌, ℕ, ◌<◌, [], length, get_or, set, pos, ap, arith}
use Rattle.std.proofs.Math.ListN.{length-set}
use Rattle.std.proofs.lemmas.List.{get_or-set_same, get_or-set_other}
use Rattle.std.proofs.lemmas.List.Elements.{All-set}
use Rattle.std.proofs.Common.{◌∙◌}
use Rattle.mpc_exact.specs.Rational.{ℚ, int}
use Rattle.mpc_space.specs.Vector.{coordinate}
use Rattle.mpc_space.specs.Matrix.{RationalMatrix, height, IsRectangular, entry}
use Rattle.mpc_linear.specs.Shape.{HasShape}
use Rattle.mpc_linear.specs.Entries.{with_entry}

module _ (m : RationalMatrix) (i j : ℕ) (v : ℚ) where
  pub with_entry-same : i < height m → j < m.columns → IsRectangular m → entry (with_entry m i j v) i j ≡ v
  with_entry-same a b r =
      ap (λ row. coordinate row j) (get_or-set_same m.rows i (set (get_or m.rows i []) j v) [] a)
      ∙ get_or-set_same (get_or m.rows i []) j v (int (pos 0)) (omega (arith, r i [] a))

  pub with_entry-row : (k : ℕ) → i < height m → k ≢ j → entry (with_entry m i j v) i k ≡ entry m i k
  with_entry-row k a other =
      ap (λ row. coordinate row k) (get_or-set_same m.rows i (set (get_or m.rows i []) j v) [] a)
      ∙ get_or-set_other (get_or m.rows i []) j k v (int (pos 0)) other

  pub with_entry-others : (r k : ℕ) → r ≢ i → entry (with_entry m i j v) r k ≡ entry m r k
  with_entry-others r k other = ap (λ row. coordinate row k) (get_or-set_other m.rows i r (set (get_or m.rows i []) j v) [] other)

  pub with_entry-shape : (rows columns : ℕ) → i < height m → HasShape m rows columns → HasShape (with_entry m i j v) rows columns
  with_entry-shape rows columns a s = record {
    rows_are = length-set m.rows i (set (get_or m.rows i []) j v) ∙ s.rows_are;
    columns_are = s.columns_are;
    rectangular = All-set (λ row. length row ≡ m.columns) m.rows i (set (get_or m.rows i []) j v) (length-set (get_or m.rows i []) j v ∙ s.rectangular i [] a) s.rectangular;
  }
