-- The certificates at the leaves of a tree.
use Rattle.std.specs.Prelude.{◌≡◌, ℕ, ◌+◌, ◌<◌, List, [], ◌∷◌, cond, length, Some, slice_get}
use Rattle.mpc_exact.specs.Rational.{ℚ}
use Rattle.mpc_linear.specs.declared.integers.RowInt.{RowInt}
use Rattle.mpc_rows.specs.declared.programs.Qp.{Qp}
use Rattle.mpc_rows.specs.declared.laws.Law.{Law}
use Rattle.mpc_rows.specs.declared.systems.Row.{Row}
use Rattle.mpc_rows.specs.declared.trees.Node.{Node}
use Rattle.mpc_rows.specs.declared.trees.Node.TheVariants.{Split, Law as LawLeaf, NoMove}
use Rattle.mpc_rows.specs.LinearSystem.{LinearSystem}
use Rattle.mpc_rows.specs.Refutation.{Refutes}
use Rattle.mpc_rows.specs.Run.{is_zero}
use Rattle.mpc_rows.specs.LawRows.{AreLawRows}
use Rattle.mpc_simplex.specs.Answer.{EndsRefuted}
use Rattle.mpc_systems.specs.Systems.{hold_system, joint_system}
use Rattle.mpc_tree.specs.Trees.{Cell}

-- the multipliers that aren't 0, each with the position of its row, counted on from the first
abbrev pub nonzero_from : ℕ → List ℚ → List (ℕ × ℚ)
nonzero_from position [] = []
nonzero_from position (m ∷ ms) = cond (is_zero m) (nonzero_from (position + 1) ms) ((position, m) ∷ nonzero_from (position + 1) ms)

-- The certificate has the multipliers at the end of the system's least-number run, which ends refuted.
pub record IsCertOf (s : LinearSystem) (cert : List (ℕ × ℚ)) : Type 0 where
  pub multipliers : List ℚ
  pub ends : EndsRefuted s multipliers
  pub refutes : Refutes s multipliers
  pub is : cert ≡ nonzero_from 1 multipliers

-- one certificate for each of the first rows, up to this place, that the row holds on the cell
pub record AreCertsOf (qp : Qp) (cell : List Row) (rows : List RowInt) (upto : ℕ) (certs : List (List (ℕ × ℚ))) : Type 0 where
  pub one_each : length certs ≡ upto
  pub each : (i : ℕ) (row : RowInt) → i < upto → slice_get rows i ≡ Some row → (cert : List (ℕ × ℚ)) × (slice_get certs i ≡ Some cert) × IsCertOf (hold_system qp cell row) cert

-- the certificates of a leaf with the law of this number: one for each row of the law
pub record AreLawCerts (qp : Qp) (laws : List Law) (cell : Cell) (number : ℕ) (certs : List (List (ℕ × ℚ))) : Type 0 where
  pub place : ℕ
  pub number_is : number ≡ place + 1
  pub law : Law
  pub is : slice_get laws place ≡ Some law
  pub rows : List RowInt
  pub of_law : AreLawRows qp law rows
  pub certs_are : AreCertsOf qp cell.rows rows (length rows) certs

abbrev pub HasItsCerts : Qp → List Law → Cell → Node → Type 0
HasItsCerts qp laws cell (Split row) = ⊥
HasItsCerts qp laws cell (LawLeaf number certs) = AreLawCerts qp laws cell number certs
HasItsCerts qp laws cell (NoMove cert) = IsCertOf (joint_system qp cell.rows) cert
