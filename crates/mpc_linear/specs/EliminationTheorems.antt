-- What the end of an elimination says of the system.
use Rattle.std.specs.Prelude.{◌≡◌, ℕ, ◌+◌, ◌<◌, ⊤}
use Rattle.mpc_space.specs.Matrix.{RationalMatrix, height, IsRectangular, entry}
use Rattle.mpc_linear.specs.Elimination.{augmented, eliminated}
use Rattle.mpc_linear.specs.Shape.{HasShape}
use Rattle.mpc_linear.specs.Solution.{IsAnswer, FitsTo}
use Rattle.mpc_linear.specs.declared.elimination.Solved.{Solved}
use Rattle.mpc_linear.specs.declared.elimination.Solved.TheVariants.{Unique, Dependent}

-- m is square, and rhs has as many rows
pub record IsSquareSystem (m rhs : RationalMatrix) : Type 0 where
  pub rectangular : IsRectangular m
  pub right_rectangular : IsRectangular rhs
  pub square : height m ≡ m.columns
  pub rows : height rhs ≡ height m

-- x has the entries of the last columns, once all columns of m are eliminated
pub record IsReadOff (m rhs x : RationalMatrix) : Type 0 where
  pub shape : HasShape x m.columns rhs.columns
  pub entries : (i j : ℕ) → i < m.columns → j < rhs.columns → entry x i j ≡ eliminated m.columns (augmented m rhs) m.columns i (m.columns + j)

abbrev pub IfReadOff : RationalMatrix → RationalMatrix → Solved → Type 0
IfReadOff m rhs (Unique x) = IsReadOff m rhs x
IfReadOff m rhs (Dependent column) = ⊤

-- an elimination that ends so answers for the system
abbrev pub EliminationAnswers : Type 0
EliminationAnswers = (m rhs : RationalMatrix) (s : Solved) → IsSquareSystem m rhs → FitsTo m rhs s → IfReadOff m rhs s → IsAnswer m rhs s
