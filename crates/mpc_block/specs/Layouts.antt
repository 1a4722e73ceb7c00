-- How a block is laid out: the lines written so far.
use Rattle.std.specs.Prelude.{◌≡◌, ℕ, ◌+◌, ◌^◌, ◌<◌, ◌≤◌, unsigned_abs, All, List, length, take, slice_get, slice_index, slice_range, Some}
use Rattle.mpc_exact.specs.Rational.{ℚ}
use Rattle.mpc_exact.specs.Denominator.{common_denom}
use Rattle.mpc_linear.specs.Whole.{WholeFits}
use Rattle.mpc_plant.specs.declared.plants.Plant.{Plant}
use Rattle.mpc_rows.specs.declared.laws.Law.{Law as LawOfSet}
use Rattle.mpc_rows.specs.declared.trees.Node.{Node}
use Rattle.mpc_rows.specs.declared.trees.Node.TheVariants.{Split, Law as LawLeaf, NoMove}
use Rattle.mpc_linear.specs.declared.integers.RowInt.{RowInt}
use Rattle.mpc_block.specs.declared.lines.Width.{Width}
use Rattle.mpc_block.specs.declared.lines.Width.TheVariants.{Short, Wide}
use Rattle.mpc_controller.specs.Parts.{Parts, limits_of}
use Rattle.mpc_block.specs.declared.lines.TheConstants.{LAYOUT}
use Rattle.mpc_block.specs.Sums.{greatest}
use Rattle.mpc_block.specs.Block.{width_of, line_at, whole, input_line, HasLine, IsFormLine}

-- all words before this one are kept
abbrev pub KeepsBefore : ℕ → List ℕ → List ℕ → Type 0
KeepsBefore start old new = take start new ≡ take start old

-- the lines of the first k nodes
abbrev pub AreNodesTo : Parts → List ℕ → ℕ → List ℕ → Type 0
AreNodesTo parts sides k words = (place : ℕ) (node : Node) → place < k → slice_get parts.tree place ≡ Some node → HasLine words parts (slice_index sides place) place node

-- the lines of the first inputs of a law, from this place on
abbrev pub AreInputsTo : Parts → LawOfSet → ℕ → ℕ → List ℕ → Type 0
AreInputsTo parts law place inputs words = (input : ℕ) → input < inputs → IsFormLine parts law input (line_at words (width_of parts) (place + input))

-- the lines of the first k laws
abbrev pub AreFormsTo : Parts → ℕ → List ℕ → Type 0
AreFormsTo parts k words = (j : ℕ) (law : LawOfSet) (input : ℕ) → j < k → slice_get parts.laws j ≡ Some law → input < parts.plant.p → IsFormLine parts law input (input_line words parts (j + 1) input)

-- the head of a block
pub record IsHeadLine (plant : Plant) (size nodes laws height each : ℕ) (line : List ℕ) : Type 0 where
  pub version : slice_index line 0 ≡ LAYOUT
  pub size_is : slice_index line 1 ≡ size
  pub coordinates : slice_index line 2 ≡ plant.n
  pub inputs : slice_index line 3 ≡ plant.p
  pub limits : slice_range line 4 (4 + plant.n) ≡ limits_of plant
  pub nodes_are : slice_index line 8 ≡ nodes
  pub laws_are : slice_index line 9 ≡ laws
  pub height_is : slice_index line 10 ≡ height
  pub each_is : slice_index line 11 ≡ each

-- the row of a split, if it is one, has no more entries than a line has numbers for them, and at this width each has its words
abbrev pub IsRowFor : Width → RowInt → Type 0
IsRowFor Short row = (length row.a ≤ 4) × (unsigned_abs row.b < 2 ^ 63) × All (λ z. unsigned_abs z < 2 ^ 63) row.a
IsRowFor Wide row = length row.a ≤ 4

abbrev pub CanHaveLine : Width → Node → Type 0
CanHaveLine width (Split row) = IsRowFor width row
CanHaveLine width (LawLeaf law certs) = Unit {0}
CanHaveLine width (NoMove cert) = Unit {0}

-- the affine form with these coefficients and its numbers fit over its least common denominator, also at this width
pub record CanHaveForm (width : Width) (form : List ℚ) : Type 0 where
  pub fits : WholeFits form
  pub den_small : common_denom form < greatest width
  pub numbers_small : All (λ z. unsigned_abs z < greatest width) (whole form).k
