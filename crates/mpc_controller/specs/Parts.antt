-- The parts of a controller, and which shapes they have.
use Rattle.std.specs.Prelude.{◌≡◌, ℕ, ◌+◌, ◌*◌, ◌≤◌, List, [], ◌∷◌, ◌++◌, length, All, map, pos}
use Rattle.mpc_linear.specs.declared.integers.RowInt.{RowInt}
use Rattle.mpc_linear.specs.Whole.{DividesAll, AreSmall}
use Rattle.mpc_sets.specs.RowSet.{IsSetOfRows}
use Rattle.mpc_plant.specs.declared.plants.Plant.{Plant}
use Rattle.mpc_plant.specs.Limits.{IsFromTo}
use Rattle.mpc_linear.specs.Shape.{HasShape}
use Rattle.mpc_rows.specs.declared.laws.Law.{Law as LawOfSet}
use Rattle.mpc_rows.specs.declared.trees.Node.{Node}
use Rattle.mpc_rows.specs.declared.trees.Node.TheVariants.{Split, Law, NoMove}
use Rattle.mpc_controller.specs.Preorder.{IsTree}
use Rattle.mpc_controller.specs.Certificates.{HaveCerts}

-- the plant that is controlled, its laws, and the search tree that names at each state the law that holds there
pub record Parts : Type 0 where
  pub plant : Plant
  pub laws : List LawOfSet
  pub tree : List Node

-- the greatest counts of the plant's grid
abbrev pub limits_of : Plant → List ℕ
limits_of plant = map (λ axis. axis.count) plant.grid

-- the number of rows of the plant's program
abbrev pub row_count : Plant → ℕ
row_count plant = plant.horizon * length plant.rows + length plant.terminal

-- a set of rows of the program, no more than there are unknowns, and an affine form for each unknown and each member
pub record IsLawFor (plant : Plant) (law : LawOfSet) : Type 0 where
  pub set_of_rows : IsSetOfRows (row_count plant) law.set
  pub few : length law.set ≤ plant.p * plant.horizon
  pub moves_shape : HasShape law.moves (plant.p * plant.horizon) (plant.n + 1)
  pub mults_shape : HasShape law.mults (length law.set) (plant.n + 1)

-- a row on states of n entries that aren't all weighed 0, in whole numbers that fit and have no common divisor
pub record IsSplitRow (n : ℕ) (row : RowInt) : Type 0 where
  pub size : length row.a ≡ n
  pub some : ¬ All (λ z. z ≡ pos 0) row.a
  pub no_divisor : (d : ℕ) → DividesAll d (row.a ++ row.b ∷ []) → d ≡ 1
  pub small : AreSmall (row.a ++ row.b ∷ [])

-- a node over so many laws
abbrev pub IsNodeFor : ℕ → ℕ → Node → Type 0
IsNodeFor n laws (Split row) = IsSplitRow n row
IsNodeFor n laws (Law law certs) = IsFromTo 1 laws law
IsNodeFor n laws (NoMove cert) = Unit {0}

-- laws of the plant, and a search tree over them, whose leaves have certificates of the right number and size
pub record HaveShapes (plant : Plant) (laws : List LawOfSet) (tree : List Node) : Type 0 where
  pub laws_few : length laws ≤ 4598479
  pub laws_fit : All (IsLawFor plant) laws
  pub nodes_fit : All (IsNodeFor plant.n (length laws)) tree
  pub complete : IsTree tree
  pub certs_fit : HaveCerts plant.n (row_count plant) (0 ∷ []) tree
