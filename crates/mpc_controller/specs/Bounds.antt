-- The bounds on a controller's numbers, under which no number on the way to a reply is too wide at counts up to the plant's.
use Rattle.std.specs.Prelude.{◌≡◌, ℕ, ◌+◌, ◌*◌, ◌^◌, ◌<◌, ◌⊎◌, ℤ, unsigned_abs, List, [], ◌∷◌, length, map, take, All, slice_index_or, slice_get, Some}
use Rattle.mpc_exact.specs.Rational.{ℚ}
use Rattle.mpc_exact.specs.Denominator.{common_denom}
use Rattle.mpc_linear.specs.Whole.{scaled, WholeFits}
use Rattle.mpc_linear.specs.declared.integers.RowInt.{RowInt}
use Rattle.mpc_plant.specs.declared.plants.Plant.{Plant}
use Rattle.mpc_rows.specs.declared.laws.Law.{Law as LawOfSet}
use Rattle.mpc_rows.specs.declared.trees.Node.{Node}
use Rattle.mpc_rows.specs.declared.trees.Node.TheVariants.{Split, Law as LawLeaf, NoMove}
use Rattle.mpc_rows.specs.declared.places.Place.{Place}
use Rattle.mpc_rows.specs.declared.places.Place.TheVariants.{LawBound, NodeBound}
use Rattle.mpc_controller.specs.Parts.{limits_of, HaveShapes}
use Rattle.mpc_controller.specs.declared.errors.SealError.{SealError}
use Rattle.mpc_controller.specs.declared.errors.SealError.TheVariants.{Wide, NoMemory}

-- |k_1| t_1 + .. + |k_n| t_n, the greatest size that k_1 s_1 + .. + k_n s_n has at counts s up to t
abbrev pub reach : List ℤ → List ℕ → ℕ
reach [] ts = 0
reach (k ∷ ks) [] = 0
reach (k ∷ ks) (t ∷ ts) = unsigned_abs k * t + reach ks ts

-- the affine form with these coefficients, the constant first, fits over its least common denominator, and so does each of its values at
-- counts up to these
pub record FormFits (counts : List ℕ) (form : List ℚ) : Type 0 where
  pub whole : WholeFits form
  pub reach_fits : reach (map (scaled (common_denom form)) form) (1 ∷ counts) < 2 ^ 127

-- both sides of the row fit at counts up to these, also together
pub record SplitFits (counts : List ℕ) (row : RowInt) : Type 0 where
  pub reach_fits : unsigned_abs row.b + reach row.a counts < 2 ^ 127

-- the law's affine form of input i, counted from 0, at the first step
abbrev pub first_move_form : LawOfSet → ℕ → List ℚ
first_move_form law i = slice_index_or law.moves.rows i []

-- the forms of the first inputs fit
abbrev pub InputsFit : List ℕ → LawOfSet → ℕ → Type 0
InputsFit counts law inputs = (i : ℕ) → i < inputs → FormFits counts (first_move_form law i)

abbrev pub LawFits : Plant → LawOfSet → Type 0
LawFits plant law = InputsFit (limits_of plant) law plant.p

abbrev pub NodeFits : List ℕ → Node → Type 0
NodeFits counts (Split row) = SplitFits counts row
NodeFits counts (LawLeaf law certs) = Unit {0}
NodeFits counts (NoMove cert) = Unit {0}

-- a split's row has so many entries
abbrev pub HasSize : ℕ → Node → Type 0
HasSize n (Split row) = length row.a ≡ n
HasSize n (LawLeaf law certs) = Unit {0}
HasSize n (NoMove cert) = Unit {0}

-- each law's first move and each split fit
pub record KeepBounds (plant : Plant) (laws : List LawOfSet) (tree : List Node) : Type 0 where
  pub laws_fit : All (LawFits plant) laws
  pub nodes_fit : All (NodeFits (limits_of plant)) tree

-- what every controller is: parts of the right shapes that keep the bounds
pub record IsController (plant : Plant) (laws : List LawOfSet) (tree : List Node) : Type 0 where
  pub shapes : HaveShapes plant laws tree
  pub bounds : KeepBounds plant laws tree

-- ---- the first bound that is broken: law by law and input by input, then split by split

-- this input, counted from 1, is the law's first whose form doesn't fit
pub record IsFirstWideForm (counts : List ℕ) (law : LawOfSet) (inputs input : ℕ) : Type 0 where
  pub index : ℕ
  pub input_is : input ≡ index + 1
  pub is_input : index < inputs
  pub inputs_before : InputsFit counts law index
  pub here : ¬ FormFits counts (first_move_form law index)

-- this law, counted from 1, is the first that doesn't fit, and this input its first whose form doesn't
pub record IsWideInput (plant : Plant) (laws : List LawOfSet) (number input : ℕ) : Type 0 where
  pub place : ℕ
  pub law : LawOfSet
  pub number_is : number ≡ place + 1
  pub law_at : slice_get laws place ≡ Some law
  pub laws_before : All (LawFits plant) (take place laws)
  pub first : IsFirstWideForm (limits_of plant) law plant.p input

-- this node, counted from 1, is the first that doesn't fit
pub record IsFirstWideNode (counts : List ℕ) (tree : List Node) (number : ℕ) : Type 0 where
  pub place : ℕ
  pub node : Node
  pub number_is : number ≡ place + 1
  pub node_at : slice_get tree place ≡ Some node
  pub nodes_before : All (NodeFits counts) (take place tree)
  pub here : ¬ NodeFits counts node

-- all laws fit, and this node, counted from 1, is the first that doesn't
pub record IsWideNode (plant : Plant) (laws : List LawOfSet) (tree : List Node) (number : ℕ) : Type 0 where
  pub laws_fit : All (LawFits plant) laws
  pub first : IsFirstWideNode (limits_of plant) tree number

-- the first bound that is broken is that of this law's input
abbrev pub IsBrokenLaw : Plant → List LawOfSet → Place → Type 0
IsBrokenLaw plant laws place = (law : ℕ) × (input : ℕ) × (place ≡ LawBound law input) × IsWideInput plant laws law input

-- the first bound that is broken is that of this node
abbrev pub IsBrokenNode : Plant → List LawOfSet → List Node → Place → Type 0
IsBrokenNode plant laws tree place = (node : ℕ) × (place ≡ NodeBound node) × IsWideNode plant laws tree node

abbrev pub IsFirstBroken : Plant → List LawOfSet → List Node → Place → Type 0
IsFirstBroken plant laws tree place = IsBrokenLaw plant laws place ⊎ IsBrokenNode plant laws tree place

-- the error names the first bound that is broken, unless there is no memory
abbrev pub ExplainsSealError : Plant → List LawOfSet → List Node → SealError → Type 0
ExplainsSealError plant laws tree (Wide place) = IsFirstBroken plant laws tree place
ExplainsSealError plant laws tree NoMemory = Unit {0}
