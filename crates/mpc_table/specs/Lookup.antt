-- What a table holds, and of which controller it is the table.
use Rattle.std.specs.Prelude.{◌≡◌, ℕ, ◌<◌, ◌≤◌, List, [], ◌∷◌, length, All, take}
use Rattle.mpc_linear.specs.declared.integers.IntAffine.{IntAffine}
use Rattle.mpc_rows.specs.declared.laws.Law.{Law}
use Rattle.mpc_controller.specs.Parts.{Parts, limits_of}
use Rattle.mpc_table.specs.Steps.{Action, branch, apply, stop, steps_of, AreNoSides, AreSafe}
use Rattle.mpc_table.specs.Forms.{IsBounded, AreFormsOf}

-- the greatest counts, the number of inputs, the forms of each law's first move, and the tree laid out for walks
pub record Lookup : Type 0 where
  pub limits : List ℕ
  pub inputs : ℕ
  pub laws : List (List IntAffine)
  pub steps : List Action
  pub sides : List ℕ

-- one bounded form for each input
pub record AreInputForms (limits : List ℕ) (inputs : ℕ) (forms : List IntAffine) : Type 0 where
  pub size : length forms ≡ inputs
  pub bounded : All (IsBounded limits) forms

-- a law that is applied is one of so many
abbrev pub NamesLaw : ℕ → Action → Type 0
NamesLaw laws (branch row) = Unit {0}
NamesLaw laws (apply law) = (1 ≤ law) × (law ≤ laws)
NamesLaw laws stop = Unit {0}

-- what every table is
pub record IsLookup (limits : List ℕ) (inputs : ℕ) (laws : List (List IntAffine)) (steps : List Action) (sides : List ℕ) : Type 0 where
  pub limits_few : length limits ≤ 4
  pub forms : All (AreInputForms limits inputs) laws
  pub root : 0 < length steps
  pub numbers : All (NamesLaw (length laws)) steps
  pub safe : AreSafe limits steps sides

-- the first rows of each law's moves, as forms
abbrev pub AreLawForms : ℕ → List Law → List (List IntAffine) → Type 0
AreLawForms inputs [] [] = Unit {0}
AreLawForms inputs [] (forms ∷ all) = ⊥
AreLawForms inputs (law ∷ laws) [] = ⊥
AreLawForms inputs (law ∷ laws) (forms ∷ all) = AreFormsOf (take inputs law.moves.rows) forms × AreLawForms inputs laws all

-- the table of a controller
pub record IsTableOf (parts : Parts) (table : Lookup) : Type 0 where
  pub limits_are : table.limits ≡ limits_of parts.plant
  pub inputs_are : table.inputs ≡ parts.plant.p
  pub laws_are : AreLawForms parts.plant.p parts.laws table.laws
  pub steps_are : table.steps ≡ steps_of parts.tree
  pub sides_are : AreNoSides parts.tree table.sides
