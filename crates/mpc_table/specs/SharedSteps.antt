-- A search tree laid out for walks, in which equal rows are kept once and named by their places.
use Rattle.std.specs.Prelude.{◌≡◌, ℕ, ◌<◌, ℤ, pos, List, [], ◌∷◌, ◌++◌, length, map, take, All, slice_index_or}
use Rattle.mpc_linear.specs.declared.integers.RowInt.{RowInt}
use Rattle.mpc_rows.specs.declared.trees.Node.{Node}
use Rattle.mpc_table.specs.declared.places.Places.{Places}
use Rattle.mpc_table.specs.declared.steps.Step.{Step}
use Rattle.mpc_table.specs.declared.steps.Step.TheVariants.{Branch, Apply, Stop}
use Rattle.mpc_table.specs.Places.{AreDifferent, ArePlaces}
use Rattle.mpc_table.specs.Steps.{Action, branch, apply, stop, step_of, steps_of}

-- a row's numbers, its bound first
abbrev pub row_line : RowInt → List ℤ
row_line row = row.b ∷ row.a

-- the row at a place
abbrev pub row_at : List RowInt → ℕ → RowInt
row_at rows place = slice_index_or rows place (record { a = []; b = pos 0 })

-- what a step does
abbrev pub action_at : List RowInt → Step → Action
action_at rows (Branch place) = branch (row_at rows place)
action_at rows (Apply law) = apply law
action_at rows Stop = stop

abbrev pub actions_at : List RowInt → List Step → List Action
actions_at rows steps = map (action_at rows) steps

-- a row that is tested is one of so many
abbrev pub NamesRow : ℕ → Step → Type 0
NamesRow rows (Branch place) = place < rows
NamesRow rows (Apply law) = Unit {0}
NamesRow rows Stop = Unit {0}

-- the step of a node, for which at most one row is put behind the old ones
pub record IsStepFor (node : Node) (old new : List RowInt) (places : Places) (step : Step) : Type 0 where
  pub behind : List RowInt
  pub grown : new ≡ old ++ behind
  pub places_are : ArePlaces places (map row_line new)
  pub named : NamesRow (length new) step
  pub action_is : action_at new step ≡ step_of node

-- the steps of the first k nodes
pub record AreStepsTo (nodes : List Node) (k : ℕ) (rows : List RowInt) (places : Places) (steps : List Step) : Type 0 where
  pub actions_are : actions_at rows steps ≡ take k (steps_of nodes)
  pub named : All (NamesRow (length rows)) steps
  pub places_are : ArePlaces places (map row_line rows)

-- the steps of all nodes, over rows of which no two are equal
pub record AreStepsOf (nodes : List Node) (rows : List RowInt) (steps : List Step) : Type 0 where
  pub actions_are : actions_at rows steps ≡ steps_of nodes
  pub named : All (NamesRow (length rows)) steps
  pub different : AreDifferent (map row_line rows)
