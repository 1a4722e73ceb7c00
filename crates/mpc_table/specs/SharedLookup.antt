-- Tables in which equal forms and equal rows are kept once, and the tables that they stand for.
use Rattle.std.specs.Prelude.{ℕ, List, length, map, All}
use Rattle.mpc_linear.specs.declared.integers.IntAffine.{IntAffine}
use Rattle.mpc_linear.specs.declared.integers.RowInt.{RowInt}
use Rattle.mpc_table.specs.declared.steps.Step.{Step}
use Rattle.mpc_table.specs.Places.{AreDifferent}
use Rattle.mpc_table.specs.SharedForms.{form_line, all_forms_at, AreBelow}
use Rattle.mpc_table.specs.SharedSteps.{row_line, actions_at, NamesRow}
use Rattle.mpc_table.specs.Lookup.{Lookup, IsLookup}

-- the table with the forms and the rows in place of their places
abbrev pub lookup_of : List ℕ → ℕ → List IntAffine → List (List ℕ) → List RowInt → List Step → List ℕ → Lookup
lookup_of limits inputs forms laws rows steps sides = record { limits = limits; inputs = inputs; laws = all_forms_at forms laws; steps = actions_at rows steps; sides = sides }

-- what every table is: no two forms and no two rows are equal, and each place is that of a form or a row
pub record IsShared (limits : List ℕ) (inputs : ℕ) (forms : List IntAffine) (laws : List (List ℕ)) (rows : List RowInt) (steps : List Step) (sides : List ℕ) : Type 0 where
  pub lookup : IsLookup limits inputs (all_forms_at forms laws) (actions_at rows steps) sides
  pub forms_named : All (AreBelow (length forms)) laws
  pub forms_different : AreDifferent (map form_line forms)
  pub rows_named : All (NamesRow (length rows)) steps
  pub rows_different : AreDifferent (map row_line rows)
