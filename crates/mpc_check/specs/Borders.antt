-- The rows of laws that are formed before the leaves are searched.
use Rattle.std.specs.Prelude.{◌≡◌, ℕ, ◌+◌, List, [], ◌∷◌, ◌++◌, length, slice_get, Some, Result, Ok, Err}
use Rattle.std.specs.Global.{Vec}
use Rattle.mpc_frac.specs.declared.NoMemory.{NoMemory}
use Rattle.mpc_linear.specs.declared.integers.RowInt.{RowInt}
use Rattle.mpc_rows.specs.declared.programs.Qp.{Qp}
use Rattle.mpc_rows.specs.declared.laws.Law.{Law}
use Rattle.mpc_rows.specs.LawRows.{IsLawRow, LawRowFits}
use Rattle.mpc_systems.specs.Writing.{IsOfSize}
use Rattle.mpc_check.specs.declared.borders.Formed.{Formed}
use Rattle.mpc_check.specs.declared.borders.Formed.TheVariants.{Row, Wide}
use Rattle.mpc_check.specs.declared.stretches.Stretch.{Stretch}

-- row i of a law, counted from 0, the numbers that form it, and its own
pub record IsBorder (qp : Qp) (law : Law) (i : ℕ) (row : RowInt) : Type 0 where
  pub is_row : IsLawRow qp law (i + 1) row
  pub fits : LawRowFits qp law (i + 1)
  pub of_size : IsOfSize (length qp.counts) row

-- the row, or that one of the numbers doesn't fit
abbrev pub IsFormed : Qp → Law → ℕ → Formed → Type 0
IsFormed qp law i (Row row) = IsBorder qp law i row
IsFormed qp law i Wide = ¬ LawRowFits qp law (i + 1)

-- the row, where there is one, is in so many unknowns, and its numbers are small
abbrev pub IsFormedOfSize : ℕ → Formed → Type 0
IsFormedOfSize n (Row row) = IsOfSize n row
IsFormedOfSize n Wide = Unit {0}

-- the first rows of a law
abbrev pub AreFormed : Qp → Law → List Formed → Type 0
AreFormed qp law rows = (i : ℕ) (formed : Formed) → slice_get rows i ≡ Some formed → IsFormed qp law i formed

-- the first rows of each law, some laws without any
abbrev pub AreBorders : Qp → List Law → List (Vec Formed) → Type 0
AreBorders qp laws borders = (place : ℕ) (law : Law) (rows : Vec Formed) → slice_get laws place ≡ Some law → slice_get borders place ≡ Some rows → AreFormed qp law rows.items

-- ---- stretches of laws
-- the first rows of each law from one place on
abbrev pub AreBordersFrom : Qp → List Law → ℕ → List (Vec Formed) → Type 0
AreBordersFrom qp laws from borders = (k : ℕ) (law : Law) (rows : Vec Formed) → slice_get laws (from + k) ≡ Some law → slice_get borders k ≡ Some rows → AreFormed qp law rows.items

-- those of each law of a stretch
pub record AreBordersOf (qp : Qp) (laws : List Law) (stretch : Stretch) (borders : List (Vec Formed)) : Type 0 where
  pub formed : AreBordersFrom qp laws stretch.from borders
  pub one_each : stretch.from + length borders ≡ stretch.to

-- all parts are there, and these are their borders, one part behind the other
abbrev pub AreJoined : List (Result (Vec (Vec Formed)) NoMemory) → List (Vec Formed) → Type 0
AreJoined [] borders = borders ≡ []
AreJoined (Ok part ∷ parts) borders = (rest : List (Vec Formed)) × (borders ≡ part.items ++ rest) × AreJoined parts rest
AreJoined (Err e ∷ parts) borders = ⊥
