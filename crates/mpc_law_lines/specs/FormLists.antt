-- Lists of affine forms, their matrices, and laws that name them.
use Rattle.std.specs.Prelude.{◌≡◌, ℕ, ◌≤◌, ◌↔◌, List, map, All, Contains, codes, slice_set, Result, Ok, Err}
use Rattle.mpc_exact.specs.Rational.{ℚ}
use Rattle.mpc_space.specs.Matrix.{RationalMatrix}
use Rattle.mpc_plant.specs.declared.plants.Plant.{Plant}
use Rattle.mpc_rows.specs.declared.laws.Law.{Law}
use Rattle.mpc_grammar.specs.Reading.{Cursor}
use Rattle.mpc_grammar.specs.Lines.{fractions_line}
use Rattle.mpc_grammar.specs.PlantGrammar.{AllFit}
use Rattle.mpc_grammar.specs.LawGrammar.{used_behind, NamedLaw, used_by, named_law, named_laws, law_named}
use Rattle.mpc_grammar.specs.declared.errors.FileError.{FileError}
use Rattle.mpc_grammar.specs.declared.errors.FileError.TheVariants.{Bad, NoMemory}

-- the matrix whose rows are these forms
abbrev pub matrix_with : List (List ℚ) → ℕ → RationalMatrix
matrix_with rows columns = record { rows = rows; columns = columns }

-- the matrix with this form in row i, counted from 0, and every other row as it was
abbrev pub with_filled_row : RationalMatrix → ℕ → List ℚ → RationalMatrix
with_filled_row m i form = record { rows = slice_set m.rows i form; columns = m.columns }

-- each number is that of one of so many forms
abbrev pub NamesAll : ℕ → List ℕ → Type 0
NamesAll all numbers = All (λ k. (1 ≤ k) × (k ≤ all)) numbers

-- of the lines of forms whose parts fit the set has those of these forms
abbrev pub HasLinesOf : List (List ℕ) → List (List ℚ) → Type 0
HasLinesOf lines forms = (form : List ℚ) → AllFit form → Contains lines (fractions_line (codes "form") form) ↔ Contains forms form

-- ---- laws that name forms
-- the lines from one place to another state this law, where so many forms are used before, and so many are then
pub record IsReadLaw (plant : Plant) (fs : List (List ℚ)) (before : ℕ) (here behind : Cursor) (law : Law) (used : ℕ) : Type 0 where
  pub named : NamedLaw
  pub reads : (named_law plant fs before).Reads here named behind
  pub law_is : law ≡ law_named plant fs named
  pub used_is : used ≡ used_behind (used_behind before named.moves) named.mults

abbrev pub ReadsLaw : Plant → List (List ℚ) → ℕ → Cursor → Cursor → Result (Law × ℕ) FileError → Type 0
ReadsLaw plant fs before here behind (Ok r) = IsReadLaw plant fs before here behind r.0 r.1
ReadsLaw plant fs before here behind (Err (Bad kind number)) = (named_law plant fs before).Fails here kind number
ReadsLaw plant fs before here behind (Err NoMemory) = Unit {0}

-- the lines from one place to another state these laws, which use so many forms
pub record AreReadLaws (plant : Plant) (fs : List (List ℚ)) (here behind : Cursor) (laws : List Law) (used : ℕ) : Type 0 where
  pub named : List NamedLaw
  pub reads : (named_laws plant fs).Reads here named behind
  pub laws_are : laws ≡ map (law_named plant fs) named
  pub used_is : used ≡ used_by named

abbrev pub ReadsLaws : Plant → List (List ℚ) → Cursor → Cursor → Result (List Law × ℕ) FileError → Type 0
ReadsLaws plant fs here behind (Ok r) = AreReadLaws plant fs here behind r.0 r.1
ReadsLaws plant fs here behind (Err (Bad kind number)) = (named_laws plant fs).Fails here kind number
ReadsLaws plant fs here behind (Err NoMemory) = Unit {0}
