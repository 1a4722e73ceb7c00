-- What is single: the law of a set, the rows of a law, the coefficients of an affine form.
use Rattle.std.specs.Prelude.{◌≡◌, ℕ, suc, ◌+◌, ◌<◌, ◌≤◌, Some, None, List, length, get_or}
use Rattle.mpc_exact.specs.Rational.{ℚ}
use Rattle.mpc_space.specs.Vector.{coordinate, dot}
use Rattle.mpc_space.specs.Definite.{IsDefinite}
use Rattle.mpc_linear.specs.declared.integers.RowInt.{RowInt}
use Rattle.mpc_linear.specs.Whole.{IsScaledRow}
use Rattle.mpc_sets.specs.RowSet.{RisesWithin}
use Rattle.mpc_rows.specs.declared.programs.Qp.{Qp}
use Rattle.mpc_rows.specs.declared.laws.Law.{Law}
use Rattle.mpc_rows.specs.ActiveSets.{extended, IsIndependentSet}
use Rattle.mpc_rows.specs.Laws.{HasLawShape, IsLaw}
use Rattle.mpc_rows.specs.LawRows.{IsPlaceAmong, excess_form, member_form, law_form, law_sides, law_bound, IsLawRow, AreLawRows}

-- affine forms with the same values have the same coefficients
abbrev pub SameCoefficients : Type 0
SameCoefficients = (n : ℕ) (r s : List ℚ) → ((t : List ℚ) → length t ≡ n → dot r (extended t) ≡ dot s (extended t)) → (j : ℕ) → j < n + 1 → coordinate r j ≡ coordinate s j

-- an independent set has one law, where h is positive definite
abbrev pub OneLaw : Type 0
OneLaw = (qp : Qp) → IsDefinite qp.h.rows → (a b : Law) → IsLaw qp a → IsLaw qp b → a.set ≡ b.set → IsIndependentSet qp a.set → a ≡ b

-- a law has one row for each row of the program
abbrev pub OneLawRow : Type 0
OneLawRow = (qp : Qp) (law : Law) (i : ℕ) (r s : RowInt) → IsLawRow qp law i r → IsLawRow qp law i s → r ≡ s

abbrev pub OneListOfRows : Type 0
OneListOfRows = (qp : Qp) (law : Law) (xs ys : List RowInt) → AreLawRows qp law xs → AreLawRows qp law ys → xs ≡ ys

-- with a coefficient for each count
abbrev pub LawRowSize : Type 0
LawRowSize = (qp : Qp) (law : Law) (i : ℕ) → HasLawShape qp law → (r : RowInt) → IsScaledRow (law_sides qp law i) (law_bound qp law i) r.a r.b → length r.a ≡ length qp.counts

-- the members of a set of rows are rows
abbrev pub MemberBounds : Type 0
MemberBounds = (high : ℕ) (s : List ℕ) (k : ℕ) → RisesWithin 0 high s → k < length s → (1 ≤ get_or s k 0) × (get_or s k 0 ≤ high)

pub record LawTheorems : Type 0 where
  pub same_coefficients : SameCoefficients
  pub law_unique : OneLaw
  pub law_row_unique : OneLawRow
  pub law_rows_unique : OneListOfRows
  pub law_row_size : LawRowSize
  pub member_bounds : MemberBounds

-- ---- the form of a row
-- the form of a row outside the set, and of the member at a place
abbrev pub FormOutside : Type 0
FormOutside = (qp : Qp) (law : Law) (i : ℕ) → IsPlaceAmong law.set i None → law_form qp law i ≡ excess_form qp law i

abbrev pub FormOfMember : Type 0
FormOfMember = (qp : Qp) (law : Law) (i k : ℕ) → IsPlaceAmong law.set i (Some k) → law_form qp law i ≡ member_form law k

-- its coefficients on t, one for each count
abbrev pub SideOfForm : Type 0
SideOfForm = (qp : Qp) (law : Law) (i j : ℕ) → coordinate (law_sides qp law i) j ≡ coordinate (law_form qp law i) (suc j)

abbrev pub SidesSize : Type 0
SidesSize = (qp : Qp) (law : Law) (i : ℕ) → HasLawShape qp law → length (law_sides qp law i) ≡ length qp.counts

pub record FormTheorems : Type 0 where
  pub outside : FormOutside
  pub member : FormOfMember
  pub side : SideOfForm
  pub sides_size : SidesSize
