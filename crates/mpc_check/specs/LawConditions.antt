-- The conditions of Karush, Kuhn and Tucker on a law, as equalities of affine forms, coefficient by coefficient on the extended counts.
use Rattle.std.specs.Prelude.{◌≡◌, ℕ, ◌+◌, ◌<◌, List, [], length, slice_index, slice_index_or, slice_get, Some, pos}
use Rattle.mpc_exact.specs.Rational.{ℚ, int, ◌+ℚ◌}
use Rattle.mpc_space.specs.Vector.{coordinate, column, dot}
use Rattle.mpc_space.specs.Matrix.{height, entry}
use Rattle.mpc_linear.specs.Dot.{SumFits, DotFits}
use Rattle.mpc_rows.specs.declared.programs.Qp.{Qp}
use Rattle.mpc_rows.specs.declared.laws.Law.{Law}
use Rattle.mpc_rows.specs.declared.places.Place.TheVariants.{CheckLaw}
use Rattle.mpc_rows.specs.ActiveSets.{row_of, rows_of}
use Rattle.mpc_rows.specs.Laws.{HasLawShape, IsLaw}
use Rattle.mpc_check.specs.declared.answers.Spot.TheVariants.{Stationary, Active}
use Rattle.mpc_check.specs.Findings.{Finding, IsMet, IsUnmet, Each, IsFirstOf, IsFirstOfTwo}

-- ---- h z + f c + g'l is 0; lines and columns are counted from 0
-- the part of the coefficient on c in line r that f and the moves give
abbrev pub moved_at : Qp → Law → ℕ → ℕ → ℚ
moved_at qp law r c = entry qp.f r c +ℚ dot (slice_index_or qp.h.rows r []) (column law.moves.rows c)

-- and with the multipliers
abbrev pub gradient_at : Qp → Law → ℕ → ℕ → ℚ
gradient_at qp law r c = moved_at qp law r c +ℚ dot (column (rows_of qp.g.rows law.set) r) (column law.mults.rows c)

abbrev pub IsStationaryAt : Qp → Law → ℕ → ℕ → Type 0
IsStationaryAt qp law r c = gradient_at qp law r c ≡ int (pos 0)

-- the sum's numbers fit, from left to right
pub record GradientFits (qp : Qp) (law : Law) (r c : ℕ) : Type 0 where
  pub moves : SumFits (entry qp.f r c) (slice_index_or qp.h.rows r []) (column law.moves.rows c)
  pub mults : SumFits (moved_at qp law r c) (column (rows_of qp.g.rows law.set) r) (column law.mults.rows c)

abbrev pub StationaryMet : Qp → Law → ℕ → ℕ → Type 0
StationaryMet qp law r c = IsMet (GradientFits qp law r c) (IsStationaryAt qp law r c)

abbrev pub StationaryFinds : Qp → ℕ → Law → ℕ → ℕ → Finding → Type 0
StationaryFinds qp number law r c = IsUnmet (GradientFits qp law r c) (IsStationaryAt qp law r c) (Stationary number (r + 1)) (CheckLaw number)

-- a line, column by column
abbrev pub LineMet : Qp → Law → ℕ → Type 0
LineMet qp law r = Each (StationaryMet qp law r) (length qp.counts + 1)

abbrev pub LineFinds : Qp → ℕ → Law → ℕ → Finding → Type 0
LineFinds qp number law r = IsFirstOf (StationaryMet qp law r) (StationaryFinds qp number law r) (length qp.counts + 1)

-- line by line
abbrev pub LinesMet : Qp → Law → Type 0
LinesMet qp law = Each (LineMet qp law) (height qp.h)

abbrev pub LinesFind : Qp → ℕ → Law → Finding → Type 0
LinesFind qp number law = IsFirstOf (LineMet qp law) (LineFinds qp number law) (height qp.h)

-- ---- g_i z is w_i c for the members i of the set
abbrev pub IsActiveAt : Qp → Law → ℕ → ℕ → Type 0
IsActiveAt qp law i c = dot (row_of qp.g.rows i) (column law.moves.rows c) ≡ coordinate (row_of qp.w.rows i) c

abbrev pub ActiveFits : Qp → Law → ℕ → ℕ → Type 0
ActiveFits qp law i c = DotFits (row_of qp.g.rows i) (column law.moves.rows c)

abbrev pub ActiveMet : Qp → Law → ℕ → ℕ → Type 0
ActiveMet qp law i c = IsMet (ActiveFits qp law i c) (IsActiveAt qp law i c)

abbrev pub ActiveFinds : Qp → ℕ → Law → ℕ → ℕ → Finding → Type 0
ActiveFinds qp number law i c = IsUnmet (ActiveFits qp law i c) (IsActiveAt qp law i c) (Active number i) (CheckLaw number)

-- a row, column by column
abbrev pub RowMet : Qp → Law → ℕ → Type 0
RowMet qp law i = Each (ActiveMet qp law i) (length qp.counts + 1)

abbrev pub RowFinds : Qp → ℕ → Law → ℕ → Finding → Type 0
RowFinds qp number law i = IsFirstOf (ActiveMet qp law i) (ActiveFinds qp number law i) (length qp.counts + 1)

-- member by member in rising order, counted from 0
abbrev pub MemberMet : Qp → Law → ℕ → Type 0
MemberMet qp law k = RowMet qp law (slice_index law.set k)

abbrev pub MemberFinds : Qp → ℕ → Law → ℕ → Finding → Type 0
MemberFinds qp number law k = RowFinds qp number law (slice_index law.set k)

abbrev pub MembersMet : Qp → Law → Type 0
MembersMet qp law = Each (MemberMet qp law) (length law.set)

abbrev pub MembersFind : Qp → ℕ → Law → Finding → Type 0
MembersFind qp number law = IsFirstOf (MemberMet qp law) (MemberFinds qp number law) (length law.set)

-- ---- the law with this number, from 1
pub record LawMet (qp : Qp) (law : Law) : Type 0 where
  pub stationary : LinesMet qp law
  pub active : MembersMet qp law

abbrev pub LawFinds : Qp → ℕ → Law → Finding → Type 0
LawFinds qp number law = IsFirstOfTwo (LinesMet qp law) (LinesFind qp number law) (MembersFind qp number law)

-- ---- law by law, their places counted from 0
abbrev pub LawAtMet : Qp → List Law → ℕ → Type 0
LawAtMet qp laws place = (law : Law) → slice_get laws place ≡ Some law → LawMet qp law

pub record LawAtFinds (qp : Qp) (laws : List Law) (place : ℕ) (finding : Finding) : Type 0 where
  pub law : Law
  pub is : slice_get laws place ≡ Some law
  pub finds : LawFinds qp (place + 1) law finding

abbrev pub LawsMet : Qp → List Law → Type 0
LawsMet qp laws = Each (LawAtMet qp laws) (length laws)

abbrev pub LawsFind : Qp → List Law → Finding → Type 0
LawsFind qp laws = IsFirstOf (LawAtMet qp laws) (LawAtFinds qp laws) (length laws)

-- ---- what the conditions say of a law
-- the law of its set meets them
abbrev pub LawIsStationary : Type 0
LawIsStationary = (qp : Qp) (law : Law) → IsLaw qp law → (r c : ℕ) → c < length qp.counts + 1 → IsStationaryAt qp law r c

abbrev pub LawIsActive : Type 0
LawIsActive = (qp : Qp) (law : Law) → IsLaw qp law → (k c : ℕ) → k < length law.set → c < length qp.counts + 1 → IsActiveAt qp law (slice_index law.set k) c

-- and what meets them is the law of its set
abbrev pub MeetingIsLaw : Type 0
MeetingIsLaw = (qp : Qp) (law : Law) → HasLawShape qp law → LawMet qp law → IsLaw qp law
