-- Laws and programs in whole numbers over one denominator each, and what is formed of them.
use Rattle.std.specs.Prelude.{ℕ, ◌^◌, ◌<◌, ◌≤◌, length, slice_index}
use Rattle.mpc_space.specs.Vector.{column}
use Rattle.mpc_space.specs.Matrix.{height}
use Rattle.mpc_wholes.specs.Wholes.{AreOver, AreRowsOver}
use Rattle.mpc_rows.specs.declared.programs.Qp.{Qp}
use Rattle.mpc_rows.specs.declared.laws.Law.{Law}
use Rattle.mpc_check.specs.declared.numbers.WholeProgram.{WholeProgram}
use Rattle.mpc_check.specs.declared.numbers.LawColumn.{LawColumn}
use Rattle.mpc_check.specs.Findings.{Each}
use Rattle.mpc_check.specs.LawConditions.{StationaryMet, ActiveMet}

-- a denominator of at most 2^61
pub record IsSmallDenom (den : ℕ) : Type 0 where
  pub some : 0 < den
  pub small : den ≤ 2 ^ 61

-- the matrices of a program are over one denominator, with numbers of at most 2^61 in size
pub record IsProgramOver (qp : Qp) (p : WholeProgram) : Type 0 where
  pub denom : IsSmallDenom p.den
  pub h : AreRowsOver qp.h p.den (2 ^ 61) p.h.items
  pub f : AreRowsOver qp.f p.den (2 ^ 61) p.f.items
  pub g : AreRowsOver qp.g p.den (2 ^ 61) p.g.items
  pub w : AreRowsOver qp.w p.den (2 ^ 61) p.w.items

-- so is column c of a law
pub record IsColumnOver (law : Law) (c : ℕ) (p : LawColumn) : Type 0 where
  pub denom : IsSmallDenom p.den
  pub moves : AreOver (column law.moves.rows c) p.den (2 ^ 61) p.moves
  pub mults : AreOver (column law.mults.rows c) p.den (2 ^ 61) p.mults

-- the law's conditions on the coefficients on one extended count
pub record ColumnMet (qp : Qp) (law : Law) (c : ℕ) : Type 0 where
  pub stationary : Each (λ r. StationaryMet qp law r c) (height qp.h)
  pub active : Each (λ k. ActiveMet qp law (slice_index law.set k) c) (length law.set)
