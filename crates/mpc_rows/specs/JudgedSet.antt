-- A set with its verdict.
use Rattle.std.specs.Prelude.{ℕ, List}
use Rattle.mpc_rows.specs.declared.verdicts.Verdict.{Verdict}

pub record JudgedSet : Type 0 where
  pub set : List ℕ
  pub verdict : Verdict
