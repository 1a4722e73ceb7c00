-- The laws of the crates below on which the uniqueness of a plant's outcome and controller stands.
use Rattle.mpc_cover.specs.CoverTheorems.{OneRightVerdict}
use Rattle.mpc_sets.specs.SetTheorems.{OrderTheorems}
use Rattle.mpc_definite.specs.PivotTheorems.{DefiniteByPivots}
use Rattle.mpc_condense.specs.Outcomes.{OneProgramOutcome}
use Rattle.mpc_controller.specs.OneBound.{OneFirstBroken, KeptNotBroken}
use Rattle.mpc_condense.specs.BestReplies.{OneProgram}
use Rattle.mpc_tree.specs.Certified.{OneTree, OneFirstWide, FitsNotWide, CertifiedFits}
use Rattle.mpc_synthesis.specs.RightReplies.{OneTable}
use Rattle.mpc_check.specs.Acceptance.{NothingFound, OneFinding}

pub record Given : Type 0 where
  pub one_program : OneProgram
  pub one_verdict : OneRightVerdict
  pub order_of_sets : OrderTheorems
  pub definite_by_pivots : DefiniteByPivots
  pub one_program_outcome : OneProgramOutcome
  pub one_tree : OneTree
  pub one_first_wide : OneFirstWide
  pub fits_not_wide : FitsNotWide
  pub fitting : CertifiedFits
  pub one_table : OneTable
  pub one_broken : OneFirstBroken
  pub none_broken : KeptNotBroken
  pub nothing_found : NothingFound
  pub one_finding : OneFinding
