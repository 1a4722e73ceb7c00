use Rattle.mpc_synthesis.proofs.OneOutcome.{one_controller}
use Rattle.mpc_synthesis.proofs.theorems.one_controller.Goals as goal

pub returns : goal.returns
returns c = one_controller (record {
  one_program = c.one_program.ensures;
  one_verdict = c.one_verdict.ensures;
  order_of_sets = c.order_theorems.ensures;
  definite_by_pivots = c.pivot_theorems.ensures.definite;
  one_program_outcome = c.one_program_outcome.ensures;
  one_tree = c.one_tree.ensures.one_tree;
  one_first_wide = c.one_tree.ensures.one_first_wide;
  fits_not_wide = c.one_tree.ensures.fits_not_wide;
  fitting = c.one_tree.ensures.fits;
  one_table = c.one_table.ensures;
  one_broken = c.bound_theorems.ensures.one_first_broken;
  none_broken = c.bound_theorems.ensures.kept_not_broken;
  nothing_found = c.one_finding.ensures.accepted;
  one_finding = c.one_finding.ensures.one;
})
