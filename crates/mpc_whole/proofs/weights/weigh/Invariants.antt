use Rattle.std.proofs.Common.{ℕ, ◌<◌, ◌≤◌, get_or}
use Rattle.mpc_runs.specs.Table.{variable_at}
use Rattle.mpc_scaled.specs.Scaled.{whole_cell}
use Rattle.mpc_whole.specs.Judged.{IsWeighedAt}
use Rattle.mpc_whole.proofs.weights.weigh.Given as goal

abbrev pub invariant-loop-column : goal.invariant-loop-column
invariant-loop-column l = record {
  before : (j : ℕ) → get_or l.initial.weights j 0 ≤ get_or l.weights j 0;
  here : (j c : ℕ) → j < l.system.width → c < l.column → IsWeighedAt l.system l.frame.scales.now l.by.enters l.by.top l.by.size (variable_at l.here.nonbasic.now c) (whole_cell l.system.width l.here.numbers.now j c) (get_or l.weights j 0);
}
