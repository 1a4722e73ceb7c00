use Rattle.std.proofs.Common.{ℕ, ◌<◌}
use Rattle.mpc_rows.specs.LinearSystem.{height}
use Rattle.mpc_runs.specs.Table.{variable_at}
use Rattle.mpc_whole.specs.Whole.{side_cell}
use Rattle.mpc_scaled.specs.Scaled.{whole_cell}
use Rattle.mpc_whole.specs.Judged.{HasRoomAt}
use Rattle.mpc_whole.proofs.judge.judge_columns.Given as goal

abbrev pub invariant-loop-column : goal.invariant-loop-column
invariant-loop-column l = record {
  unknowns : (j c : ℕ) → j < l.system.width → c < l.column → HasRoomAt l.system l.frame.scales.now l.frame.b.now l.by.enters l.by.top l.by.size (variable_at l.here.nonbasic.now c) (whole_cell l.system.width l.here.numbers.now j c);
  sides : (i c : ℕ) → i < height l.system → c < l.column → HasRoomAt l.system l.frame.scales.now l.frame.b.now l.by.enters l.by.top l.by.size (variable_at l.here.nonbasic.now c) (side_cell l.system l.frame.a.now l.here.numbers.now i c);
}
