use Rattle.std.proofs.Common.{◌≡◌, map}
use Rattle.std.specs.List.{range_with_len}
use Rattle.mpc_bench.specs.Sent.{sent_row}
use Rattle.mpc_bench.proofs.Passed.{AreReadable}
use Rattle.mpc_bench.proofs.passing.read_rows.Given as goal

abbrev pub invariant-loop-place : goal.invariant-loop-place
invariant-loop-place l = record {
  width : l.system.width ≡ l.width;
  readable : AreReadable l.width l.coefficients l.sides l.place;
  rows : l.system.rows ≡ map (sent_row l.width l.coefficients l.sides) (range_with_len 0 l.place);
}
