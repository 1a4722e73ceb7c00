use Rattle.std.proofs.Common.{◌≡◌, ℕ, ◌<◌, get_or, length}
use Rattle.mpc_block.specs.Block.{spans_of}
use Rattle.mpc_block.proofs.widths.spans.Given as goal

abbrev pub invariant-loop-i : goal.invariant-loop-i
invariant-loop-i l = record {
  size : length l.spans ≡ 4;
  each : (k : ℕ) → k < l.i → get_or l.spans k 0 ≡ get_or (spans_of l.plant) k 0;
}
