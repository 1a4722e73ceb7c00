use Rattle.std.proofs.Common.{◌≡◌, ℕ, ◌<◌, get_or}
use Rattle.mpc_space.specs.Vector.{coordinate}
use Rattle.mpc_bench.specs.Parts.{value_of}
use Rattle.mpc_bench.specs.Sent.{no_parts}
use Rattle.mpc_bench.proofs.passing.put_multipliers.Given as goal

abbrev pub invariant-loop-i : goal.invariant-loop-i
invariant-loop-i l = (k : ℕ) → k < l.i → value_of (get_or l.out k no_parts) ≡ coordinate l.found k
