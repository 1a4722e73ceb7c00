use Rattle.std.proofs.Common.{◌≡◌, ℕ, ◌<◌, take, map, get_or}
use Rattle.mpc_bench.specs.Parts.{value_of, IsReadable}
use Rattle.mpc_bench.specs.Sent.{no_parts}
use Rattle.mpc_bench.proofs.passing.read_vector.Given as goal

abbrev pub invariant-loop-part : goal.invariant-loop-part
invariant-loop-part l = record {
  value : l.vector ≡ map value_of (take l.part-index l.parts);
  readable : (k : ℕ) → k < l.part-index → IsReadable (get_or l.parts k no_parts);
}
