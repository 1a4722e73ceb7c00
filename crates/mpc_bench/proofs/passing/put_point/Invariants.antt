use Rattle.std.proofs.Common.{◌≡◌, ℕ, ◌<◌, get_or, Some}
use Rattle.std.specs.Prelude.{slice_get}
use Rattle.mpc_bench.specs.Sent.{no_pair, pair_of}
use Rattle.mpc_bench.proofs.passing.put_point.Given as goal

abbrev pub invariant-loop-j : goal.invariant-loop-j
invariant-loop-j l = (k : ℕ) → k < l.j → slice_get l.found k ≡ Some (pair_of (get_or l.out k no_pair))
