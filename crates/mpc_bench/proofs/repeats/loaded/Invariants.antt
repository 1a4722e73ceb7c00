use Rattle.std.proofs.Common.{◌≡◌, ℕ, ◌<◌, Some}
use Rattle.std.specs.Prelude.{slice_get}
use Rattle.mpc_bench.specs.Digests.{number_at}
use Rattle.mpc_bench.proofs.repeats.loaded.Given as goal

abbrev pub invariant-loop-place : goal.invariant-loop-place
invariant-loop-place l = (k : ℕ) → k < l.place → slice_get l.fraction-items k ≡ Some (number_at l.parts k)
