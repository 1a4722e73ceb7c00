use Rattle.std.proofs.Common.{ℕ, ◌<◌, get_or}
use Rattle.mpc_bench.specs.Parts.{value_of}
use Rattle.mpc_bench.specs.Answers.{no_parts}
use Rattle.mpc_bench.proofs.Replied.{IsNumberOf}
use Rattle.mpc_bench.proofs.replies.put_moves.Given as goal

abbrev pub invariant-loop-i : goal.invariant-loop-i
invariant-loop-i l = (k : ℕ) → k < l.i → IsNumberOf l.table l.counts l.law k (value_of (get_or l.moves k no_parts))
