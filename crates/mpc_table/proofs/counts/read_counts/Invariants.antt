use Rattle.std.proofs.Common.{◌≤◌, length, vec_len, vec_capacity}
use Rattle.mpc_table.proofs.CountLemmas.{HasWords}
use Rattle.mpc_table.proofs.counts.read_counts.Given as goal

abbrev pub invariant-words : goal.invariant-words
invariant-words l = record {
  words : HasWords l.line l.rest l.counts.items;
  few : vec_len l.counts ≤ l.states;
  room : l.states ≤ vec_capacity l.counts;
}

abbrev pub decreases-words : goal.decreases-words
decreases-words l = length l.rest
