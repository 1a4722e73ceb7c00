use Rattle.mpc_table.proofs.CountLemmas.{IsRead}
use Rattle.mpc_table.proofs.counts.read_count.Given as goal

abbrev pub invariant-loop-digit : goal.invariant-loop-digit
invariant-loop-digit l = IsRead l.text l.digit-index l.value
