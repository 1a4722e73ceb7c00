use Rattle.std.proofs.Common.{length}
use Rattle.mpc_words.proofs.WholeLineLemmas.{IsBehind}
use Rattle.mpc_words.proofs.whole_lines.cut_at_line.Given as goal

abbrev pub invariant-loop-line : goal.invariant-loop-line
invariant-loop-line l = IsBehind l.word l.text l.rest l.start

abbrev pub decreases-loop-line : goal.decreases-loop-line
decreases-loop-line l = length l.rest
