use Rattle.std.proofs.Common.{◌≡◌, drop}
use Rattle.mpc_check.proofs.SideLemmas.{first_of}
use Rattle.mpc_check.proofs.trees.first_answer.Given as goal

abbrev pub invariant-loop-answer : goal.invariant-loop-answer
invariant-loop-answer l = first_of l.answers ≡ first_of (drop l.answer-index l.answers)
