use Rattle.std.proofs.Common.{◌≡◌, ◌-◌, ◌++◌, take, map}
use Rattle.std.specs.Prelude.{decimal}
use Rattle.mpc_words.specs.Words.{behind_blanks}
use Rattle.mpc_writing.proofs.law_lines.write_members.Given as goal

abbrev pub invariant-loop-k : goal.invariant-loop-k
invariant-loop-k l = l.out.items ≡ l.initial.out.items ++ behind_blanks (map decimal (take (l.k - 1) l.set))
