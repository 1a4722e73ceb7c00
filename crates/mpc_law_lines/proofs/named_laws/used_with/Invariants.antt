use Rattle.std.proofs.Common.{◌≡◌, take}
use Rattle.mpc_grammar.specs.LawGrammar.{used_behind}
use Rattle.mpc_law_lines.proofs.named_laws.used_with.Given as goal

abbrev pub invariant-loop-number : goal.invariant-loop-number
invariant-loop-number l = l.last ≡ used_behind l.used (take l.number-index l.numbers)
