use Rattle.std.proofs.Common.{take}
use Rattle.std.specs.Prelude.{All}
use Rattle.mpc_controller.specs.Bounds.{FormFits}
use Rattle.mpc_grammar.specs.LawGrammar.{form_named}
use Rattle.mpc_law_lines.proofs.named_laws.named_fit.Given as goal

abbrev pub invariant-loop-number : goal.invariant-loop-number
invariant-loop-number l = All (λ k. FormFits l.counts (form_named l.forms k)) (take l.number-index l.numbers)
