use Rattle.std.proofs.Common.{◌∷◌, ◌∙◌, sym, ap}
use Rattle.std.specs.Str.Lines.{lines}
use Rattle.std.proofs.lemmas.Bool.Decides.{nat_tests}
use Rattle.std.proofs.Common.{arith}
use Rattle.mpc_table.proofs.LineLemmas.{lines-line, lines-last}
use Rattle.mpc_table.proofs.input.first_line.Goals as goal

pub returns-in-Some-clause-lines : goal.returns-in-Some-clause-lines
returns-in-Some-clause-lines c = lines-line c.args.text.now c.in-Some.line.now c.in-Some.rest.now c.in-Some.ensures.cut ∙ ap (λ l. l ∷ lines c.in-Some.rest.now) (sym c.without_return.ensures)

pub returns-clause-lines : goal.returns-clause-lines
returns-clause-lines c = lines-last c.args.text.now c.in_default.ensures.cut (let e = sym c.is_empty.ensures ∙ c.if-is_empty.false in grind (arith, nat_tests))
