use Rattle.std.proofs.Common.{List, ◌∙◌}
use Rattle.mpc_exact.specs.Rational.{ℚ}
use Rattle.mpc_grammar.specs.Spelling.{AreFractions}
use Rattle.mpc_grammar.specs.Outcomes.{at_some}
use Rattle.mpc_law_lines.proofs.FormLemmas.{no_form}
use Rattle.mpc_law_lines.proofs.law_lines.form_in.Goals as goal

pub returns-then-len-size : goal.returns-then-len-size
returns-then-len-size c =
    let are = at_some ((xs : List ℚ) → ¬ AreFractions c.args.name.now c.args.text.now xs) (AreFractions c.args.name.now c.args.text.now) c.in_ok-form.field-0 c.in-Some.form c.in-Some.is c.in_ok-form.ensures in
    no_form c.one_fractions.ensures c.args.name.now c.args.text.now c.args.states c.in-Some.form are (λ e. c.if-len-size.true (c.len.ensures ∙ e))
