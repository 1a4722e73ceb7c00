use Rattle.std.proofs.Common.{◌+◌, List, length, ap, codes}
use Rattle.mpc_exact.specs.Rational.{ℚ}
use Rattle.mpc_grammar.specs.Reading.{one_line}
use Rattle.mpc_grammar.specs.PlantGrammar.{plain_rule, AreNumbers}
use Rattle.mpc_grammar.specs.LawGrammar.{mults}
use Rattle.mpc_law_lines.proofs.FormLemmas.{no_items, further, further_error, one_longer, passed_on}
use Rattle.mpc_law_lines.proofs.law_lines.read_mults.Goals as goal

pub loop-init : goal.loop-init
loop-init c = record {
  so_far = no_items (λ (before : List (List ℚ)). one_line (plain_rule (AreNumbers (codes "mult") (c.args.plant.now.n + 1)))) c.args.members c.args.lines.now c.new-forms.result c.new-forms.ensures;
  so_many = ap length c.new-forms.ensures;
}

pub loop-preserved : goal.loop-preserved
loop-preserved c = record {
  so_far = further (λ (before : List (List ℚ)). one_line (plain_rule (AreNumbers (codes "mult") (c.args.plant.now.n + 1)))) c.args.members c.args.lines.now c.loop.lines c.read_mult.new.lines c.loop.forms c.push.new.self c.in_ok-form.form c.loop.counter
      c.loop.invariant.so_far c.loop.invariant.so_many c.loop-test.true c.in_ok-form.ensures c.in_ok-push.ensures.ok;
  so_many = one_longer c.loop.forms c.push.new.self c.in_ok-form.form c.loop.counter c.in_ok-push.ensures.ok c.loop.invariant.so_many;
}

pub returns-in_err-form : goal.returns-in_err-form
returns-in_err-form c =
    passed_on (mults c.args.plant.now c.args.members) c.args.lines.now c.read_mult.new.lines c.from_residual.result c.in_err-form.field-0.0 c.from_residual.ensures.1
    (further_error (λ (before : List (List ℚ)). one_line (plain_rule (AreNumbers (codes "mult") (c.args.plant.now.n + 1)))) c.args.members c.args.lines.now c.loop.lines c.read_mult.new.lines c.read_mult.new.lines c.loop.forms c.loop.counter c.in_err-form.field-0.0
    c.loop.invariant.so_far c.loop.invariant.so_many c.loop-test.true c.in_err-form.ensures)
