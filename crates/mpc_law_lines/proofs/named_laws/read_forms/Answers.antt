use Rattle.std.proofs.Common.{◌+◌, codes, List, length, ap, sym, subst}
use Rattle.mpc_exact.specs.Rational.{ℚ}
use Rattle.mpc_grammar.specs.Reading.{one_line}
use Rattle.mpc_grammar.specs.PlantGrammar.{plain_rule, AreNumbers, StatesNew}
use Rattle.mpc_law_lines.specs.FormLists.{HasLinesOf}
use Rattle.mpc_law_lines.proofs.FormLemmas.{no_items, further, one_longer}
use Rattle.mpc_law_lines.proofs.NamedLemmas.{known_start, forms_sizes}
use Rattle.mpc_law_lines.proofs.named_laws.read_forms.Goals as goal

pub loop-init : goal.loop-init
loop-init c = record {
  so_far = no_items (λ (before : List (List ℚ)). one_line (plain_rule (StatesNew before (AreNumbers (codes "form") (c.args.plant.now.n + 1))))) c.in_ok-count.count c.read_form_count.new.lines c.new-forms.result c.new-forms.ensures;
  so_many = ap length c.new-forms.ensures;
  known = known_start c.new-known.result c.new-forms.result c.new-known.ensures c.new-forms.ensures;
}

pub loop-preserved : goal.loop-preserved
loop-preserved c = record {
  so_far = further (λ (before : List (List ℚ)). one_line (plain_rule (StatesNew before (AreNumbers (codes "form") (c.args.plant.now.n + 1))))) c.in_ok-count.count c.read_form_count.new.lines c.loop.lines c.read_new_form.new.lines c.loop.forms c.push.new.self c.in_ok-form.form c.loop.counter
      c.loop.invariant.so_far c.loop.invariant.so_many c.loop-test.true c.in_ok-form.ensures.outcome c.in_ok-push.ensures.ok;
  so_many = one_longer c.loop.forms c.push.new.self c.in_ok-form.form c.loop.counter c.in_ok-push.ensures.ok c.loop.invariant.so_many;
  known = subst (HasLinesOf c.read_new_form.new.known) (sym c.in_ok-push.ensures.ok) c.in_ok-form.ensures.known;
}

pub returns-clause-sizes : goal.returns-clause-sizes
returns-clause-sizes c = forms_sizes c.args.plant.now c.in_ok-count.count c.read_form_count.new.lines c.loop.lines c.loop.forms c.loop.invariant.so_far
