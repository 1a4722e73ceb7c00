use Rattle.std.proofs.Common.{◌+◌, List, codes, sym, ◌∙◌, subst}
use Rattle.std.proofs.lemmas.Bool.{false≢true}
use Rattle.mpc_exact.specs.Rational.{ℚ}
use Rattle.mpc_grammar.specs.Reading.{one_line}
use Rattle.mpc_grammar.specs.PlantGrammar.{plain_rule, AreNumbers, StatesNew}
use Rattle.mpc_grammar.specs.declared.errors.FileKind.TheVariants.{BadLine}
use Rattle.mpc_grammar.specs.Outcomes.{plain_reads, plain_bad, at_some}
use Rattle.mpc_law_lines.proofs.FormLemmas.{at_none}
use Rattle.mpc_law_lines.proofs.NamedLemmas.{is_new, is_old, is_none, one_more_known}
use Rattle.mpc_law_lines.proofs.named_laws.read_new_form.Goals as goal

pub returns-in_default-clause-outcome : goal.returns-in_default-clause-outcome
returns-in_default-clause-outcome c =
    subst (λ n. (one_line (plain_rule (StatesNew c.args.before.now (AreNumbers (codes "form") (c.args.plant.now.n + 1))))).Fails c.args.lines.now BadLine n) (sym c.number-number.ensures)
    (plain_bad (StatesNew c.args.before.now (AreNumbers (codes "form") (c.args.plant.now.n + 1))) c.in_ok-text.ensures.taken
    (is_none c.args.plant.now.n c.args.known.now c.args.before.now c.requires c.in_ok-text.text.now (at_none _ _ c.in_ok-form.field-0 c.in_default.is c.in_ok-form.ensures)))

pub returns-then-not-branch-clause-outcome : goal.returns-then-not-branch-clause-outcome
returns-then-not-branch-clause-outcome c =
    subst (λ n. (one_line (plain_rule (StatesNew c.args.before.now (AreNumbers (codes "form") (c.args.plant.now.n + 1))))).Fails c.args.lines.now BadLine n) (sym c.number-number.ensures)
    (plain_bad (StatesNew c.args.before.now (AreNumbers (codes "form") (c.args.plant.now.n + 1))) c.in_ok-text.ensures.taken
    (λ form new. false≢true (sym c.if-not-branch.true ∙ c.in_ok-insert.ensures.new.1 (λ held. is_old c.args.plant.now.n c.args.known.now c.args.before.now c.requires c.in_ok-text.text.now held form new))))

pub returns-clause-outcome : goal.returns-clause-outcome
returns-clause-outcome c =
    let is = at_some ((form : List ℚ) → ¬ AreNumbers (codes "form") (c.args.plant.now.n + 1) c.in_ok-text.text.now form) (AreNumbers (codes "form") (c.args.plant.now.n + 1) c.in_ok-text.text.now) c.in_ok-form.field-0 c.in-Some.form c.in-Some.is c.in_ok-form.ensures in
    plain_reads (StatesNew c.args.before.now (AreNumbers (codes "form") (c.args.plant.now.n + 1))) c.in-Some.form c.in_ok-text.ensures.taken (is_new c.args.plant.now.n c.args.known.now c.args.before.now c.requires c.in_ok-text.text.now c.in-Some.form is (c.in_ok-insert.ensures.new.0 c.if-not-branch.false))

pub returns-clause-known : goal.returns-clause-known
returns-clause-known c =
    let is = at_some ((form : List ℚ) → ¬ AreNumbers (codes "form") (c.args.plant.now.n + 1) c.in_ok-text.text.now form) (AreNumbers (codes "form") (c.args.plant.now.n + 1) c.in_ok-text.text.now) c.in_ok-form.field-0 c.in-Some.form c.in-Some.is c.in_ok-form.ensures in
    one_more_known c.args.plant.now.n c.args.known.now c.args.before.now c.requires c.in_ok-text.text.now c.one_fractions.ensures c.insert.new.self c.in_ok-insert.ensures.lines c.in-Some.form is
