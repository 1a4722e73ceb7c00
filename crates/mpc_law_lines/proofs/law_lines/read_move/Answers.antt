use Rattle.std.proofs.Common.{◌+◌, ◌<◌, List, codes, sym, subst, ◌∙◌}
use Rattle.std.proofs.lemmas.Bool.{false≢true}
use Rattle.mpc_exact.specs.Rational.{ℚ}
use Rattle.mpc_controller.specs.Bounds.{FormFits}
use Rattle.mpc_grammar.specs.Reading.{one_line}
use Rattle.mpc_grammar.specs.PlantGrammar.{AreNumbers}
use Rattle.mpc_grammar.specs.LawGrammar.{move_rule}
use Rattle.mpc_grammar.specs.declared.errors.FileKind.TheVariants.{BadLine, OverBound}
use Rattle.mpc_grammar.specs.Outcomes.{line_reads, line_bad, line_over, at_some}
use Rattle.mpc_law_lines.proofs.FormLemmas.{at_none}
use Rattle.mpc_law_lines.proofs.law_lines.read_move.Goals as goal

pub returns-in_default : goal.returns-in_default
returns-in_default c =
    subst (λ n. (one_line (move_rule c.args.plant.now c.args.index)).Fails c.args.lines.now BadLine n) (sym c.number-number.ensures)
    (line_bad (move_rule c.args.plant.now c.args.index) c.in_ok-text.ensures.taken (at_none _ _ c.in_ok-form.field-0 c.in_default.is c.in_ok-form.ensures) (λ node. node))

pub returns-then-branch : goal.returns-then-branch
returns-then-branch c =
    let is = at_some ((form : List ℚ) → ¬ AreNumbers (codes "move") (c.args.plant.now.n + 1) c.in_ok-text.text.now form) (AreNumbers (codes "move") (c.args.plant.now.n + 1) c.in_ok-text.text.now) c.in_ok-form.field-0 c.in-Some.form c.in-Some.is c.in_ok-form.ensures in
    subst (λ n. (one_line (move_rule c.args.plant.now c.args.index)).Fails c.args.lines.now OverBound n) (sym c.number-number.ensures)
    (line_over (move_rule c.args.plant.now c.args.index) c.in-Some.form c.in_ok-text.ensures.taken is
    (subst (λ counts. (c.args.index < c.args.plant.now.p) × (¬ FormFits counts c.in-Some.form)) c.requires (c.in_ok-is_over.ensures.0 c.if-branch.true)))

pub returns : goal.returns
returns c =
    let is = at_some ((form : List ℚ) → ¬ AreNumbers (codes "move") (c.args.plant.now.n + 1) c.in_ok-text.text.now form) (AreNumbers (codes "move") (c.args.plant.now.n + 1) c.in_ok-text.text.now) c.in_ok-form.field-0 c.in-Some.form c.in-Some.is c.in_ok-form.ensures in
    line_reads (move_rule c.args.plant.now c.args.index) c.in-Some.form c.in_ok-text.ensures.taken is
    (λ over. false≢true (sym c.if-branch.false ∙ c.in_ok-is_over.ensures.1 (subst (λ counts. (c.args.index < c.args.plant.now.p) × (¬ FormFits counts c.in-Some.form)) (sym c.requires) over)))
