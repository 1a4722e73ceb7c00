use Rattle.std.proofs.Common.{length, take, codes, sym, ◌∙◌, subst}
use Rattle.std.specs.Prelude.{All}
use Rattle.std.proofs.lemmas.Bool.{false≢true}
use Rattle.mpc_controller.specs.Parts.{limits_of}
use Rattle.mpc_controller.specs.Bounds.{FormFits}
use Rattle.mpc_grammar.specs.Reading.{one_line}
use Rattle.mpc_grammar.specs.LawGrammar.{unknowns, named_moves_rule, form_named}
use Rattle.mpc_grammar.specs.declared.errors.FileKind.TheVariants.{BadLine, OverBound}
use Rattle.mpc_grammar.specs.Outcomes.{line_reads, line_bad, line_over}
use Rattle.mpc_law_lines.proofs.NamedLemmas.{are_read, none_are_read, as_many_counts, first_named}
use Rattle.mpc_law_lines.proofs.named_laws.read_named_moves.Goals as goal

pub named_fit-requires-clause-numbers : goal.named_fit-requires-clause-numbers
named_fit-requires-clause-numbers c =
    let are = are_read (codes "move") c.in_ok-text.text.now c.len-all.result c.args.used (unknowns c.args.plant.now) c.args.forms.now c.in_ok-numbers.field-0 c.len-all.ensures c.in_ok-numbers.ensures c.in-Some.numbers c.in-Some.is in
    first_named (length c.args.forms.now) c.args.used c.args.plant.now.p c.in-Some.numbers c.as_slice.result.now c.as_slice.ensures are.name_forms

pub named_fit-requires-clause-sizes : goal.named_fit-requires-clause-sizes
named_fit-requires-clause-sizes c = as_many_counts c.args.plant.now c.args.counts.now c.args.forms.now c.requires.counts c.requires.sizes

pub returns-in_default : goal.returns-in_default
returns-in_default c =
    subst (λ n. (one_line (named_moves_rule c.args.plant.now c.args.forms.now c.args.used)).Fails c.args.lines.now BadLine n) (sym c.number-number.ensures)
    (line_bad (named_moves_rule c.args.plant.now c.args.forms.now c.args.used) c.in_ok-text.ensures.taken
    (none_are_read (codes "move") c.in_ok-text.text.now c.len-all.result c.args.used (unknowns c.args.plant.now) c.args.forms.now c.in_ok-numbers.field-0 c.len-all.ensures c.in_ok-numbers.ensures c.in_default.is)
    (λ node. node))

pub returns-then-not-branch : goal.returns-then-not-branch
returns-then-not-branch c =
    let are = are_read (codes "move") c.in_ok-text.text.now c.len-all.result c.args.used (unknowns c.args.plant.now) c.args.forms.now c.in_ok-numbers.field-0 c.len-all.ensures c.in_ok-numbers.ensures c.in-Some.numbers c.in-Some.is in
    subst (λ n. (one_line (named_moves_rule c.args.plant.now c.args.forms.now c.args.used)).Fails c.args.lines.now OverBound n) (sym c.number-number.ensures)
    (line_over (named_moves_rule c.args.plant.now c.args.forms.now c.args.used) c.in-Some.numbers c.in_ok-text.ensures.taken are
    (λ fits. false≢true (sym c.if-not-branch.true ∙ c.in_ok-named_fit.ensures.1
    (subst (λ counts. All (λ k. FormFits counts (form_named c.args.forms.now k)) (take c.args.plant.now.p c.as_slice.result.now)) (sym c.requires.counts)
    (subst (λ ks. All (λ k. FormFits (limits_of c.args.plant.now) (form_named c.args.forms.now k)) (take c.args.plant.now.p ks)) (sym c.as_slice.ensures) fits)))))

pub returns : goal.returns
returns c =
    let are = are_read (codes "move") c.in_ok-text.text.now c.len-all.result c.args.used (unknowns c.args.plant.now) c.args.forms.now c.in_ok-numbers.field-0 c.len-all.ensures c.in_ok-numbers.ensures c.in-Some.numbers c.in-Some.is in
    line_reads (named_moves_rule c.args.plant.now c.args.forms.now c.args.used) c.in-Some.numbers c.in_ok-text.ensures.taken are
    (λ over. over
    (subst (λ counts. All (λ k. FormFits counts (form_named c.args.forms.now k)) (take c.args.plant.now.p c.in-Some.numbers)) c.requires.counts
    (subst (λ ks. All (λ k. FormFits c.args.counts.now (form_named c.args.forms.now k)) (take c.args.plant.now.p ks)) c.as_slice.ensures
    (c.in_ok-named_fit.ensures.0 c.if-not-branch.false))))
