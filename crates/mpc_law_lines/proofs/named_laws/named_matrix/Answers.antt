use Rattle.std.proofs.Common.{[], length, map, sym, ◌∙◌, arith}
use Rattle.std.proofs.lemmas.List.{length-map, get_or-map}
use Rattle.mpc_linear.specs.Entries.{zero_matrix}
use Rattle.mpc_grammar.specs.LawGrammar.{form_named}
use Rattle.mpc_law_lines.proofs.FormLemmas.{zeros_size, row_there, rows_next, rows_done}
use Rattle.mpc_law_lines.proofs.named_laws.named_matrix.Goals as goal

pub loop-i-preserved : goal.loop-i-preserved
loop-i-preserved c =
    let fs = map (form_named c.args.forms.now) c.args.numbers.now in
    rows_next fs (zero_matrix (length fs) c.args.columns).rows c.args.columns c.loop-i.i c.at.result.now c.loop-i.matrix c.fill_row.new.matrix (zeros_size (length fs) c.args.columns) (omega (arith, length-map c.args.numbers.now (form_named c.args.forms.now), c.loop-i-test.true)) c.loop-i.invariant
    (c.at.ensures ∙ sym (get_or-map (form_named c.args.forms.now) c.args.numbers.now c.loop-i.i 0 [] c.loop-i-test.true)) c.fill_row.ensures

pub fill_row-requires-clause-row : goal.fill_row-requires-clause-row
fill_row-requires-clause-row c =
    let fs = map (form_named c.args.forms.now) c.args.numbers.now in
    row_there fs c.args.columns c.loop-i.i c.loop-i.matrix (omega (arith, length-map c.args.numbers.now (form_named c.args.forms.now), c.loop-i-test.true)) c.loop-i.invariant

pub returns : goal.returns
returns c =
    let fs = map (form_named c.args.forms.now) c.args.numbers.now in
    rows_done fs (zero_matrix (length fs) c.args.columns).rows c.args.columns c.loop-i.i c.loop-i.matrix (zeros_size (length fs) c.args.columns) (omega (arith, length-map c.args.numbers.now (form_named c.args.forms.now), c.loop-i-test.false)) c.loop-i.invariant
