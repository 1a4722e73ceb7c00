use Rattle.std.proofs.Common.{sym}
use Rattle.mpc_law_lines.proofs.NamedLemmas.{named_by_moves, moves_short, named_by_mults, mults_short, law_passed_on, set_error, named_moves_error, named_mults_error, one_law_read}
use Rattle.mpc_law_lines.proofs.named_laws.read_named_law.Goals as goal

pub named_matrix-requires-clause-numbers : goal.named_matrix-requires-clause-numbers
named_matrix-requires-clause-numbers c = named_by_moves c.args.plant.now c.args.forms.now c.args.used c.read_set.new.lines c.read_named_moves.new.lines c.in_ok-move_numbers.move_numbers c.as_slice-3.result.now c.as_slice-3.ensures c.in_ok-move_numbers.ensures

pub named_matrix-requires-clause-few : goal.named_matrix-requires-clause-few
named_matrix-requires-clause-few c = moves_short c.args.plant.now c.args.forms.now c.args.used c.read_set.new.lines c.read_named_moves.new.lines c.in_ok-move_numbers.move_numbers c.as_slice-3.result.now c.as_slice-3.ensures c.in_ok-move_numbers.ensures

pub named_matrix-requires-2-clause-numbers : goal.named_matrix-requires-2-clause-numbers
named_matrix-requires-2-clause-numbers c =
    named_by_mults c.args.plant.now c.args.forms.now c.used_with-used.result c.read_named_moves.new.lines c.read_named_mults.new.lines c.in_ok-set.set c.in_ok-mult_numbers.mult_numbers c.as_slice-4.result.now c.as_slice-4.ensures (c.in_ok-mult_numbers.ensures c.args.forms.now (sym c.len.ensures))

pub named_matrix-requires-2-clause-few : goal.named_matrix-requires-2-clause-few
named_matrix-requires-2-clause-few c =
    mults_short c.args.plant.now c.args.forms.now c.used_with-used.result c.args.lines.now c.read_set.new.lines c.read_named_mults.new.lines c.in_ok-set.set c.in_ok-mult_numbers.mult_numbers c.as_slice-4.result.now c.as_slice-4.ensures c.in_ok-set.ensures c.read_named_moves.new.lines (c.in_ok-mult_numbers.ensures c.args.forms.now (sym c.len.ensures))

pub returns-in_err-set : goal.returns-in_err-set
returns-in_err-set c =
    law_passed_on c.args.plant.now c.args.forms.now c.args.used c.args.lines.now c.read_set.new.lines c.from_residual.result c.in_err-set.field-0.0 c.from_residual.ensures.1
    (set_error c.args.plant.now c.args.forms.now c.args.used c.args.lines.now c.read_set.new.lines c.read_set.new.lines c.in_err-set.field-0.0 c.in_err-set.ensures)

pub returns-in_err-move_numbers : goal.returns-in_err-move_numbers
returns-in_err-move_numbers c =
    law_passed_on c.args.plant.now c.args.forms.now c.args.used c.args.lines.now c.read_named_moves.new.lines c.from_residual-in_err-move_numbers.result c.in_err-move_numbers.field-0.0 c.from_residual-in_err-move_numbers.ensures.1
    (named_moves_error c.args.plant.now c.args.forms.now c.args.used c.args.lines.now c.read_set.new.lines c.in_ok-set.set c.in_ok-set.ensures c.read_named_moves.new.lines c.read_named_moves.new.lines c.in_err-move_numbers.field-0.0 c.in_err-move_numbers.ensures)

pub returns-in_err-mult_numbers : goal.returns-in_err-mult_numbers
returns-in_err-mult_numbers c =
    law_passed_on c.args.plant.now c.args.forms.now c.args.used c.args.lines.now c.read_named_mults.new.lines c.from_residual-in_err-mult_numbers.result c.in_err-mult_numbers.field-0.0 c.from_residual-in_err-mult_numbers.ensures.1
    (named_mults_error c.args.plant.now c.args.forms.now c.args.used c.args.lines.now c.read_set.new.lines c.in_ok-set.set c.in_ok-set.ensures c.read_named_moves.new.lines c.in_ok-move_numbers.move_numbers c.as_slice.result.now c.used_with-used.result c.in_ok-move_numbers.ensures c.as_slice.ensures c.used_with-used.ensures
    c.read_named_mults.new.lines c.read_named_mults.new.lines c.in_err-mult_numbers.field-0.0 (c.in_err-mult_numbers.ensures c.args.forms.now (sym c.len.ensures)))

pub returns : goal.returns
returns c =
    one_law_read c.args.plant.now c.args.forms.now c.args.used c.args.lines.now c.read_set.new.lines c.in_ok-set.set c.in_ok-set.ensures c.read_named_moves.new.lines c.in_ok-move_numbers.move_numbers c.as_slice.result.now c.used_with-used.result c.in_ok-move_numbers.ensures c.as_slice.ensures c.used_with-used.ensures
    c.read_named_mults.new.lines c.in_ok-mult_numbers.mult_numbers c.as_slice-2.result.now c.as_slice-3.result.now c.as_slice-4.result.now c.used_with-used-2.result c.in_ok-moves.moves c.in_ok-mults.mults (c.in_ok-mult_numbers.ensures c.args.forms.now (sym c.len.ensures)) c.as_slice-2.ensures c.used_with-used-2.ensures
    c.as_slice-3.ensures c.in_ok-moves.ensures c.as_slice-4.ensures c.in_ok-mults.ensures
