use Rattle.std.proofs.Common.{subst, Err}
use Rattle.mpc_grammar.specs.Reading.{Outcome}
use Rattle.mpc_grammar.specs.LawGrammar.{mults, written_law}
use Rattle.mpc_law_lines.proofs.FormLemmas.{passed_on, moves_few, mults_few, move_sizes, mult_sizes, mults_error}
use Rattle.mpc_law_lines.proofs.law_lines.read_written_law.Goals as goal

pub matrix_of-requires-clause-few : goal.matrix_of-requires-clause-few
matrix_of-requires-clause-few c = moves_few c.args.plant.now c.read_set.new.lines c.read_moves.new.lines c.in_ok-moves.moves c.in_ok-moves.ensures

pub matrix_of-requires-clause-sizes : goal.matrix_of-requires-clause-sizes
matrix_of-requires-clause-sizes c = move_sizes c.args.plant.now c.read_set.new.lines c.in_ok-moves.moves c.read_moves.new.lines c.in_ok-moves.ensures

pub matrix_of-requires-2-clause-few : goal.matrix_of-requires-2-clause-few
matrix_of-requires-2-clause-few c = mults_few c.args.plant.now c.size.result c.read_moves.new.lines c.read_mults.new.lines c.in_ok-mults.mults c.size.ensures.within c.in_ok-mults.ensures

pub matrix_of-requires-2-clause-sizes : goal.matrix_of-requires-2-clause-sizes
matrix_of-requires-2-clause-sizes c = mult_sizes c.args.plant.now c.size.result c.read_moves.new.lines c.in_ok-mults.mults c.read_mults.new.lines c.in_ok-mults.ensures

pub returns-in_err-mults : goal.returns-in_err-mults
returns-in_err-mults c =
    passed_on (written_law c.args.plant.now) c.args.lines.now c.read_mults.new.lines c.from_residual-in_err-mults.result c.in_err-mults.field-0.0 c.from_residual-in_err-mults.ensures.1
    (mults_error c.args.plant.now c.args.lines.now c.read_set.new.lines c.read_moves.new.lines c.read_mults.new.lines c.read_mults.new.lines c.in_ok-set.set c.in_ok-moves.moves c.in_err-mults.field-0.0 c.in_ok-set.ensures c.in_ok-moves.ensures
    (subst (λ n. Outcome (mults c.args.plant.now n) c.read_moves.new.lines c.read_mults.new.lines (Err c.in_err-mults.field-0.0)) c.size.ensures.value c.in_err-mults.ensures))
