use Rattle.std.proofs.Common.{List, length, ap, sym, subst, Err}
use Rattle.mpc_exact.specs.Rational.{ℚ}
use Rattle.mpc_grammar.specs.Reading.{one_line, Outcome}
use Rattle.mpc_grammar.specs.LawGrammar.{unknowns, move_rule, moves}
use Rattle.mpc_law_lines.proofs.FormLemmas.{no_items, further, further_error, one_longer, passed_on}
use Rattle.mpc_law_lines.proofs.law_lines.read_moves.Goals as goal

pub loop-index-init : goal.loop-index-init
loop-index-init c = record {
  so_far = no_items (λ (before : List (List ℚ)). one_line (move_rule c.args.plant.now (length before))) (unknowns c.args.plant.now) c.args.lines.now c.new-forms.result c.new-forms.ensures;
  so_many = ap length c.new-forms.ensures;
}

pub loop-index-preserved : goal.loop-index-preserved
loop-index-preserved c = record {
  so_far = further (λ (before : List (List ℚ)). one_line (move_rule c.args.plant.now (length before))) (unknowns c.args.plant.now) c.args.lines.now c.loop-index.lines c.read_move.new.lines c.loop-index.forms c.push.new.self c.in_ok-form.form c.loop-index.index
      c.loop-index.invariant.so_far c.loop-index.invariant.so_many c.loop-index-test.true
      (subst (λ n. (one_line (move_rule c.args.plant.now n)).Reads c.loop-index.lines c.in_ok-form.form c.read_move.new.lines) (sym c.loop-index.invariant.so_many) c.in_ok-form.ensures) c.in_ok-push.ensures.ok;
  so_many = one_longer c.loop-index.forms c.push.new.self c.in_ok-form.form c.loop-index.index c.in_ok-push.ensures.ok c.loop-index.invariant.so_many;
}

pub returns-in_err-form : goal.returns-in_err-form
returns-in_err-form c =
    passed_on (moves c.args.plant.now) c.args.lines.now c.read_move.new.lines c.from_residual.result c.in_err-form.field-0.0 c.from_residual.ensures.1
    (further_error (λ (before : List (List ℚ)). one_line (move_rule c.args.plant.now (length before))) (unknowns c.args.plant.now) c.args.lines.now c.loop-index.lines c.read_move.new.lines c.read_move.new.lines c.loop-index.forms c.loop-index.index c.in_err-form.field-0.0
    c.loop-index.invariant.so_far c.loop-index.invariant.so_many c.loop-index-test.true
    (subst (λ n. Outcome (one_line (move_rule c.args.plant.now n)) c.loop-index.lines c.read_move.new.lines (Err c.in_err-form.field-0.0)) (sym c.loop-index.invariant.so_many) c.in_err-form.ensures))
