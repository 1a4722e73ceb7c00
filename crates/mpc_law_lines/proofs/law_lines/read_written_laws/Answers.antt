use Rattle.std.proofs.Common.{List, length, ap, Err, ltb}
use Rattle.std.specs.Prelude.{ℕ}
use Rattle.mpc_rows.specs.declared.laws.Law.{Law}
use Rattle.mpc_grammar.specs.LawGrammar.{written_law, law_count, written_laws}
use Rattle.mpc_grammar.specs.Reading.{many}
use Rattle.mpc_grammar.specs.Outcomes.{then_outcome}
use Rattle.mpc_law_lines.proofs.FormLemmas.{no_items, further, further_error, one_longer, passed_on}
use Rattle.mpc_law_lines.proofs.law_lines.read_written_laws.Goals as goal

pub loop-init : goal.loop-init
loop-init c = record {
  so_far = no_items (λ (before : List Law). written_law c.args.plant.now) c.in_ok-count.count c.read_law_count.new.lines c.new-laws.result c.new-laws.ensures;
  so_many = ap length c.new-laws.ensures;
}

pub loop-preserved : goal.loop-preserved
loop-preserved c = record {
  so_far = further (λ (before : List Law). written_law c.args.plant.now) c.in_ok-count.count c.read_law_count.new.lines c.loop.lines c.read_written_law.new.lines c.loop.laws c.push.new.self c.in_ok-law.law c.loop.counter
      c.loop.invariant.so_far c.loop.invariant.so_many c.loop-test.true c.in_ok-law.ensures c.in_ok-push.ensures.ok;
  so_many = one_longer c.loop.laws c.push.new.self c.in_ok-law.law c.loop.counter c.in_ok-push.ensures.ok c.loop.invariant.so_many;
}

pub returns-in_err-law : goal.returns-in_err-law
returns-in_err-law c =
    passed_on (written_laws c.args.plant.now) c.args.lines.now c.read_written_law.new.lines c.from_residual-in_err-law.result c.in_err-law.field-0.0 c.from_residual-in_err-law.ensures.1
    (then_outcome law_count (λ (count : ℕ). many (λ (before : List Law). written_law c.args.plant.now) (λ (before : List Law). ltb (length before) count)) c.args.lines.now c.read_law_count.new.lines c.read_written_law.new.lines c.in_ok-count.count (Err c.in_err-law.field-0.0) c.in_ok-count.ensures
    (further_error (λ (before : List Law). written_law c.args.plant.now) c.in_ok-count.count c.read_law_count.new.lines c.loop.lines c.read_written_law.new.lines c.read_written_law.new.lines c.loop.laws c.loop.counter c.in_err-law.field-0.0
    c.loop.invariant.so_far c.loop.invariant.so_many c.loop-test.true c.in_err-law.ensures))
