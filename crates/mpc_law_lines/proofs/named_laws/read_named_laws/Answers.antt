use Rattle.mpc_law_lines.proofs.NamedLemmas.{none_read_yet, one_law_more, law_error, laws_passed_on, law_count_error, laws_read}
use Rattle.mpc_law_lines.proofs.named_laws.read_named_laws.Goals as goal

pub loop-init : goal.loop-init
loop-init c = none_read_yet c.args.plant.now c.args.forms.now c.in_ok-count.count c.read_law_count.new.lines c.new-laws.result c.new-laws.ensures

pub loop-preserved : goal.loop-preserved
loop-preserved c =
    one_law_more c.args.plant.now c.args.forms.now c.in_ok-count.count c.read_law_count.new.lines c.loop.lines c.read_named_law.new.lines c.loop.laws c.push.new.self c.in_ok-law.law c.loop.used c.in_ok-law.used_now c.loop.counter c.loop.invariant c.loop-test.true c.in_ok-law.ensures c.in_ok-push.ensures.ok

pub returns-in_err-law : goal.returns-in_err-law
returns-in_err-law c =
    laws_passed_on c.args.plant.now c.args.forms.now c.args.lines.now c.read_named_law.new.lines c.from_residual-in_err-law.result c.in_err-law.field-0.0 c.from_residual-in_err-law.ensures.1
    (law_error c.args.plant.now c.args.forms.now c.in_ok-count.count c.read_law_count.new.lines c.loop.lines c.read_named_law.new.lines c.read_named_law.new.lines c.loop.laws c.loop.used c.loop.counter c.in_err-law.field-0.0 c.loop.invariant c.loop-test.true c.in_err-law.ensures c.args.lines.now c.in_ok-count.ensures)

pub returns-in_err-count : goal.returns-in_err-count
returns-in_err-count c =
    laws_passed_on c.args.plant.now c.args.forms.now c.args.lines.now c.read_law_count.new.lines c.from_residual-in_err-count.result c.in_err-count.field-0.0 c.from_residual-in_err-count.ensures.1
    (law_count_error c.args.plant.now c.args.forms.now c.args.lines.now c.read_law_count.new.lines c.read_law_count.new.lines c.in_err-count.field-0.0 c.in_err-count.ensures)

pub returns : goal.returns
returns c = laws_read c.args.plant.now c.args.forms.now c.args.lines.now c.read_law_count.new.lines c.loop.lines c.in_ok-count.count c.loop.laws c.loop.used c.loop.counter c.in_ok-count.ensures c.loop.invariant c.loop-test.false
