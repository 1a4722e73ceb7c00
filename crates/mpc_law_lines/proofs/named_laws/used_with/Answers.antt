use Rattle.std.proofs.Common.{refl, get_or}
use Rattle.mpc_law_lines.proofs.FormLemmas.{used_next, used_done}
use Rattle.mpc_law_lines.proofs.named_laws.used_with.Goals as goal

pub loop-number-preserved : goal.loop-number-preserved
loop-number-preserved c = used_next c.args.used c.args.numbers.now c.loop-number.number-index c.loop-number.last (get_or c.args.numbers.now c.loop-number.number-index 0) c.used_now-last.result c.loop-number-test.true c.loop-number.invariant refl c.used_now-last.ensures

pub returns : goal.returns
returns c = used_done c.args.used c.args.numbers.now c.loop-number.number-index c.loop-number.last c.loop-number-test.false c.loop-number.invariant
