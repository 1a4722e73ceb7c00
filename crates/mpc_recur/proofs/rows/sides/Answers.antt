use Rattle.std.proofs.Common.{arith}
use Rattle.mpc_recur.proofs.RowLemmas.{sides_none, sides_more, sides_done}
use Rattle.mpc_recur.proofs.rows.sides.Goals as goal

pub loop-term-init : goal.loop-term-init
loop-term-init c = sides_none c.args.form.now _ c.requires c.new-sides.ensures

pub loop-term-preserved : goal.loop-term-preserved
loop-term-preserved c = sides_more c.args.form.now c.loop-term.sides c.push.new.self c.loop-term.term _ c.loop-term.auto.term (omega (arith, c.len-term-end.ensures, c.loop-term-test.true)) c.loop-term.invariant c.in_ok-push.ensures.ok c.at.ensures

pub returns : goal.returns
returns c = sides_done c.args.form.now c.loop-term.sides c.loop-term.term (omega (arith, c.len-term-end.ensures, c.loop-term-test.false, c.loop-term.auto.term-end (omega (arith, c.len-term-end.ensures, c.requires)))) c.loop-term.invariant
