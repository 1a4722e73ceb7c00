use Rattle.std.proofs.Common.{sym, subst}
use Rattle.mpc_space.specs.Definite.{IsDefinite}
use Rattle.mpc_rows.specs.declared.programs.Qp.{Qp}
use Rattle.mpc_workers.proofs.Splits.{opened_more, opened_all}
use Rattle.mpc_workers.proofs.seats.open_turns.Goals as goal

pub open_turn-requires : goal.open_turn-requires
open_turn-requires c = subst (λ (q : Qp). IsDefinite q.h.rows) (sym c.qp-item.is) (c.requires c.loop-qp.qp-index c.qp-item.result c.loop-qp-test.true)

pub loop-qp-preserved : goal.loop-qp-preserved
loop-qp-preserved c = opened_more c.args.programs.now c.loop-qp.opened c.open_turn.new.opened c.qp-item.result c.loop-qp.qp-index c.loop-qp-test.true c.qp-item.is c.in_ok-open_turn.ensures c.loop-qp.invariant

pub returns : goal.returns
returns c = opened_all c.args.programs.now c.loop-qp.opened c.loop-qp.qp-index c.loop-qp-test.false c.loop-qp.invariant
