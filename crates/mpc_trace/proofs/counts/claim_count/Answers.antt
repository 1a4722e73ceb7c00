use Rattle.std.proofs.Common.{◌∙◌, sym, arith}
use Rattle.mpc_trace.proofs.ClaimLemmas.{claim_more, other_more}
use Rattle.mpc_trace.proofs.counts.claim_count.Goals as goal
use Rattle.mpc_trace.proofs.counts.claim_count.Goals.{then-is_claim, else-is_claim}

pub overflow_add-count : goal.overflow_add-count
overflow_add-count c = omega (arith, c.loop-event.invariant.few)

pub loop-event-preserved : goal.loop-event-preserved
loop-event-preserved c =
    let es = c.args.history.now in
    let i = c.loop-event.event-index in
    let e = c.event-item.result in
    elim c.if-is_claim.branch [
      | then-is_claim w ↦ record {
        counted = w.count-is ∙ claim_more es i e c.loop-event.count c.loop-event-test.true c.event-item.is (sym c.is_claim.ensures ∙ w.if-is_claim.true) c.loop-event.invariant.counted;
        few = omega (arith, w.count-is, c.loop-event.invariant.few);
      }
      | else-is_claim w ↦ record {
        counted = w.count-is ∙ other_more es i e c.loop-event.count c.loop-event-test.true c.event-item.is (sym c.is_claim.ensures ∙ w.if-is_claim.false) c.loop-event.invariant.counted;
        few = omega (arith, w.count-is, c.loop-event.invariant.few);
      }
    ]
