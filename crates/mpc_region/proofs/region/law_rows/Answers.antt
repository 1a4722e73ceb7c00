use Rattle.std.proofs.Common.{◌≡◌, ◌+◌, ◌-◌, subst, arith}
use Rattle.mpc_region.proofs.LawRowLists.{AreFirstRows, first_more, first_sizes}
use Rattle.mpc_region.proofs.region.law_rows.Goals as goal

pub loop-number-preserved : goal.loop-number-preserved
loop-number-preserved c =
    let next : c.loop-number.number ≡ c.loop-number.number + 1 - 1 = omega arith in
    subst (λ k. AreFirstRows c.args.qp.now c.args.law.now k c.push.new.self.items) next
    (first_more c.args.qp.now c.args.law.now c.loop-number.number (omega arith) c.loop-number.rows.items c.loop-number.invariant c.push.new.self.items c.in-Ok.row c.in_ok-push-in-Ok.ensures.items c.in-Ok.ensures.row
    (record { size = c.in-Ok.ensures.size; small = c.in-Ok.ensures.small; b_small = c.in-Ok.ensures.b_small }) c.in-Ok.ensures.wide)

pub returns-clause-size : goal.returns-clause-size
returns-clause-size c = first_sizes c.args.qp.now c.args.law.now (c.loop-number.number - 1) (omega (arith, c.rows-number-end.ensures.value)) c.loop-number.rows.items c.loop-number.invariant
