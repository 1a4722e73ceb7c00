use Rattle.mpc_plant_lines.proofs.LimitLemmas.{step_count, one_denom, not_below, not_above}
use Rattle.mpc_plant_lines.proofs.limit_lines.steps_of.Goals as goal
use Rattle.mpc_plant_lines.proofs.limit_lines.steps_of.Goals.{else-den-eq1-via-then-den-eq1+then-count-ge0+else-count-le-GREATEST_COUNT, else-den-eq1-via-then-den-eq1+else-count-ge0, else-den-eq1-via-else-den-eq1}

pub returns-then-count-le-GREATEST_COUNT : goal.returns-then-count-le-GREATEST_COUNT
returns-then-count-le-GREATEST_COUNT c =
    step_count c.args.number.now c.num-count.result c.den.result c.num-count.ensures.value c.den.ensures.value c.den.ensures.fits c.if-den-eq1.true c.if-count-ge0.true c.if-count-le-GREATEST_COUNT.true

pub returns-else-den-eq1 : goal.returns-else-den-eq1
returns-else-den-eq1 c = λ count is.
    let at_one = one_denom c.args.number.now c.num-count.result c.den.result c.num-count.ensures.value c.den.ensures.value c.den.ensures.fits count is in
    let low = not_below c.args.number.now c.num-count.result c.den.result c.num-count.ensures.value c.den.ensures.value c.den.ensures.fits count is in
    let high = not_above c.args.number.now c.num-count.result c.den.result c.num-count.ensures.value c.den.ensures.value c.den.ensures.fits count is in
    elim c.else-den-eq1.branch [ else-den-eq1-via-then-den-eq1+then-count-ge0+else-count-le-GREATEST_COUNT w ↦ let no = w.if-count-le-GREATEST_COUNT.false in cc | else-den-eq1-via-then-den-eq1+else-count-ge0 w ↦ let no = w.if-count-ge0.false in cc | else-den-eq1-via-else-den-eq1 w ↦ w.if-den-eq1.false at_one ]
