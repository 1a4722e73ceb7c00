use Rattle.std.proofs.Common.{◌≡◌, ◌+◌, arith, ap, ◌∙◌, sym, subst}
use Rattle.mpc_space.proofs.Outcomes.{below_next}
use Rattle.mpc_linear.specs.Product.{DotsFit}
use Rattle.mpc_tight.specs.Tightening.{carried, tightening, AddedFits}
use Rattle.mpc_tight.proofs.Products.{row_length, carried_more, sum_more, added_as}
use Rattle.mpc_tight.proofs.tightening.tightening_of.Goals as goal

pub loop-earlier-init : goal.loop-earlier-init
loop-earlier-init c = record { carried_is = c.in_ok-carried.ensures ∙ c.as_slice.ensures; sum_is = c.whole-sum.ensures; carries = λ j l. absurd (omega arith); sums = λ j l. absurd (omega arith) }

pub add_effect-requires : goal.add_effect-requires
add_effect-requires c =
    row_length c.args.plant.now c.args.noise.now c.args.row.now c.loop-earlier.earlier c.loop-earlier.sum c.loop-earlier.carried c.loop-earlier.invariant.sum_is c.loop-earlier.invariant.carried_is c.requires.size ∙ sym c.requires.noise

pub times-requires : goal.times-requires
times-requires c =
    row_length c.args.plant.now c.args.noise.now c.args.row.now c.loop-earlier.earlier c.loop-earlier.sum c.loop-earlier.carried c.loop-earlier.invariant.sum_is c.loop-earlier.invariant.carried_is c.requires.size
    ∙ sym c.args.plant.now.is_plant.a_shape.rows_are

pub loop-earlier-preserved : goal.loop-earlier-preserved
loop-earlier-preserved c =
    let plant = c.args.plant.now in
    let noise = c.args.noise.now in
    let a = c.args.row.now in
    let j = c.loop-earlier.earlier in
    let inv = c.loop-earlier.invariant in
    record {
      carried_is = carried_more plant noise a j c.loop-earlier.sum c.loop-earlier.carried inv.sum_is inv.carried_is c.in_ok-carried-2.carried c.in_ok-carried-2.ensures.value;
      sum_is = sum_more plant noise a j c.loop-earlier.sum c.loop-earlier.carried inv.sum_is inv.carried_is c.in_ok-sum.sum c.in_ok-sum.ensures.value;
      carries = below_next (λ i. DotsFit plant.a (carried plant a i)) j inv.carries (subst (DotsFit plant.a) inv.carried_is c.in_ok-carried-2.ensures.wide);
      sums = below_next (λ i. AddedFits (tightening plant noise a i) (carried plant a i) noise) j inv.sums (added_as plant noise a j c.loop-earlier.sum c.loop-earlier.carried inv.sum_is inv.carried_is c.in_ok-sum.ensures.wide);
    }

pub add_effect-requires-2 : goal.add_effect-requires-2
add_effect-requires-2 c =
    row_length c.args.plant.now c.args.noise.now c.args.row.now c.loop-earlier.earlier c.loop-earlier.sum c.loop-earlier.carried c.loop-earlier.invariant.sum_is c.loop-earlier.invariant.carried_is c.requires.size ∙ sym c.requires.noise

pub returns-clause-value : goal.returns-clause-value
returns-clause-value c =
    let last : c.loop-earlier.earlier + 1 ≡ c.args.step = omega arith in
    sum_more c.args.plant.now c.args.noise.now c.args.row.now c.loop-earlier.earlier c.loop-earlier.sum c.loop-earlier.carried c.loop-earlier.invariant.sum_is c.loop-earlier.invariant.carried_is c.in_ok-whole.whole c.in_ok-whole.ensures.value
    ∙ ap (tightening c.args.plant.now c.args.noise.now c.args.row.now) last

pub returns-clause-wide : goal.returns-clause-wide
returns-clause-wide c =
    let plant = c.args.plant.now in
    let noise = c.args.noise.now in
    let a = c.args.row.now in
    let j = c.loop-earlier.earlier in
    let inv = c.loop-earlier.invariant in
    let last : j + 1 ≡ c.args.step = omega arith in
    record {
      carries = λ i l. inv.carries i (omega arith);
      sums = λ i l. below_next (λ i. AddedFits (tightening plant noise a i) (carried plant a i) noise) j inv.sums (added_as plant noise a j c.loop-earlier.sum c.loop-earlier.carried inv.sum_is inv.carried_is c.in_ok-whole.ensures.wide) i (omega arith);
    }
