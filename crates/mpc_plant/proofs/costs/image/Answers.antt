use Rattle.std.proofs.Common.{◌≡◌, ◌∙◌, ap, subst, length, arith}
use Rattle.mpc_space.specs.Vector.{dot, listed}
use Rattle.mpc_linear.specs.Dot.{DotFits}
use Rattle.mpc_plant.proofs.Carried.{below_next}
use Rattle.mpc_plant.specs.RollWidth.{row_at}
use Rattle.mpc_plant.proofs.RollLemmas.{listed_more, image_listed}
use Rattle.mpc_plant.proofs.costs.image.Goals as goal

pub loop-i-preserved : goal.loop-i-preserved
loop-i-preserved c = record {
  entries = listed_more (λ j. dot (row_at c.args.matrix.now j) c.args.vector.now) c.loop-i.i c.loop-i.entries c.push.new.self c.in-Ok.value c.loop-i.invariant.entries c.in_ok-push-in-Ok.ensures.ok (c.in-Ok.ensures.value ∙ ap (λ r. dot r c.args.vector.now) c.row.ensures);
  fits = below_next (λ j. DotFits (row_at c.args.matrix.now j) c.args.vector.now) c.loop-i.i c.loop-i.invariant.fits (subst (λ r. DotFits r c.args.vector.now) c.row.ensures c.in-Ok.ensures.wide);
}

pub returns-clause-value : goal.returns-clause-value
returns-clause-value c =
    let all : c.loop-i.i ≡ length c.args.matrix.now.rows = omega (arith, c.rows-i-end.ensures.value) in
    c.loop-i.invariant.entries ∙ ap (λ n. listed n (λ j. dot (row_at c.args.matrix.now j) c.args.vector.now)) all ∙ image_listed c.args.matrix.now c.args.vector.now
