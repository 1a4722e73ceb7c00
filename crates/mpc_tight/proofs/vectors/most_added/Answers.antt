use Rattle.std.proofs.Common.{◌∙◌, pos, arith}
use Rattle.mpc_exact.specs.Rational.{int}
use Rattle.mpc_space.specs.Vector.{dot}
use Rattle.mpc_tight.specs.Disturbed.{sizes}
use Rattle.mpc_tight.proofs.Products.{zero_plus, sizes_length, stand_in_sizes}
use Rattle.mpc_tight.proofs.vectors.most_added.Goals as goal

pub returns-in-Err-clause-wide : goal.returns-in-Err-clause-wide
returns-in-Err-clause-wide c =
    c.sum_theorems.ensures.wide (int (pos 0)) (sizes c.args.row.now) c.args.noise.now c.loop-place.place c.loop-place.sum c.size_of-size.result c.at-factor.result.now
    (stand_in_sizes c.args.row.now c.args.noise.now c.loop-place.place c.at.result.now c.size_of-size.result c.at-factor.result.now c.requires (omega arith) c.at.ensures c.size_of-size.ensures c.at-factor.ensures)
    c.loop-place.invariant c.in-Err.ensures.wide

pub loop-place-preserved : goal.loop-place-preserved
loop-place-preserved c =
    c.sum_theorems.ensures.more (int (pos 0)) (sizes c.args.row.now) c.args.noise.now c.loop-place.place c.loop-place.sum c.size_of-size.result c.at-factor.result.now c.in-Ok.next
    (stand_in_sizes c.args.row.now c.args.noise.now c.loop-place.place c.at.result.now c.size_of-size.result c.at-factor.result.now c.requires (omega arith) c.at.ensures c.size_of-size.ensures c.at-factor.ensures)
    c.loop-place.invariant c.in-Ok.ensures.value c.in-Ok.ensures.wide

pub returns-clause-value : goal.returns-clause-value
returns-clause-value c =
    c.sum_theorems.ensures.value (int (pos 0)) (sizes c.args.row.now) c.args.noise.now c.loop-place.place c.loop-place.sum (omega (arith, sizes_length c.args.row.now)) c.loop-place.invariant
    ∙ zero_plus (dot (sizes c.args.row.now) c.args.noise.now)

pub returns-clause-wide : goal.returns-clause-wide
returns-clause-wide c =
    c.sum_theorems.ensures.fits (int (pos 0)) (sizes c.args.row.now) c.args.noise.now c.loop-place.place c.loop-place.sum (omega (arith, sizes_length c.args.row.now)) c.loop-place.invariant
