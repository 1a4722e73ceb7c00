use Rattle.std.proofs.Common.{◌∙◌, arith}
use Rattle.std.proofs.lemmas.List.{length-set, length-map}
use Rattle.mpc_plant.specs.declared.lists.Coordinate.{Coordinate}
use Rattle.mpc_block.proofs.WidthLemmas.{span_more, same_list}
use Rattle.mpc_block.proofs.widths.spans.Goals as goal

pub loop-i-preserved : goal.loop-i-preserved
loop-i-preserved c =
    let plant = c.args.plant.now in
    record {
      size = length-set c.loop-i.spans c.loop-i.i c.max.result ∙ c.loop-i.invariant.size;
      each = span_more plant.grid c.loop-i.spans c.loop-i.i c.max.result c.at.result.now c.loop-i.invariant.size (omega (arith, c.loop-i-test.true, c.len-i-end.ensures, plant.is_plant.grid_size, plant.is_plant.states.to_high)) c.at.ensures c.max.ensures c.loop-i.invariant.each;
    }

pub returns : goal.returns
returns c =
    let plant = c.args.plant.now in
    let size = length-map plant.grid (λ (axis : Coordinate). axis.count) in
    same_list c.loop-i.spans _ plant.n (omega (arith, c.loop-i.invariant.size, plant.is_plant.states.to_high)) (length-map plant.grid _ ∙ plant.is_plant.grid_size)
    (λ k lt. c.loop-i.invariant.each k (omega (arith, lt, c.loop-i-test.false, c.len-i-end.ensures, plant.is_plant.grid_size)))
