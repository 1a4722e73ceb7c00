use Rattle.std.proofs.Common.{◌≡◌, ◌+◌, ◌-◌, ◌*◌, ◌≤◌, length, ◌∙◌, ap, arith}
use Rattle.std.proofs.Math.Nat.{mul-le-mul_right}
use Rattle.mpc_plant.specs.declared.plants.Plant.{Plant}
use Rattle.mpc_block.specs.Block.{width_of}
use Rattle.mpc_block.proofs.LeafLemmas.{node_count}
use Rattle.mpc_block.proofs.layouts.law_place.Goals as goal

pub overflow_add-result : goal.overflow_add-result
overflow_add-result c =
    let parts = c.args.controller.now in
    let before = c.args.law - 1 in
    let nodes : c.len.result ≡ length parts.tree = c.len.ensures ∙ ap length c.tree.ensures.value in
    let inputs : before * c.plant.result.now.p ≡ before * parts.plant.p = ap (λ (p : Plant). before * p.p) c.plant.ensures.value in
    let few : before ≤ length parts.laws = omega (arith, c.requires.to_last) in
    let less : before * parts.plant.p ≤ length parts.laws * parts.plant.p = mul-le-mul_right parts.plant.p few in
    omega (arith, nodes, inputs, less, node_count (width_of parts) (length parts.tree + length parts.laws * parts.plant.p), c.requires.small)
