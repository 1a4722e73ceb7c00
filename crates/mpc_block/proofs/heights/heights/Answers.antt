use Rattle.std.proofs.Common.{◌≡◌, ◌+◌, ◌-◌, ◌<◌, length, set, subst, arith}
use Rattle.mpc_block.specs.Heights.{AreHeightsFrom, IsHeightBy}
use Rattle.mpc_block.proofs.HeightLemmas.{one_lower}
use Rattle.mpc_block.proofs.heights.heights.Goals as goal

pub loop-i-preserved : goal.loop-i-preserved
loop-i-preserved c =
    let nodes = c.args.tree.now in
    let sides = c.args.sides.now in
    let place = c.len-count.result - 1 - c.loop-i.i in
    let next : c.len-count.result - c.loop-i.i ≡ place + 1 = omega (arith, c.loop-i-test.true) in
    let here : place ≡ c.len-count.result - (c.loop-i.i + 1) = omega arith in
    let inside : place < length nodes = omega (arith, c.len-count.ensures, c.loop-i-test.true) in
    let behind : AreHeightsFrom nodes sides (place + 1) c.loop-i.heights.items = subst (λ k. AreHeightsFrom nodes sides k c.loop-i.heights.items) next c.loop-i.invariant in
    let is : IsHeightBy nodes sides c.loop-i.heights.items place c.height_at.result = subst (λ heights. IsHeightBy nodes sides heights place c.height_at.result) c.as_slice.ensures.value c.height_at.ensures.value in
    subst (λ k. AreHeightsFrom nodes sides k (set c.loop-i.heights.items place c.height_at.result)) here (one_lower nodes sides c.requires c.loop-i.heights.items place c.height_at.result inside behind is c.height_at.ensures.low)
