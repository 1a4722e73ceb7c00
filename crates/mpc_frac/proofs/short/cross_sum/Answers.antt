use Rattle.std.proofs.Common.{◌≡◌, ◌<◌, ◌^◌, ◌+ℤ◌, ◌*ℤ◌, pos, ◌∙◌, ap, unsigned_abs, to_z, of_z}
use Rattle.std.specs.Int.{w128}
use Rattle.mpc_frac.proofs.FracModel.{read_back, read_fitting}
use Rattle.mpc_frac.proofs.ShortParts.{read_short, sum_small, small_along}
use Rattle.mpc_frac.proofs.short.cross_sum.Goals as goal
use Rattle.mpc_frac.proofs.short.cross_sum.Goals.{After-times-2}

total_small : (c : After-times-2) → unsigned_abs (c.times.result +ℤ c.times-2.result) < 2 ^ 127
total_small c = sum_small c.times.result c.times-2.result c.times.ensures.small c.times-2.ensures.small

read : (c : After-times-2) → to_z w128 (of_z w128 (to_z w128 (of_z w128 c.times.result) +ℤ to_z w128 (of_z w128 c.times-2.result))) ≡ c.times.result +ℤ c.times-2.result
read c = ap (λ z. to_z w128 (of_z w128 z)) (λ i. read_fitting c.times.result c.times.type_inv i +ℤ read_fitting c.times-2.result c.times-2.type_inv i)
    ∙ read_back (c.times.result +ℤ c.times-2.result) (total_small c)

pub returns : goal.returns
returns c = record {
  value = read ((goal.at.returns c).After-times-2)
      ∙ (λ i. (c.times.ensures.value ∙ ap (λ z. z *ℤ pos c.args.right_den) (read_short c.args.left_num c.ranges.left_num.sfits)) i +ℤ (c.times-2.ensures.value ∙ ap (λ z. z *ℤ pos c.args.left_den) (read_short c.args.right_num c.ranges.right_num.sfits)) i);
  small = small_along (2 ^ 127) _ _ (read ((goal.at.returns c).After-times-2)) (total_small ((goal.at.returns c).After-times-2));
}
