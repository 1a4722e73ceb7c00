use Rattle.std.proofs.Common.{◌∙◌, ap, rules, ◌*ℤ◌, pos, int_cmp}
use Rattle.std.specs.Int.{w64}
use mir.Val.{SFits}
use Rattle.mpc_frac.proofs.FracModel.{read_fitting}
use Rattle.mpc_frac.proofs.ShortParts.{read_short, order_is}
use Rattle.mpc_frac.proofs.short.Short.order.Goals as goal

pub returns : goal.returns
returns c =
    let f : SFits w64 c.args.self.num = search rules in
    let g : SFits w64 c.args.other.num = search rules in
    c.cmp.ensures
    ∙ (λ i. int_cmp
    ((read_fitting c.times.result c.times.type_inv ∙ c.times.ensures.value ∙ ap (λ z. z *ℤ pos c.args.other.den) (read_short c.args.self.num f.sfits)) i)
    ((read_fitting c.times-2.result c.times-2.type_inv ∙ c.times-2.ensures.value ∙ ap (λ z. z *ℤ pos c.args.self.den) (read_short c.args.other.num g.sfits)) i))
    ∙ order_is c.args.self.num c.args.self.den c.args.other.num c.args.other.den c.args.self.den_positive c.args.other.den_positive c.args.self.coprime c.args.other.coprime
