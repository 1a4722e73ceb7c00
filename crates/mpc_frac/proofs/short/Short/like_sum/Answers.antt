use Rattle.std.proofs.Common.{◌≡◌, ◌∙◌, rules, mul-one}
use Rattle.std.specs.Int.{w64}
use mir.Val.{SFits}
use Rattle.mpc_frac.proofs.ShortParts.{sum_fits, sum_read, like_sum_is}
use Rattle.mpc_frac.proofs.short.Short.like_sum.Goals as goal

pub returns-clause-value : goal.returns-clause-value
returns-clause-value c =
    let f : SFits w64 c.args.self.num = search rules in
    let g : SFits w64 c.args.other.num = search rules in
    c.cancelled.ensures
    ∙ like_sum_is c.args.self.num c.args.self.den c.args.other.num c.args.other.den c.args.self.den_positive c.args.other.den_positive c.args.self.coprime c.args.other.coprime c.requires _ _
    (sum_read c.args.self.num c.args.other.num f.sfits g.sfits) (mul-one c.args.self.den)

pub returns-clause-fits : goal.returns-clause-fits
returns-clause-fits c =
    let f : SFits w64 c.args.self.num = search rules in
    let g : SFits w64 c.args.other.num = search rules in
    sum_fits c.args.self.num c.args.self.den c.args.other.num c.args.other.den c.args.self.den_positive c.args.other.den_positive c.args.self.coprime c.args.other.coprime f.sfits g.sfits c.args.self.den_small c.args.other.den_small
