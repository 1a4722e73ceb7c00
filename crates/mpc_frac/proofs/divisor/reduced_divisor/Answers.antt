use Rattle.std.proofs.Common.{◌∙◌, sym, ap}
use Rattle.mpc_exact.specs.Gcd.{gcd}
use Rattle.mpc_frac.proofs.Binary.{gcd-mod, gcd-one, gcd-zero}
use Rattle.mpc_frac.proofs.divisor.reduced_divisor.Goals as goal

pub returns-then-short-eq0 : goal.returns-then-short-eq0
returns-then-short-eq0 c = sym (ap (gcd c.args.wide) c.if-short-eq0.true ∙ gcd-zero c.args.wide)

pub returns : goal.returns
returns c = c.short_divisor.ensures.value ∙ gcd-mod c.args.wide c.args.short

pub returns-then-short-eq1 : goal.returns-then-short-eq1
returns-then-short-eq1 c = sym (ap (gcd c.args.wide) c.if-short-eq1.true ∙ gcd-one c.args.wide)
