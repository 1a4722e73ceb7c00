use Rattle.std.proofs.Common.{◌∙◌, sym, unsigned_abs}
use Rattle.mpc_exact.specs.Rational.{frac, frac_self}
use Rattle.mpc_frac.proofs.ShortParts.{read_tried}
use Rattle.mpc_frac.proofs.Frac.short.Goals as goal

pub returns : goal.returns
returns c =
    (λ i. frac ((read_tried c.num.result c.try_from.result c.in_ok-num.num c.try_from.ensures c.num.type_inv (sym c.ok.ensures.value ∙ c.in_ok-num.was) ∙ c.num.ensures.value) i)
    (unsigned_abs ((read_tried c.den.result c.try_from-2.result c.in_ok-den.den c.try_from-2.ensures c.den.type_inv (sym c.ok-2.ensures.value ∙ c.in_ok-den.was) ∙ c.den.ensures.value) i)))
    ∙ frac_self c.args.self.now
