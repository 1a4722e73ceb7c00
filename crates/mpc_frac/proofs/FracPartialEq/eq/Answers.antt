use Rattle.std.proofs.Common.{◌∙◌, ap, ◌&&◌, int_eq}
use Rattle.mpc_frac.proofs.FracModel.{same_test}
use Rattle.mpc_frac.proofs.FracPartialEq.eq.Goals as goal

pub returns : goal.returns
returns c = c.and_eq.ensures ∙ ap (λ b. b && int_eq c.t1-1.inside.den c.t2-1.inside.den) c.eq.ensures
    ∙ same_test c.t1-1.inside c.t2-1.inside c.args.self.now c.args.other.now c.t1-1.invariant c.t1-1.view_is c.t2-1.invariant c.t2-1.view_is
