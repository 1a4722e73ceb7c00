use Rattle.std.proofs.Common.{◌≡◌, ◌<◌, ◌∙◌, ap, sym, subst, unsigned_abs, to_z, of_z}
use Rattle.std.specs.Int.{w128}
use Rattle.mpc_exact.specs.Gcd.{gcd}
use Rattle.mpc_exact.specs.Rational.{frac}
use Rattle.mpc_frac.specs.Sign.{signed_like}
use Rattle.mpc_frac.proofs.FracMul.{product_from, coprime_from, product_some}
use Rattle.mpc_frac.proofs.FracModel.{read_back, read_fitting}
use Rattle.mpc_frac.proofs.Frac.product_of.Goals as goal
use Rattle.mpc_frac.proofs.Frac.product_of.Goals.{After-with_sign_of}

signed : (c : After-with_sign_of) → c.with_sign_of.result ≡ signed_like c.args.self.now.numer c.args.other.now.numer c.args.size
signed c = c.with_sign_of.ensures
    ∙ (λ i. signed_like ((ap (λ z. to_z w128 (of_z w128 z)) c.num.ensures.value ∙ read_back c.args.self.now.numer c.num.ensures.fits.0) i) ((ap (λ z. to_z w128 (of_z w128 z)) c.num-2.ensures.value ∙ read_back c.args.other.now.numer c.num-2.ensures.fits.0) i) c.args.size)

written : (c : After-with_sign_of) → to_z w128 (of_z w128 c.with_sign_of.result) ≡ c.with_sign_of.result
written c = read_fitting c.with_sign_of.result c.with_sign_of.type_inv

pub lowest-requires-clause-den_positive : goal.lowest-requires-clause-den_positive
lowest-requires-clause-den_positive c = subst (λ n. 0 < n) (sym c.requires.den_is) (product_some c.args.self.now c.args.other.now)

pub lowest-requires-clause-coprime : goal.lowest-requires-clause-coprime
lowest-requires-clause-coprime c =
    let d = (goal.at.lowest-requires-clause-coprime c).After-with_sign_of in
    ap (λ z. gcd (unsigned_abs z) c.args.den) (written d)
    ∙ coprime_from c.args.self.now c.args.other.now c.args.size c.args.den c.with_sign_of.result c.requires.size_is c.requires.den_is (signed d)

pub returns : goal.returns
returns c =
    let d = (goal.at.returns c).After-with_sign_of in
    c.lowest.ensures ∙ ap (λ z. frac z c.args.den) (written d)
    ∙ product_from c.args.self.now c.args.other.now c.args.size c.args.den c.with_sign_of.result c.requires.size_is c.requires.den_is (signed d)
