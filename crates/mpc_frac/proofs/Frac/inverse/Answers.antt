use Rattle.std.proofs.Common.{◌≡◌, ◌<◌, ◌∙◌, ap, sym, subst, pos, to_z, of_z}
use Rattle.std.specs.Int.{w128}
use Rattle.mpc_frac.specs.Sign.{signed_like}
use Rattle.mpc_frac.proofs.FracModel.{read_back, read_fitting}
use Rattle.mpc_frac.proofs.FracParts.{inverse_from, inverse_lowest, size_positive}
use Rattle.mpc_frac.proofs.Frac.inverse.Goals as goal
use Rattle.mpc_frac.proofs.Frac.inverse.Goals.{After-size}

numer : (c : After-size) → to_z w128 (of_z w128 c.num.result) ≡ c.args.self.now.numer
numer c = ap (λ z. to_z w128 (of_z w128 z)) c.num.ensures.value ∙ read_back c.args.self.now.numer c.num.ensures.fits.0

signed : (c : After-size) → c.with_sign_of.result ≡ signed_like c.args.self.now.numer (pos 1) c.args.self.now.denom
signed c = c.with_sign_of.ensures ∙ (λ i. signed_like (numer c i) (pos 1) (c.below.ensures.value i))

written : (c : After-size) → to_z w128 (of_z w128 c.with_sign_of.result) ≡ signed_like c.args.self.now.numer (pos 1) c.args.self.now.denom
written c = read_fitting c.with_sign_of.result c.with_sign_of.type_inv ∙ signed c

pub lowest-requires-clause-den_positive : goal.lowest-requires-clause-den_positive
lowest-requires-clause-den_positive c = subst (λ n. 0 < n) (sym c.size.ensures.value) (size_positive c.args.self.now c.requires)

pub lowest-requires-clause-coprime : goal.lowest-requires-clause-coprime
lowest-requires-clause-coprime c = inverse_lowest c.args.self.now _ _ (written ((goal.at.lowest-requires-clause-coprime c).After-size)) c.size.ensures.value

pub returns : goal.returns
returns c = c.lowest.ensures ∙ inverse_from c.args.self.now _ _ (written ((goal.at.returns c).After-size)) c.size.ensures.value
