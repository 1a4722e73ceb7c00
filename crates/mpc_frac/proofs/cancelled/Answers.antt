use Rattle.std.proofs.Common.{◌≡◌, ◌<◌, ◌/◌, ◌∙◌, sym, ap, subst, unsigned_abs, pos, to_z, of_z}
use Rattle.std.specs.Int.{w128}
use Rattle.mpc_exact.specs.Gcd.{gcd}
use Rattle.mpc_exact.specs.Rational.{frac}
use Rattle.mpc_frac.specs.Sign.{signed_like}
use Rattle.mpc_frac.proofs.Binary.{positive_gcd}
use Rattle.mpc_frac.proofs.FracModel.{read_back, read_fitting}
use Rattle.mpc_frac.proofs.FracAdd.{rest_positive, rest_coprime, rest_same}
use Rattle.mpc_frac.proofs.cancelled.Goals as goal
use Rattle.mpc_frac.proofs.cancelled.Goals.{After-greatest_common_divisor-shared, After-with_sign_of}

same_num : (c : After-greatest_common_divisor-shared) → to_z w128 (of_z w128 c.args.num) ≡ c.args.num
same_num c = read_back c.args.num c.requires.num_fits

found : (c : After-greatest_common_divisor-shared) → c.greatest_common_divisor-shared.result ≡ gcd (unsigned_abs c.args.num) c.args.den
found c = c.greatest_common_divisor-shared.ensures.value ∙ ap (λ n. gcd n c.args.divisor) (c.unsigned_abs.ensures.value ∙ ap unsigned_abs (same_num c)) ∙ sym c.requires.shared

some : (c : After-greatest_common_divisor-shared) → 0 < c.greatest_common_divisor-shared.result
some c = positive_gcd _ _ _ (found c) c.requires.den_positive

pub returns-then-shared-eq1 : goal.returns-then-shared-eq1
returns-then-shared-eq1 c = c.lowest.ensures ∙ ap (λ z. frac z c.args.den) (same_num ((goal.at.returns-then-shared-eq1 c).After-greatest_common_divisor-shared))

pub part-size-requires : goal.part-size-requires
part-size-requires c = some ((goal.at.part-size-requires c).After-greatest_common_divisor-shared)

pub part-requires : goal.part-requires
part-requires c = some ((goal.at.part-requires c).After-greatest_common_divisor-shared)

signed : (c : After-with_sign_of) → c.with_sign_of.result ≡ signed_like c.args.num (pos 1) (unsigned_abs c.args.num / c.greatest_common_divisor-shared.result)
signed c = c.with_sign_of.ensures
    ∙ (λ i. signed_like (read_back c.args.num c.requires.num_fits i) (pos 1) ((c.part-size.ensures ∙ ap (λ n. n / c.greatest_common_divisor-shared.result) (c.unsigned_abs-2.ensures.value ∙ ap unsigned_abs (read_back c.args.num c.requires.num_fits))) i))

written : (c : After-with_sign_of) → to_z w128 (of_z w128 c.with_sign_of.result) ≡ c.with_sign_of.result
written c = read_fitting c.with_sign_of.result c.with_sign_of.type_inv

pub lowest-requires-2-clause-den_positive : goal.lowest-requires-2-clause-den_positive
lowest-requires-2-clause-den_positive c =
    let at = goal.at.lowest-requires-2-clause-den_positive c in
    subst (λ n. 0 < n) (sym c.part.ensures) (rest_positive _ _ _ _ c.requires.den_positive (found at.After-greatest_common_divisor-shared) (signed at.After-with_sign_of) c.requires.num_fits c.requires.den_fits)

pub lowest-requires-2-clause-coprime : goal.lowest-requires-2-clause-coprime
lowest-requires-2-clause-coprime c =
    let at = goal.at.lowest-requires-2-clause-coprime c in
    (λ i. gcd (unsigned_abs (written at.After-with_sign_of i)) (c.part.ensures i))
    ∙ rest_coprime _ _ _ _ c.requires.den_positive (found at.After-greatest_common_divisor-shared) (signed at.After-with_sign_of) c.requires.num_fits c.requires.den_fits

pub returns : goal.returns
returns c =
    let at = goal.at.returns c in
    c.lowest-2.ensures ∙ (λ i. frac (written at.After-with_sign_of i) (c.part.ensures i))
    ∙ rest_same _ _ _ _ c.requires.den_positive (found at.After-greatest_common_divisor-shared) (signed at.After-with_sign_of) c.requires.num_fits c.requires.den_fits
