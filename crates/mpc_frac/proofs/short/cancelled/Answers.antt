use Rattle.std.proofs.Common.{◌≡◌, ◌<◌, ◌^◌, ◌*◌, ◌/◌, ◌∙◌, sym, ap, subst, unsigned_abs, pos, to_z, of_z, arith, mul-pos}
use Rattle.std.specs.Int.{w128, ◌∣◌}
use Rattle.std.proofs.lemmas.Nat.Gcd.{dvd_trans}
use Rattle.mpc_exact.specs.Gcd.{gcd, gcd-divides_right}
use Rattle.mpc_exact.specs.Rational.{frac}
use Rattle.mpc_frac.specs.Sign.{signed_like}
use Rattle.mpc_frac.proofs.Binary.{positive_gcd}
use Rattle.mpc_frac.proofs.Knuth.{divided_first}
use Rattle.mpc_frac.proofs.ShortParts.{by_rest, divisor_positive, product_small}
use Rattle.mpc_frac.proofs.FracModel.{read_back, read_fitting}
use Rattle.mpc_frac.proofs.FracAdd.{rest_positive, rest_coprime, rest_same}
use Rattle.mpc_frac.proofs.short.cancelled.Goals as goal
use Rattle.mpc_frac.proofs.short.cancelled.Goals.{After-short_divisor-shared, After-with_sign_of}

same_num : (c : After-short_divisor-shared) → to_z w128 (of_z w128 c.args.num) ≡ c.args.num
same_num c = read_back c.args.num c.requires.num_fits

from_rest : (c : After-short_divisor-shared) → c.short_divisor-shared.result ≡ gcd (unsigned_abs c.args.num) c.args.divisor
from_rest c = c.short_divisor-shared.ensures.value ∙ by_rest _ c.args.divisor c.rest.result c.rest.ensures
    ∙ ap (λ n. gcd n c.args.divisor) (c.unsigned_abs.ensures.value ∙ ap unsigned_abs (same_num c))

found : (c : After-short_divisor-shared) → c.short_divisor-shared.result ≡ gcd (unsigned_abs c.args.num) (c.args.den * c.args.right)
found c = from_rest c ∙ sym c.requires.shared

bottom_some : (c : After-short_divisor-shared) → 0 < c.args.den * c.args.right
bottom_some c = mul-pos c.requires.den_positive c.requires.right_positive

bottom_fits : (c : After-short_divisor-shared) → c.args.den * c.args.right < 2 ^ 127
bottom_fits c = let h = product_small c.args.den c.args.right (omega arith) c.requires.right_small in omega arith

some : (c : After-short_divisor-shared) → 0 < c.short_divisor-shared.result
some c = positive_gcd _ _ _ (found c) (bottom_some c)

divides : (c : After-short_divisor-shared) → c.short_divisor-shared.result ∣ c.args.den
divides c = dvd_trans c.short_divisor-shared.result
    (subst (λ n. n ∣ c.args.divisor) (sym (from_rest c)) (gcd-divides_right (unsigned_abs c.args.num) c.args.divisor)) c.requires.divides

pub rest-requires : goal.rest-requires
rest-requires c = divisor_positive c.args.divisor c.args.den c.requires.divides c.requires.den_positive

pub lowest-requires-clause-coprime : goal.lowest-requires-clause-coprime
lowest-requires-clause-coprime c =
    let d = (goal.at.lowest-requires-clause-coprime c).After-short_divisor-shared in
    (λ i. gcd (unsigned_abs (same_num d i)) (c.wide_product.ensures i)) ∙ sym (found d) ∙ c.if-shared-eq1.true

pub returns-then-shared-eq1 : goal.returns-then-shared-eq1
returns-then-shared-eq1 c = c.lowest.ensures ∙ (λ i. frac (same_num ((goal.at.returns-then-shared-eq1 c).After-short_divisor-shared) i) (c.wide_product.ensures i))

pub over-size-requires : goal.over-size-requires
over-size-requires c = some ((goal.at.over-size-requires c).After-short_divisor-shared)

pub nonzero_div-den : goal.nonzero_div-den
nonzero_div-den c = some ((goal.at.nonzero_div-den c).After-short_divisor-shared)

signed : (c : After-with_sign_of) → c.with_sign_of.result ≡ signed_like c.args.num (pos 1) (unsigned_abs c.args.num / c.short_divisor-shared.result)
signed c = c.with_sign_of.ensures
    ∙ (λ i. signed_like (read_back c.args.num c.requires.num_fits i) (pos 1) ((c.over-size.ensures ∙ ap (λ n. n / c.short_divisor-shared.result) (c.unsigned_abs-2.ensures.value ∙ ap unsigned_abs (read_back c.args.num c.requires.num_fits))) i))

written : (c : After-with_sign_of) → to_z w128 (of_z w128 c.with_sign_of.result) ≡ c.with_sign_of.result
written c = read_fitting c.with_sign_of.result c.with_sign_of.type_inv

pub lowest-requires-2-clause-den_positive : goal.lowest-requires-2-clause-den_positive
lowest-requires-2-clause-den_positive c =
    let at = goal.at.lowest-requires-2-clause-den_positive c in
    let d = at.After-short_divisor-shared in
    subst (λ n. 0 < n) (sym (c.wide_product-2.ensures ∙ divided_first _ _ _ (divides d)))
    (rest_positive _ _ _ _ (bottom_some d) (found d) (signed at.After-with_sign_of) c.requires.num_fits (bottom_fits d))

pub lowest-requires-2-clause-coprime : goal.lowest-requires-2-clause-coprime
lowest-requires-2-clause-coprime c =
    let at = goal.at.lowest-requires-2-clause-coprime c in
    let d = at.After-short_divisor-shared in
    (λ i. gcd (unsigned_abs (written at.After-with_sign_of i)) ((c.wide_product-2.ensures ∙ divided_first _ _ _ (divides d)) i))
    ∙ rest_coprime _ _ _ _ (bottom_some d) (found d) (signed at.After-with_sign_of) c.requires.num_fits (bottom_fits d)

pub returns : goal.returns
returns c =
    let at = goal.at.returns c in
    let d = at.After-short_divisor-shared in
    c.lowest-2.ensures ∙ (λ i. frac (written at.After-with_sign_of i) ((c.wide_product-2.ensures ∙ divided_first _ _ _ (divides d)) i))
    ∙ rest_same _ _ _ _ (bottom_some d) (found d) (signed at.After-with_sign_of) c.requires.num_fits (bottom_fits d)
