use Rattle.std.proofs.Common.{◌≡◌, ◌<◌, ◌^◌, ◌*◌, ◌/◌, ◌∙◌, sym, ap, subst, unsigned_abs, to_z, of_z, rules}
use Rattle.std.specs.Int.{w64, w128}
use mir.Val.{SFits}
use Rattle.mpc_exact.specs.Gcd.{gcd}
use Rattle.mpc_exact.specs.Rational.{frac}
use Rattle.mpc_frac.specs.Fits.{size_of_product, denom_of_product}
use Rattle.mpc_frac.specs.Sign.{signed_like}
use Rattle.mpc_frac.proofs.FracModel.{read_fitting}
use Rattle.mpc_frac.proofs.FracMul.{product_from, coprime_from, product_some, product_fits, signed_abs}
use Rattle.mpc_frac.proofs.ShortParts.{read_short, read_twice, size_is, below_is, numers_are, size_small, below_small}
use Rattle.mpc_frac.proofs.short.Short.ratio_product.Goals as goal
use Rattle.mpc_frac.proofs.short.Short.ratio_product.Goals.{After-wide_product-den, After-with_sign_of}

module _ (c : After-wide_product-den) where
  left : c.short_divisor-left.result ≡ gcd (unsigned_abs c.args.self.num) c.args.other.den
  left = let f : SFits w64 c.args.self.num = search rules in
      c.short_divisor-left.ensures.value ∙ ap (λ n. gcd n c.args.other.den) (c.unsigned_abs.ensures.value ∙ ap unsigned_abs (read_short c.args.self.num f.sfits))

  right : c.short_divisor-right.result ≡ gcd (unsigned_abs c.args.other.num) c.args.self.den
  right = let f : SFits w64 c.args.other.num = search rules in
      c.short_divisor-right.ensures.value ∙ ap (λ n. gcd n c.args.self.den) (c.unsigned_abs-2.ensures.value ∙ ap unsigned_abs (read_short c.args.other.num f.sfits))

  size : c.wide_product-size.result ≡ size_of_product (frac c.args.self.num c.args.self.den) (frac c.args.other.num c.args.other.den)
  size =
      let f : SFits w64 c.args.self.num = search rules in
      let g : SFits w64 c.args.other.num = search rules in
      c.wide_product-size.ensures
      ∙ (λ i. (c.part.ensures ∙ (λ j. (c.unsigned_abs-3.ensures.value ∙ ap unsigned_abs (read_short c.args.self.num f.sfits)) j / left j)) i
      * (c.part-2.ensures ∙ (λ j. (c.unsigned_abs-4.ensures.value ∙ ap unsigned_abs (read_short c.args.other.num g.sfits)) j / right j)) i)
      ∙ size_is c.args.self.num c.args.self.den c.args.other.num c.args.other.den c.args.self.den_positive c.args.other.den_positive c.args.self.coprime c.args.other.coprime

  below : c.wide_product-den.result ≡ denom_of_product (frac c.args.self.num c.args.self.den) (frac c.args.other.num c.args.other.den)
  below = c.wide_product-den.ensures ∙ (λ i. (c.part-3.ensures ∙ ap (λ n. c.args.self.den / n) right) i * (c.part-4.ensures ∙ ap (λ n. c.args.other.den / n) left) i)
      ∙ below_is c.args.self.num c.args.self.den c.args.other.num c.args.other.den c.args.self.den_positive c.args.other.den_positive c.args.self.coprime c.args.other.coprime

  size_fits : c.wide_product-size.result < 2 ^ 127
  size_fits =
      let f : SFits w64 c.args.self.num = search rules in
      let g : SFits w64 c.args.other.num = search rules in
      subst (λ n. n < 2 ^ 127) (sym size) (size_small c.args.self.num c.args.self.den c.args.other.num c.args.other.den c.args.self.den_positive c.args.other.den_positive c.args.self.coprime c.args.other.coprime f.sfits g.sfits c.args.self.den_small c.args.other.den_small)

  below_fits : c.wide_product-den.result < 2 ^ 127
  below_fits =
      let f : SFits w64 c.args.self.num = search rules in
      let g : SFits w64 c.args.other.num = search rules in
      subst (λ n. n < 2 ^ 127) (sym below) (below_small c.args.self.num c.args.self.den c.args.other.num c.args.other.den c.args.self.den_positive c.args.other.den_positive c.args.self.coprime c.args.other.coprime f.sfits g.sfits c.args.self.den_small c.args.other.den_small)

pub with_sign_of-requires : goal.with_sign_of-requires
with_sign_of-requires c = size_fits ((goal.at.with_sign_of-requires c).After-wide_product-den)

signed : (c : After-with_sign_of) → c.with_sign_of.result ≡ signed_like (frac c.args.self.num c.args.self.den).numer (frac c.args.other.num c.args.other.den).numer c.wide_product-size.result
signed c =
    let f : SFits w64 c.args.self.num = search rules in
    let g : SFits w64 c.args.other.num = search rules in
    let are = numers_are c.args.self.num c.args.self.den c.args.other.num c.args.other.den c.args.self.den_positive c.args.other.den_positive c.args.self.coprime c.args.other.coprime in
    c.with_sign_of.ensures ∙ (λ i. signed_like ((read_twice c.args.self.num f.sfits ∙ sym are.0) i) ((read_twice c.args.other.num g.sfits ∙ sym are.1) i) c.wide_product-size.result)

written : (c : After-with_sign_of) → to_z w128 (of_z w128 c.with_sign_of.result) ≡ c.with_sign_of.result
written c = read_fitting c.with_sign_of.result c.with_sign_of.type_inv

pub lowest-requires-clause-num_fits : goal.lowest-requires-clause-num_fits
lowest-requires-clause-num_fits c =
    let at = goal.at.lowest-requires-clause-num_fits c in
    subst (λ n. n < 2 ^ 127) (sym (ap unsigned_abs (written at.After-with_sign_of ∙ signed at.After-with_sign_of) ∙ signed_abs _ _ _)) (size_fits at.After-wide_product-den)

pub lowest-requires-clause-den_fits : goal.lowest-requires-clause-den_fits
lowest-requires-clause-den_fits c = below_fits ((goal.at.lowest-requires-clause-den_fits c).After-wide_product-den)

pub lowest-requires-clause-den_positive : goal.lowest-requires-clause-den_positive
lowest-requires-clause-den_positive c = subst (λ n. 0 < n) (sym (below ((goal.at.lowest-requires-clause-den_positive c).After-wide_product-den))) (product_some (frac c.args.self.num c.args.self.den) (frac c.args.other.num c.args.other.den))

pub lowest-requires-clause-coprime : goal.lowest-requires-clause-coprime
lowest-requires-clause-coprime c =
    let at = goal.at.lowest-requires-clause-coprime c in
    ap (λ z. gcd (unsigned_abs z) c.wide_product-den.result) (written at.After-with_sign_of)
    ∙ coprime_from (frac c.args.self.num c.args.self.den) (frac c.args.other.num c.args.other.den) _ _ _ (size at.After-wide_product-den) (below at.After-wide_product-den) (signed at.After-with_sign_of)

pub returns-clause-value : goal.returns-clause-value
returns-clause-value c =
    let at = goal.at.returns-clause-value c in
    c.lowest.ensures ∙ ap (λ z. frac z c.wide_product-den.result) (written at.After-with_sign_of)
    ∙ product_from (frac c.args.self.num c.args.self.den) (frac c.args.other.num c.args.other.den) _ _ _ (size at.After-wide_product-den) (below at.After-wide_product-den) (signed at.After-with_sign_of)

pub returns-clause-fits : goal.returns-clause-fits
returns-clause-fits c =
    let d = (goal.at.returns-clause-fits c).After-wide_product-den in
    product_fits (frac c.args.self.num c.args.self.den) (frac c.args.other.num c.args.other.den) _ _ (size d) (below d) (size_fits d) (below_fits d)
