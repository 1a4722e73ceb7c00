use Rattle.std.proofs.Common.{◌≡◌, ◌≢◌, ◌/◌, pos, unsigned_abs, ◌∙◌, ap, to_z, of_z, refl}
use Rattle.std.specs.Int.{w128}
use Rattle.std.proofs.lemmas.Int.{to_z-of_z}
use Rattle.mpc_exact.specs.Rational.{frac}
use Rattle.mpc_exact.specs.Gcd.{gcd}
use Rattle.mpc_frac.specs.Sign.{signed_like}
use Rattle.mpc_frac.proofs.FracParts.{bottom_positive, terms_coprime, value_is, quotient_fits, quotient_wide}
use Rattle.mpc_frac.proofs.Frac.new.Goals as goal
use Rattle.mpc_frac.proofs.Frac.new.Goals.{After-part-below}

same_num : (c : After-part-below) → to_z w128 (of_z w128 c.args.num) ≡ c.args.num
same_num c = to_z-of_z w128 c.args.num c.ranges.num

same_den : (c : After-part-below) → to_z w128 (of_z w128 c.args.den) ≡ c.args.den
same_den c = to_z-of_z w128 c.args.den c.ranges.den

some : (c : After-part-below) → c.args.den ≢ pos 0
some c e = c.if-den-eq0.false (ap (of_z w128) e)

found : (c : After-part-below) → c.greatest_common_divisor-divisor.result ≡ gcd (unsigned_abs c.args.num) (unsigned_abs c.args.den)
found c = c.greatest_common_divisor-divisor.ensures.value ∙ (λ i. gcd ((c.unsigned_abs.ensures.value ∙ ap unsigned_abs (same_num c)) i) ((c.unsigned_abs-2.ensures.value ∙ ap unsigned_abs (same_den c)) i))

size : (c : After-part-below) → c.part-size.result ≡ unsigned_abs c.args.num / c.greatest_common_divisor-divisor.result
size c = c.part-size.ensures ∙ ap (λ n. n / c.greatest_common_divisor-divisor.result) (c.unsigned_abs-3.ensures.value ∙ ap unsigned_abs (same_num c))

below : (c : After-part-below) → c.part-below.result ≡ unsigned_abs c.args.den / c.greatest_common_divisor-divisor.result
below c = c.part-below.ensures ∙ ap (λ n. n / c.greatest_common_divisor-divisor.result) (c.unsigned_abs-4.ensures.value ∙ ap unsigned_abs (same_den c))

pub fitted-requires-clause-den_positive : goal.fitted-requires-clause-den_positive
fitted-requires-clause-den_positive c = let d = (goal.at.fitted-requires-clause-den_positive c).After-part-below in bottom_positive c.args.num c.args.den _ _ _ (some d) (found d) (size d) (below d)

pub fitted-requires-clause-coprime : goal.fitted-requires-clause-coprime
fitted-requires-clause-coprime c = let d = (goal.at.fitted-requires-clause-coprime c).After-part-below in terms_coprime c.args.num c.args.den _ _ _ (some d) (found d) (size d) (below d)

pub returns-in-Ok-clause-value : goal.returns-in-Ok-clause-value
returns-in-Ok-clause-value c =
    let d = (goal.at.returns-in-Ok-clause-value c).After-part-below in
    c.in-Ok.ensures.value ∙ (λ i. frac (signed_like (same_num d i) (same_den d i) c.part-size.result) c.part-below.result)
    ∙ value_is c.args.num c.args.den _ _ _ (some d) (found d) (size d) (below d)

pub returns-in-Ok-clause-fits : goal.returns-in-Ok-clause-fits
returns-in-Ok-clause-fits c =
    let d = (goal.at.returns-in-Ok-clause-fits c).After-part-below in
    quotient_fits c.args.num c.args.den _ _ _ (some d) (found d) (size d) (below d) c.in-Ok.ensures.wide.0 c.in-Ok.ensures.wide.1

pub returns-in-Ok-clause-wide : goal.returns-in-Ok-clause-wide
returns-in-Ok-clause-wide c =
    let d = (goal.at.returns-in-Ok-clause-wide c).After-part-below in
    (λ e. cc, λ w. absurd (w.1 (quotient_fits c.args.num c.args.den _ _ _ (some d) (found d) (size d) (below d) c.in-Ok.ensures.wide.0 c.in-Ok.ensures.wide.1)))

pub returns-in-Err-clause-wide : goal.returns-in-Err-clause-wide
returns-in-Err-clause-wide c =
    let d = (goal.at.returns-in-Err-clause-wide c).After-part-below in
    (λ _. (some d, quotient_wide c.args.num c.args.den _ _ _ (some d) (found d) (size d) (below d) c.in-Err.ensures.wide), λ _. refl)
