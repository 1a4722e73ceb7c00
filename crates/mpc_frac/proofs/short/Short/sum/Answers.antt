use Rattle.std.proofs.Common.{◌≡◌, ◌<◌, ◌*◌, ◌/◌, ◌+ℤ◌, ◌*ℤ◌, pos, ◌∙◌, sym, ap, subst, unsigned_abs, to_z, of_z, rules, div-one}
use Rattle.std.specs.Int.{w64, w128, ◌∣◌}
use mir.Val.{SFits}
use Rattle.mpc_exact.specs.Gcd.{gcd, gcd-divides_left, part-positive}
use Rattle.mpc_exact.specs.Rational.{frac}
use Rattle.mpc_frac.specs.Fits.{common, left_of_sum, right_of_sum, denom_of_sum}
use Rattle.mpc_frac.proofs.FracModel.{read_fitting}
use Rattle.mpc_frac.proofs.FracAdd.{sum_is}
use Rattle.mpc_frac.proofs.Binary.{gcd-one}
use Rattle.mpc_frac.proofs.Knuth.{shared_is}
use Rattle.mpc_frac.proofs.ShortParts.{read_short, common_is, left_is, right_is, bottom_is, sum_fits}
use Rattle.mpc_frac.proofs.short.Short.sum.Goals as goal
use Rattle.mpc_frac.proofs.short.Short.sum.Goals.{After-cross_sum-num, After-cross_sum-num-2}

-- ---- denominators with nothing in common
module _ (c : After-cross_sum-num) where
  one : gcd c.args.self.den c.args.other.den ≡ 1
  one = sym c.short_divisor-divisor.ensures.value ∙ c.if-divisor-eq1.true

  whole : (n : _) → n / gcd c.args.self.den c.args.other.den ≡ n
  whole n = ap (λ k. n / k) one ∙ div-one n

  num : to_z w128 (of_z w128 c.cross_sum-num.result) ≡ left_of_sum (frac c.args.self.num c.args.self.den) (frac c.args.other.num c.args.other.den) +ℤ right_of_sum (frac c.args.self.num c.args.self.den) (frac c.args.other.num c.args.other.den)
  num =
      let f : SFits w64 c.args.self.num = search rules in
      let g : SFits w64 c.args.other.num = search rules in
      read_fitting c.cross_sum-num.result c.cross_sum-num.type_inv ∙ c.cross_sum-num.ensures.value
      ∙ (λ i. read_short c.args.self.num f.sfits i *ℤ pos (sym (whole c.args.other.den) i) +ℤ read_short c.args.other.num g.sfits i *ℤ pos (sym (whole c.args.self.den) i))
      ∙ (λ i. sym (left_is c.args.self.num c.args.self.den c.args.other.num c.args.other.den c.args.self.den_positive c.args.other.den_positive c.args.self.coprime c.args.other.coprime) i
      +ℤ sym (right_is c.args.self.num c.args.self.den c.args.other.num c.args.other.den c.args.self.den_positive c.args.other.den_positive c.args.self.coprime c.args.other.coprime) i)

  den : c.args.self.den * c.args.other.den ≡ denom_of_sum (frac c.args.self.num c.args.self.den) (frac c.args.other.num c.args.other.den)
  den = ap (λ n. c.args.self.den * n) (sym (whole c.args.other.den))
      ∙ sym (bottom_is c.args.self.num c.args.self.den c.args.other.num c.args.other.den c.args.self.den_positive c.args.other.den_positive c.args.self.coprime c.args.other.coprime)

pub lowest-requires-clause-coprime : goal.lowest-requires-clause-coprime
lowest-requires-clause-coprime c =
    let d = (goal.at.lowest-requires-clause-coprime c).After-cross_sum-num in
    (λ i. gcd (unsigned_abs (num d i)) ((c.wide_product.ensures ∙ den d) i)) ∙ shared_is (frac c.args.self.num c.args.self.den) (frac c.args.other.num c.args.other.den)
    ∙ ap (gcd _) (common_is c.args.self.num c.args.self.den c.args.other.num c.args.other.den c.args.self.den_positive c.args.other.den_positive c.args.self.coprime c.args.other.coprime ∙ one d) ∙ gcd-one _

pub returns-then-divisor-eq1-clause-value : goal.returns-then-divisor-eq1-clause-value
returns-then-divisor-eq1-clause-value c =
    let d = (goal.at.returns-then-divisor-eq1-clause-value c).After-cross_sum-num in
    c.lowest.ensures ∙ (λ i. frac (num d i) ((c.wide_product.ensures ∙ den d) i)) ∙ sum_is (frac c.args.self.num c.args.self.den) (frac c.args.other.num c.args.other.den)

pub returns-then-divisor-eq1-clause-fits : goal.returns-then-divisor-eq1-clause-fits
returns-then-divisor-eq1-clause-fits c =
    let f : SFits w64 c.args.self.num = search rules in
    let g : SFits w64 c.args.other.num = search rules in
    sum_fits c.args.self.num c.args.self.den c.args.other.num c.args.other.den c.args.self.den_positive c.args.other.den_positive c.args.self.coprime c.args.other.coprime f.sfits g.sfits c.args.self.den_small c.args.other.den_small

-- ---- denominators that share a divisor
module _ (c : After-cross_sum-num-2) where
  found : c.short_divisor-divisor.result ≡ gcd c.args.self.den c.args.other.den
  found = c.short_divisor-divisor.ensures.value

  shared_num : to_z w128 (of_z w128 c.cross_sum-num-2.result) ≡ left_of_sum (frac c.args.self.num c.args.self.den) (frac c.args.other.num c.args.other.den) +ℤ right_of_sum (frac c.args.self.num c.args.self.den) (frac c.args.other.num c.args.other.den)
  shared_num =
      let f : SFits w64 c.args.self.num = search rules in
      let g : SFits w64 c.args.other.num = search rules in
      read_fitting c.cross_sum-num-2.result c.cross_sum-num-2.type_inv ∙ c.cross_sum-num-2.ensures.value
      ∙ (λ i. read_short c.args.self.num f.sfits i *ℤ pos (c.args.other.den / found i) +ℤ read_short c.args.other.num g.sfits i *ℤ pos (c.args.self.den / found i))
      ∙ (λ i. sym (left_is c.args.self.num c.args.self.den c.args.other.num c.args.other.den c.args.self.den_positive c.args.other.den_positive c.args.self.coprime c.args.other.coprime) i
      +ℤ sym (right_is c.args.self.num c.args.self.den c.args.other.num c.args.other.den c.args.self.den_positive c.args.other.den_positive c.args.self.coprime c.args.other.coprime) i)

  shared_den : c.args.self.den * (c.args.other.den / c.short_divisor-divisor.result) ≡ denom_of_sum (frac c.args.self.num c.args.self.den) (frac c.args.other.num c.args.other.den)
  shared_den = ap (λ n. c.args.self.den * (c.args.other.den / n)) found
      ∙ sym (bottom_is c.args.self.num c.args.self.den c.args.other.num c.args.other.den c.args.self.den_positive c.args.other.den_positive c.args.self.coprime c.args.other.coprime)

  shared_divisor : c.short_divisor-divisor.result ≡ common (frac c.args.self.num c.args.self.den) (frac c.args.other.num c.args.other.den)
  shared_divisor = found ∙ sym (common_is c.args.self.num c.args.self.den c.args.other.num c.args.other.den c.args.self.den_positive c.args.other.den_positive c.args.self.coprime c.args.other.coprime)

pub cancelled-requires-clause-right_positive : goal.cancelled-requires-clause-right_positive
cancelled-requires-clause-right_positive c =
    subst (λ n. 0 < c.args.other.den / n) (sym c.short_divisor-divisor.ensures.value) (part-positive c.args.self.den c.args.other.den c.args.other.den_positive)

pub cancelled-requires-clause-divides : goal.cancelled-requires-clause-divides
cancelled-requires-clause-divides c = subst (λ n. n ∣ c.args.self.den) (sym c.short_divisor-divisor.ensures.value) (gcd-divides_left c.args.self.den c.args.other.den)

pub cancelled-requires-clause-shared : goal.cancelled-requires-clause-shared
cancelled-requires-clause-shared c =
    let d = (goal.at.cancelled-requires-clause-shared c).After-cross_sum-num-2 in
    (λ i. gcd (unsigned_abs (shared_num d i)) (shared_den d i)) ∙ shared_is (frac c.args.self.num c.args.self.den) (frac c.args.other.num c.args.other.den)
    ∙ sym (λ i. gcd (unsigned_abs (shared_num d i)) (shared_divisor d i))

pub returns-clause-value : goal.returns-clause-value
returns-clause-value c =
    let d = (goal.at.returns-clause-value c).After-cross_sum-num-2 in
    c.cancelled.ensures ∙ (λ i. frac (shared_num d i) (shared_den d i)) ∙ sum_is (frac c.args.self.num c.args.self.den) (frac c.args.other.num c.args.other.den)

pub returns-clause-fits : goal.returns-clause-fits
returns-clause-fits c =
    let f : SFits w64 c.args.self.num = search rules in
    let g : SFits w64 c.args.other.num = search rules in
    sum_fits c.args.self.num c.args.self.den c.args.other.num c.args.other.den c.args.self.den_positive c.args.other.den_positive c.args.self.coprime c.args.other.coprime f.sfits g.sfits c.args.self.den_small c.args.other.den_small
