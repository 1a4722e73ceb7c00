use Rattle.std.proofs.Common.{◌≡◌, ◌^◌, unsigned_abs, ◌+ℤ◌, ◌*ℤ◌, ◌*◌, ◌/◌, ◌<◌, pos, ◌∙◌, sym, ap, subst, to_z, of_z}
use Rattle.std.specs.Int.{w128}
use Rattle.mpc_exact.specs.Gcd.{gcd}
use Rattle.mpc_exact.specs.Rational.{frac}
use Rattle.mpc_frac.specs.Fits.{common, left_of_sum, right_of_sum, denom_of_sum}
use Rattle.mpc_frac.proofs.FracModel.{read_back}
use Rattle.mpc_frac.proofs.FracAdd.{sum_computed, denom_of_sum-positive}
use Rattle.mpc_frac.proofs.Knuth.{shared_is}
use Rattle.mpc_frac.proofs.Frac.wide_sum.Goals as goal
use Rattle.mpc_frac.proofs.Frac.wide_sum.Goals.{In_ok-den}

divisor : (c : In_ok-den) → c.greatest_common_divisor-divisor.result ≡ common c.args.self.now c.args.other.now
divisor c = c.greatest_common_divisor-divisor.ensures.value ∙ (λ i. gcd (c.below.ensures.value i) (c.below-2.ensures.value i))

left_part : (c : In_ok-den) → c.part-left.result ≡ c.args.self.now.denom / common c.args.self.now c.args.other.now
left_part c = c.part-left.ensures ∙ (λ i. c.below-3.ensures.value i / divisor c i)

right_part : (c : In_ok-den) → c.part-right.result ≡ c.args.other.now.denom / common c.args.self.now c.args.other.now
right_part c = c.part-right.ensures ∙ (λ i. c.below-4.ensures.value i / divisor c i)

left : (c : In_ok-den) → c.in_ok-numer_times.field-0 ≡ left_of_sum c.args.self.now c.args.other.now
left c = c.in_ok-numer_times.ensures.value ∙ (λ i. c.args.self.now.numer *ℤ pos (right_part c i))

right : (c : In_ok-den) → c.in_ok-numer_times-2.field-0 ≡ right_of_sum c.args.self.now c.args.other.now
right c = c.in_ok-numer_times-2.ensures.value ∙ (λ i. c.args.other.now.numer *ℤ pos (left_part c i))

num : (c : In_ok-den) → c.in_ok-num.num ≡ c.in_ok-numer_times.field-0 +ℤ c.in_ok-numer_times-2.field-0
num c = c.in_ok-num.ensures.value ∙ (λ i. read_back c.in_ok-numer_times.field-0 c.in_ok-numer_times.ensures.small i +ℤ read_back c.in_ok-numer_times-2.field-0 c.in_ok-numer_times-2.ensures.small i)

total : (c : In_ok-den) → c.in_ok-num.num ≡ left_of_sum c.args.self.now c.args.other.now +ℤ right_of_sum c.args.self.now c.args.other.now
total c = num c ∙ (λ i. left c i +ℤ right c i)

read_num : (c : In_ok-den) → to_z w128 (of_z w128 c.in_ok-num.num) ≡ c.in_ok-num.num
read_num c = read_back c.in_ok-num.num c.in_ok-num.ensures.small

den : (c : In_ok-den) → c.in_ok-den.den ≡ denom_of_sum c.args.self.now c.args.other.now
den c = c.in_ok-den.ensures.value ∙ (λ i. c.below-5.ensures.value i * right_part c i)

pub cancelled-requires-clause-den_positive : goal.cancelled-requires-clause-den_positive
cancelled-requires-clause-den_positive c = subst (λ n. 0 < n) (sym (den ((goal.at.cancelled-requires-clause-den_positive c).In_ok-den))) (denom_of_sum-positive c.args.self.now c.args.other.now)

pub cancelled-requires-clause-shared : goal.cancelled-requires-clause-shared
cancelled-requires-clause-shared c =
    let d = (goal.at.cancelled-requires-clause-shared c).In_ok-den in
    (λ i. gcd (unsigned_abs ((read_num d ∙ total d) i)) (den d i)) ∙ shared_is c.args.self.now c.args.other.now
    ∙ sym (λ i. gcd (unsigned_abs ((read_num d ∙ total d) i)) (divisor d i))

pub returns-clause-value : goal.returns-clause-value
returns-clause-value c =
    let d = (goal.at.returns-clause-value c).In_ok-den in
    c.cancelled.ensures ∙ ap (λ z. frac z c.in_ok-den.den) (read_num d)
    ∙ sum_computed c.args.self.now c.args.other.now c.in_ok-numer_times.field-0 c.in_ok-numer_times-2.field-0 c.in_ok-num.num c.in_ok-den.den (left d) (right d) (num d) (den d)

pub returns-clause-wide : goal.returns-clause-wide
returns-clause-wide c =
    let d = (goal.at.returns-clause-wide c).In_ok-den in
    record {
      left = subst (λ z. unsigned_abs z < 2 ^ 127) (left d) c.in_ok-numer_times.ensures.small;
      right = subst (λ z. unsigned_abs z < 2 ^ 127) (right d) c.in_ok-numer_times-2.ensures.small;
      sum = subst (λ z. unsigned_abs z < 2 ^ 127) (total d) c.in_ok-num.ensures.small;
      denom = subst (λ n. n < 2 ^ 127) (den d) c.in_ok-den.ensures.small;
    }
