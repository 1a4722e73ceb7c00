use Rattle.std.proofs.Common.{◌≡◌, ◌+ℤ◌, ◌∙◌, ap, sym, refl, to_z, of_z}
use Rattle.std.specs.Int.{w128}
use Rattle.std.proofs.lemmas.Result.{err_from_is_err_and}
use Rattle.mpc_exact.specs.Rational.{frac}
use Rattle.mpc_frac.proofs.FracModel.{read_back}
use Rattle.mpc_frac.proofs.Binary.{gcd-one}
use Rattle.mpc_frac.proofs.LikeFractions.{numers_read, like_value, like_fits, like_wide}
use Rattle.mpc_frac.proofs.Frac.like_sum.Goals as goal
use Rattle.mpc_frac.proofs.Frac.like_sum.Goals.{In_ok-num}

sum : (c : In_ok-num) → c.in_ok-num.num ≡ c.args.self.now.numer +ℤ c.args.other.now.numer
sum c = c.in_ok-num.ensures.value ∙ numers_read c.args.self.now c.args.other.now c.num.result c.num-2.result c.num.ensures.value c.num-2.ensures.value c.num.ensures.fits c.num-2.ensures.fits

read : (c : In_ok-num) → to_z w128 (of_z w128 c.in_ok-num.num) ≡ c.in_ok-num.num
read c = read_back c.in_ok-num.num c.in_ok-num.ensures.small

pub returns-in_err-num-clause-wide : goal.returns-in_err-num-clause-wide
returns-in_err-num-clause-wide c =
    let p = err_from_is_err_and c.from_residual.result c.from_residual.ensures.1 in
    rw p.1 (like_wide c.args.self.now c.args.other.now c.requires _ (numers_read c.args.self.now c.args.other.now c.num.result c.num-2.result c.num.ensures.value c.num-2.ensures.value c.num.ensures.fits c.num-2.ensures.fits) c.in_err-num.ensures.value)

pub lowest-requires-clause-coprime : goal.lowest-requires-clause-coprime
lowest-requires-clause-coprime c = gcd-one _

pub returns-then-is_whole-clause-value : goal.returns-then-is_whole-clause-value
returns-then-is_whole-clause-value c =
    let d = (goal.at.returns-then-is_whole-clause-value c).In_ok-num in
    c.lowest.ensures ∙ ap (λ z. frac z 1) (read d) ∙ like_value c.args.self.now c.args.other.now c.requires c.in_ok-num.num 1 (sum d) (sym (c.if-is_whole.ensures.value.0 refl))

pub returns-then-is_whole-clause-wide : goal.returns-then-is_whole-clause-wide
returns-then-is_whole-clause-wide c =
    let d = (goal.at.returns-then-is_whole-clause-wide c).In_ok-num in
    like_fits c.args.self.now c.args.other.now c.requires c.in_ok-num.num 1 (sum d) c.num.ensures.fits c.num-2.ensures.fits c.in_ok-num.ensures.small

pub returns-clause-value : goal.returns-clause-value
returns-clause-value c =
    let d = (goal.at.returns-clause-value c).In_ok-num in
    c.cancelled.ensures ∙ ap (λ z. frac z c.below.result) (read d) ∙ like_value c.args.self.now c.args.other.now c.requires c.in_ok-num.num c.below.result (sum d) c.below.ensures.value

pub returns-clause-wide : goal.returns-clause-wide
returns-clause-wide c =
    let d = (goal.at.returns-clause-wide c).In_ok-num in
    like_fits c.args.self.now c.args.other.now c.requires c.in_ok-num.num 1 (sum d) c.num.ensures.fits c.num-2.ensures.fits c.in_ok-num.ensures.small
