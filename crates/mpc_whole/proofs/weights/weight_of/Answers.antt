use Rattle.std.proofs.Common.{◌*◌, ◌<◌, ◌≤◌, unsigned_abs, arith, subst}
use Rattle.mpc_runs.proofs.Read.{is_right_side}
use Rattle.mpc_scaled.specs.Scaled.{scale_at}
use Rattle.mpc_whole.proofs.WeighedNumbers.{with_factor, with_side}
use Rattle.mpc_whole.proofs.weights.weight_of.Goals as goal

pub returns : goal.returns
returns c = λ z m h.
    let s = c.args.system.now in
    let y = c.args.variable in
    let k = c.args.frame.now.scales.now in
    let b = c.args.frame.now.b.now in
    let factor = c.max-factor.result in
    let scaled : factor * scale_at k y ≤ c.max.result = (let a = c.max.ensures in let q = c.in_ok-scaled.ensures.1 in omega arith) in
    let sides : c.side_of.result * 1024 ≤ c.max.result = (let a = c.max.ensures in let q = c.in_ok-sides.ensures.1 in omega arith) in
    record {
      entering = λ e. with_factor (unsigned_abs z) (scale_at k y) c.args.by.top factor c.max.result m scaled (let a = c.max-factor.ensures in let q = c.factor_at.ensures.entering e in omega arith) h;
      other = λ e. with_factor (unsigned_abs z) (scale_at k y) c.args.by.size factor c.max.result m scaled (let a = c.max-factor.ensures in let q = c.factor_at.ensures.other e in omega arith) h;
      first = λ side x e. subst (λ u. 1024 * (unsigned_abs z * unsigned_abs u) ≤ m) (is_right_side s k c.args.frame.now.a.now b c.requires.numbers.whole y (subst (λ n. y < n) c.requires.numbers.count c.requires.below) side x e)
          (subst (λ u. 1024 * (unsigned_abs z * u) ≤ m) (c.side_of.ensures side) (with_side (unsigned_abs z) c.side_of.result 1024 c.max.result m sides h));
      second = (let q : (unsigned_abs z * scale_at k y) * 1024 ≤ m = with_factor (unsigned_abs z) (scale_at k y) 1024 factor c.max.result m scaled (let a = c.max-factor.ensures in omega arith) h in omega arith);
    }
