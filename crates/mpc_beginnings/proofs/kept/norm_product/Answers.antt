use Rattle.std.proofs.Common.{◌≡◌, ◌*◌, ◌≤◌, subst, arith, le_trans, mul-le-mul_left, mul-le-mul_right}
use Rattle.mpc_whole.specs.Judged.{most_variables}
use Rattle.mpc_beginnings.proofs.kept.norm_product.Goals as goal

pub returns : goal.returns
returns c =
    let m = c.args.numbers.now in
    let p = c.args.place in
    let norm = c.in_ok-norm.field-0 in
    let most = c.max-most.result in
    let size = c.max.result in
    let top = c.in_ok-top.top in
    let rest = c.max-2.result in
    let sized : norm * most ≤ size = (let e = c.max.ensures in let h = c.in_ok-checked_mul.ensures.1 in omega arith) in
    let some : 1 ≤ size = (let e = c.max.ensures in omega arith) in
    let scaled : size * m.most_scale ≤ top = (let e = c.in_ok-top.ensures.1 in omega arith) in
    let pivots : c.in_ok-pivots.pivots ≡ (most * m.most_scale) * top = subst (λ n. c.in_ok-pivots.pivots ≡ n * top) c.in_ok-checked_mul-2.ensures.1 c.in_ok-pivots.ensures.1 in
    let terms : most_variables * (most * rest) ≤ c.max-3.result = (let e = c.in_ok-terms.ensures.1 in let h = c.in_ok-term.ensures.1 in let t = c.max-3.ensures in omega arith) in
    let side : m.most_side ≤ rest = (let e = c.max-2.ensures in omega arith) in
    let scale : m.most_scale ≤ rest = (let e = c.max-2.ensures in omega arith) in
    record {
      norm = norm;
      rows = c.in_ok-norm.ensures.norm;
      most = most;
      number = let e = c.max-most.ensures in omega arith;
      den = let e = c.max-most.ensures in omega arith;
      top = top;
      row = le_trans (mul-le-mul_right m.most_scale sized) scaled;
      own = let h : 1 * m.most_scale ≤ size * m.most_scale = mul-le-mul_right m.most_scale some in omega arith;
      pivots = let t = c.max-3.ensures in omega arith;
      firsts = le_trans (mul-le-mul_left most_variables (mul-le-mul_left most side)) terms;
      seconds = le_trans (mul-le-mul_left most_variables (mul-le-mul_left most scale)) terms;
    }
