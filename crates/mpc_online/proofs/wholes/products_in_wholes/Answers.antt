use Rattle.std.proofs.Common.{◌≡◌, ◌<◌, ◌≤◌, ◌^◌, ℤ, [], Option, IfSome, length, get_or, unsigned_abs, to_z, of_z, refl, sym, ◌∙◌, ap, subst, arith}
use Rattle.std.specs.Int.{w128}
use Rattle.mpc_exact.specs.Rational.{frac}
use Rattle.mpc_space.specs.Vector.{coordinate, mat_vec}
use Rattle.mpc_space.specs.Matrix.{height}
use Rattle.mpc_space.proofs.Matrix.{length-mat_vec, coordinate-mat_vec}
use Rattle.mpc_wholes.specs.declared.numbers.Wholes.{Wholes}
use Rattle.mpc_wholes.specs.Wholes.{IsOver}
use Rattle.mpc_online.proofs.WholeDots.{read_wide}
use Rattle.mpc_online.proofs.WholePoints.{row_read}
use Rattle.mpc_online.proofs.WholeMoves.{found_more}
use Rattle.mpc_online.proofs.wholes.products_in_wholes.Goals as goal

pub loop-index-preserved : goal.loop-index-preserved
loop-index-preserved c =
    let z : ℤ = to_z w128 (of_z w128 c.in_ok-numerator.numerator) in
    let s = c.in_ok-numerator.ensures.small in
    let back = read_wide c.in_ok-numerator.numerator (omega (arith, s)) in
    let size : unsigned_abs z ≤ 2 ^ 124 = subst (λ u. unsigned_abs u ≤ 2 ^ 124) (sym back) s in
    let m = c.max-most.ensures in
    let e : c.unsigned_abs.result ≡ unsigned_abs z = c.unsigned_abs.ensures.value in
    let all = c.requires.rows.size in
    let there : c.loop-index.index < length c.args.rows.now = c.loop-index-test.true in
    let within : c.loop-index.index < height c.args.matrix.now = omega (arith, all, there) in
    let few = c.requires.few_rows in
    let over : IfSome c.index-rows-index.result (IsOver (get_or c.args.matrix.now.rows c.loop-index.index [])) =
    subst (λ (o : Option Wholes). IfSome o (IsOver (get_or c.args.matrix.now.rows c.loop-index.index []))) (sym (row_read c.args.rows.now c.loop-index.index c.index-rows-index.result there c.index-rows-index.is)) (c.requires.rows.at c.loop-index.index within) in
    found_more (2 ^ 124) (λ j v. coordinate (mat_vec c.args.matrix.now.rows c.args.list.now) j ≡ frac v c.in_ok-den.den) c.in_ok-den.den c.loop-index.numerators c.loop-index.most c.loop-index.index c.max-most.result z
    (omega (arith, within, few)) (omega (arith, m)) (omega (arith, m, e)) (let room = c.loop-index.invariant.most_small in omega (arith, m, e, room, size))
    (coordinate-mat_vec c.args.matrix.now.rows c.args.list.now c.loop-index.index
    ∙ c.in_ok-numerator.ensures.value (get_or c.args.matrix.now.rows c.loop-index.index []) c.args.list.now over c.in_ok-numbers.ensures (c.requires.rectangular c.loop-index.index [] within ∙ c.requires.size) refl
    ∙ ap (λ u. frac u c.in_ok-den.den) (sym back)) c.loop-index.invariant

pub returns : goal.returns
returns c =
    let l = length-mat_vec c.args.matrix.now.rows c.args.list.now in
    let few = c.requires.few_rows in
    let six = c.loop-index.invariant.size in
    let all = c.requires.rows.size in
    record {
      few = omega (arith, l, few, six);
      entries = λ k h. c.loop-index.invariant.entries k (omega (arith, h, l, all, c.loop-index-test.false));
    }
