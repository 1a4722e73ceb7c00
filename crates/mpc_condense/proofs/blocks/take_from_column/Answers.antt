use Rattle.std.proofs.Common.{◌≡◌, ℕ, ◌+◌, ◌-◌, arith, rules, sym, ◌∙◌, ap, length, pos, refl}
use Rattle.std.proofs.lemmas.List.{get_or_read_under}
use Rattle.std.proofs.lemmas.Result.{MatchResult-from_err}
use Rattle.mpc_exact.specs.Rational.{ℚ, int, ◌-ℚ◌, neg_ℚ}
use Rattle.mpc_frac.specs.Fits.{FitsSum}
use Rattle.mpc_space.specs.Vector.{coordinate}
use Rattle.mpc_space.specs.Matrix.{entry}
use Rattle.mpc_condense.proofs.Writing.{writes_no_row, writes_to, writes_first_of_row, unwritten_row, all_no_row, all_to, all_first_of_row, not_first_of_row, difference_is, fits_difference_as}
use Rattle.mpc_condense.proofs.blocks.take_from_column.Goals as goal

pub loop-i-init : goal.loop-i-init
loop-i-init c = record {
  written = writes_to c.args.out.now c.args.out.now c.args.first c.args.first 0 1 (c.args.first + 0) 1 _ (omega arith) (omega arith) (writes_no_row c.args.out.now c.args.first 0 1 _ c.rows-rows.ensures.rectangular);
  fits = all_to c.args.first c.args.first 0 1 (c.args.first + 0) 1 _ (omega arith) (omega arith) (all_no_row c.args.first 0 1 _);
}

pub loop-i-preserved : goal.loop-i-preserved
loop-i-preserved c =
    let r = c.args.first + c.loop-i.i in
    let back : r - c.args.first ≡ c.loop-i.i = omega arith in
    let f : ℕ → ℕ → ℚ = λ a b. entry c.args.out.now a b -ℚ coordinate c.args.vector.now (a - c.args.first) in
    let g = c.get.ensures ∙ unwritten_row c.args.out.now c.loop-i.out c.args.first r 0 1 f 0 c.loop-i.invariant.written in
    let p = get_or_read_under c.args.vector.now c.loop-i.i (length c.args.vector.now) c.index-vector-i.result (int (pos 0)) c.index-vector-i.is (omega arith) refl ∙ ap (coordinate c.args.vector.now) (sym back) in
    record {
      written = writes_first_of_row c.args.out.now c.loop-i.out c.set.new.self c.args.first r (c.args.first + (c.loop-i.i + 1)) c.in_ok-difference.difference f c.set.ensures (omega arith) (omega arith) (omega arith) c.requires.column
          (difference_is c.get.result c.index-vector-i.result c.in_ok-difference.difference _ _ g p c.in_ok-difference.ensures.value) c.loop-i.invariant.written;
      fits = all_first_of_row c.args.first r (c.args.first + (c.loop-i.i + 1)) _ (omega arith) (omega arith) (fits_difference_as c.get.result c.index-vector-i.result _ _ g p c.in_ok-difference.ensures.wide) c.loop-i.invariant.fits;
    }

pub returns-in_err-difference-clause-wide : goal.returns-in_err-difference-clause-wide
returns-in_err-difference-clause-wide c =
    let r = c.args.first + c.loop-i.i in
    let back : r - c.args.first ≡ c.loop-i.i = omega arith in
    let f : ℕ → ℕ → ℚ = λ a b. entry c.args.out.now a b -ℚ coordinate c.args.vector.now (a - c.args.first) in
    let g = c.get.ensures ∙ unwritten_row c.args.out.now c.loop-i.out c.args.first r 0 1 f 0 c.loop-i.invariant.written in
    let p = get_or_read_under c.args.vector.now c.loop-i.i (length c.args.vector.now) c.index-vector-i.result (int (pos 0)) c.index-vector-i.is (omega arith) refl ∙ ap (coordinate c.args.vector.now) (sym back) in
    MatchResult-from_err c.from_residual.result _ _ (search rules)
    (λ _. not_first_of_row c.args.first (c.args.first + length c.args.vector.now) r (λ a b. FitsSum (entry c.args.out.now a b) (neg_ℚ (coordinate c.args.vector.now (a - c.args.first)))) (omega arith) (omega arith)
    (λ h. c.in_err-difference.ensures.wide (fits_difference_as _ _ c.get.result c.index-vector-i.result (sym g) (sym p) h)))
