use Rattle.std.proofs.Common.{rules, ◌≡◌, pos, ◌+◌, ◌-◌, ◌*◌, ◌<◌, ◌≤◌, ◌+ℤ◌, ◌*ℤ◌, sym, ◌∙◌, ap, length, subst, arith, get_or, to_z, of_z, FitsSigned}
use Rattle.std.specs.Int.{w64, w128}
use Rattle.std.proofs.lemmas.Int.{to_z-of_z}
use Rattle.mpc_exact.specs.Rational.{frac}
use Rattle.mpc_space.specs.Total.{total}
use Rattle.mpc_space.proofs.Total.{total-zero}
use Rattle.mpc_rows.specs.LinearSystem.{height}
use Rattle.mpc_rows.specs.Run.{rest, bound}
use Rattle.mpc_runs.specs.Table.{variable_at}
use Rattle.mpc_scaled.specs.Scaled.{whole_at, whole_cell, scale_at}
use Rattle.mpc_whole.proofs.ColumnSums.{first_is, second_is, unknown_skipped, side_more}
use Rattle.mpc_runs.proofs.Fits.{first_nought, second_nought}
use Rattle.mpc_runs.proofs.Table.{first_terms, second_terms}
use Rattle.mpc_runs.proofs.WholeWidths.{back128, both_back, read_small}
use Rattle.mpc_runs.proofs.WholeSums.{zero_over}
use Rattle.mpc_whole.proofs.WholeExchange.{rows_in}
use Rattle.mpc_whole.proofs.WholeSteps.{rest_first, rest_second}
use Rattle.mpc_whole.proofs.whole_values.value_of.Goals as goal
use Rattle.mpc_whole.proofs.whole_values.value_of.Goals.{After-unknowns-width}

pub loop-column-init : goal.loop-column-init
loop-column-init c = record {
  firsts = λ seats z a p d t f h. total-zero _ ∙ sym (zero_over d f.some);
  seconds = λ seats z a p d t f h. total-zero _ ∙ sym (zero_over d f.some);
}

-- an unknown rests at 0
pub loop-column-preserved-then-variable-width : goal.loop-column-preserved-then-variable-width
loop-column-preserved-then-variable-width c =
    let s = c.args.system.now in
    let k = c.args.frame.now.scales.now in
    let v = c.args.numbers.now in
    let columns = c.args.nonbasic.now in
    let n = c.args.frame.now.count in
    let h : c.loop-column.column < s.width = subst (λ w. c.loop-column.column < w) c.unknowns-width.ensures c.loop-column-test.true in
    let low : variable_at columns c.loop-column.column < s.width = subst (λ w. variable_at columns c.loop-column.column < w) c.unknowns-width.ensures c.if-variable-width.true in
    record {
      firsts = λ seats z a p d t f q. unknown_skipped s n seats columns z a k v p d t f c.args.unknown (λ y. (rest s y).first) c.loop-column.column h _ (c.loop-column.invariant.firsts seats z a p d t f q) (first_nought s p c.args.unknown (variable_at columns c.loop-column.column) low);
      seconds = λ seats z a p d t f q. unknown_skipped s n seats columns z a k v p d t f c.args.unknown (λ y. (rest s y).second) c.loop-column.column h _ (c.loop-column.invariant.seconds seats z a p d t f q) (second_nought s p c.args.unknown (variable_at columns c.loop-column.column) low);
    }

pub loop-column-preserved : goal.loop-column-preserved
loop-column-preserved c =
    let s = c.args.system.now in
    let k = c.args.frame.now.scales.now in
    let b = c.args.frame.now.b.now in
    let v = c.args.numbers.now in
    let columns = c.args.nonbasic.now in
    let n = c.args.frame.now.count in
    let y = variable_at columns c.loop-column.column in
    let e : c.unknowns-width.result ≡ s.width = c.unknowns-width.ensures in
    let h : c.loop-column.column < s.width = subst (λ w. c.loop-column.column < w) e c.loop-column-test.true in
    let low : s.width ≤ y = subst (λ w. w ≤ y) e c.if-variable-width.false in
    let below : y < n = c.requires.below c.loop-column.column h in
    let side : y - s.width < height s = (let q = c.requires.numbers.count in omega arith) in
    let scale : 0 < scale_at k y = c.requires.numbers.whole.scales.some y (let q = c.requires.numbers.count in omega arith) in
    let there : s.width + (y - c.unknowns-width.result) ≡ y = omega arith in
    let factor_fits : FitsSigned w64 (get_or v (c.args.unknown * c.unknowns-width.result + c.loop-column.column) (pos 0)) = search rules in
    let bound_fits : FitsSigned w64 (get_or b (y - c.unknowns-width.result) (pos 0)) = search rules in
    let step_fits : FitsSigned w64 c.step_of-step.result = search rules in
    let product : to_z w128 (of_z w128 c.product.result) ≡ whole_cell s.width v c.args.unknown c.loop-column.column *ℤ whole_at b (y - s.width) =
    back128 _ c.product.type_inv ∙ both_back _ _ _ factor_fits bound_fits c.product.ensures ∙ ap (λ w. whole_cell w v c.args.unknown c.loop-column.column *ℤ whole_at b (y - w)) e
    in
    let step_product : to_z w128 (of_z w128 c.product-in-loop-column.result) ≡ whole_cell s.width v c.args.unknown c.loop-column.column *ℤ c.step_of-step.result =
    back128 _ c.product-in-loop-column.type_inv ∙ both_back _ _ _ factor_fits step_fits c.product-in-loop-column.ensures ∙ ap (λ w. whole_cell w v c.args.unknown c.loop-column.column *ℤ c.step_of-step.result) e
    in
    let first = to_z-of_z w128 c.in_ok-first.first (subst (FitsSigned w128) (sym c.in_ok-first.ensures.1) c.in_ok-first.ensures.0) ∙ c.in_ok-first.ensures.1 ∙ ap (λ u. to_z w128 c.loop-column.first-bits +ℤ u) product in
    let second = to_z-of_z w128 c.in_ok-second.second (subst (FitsSigned w128) (sym c.in_ok-second.ensures.1) c.in_ok-second.ensures.0) ∙ c.in_ok-second.ensures.1 ∙ ap (λ u. to_z w128 c.loop-column.second-bits +ℤ u) step_product in
    let step = rest_second s y low ∙ ap (λ w. (bound s (s.width + (y - w))).second) (sym e) ∙ c.step_of-step.ensures.value ∙ ap (λ m. frac c.step_of-step.result (scale_at k m)) there in
    record {
      firsts = λ seats z a p d t f q. side_more s n seats columns z a k v p d t f c.args.unknown (λ m. (rest s m).first) c.loop-column.column h _ (c.loop-column.invariant.firsts seats z a p d t f q) (whole_at b (y - s.width)) _ c.requires.unknown scale (rest_first s y low k b q side) first;
      seconds = λ seats z a p d t f q. side_more s n seats columns z a k v p d t f c.args.unknown (λ m. (rest s m).second) c.loop-column.column h _ (c.loop-column.invariant.seconds seats z a p d t f q) c.step_of-step.result _ c.requires.unknown scale step second;
    }

pub returns-clause-value : goal.returns-clause-value
returns-clause-value c =
    let s = c.args.system.now in
    let k = c.args.frame.now.scales.now in
    let v = c.args.numbers.now in
    let columns = c.args.nonbasic.now in
    let n = c.args.frame.now.count in
    let j = c.args.unknown in
    let all : c.loop-column.column ≡ s.width = (let a = c.loop-column.auto.column-end in let t = c.loop-column-test.false in let e = c.unknowns-width.ensures in omega arith) in
    let first : to_z w64 (of_z w64 c.in_ok-small.field-0) ≡ to_z w128 c.loop-column.first-bits = read_small _ c.in_ok-small.ensures.small ∙ c.in_ok-small.ensures.value in
    let second : to_z w64 (of_z w64 c.in_ok-small-2.field-0) ≡ to_z w128 c.loop-column.second-bits = read_small _ c.in_ok-small-2.ensures.small ∙ c.in_ok-small-2.ensures.value in
    record {
      first = λ seats z a p d t f h. sym (first_is s n seats columns z a k v p d t f j) ∙ ap (λ m. total m (λ x. first_terms s p j (variable_at columns x))) (sym all) ∙ c.loop-column.invariant.firsts seats z a p d t f h ∙ ap (λ u. frac u d) (sym first);
      second = λ seats z a p d t f h. sym (second_is s n seats columns z a k v p d t f j) ∙ ap (λ m. total m (λ x. second_terms s p j (variable_at columns x))) (sym all) ∙ c.loop-column.invariant.seconds seats z a p d t f h ∙ ap (λ u. frac u d) (sym second);
    }

-- the row of the unknown
row_in : (c : After-unknowns-width) → c.args.unknown * c.unknowns-width.result + c.unknowns-width.result ≤ length c.args.numbers.now
row_in c =
    subst (λ w. c.args.unknown * w + w ≤ length c.args.numbers.now) (sym c.unknowns-width.ensures)
    (rows_in c.args.system.now.width c.args.unknown c.args.system.now.width (length c.args.numbers.now) c.requires.unknown c.requires.square)

pub overflow_mul-from : goal.overflow_mul-from
overflow_mul-from c = let r = row_in (goal.at.overflow_mul-from c).After-unknowns-width in omega arith

pub overflow_add-factor : goal.overflow_add-factor
overflow_add-factor c = let r = row_in (goal.at.overflow_add-factor c).After-unknowns-width in omega arith

pub offset_bounds-numbers-from : goal.offset_bounds-numbers-from
offset_bounds-numbers-from c = let r = row_in (goal.at.offset_bounds-numbers-from c).After-unknowns-width in omega arith

pub bounds-numbers-from : goal.bounds-numbers-from
bounds-numbers-from c = let r = row_in (goal.at.bounds-numbers-from c).After-unknowns-width in omega arith

pub bounds-frame-side : goal.bounds-frame-side
bounds-frame-side c = let b = c.requires.below c.loop-column.column (subst (λ w. c.loop-column.column < w) c.unknowns-width.ensures c.loop-column-test.true) in let q = c.requires.numbers.count in let e = c.unknowns-width.ensures in let l = c.requires.numbers.whole.sides_size in omega arith

pub offset_bounds-frame-side : goal.offset_bounds-frame-side
offset_bounds-frame-side c = let b = c.requires.below c.loop-column.column (subst (λ w. c.loop-column.column < w) c.unknowns-width.ensures c.loop-column-test.true) in let q = c.requires.numbers.count in let e = c.unknowns-width.ensures in let l = c.requires.numbers.whole.sides_size in omega arith

pub step_of-step-requires-clause-side : goal.step_of-step-requires-clause-side
step_of-step-requires-clause-side c = let b = c.requires.below c.loop-column.column (subst (λ w. c.loop-column.column < w) c.unknowns-width.ensures c.loop-column-test.true) in let q = c.requires.numbers.count in let e = c.unknowns-width.ensures in let l = c.requires.numbers.whole.sides_size in omega arith

pub step_of-step-requires-clause-scales : goal.step_of-step-requires-clause-scales
step_of-step-requires-clause-scales c = c.requires.numbers.whole.scales
