use Rattle.std.proofs.Common.{rules, ◌≡◌, ℕ, ◌+◌, ◌-◌, ◌<◌, ◌≤◌, ◌+ℤ◌, ◌*ℤ◌, pos, length, sym, ◌∙◌, ap, subst, arith, get_or, FitsSigned}
use Rattle.std.specs.Int.{w64}
use Rattle.std.proofs.lemmas.Int.{to_z-of_z}
use Rattle.mpc_exact.specs.Rational.{frac}
use Rattle.mpc_space.specs.Total.{total}
use Rattle.mpc_space.proofs.Total.{total-zero}
use Rattle.mpc_rows.specs.LinearSystem.{height}
use Rattle.mpc_rows.specs.Run.{rest, bound}
use Rattle.mpc_runs.specs.Table.{variable_at}
use Rattle.mpc_scaled.specs.Scaled.{whole_at, whole_cell, scale_at}
use Rattle.mpc_whole.proofs.ColumnSums.{first_is, second_is, unknown_skipped, side_more}
use Rattle.mpc_runs.proofs.Fits.{first_nought, second_nought}
use Rattle.mpc_runs.proofs.Table.{first_terms, second_terms}
use Rattle.mpc_runs.proofs.WholeSums.{zero_over}
use Rattle.mpc_whole.proofs.WholeSteps.{rest_first, rest_second}
use Rattle.mpc_whole.proofs.wide_values.wide_stand.Goals as goal
use Rattle.mpc_whole.proofs.wide_values.wide_stand.Goals.{After-loop-column}

pub loop-column-init : goal.loop-column-init
loop-column-init c = record {
  firsts = λ seats z a p d t f h j l. total-zero _ ∙ sym (zero_over d f.some) ∙ ap (λ u. frac u d) (sym (c.clear_wide.ensures j));
  seconds = λ seats z a p d t f h j l. total-zero _ ∙ sym (zero_over d f.some) ∙ ap (λ u. frac u d) (sym (c.clear_wide-2.ensures j));
}

-- an unknown rests at 0
pub loop-column-preserved-then-variable-width : goal.loop-column-preserved-then-variable-width
loop-column-preserved-then-variable-width c =
    let s = c.args.system.now in
    let k = c.args.frame.now.scales.now in
    let v = c.args.numbers.now in
    let columns = c.args.nonbasic.now in
    let n = c.args.frame.now.count in
    let h : c.loop-column.column < s.width = subst (λ w. c.loop-column.column < w) c.unknowns-width.ensures c.loop-column-test.true in
    let low : variable_at columns c.loop-column.column < s.width = subst (λ w. variable_at columns c.loop-column.column < w) c.unknowns-width.ensures c.if-variable-width.true in
    record {
      firsts = λ seats z a p d t f q j l. unknown_skipped s n seats columns z a k v p d t f j (λ y. (rest s y).first) c.loop-column.column h _ (c.loop-column.invariant.firsts seats z a p d t f q j l) (first_nought s p j (variable_at columns c.loop-column.column) low);
      seconds = λ seats z a p d t f q j l. unknown_skipped s n seats columns z a k v p d t f j (λ y. (rest s y).second) c.loop-column.column h _ (c.loop-column.invariant.seconds seats z a p d t f q j l) (second_nought s p j (variable_at columns c.loop-column.column) low);
    }

pub loop-column-preserved : goal.loop-column-preserved
loop-column-preserved c =
    let s = c.args.system.now in
    let k = c.args.frame.now.scales.now in
    let b = c.args.frame.now.b.now in
    let v = c.args.numbers.now in
    let columns = c.args.nonbasic.now in
    let n = c.args.frame.now.count in
    let y = variable_at columns c.loop-column.column in
    let e : c.unknowns-width.result ≡ s.width = c.unknowns-width.ensures in
    let h : c.loop-column.column < s.width = subst (λ w. c.loop-column.column < w) e c.loop-column-test.true in
    let low : s.width ≤ y = subst (λ w. w ≤ y) e c.if-variable-width.false in
    let below : y < n = c.requires.below c.loop-column.column h in
    let side : y - s.width < height s = (let q = c.requires.numbers.count in omega arith) in
    let scale : 0 < scale_at k y = c.requires.numbers.whole.scales.some y (let q = c.requires.numbers.count in omega arith) in
    let there : s.width + (y - c.unknowns-width.result) ≡ y = omega arith in
    let bound_fits : FitsSigned w64 (get_or b (y - c.unknowns-width.result) (pos 0)) = search rules in
    let step_fits : FitsSigned w64 c.step_of-step.result = search rules in
    let long_1 : length c.loop-column.firsts ≡ s.width = (let q : length c.loop-column.firsts ≡ length c.clear_wide.new.list = c.loop-column.auto.firsts in q) ∙ (let q : length c.clear_wide.new.list ≡ length c.args.firsts.now = c.clear_wide.auto.list in q) ∙ c.requires.first_room in
    let long_2 : length c.loop-column.seconds ≡ s.width = (let q : length c.loop-column.seconds ≡ length c.clear_wide-2.new.list = c.loop-column.auto.seconds in q) ∙ (let q : length c.clear_wide-2.new.list ≡ length c.args.seconds.now = c.clear_wide-2.auto.list in q) ∙ c.requires.second_room in
    let first : (j : ℕ) → j < s.width → whole_at c.add_times.new.list j ≡ whole_at c.loop-column.firsts j +ℤ (whole_cell s.width v j c.loop-column.column *ℤ whole_at b (y - s.width)) =
    λ j l. c.in_ok-add_times.ensures j (subst (λ w. j < w) (sym long_1) l)
    ∙ (λ i. whole_at c.loop-column.firsts j +ℤ (whole_cell (long_1 i) v j c.loop-column.column *ℤ to_z-of_z w64 _ bound_fits i)) ∙ ap (λ w. whole_at c.loop-column.firsts j +ℤ (whole_cell s.width v j c.loop-column.column *ℤ whole_at b (y - w))) e
    in
    let second : (j : ℕ) → j < s.width → whole_at c.add_times-in-loop-column.new.list j ≡ whole_at c.loop-column.seconds j +ℤ (whole_cell s.width v j c.loop-column.column *ℤ c.step_of-step.result) =
    λ j l. c.in_ok-add_times-2.ensures j (subst (λ w. j < w) (sym long_2) l)
    ∙ (λ i. whole_at c.loop-column.seconds j +ℤ (whole_cell (long_2 i) v j c.loop-column.column *ℤ to_z-of_z w64 _ step_fits i))
    in
    let step = rest_second s y low ∙ ap (λ w. (bound s (s.width + (y - w))).second) (sym e) ∙ c.step_of-step.ensures.value ∙ ap (λ m. frac c.step_of-step.result (scale_at k m)) there in
    record {
      firsts = λ seats z a p d t f q j l. side_more s n seats columns z a k v p d t f j (λ m. (rest s m).first) c.loop-column.column h _ (c.loop-column.invariant.firsts seats z a p d t f q j l) (whole_at b (y - s.width)) _ l scale (rest_first s y low k b q side) (first j l);
      seconds = λ seats z a p d t f q j l. side_more s n seats columns z a k v p d t f j (λ m. (rest s m).second) c.loop-column.column h _ (c.loop-column.invariant.seconds seats z a p d t f q j l) c.step_of-step.result _ l scale step (second j l);
    }

all_of : (c : After-loop-column) → c.loop-column.column ≡ c.args.system.now.width
all_of c = let a = c.loop-column.auto.column-end in let t = c.loop-column-test.false in let e = c.unknowns-width.ensures in omega arith

pub returns : goal.returns
returns c = λ seats z a. record {
  each = λ p d t f h.
      let s = c.args.system.now in
      let n = c.args.frame.now.count in
      let k = c.args.frame.now.scales.now in
      let v = c.args.numbers.now in
      let columns = c.args.nonbasic.now in
      record {
        first = λ j l. sym (first_is s n seats columns z a k v p d t f j) ∙ ap (λ m. total m (λ x. first_terms s p j (variable_at columns x))) (sym (all_of c)) ∙ c.loop-column.invariant.firsts seats z a p d t f h j l;
        second = λ j l. sym (second_is s n seats columns z a k v p d t f j) ∙ ap (λ m. total m (λ x. second_terms s p j (variable_at columns x))) (sym (all_of c)) ∙ c.loop-column.invariant.seconds seats z a p d t f h j l;
      };
}

pub bounds-frame-side : goal.bounds-frame-side
bounds-frame-side c = let b = c.requires.below c.loop-column.column (subst (λ w. c.loop-column.column < w) c.unknowns-width.ensures c.loop-column-test.true) in let q = c.requires.numbers.count in let e = c.unknowns-width.ensures in let l = c.requires.numbers.whole.sides_size in omega arith

pub offset_bounds-frame-side : goal.offset_bounds-frame-side
offset_bounds-frame-side c = let b = c.requires.below c.loop-column.column (subst (λ w. c.loop-column.column < w) c.unknowns-width.ensures c.loop-column-test.true) in let q = c.requires.numbers.count in let e = c.unknowns-width.ensures in let l = c.requires.numbers.whole.sides_size in omega arith

pub step_of-step-requires-clause-side : goal.step_of-step-requires-clause-side
step_of-step-requires-clause-side c = let b = c.requires.below c.loop-column.column (subst (λ w. c.loop-column.column < w) c.unknowns-width.ensures c.loop-column-test.true) in let q = c.requires.numbers.count in let e = c.unknowns-width.ensures in let l = c.requires.numbers.whole.sides_size in omega arith

pub step_of-step-requires-clause-scales : goal.step_of-step-requires-clause-scales
step_of-step-requires-clause-scales c = c.requires.numbers.whole.scales
