use Rattle.std.proofs.Common.{rules, [], ◌∷◌, ◌≡◌, ℤ, pos, ◌+◌, ◌*◌, ◌<◌, ◌+ℤ◌, ◌*ℤ◌, sym, ◌∙◌, ap, subst, arith, get_or, length, le_refl, to_z, of_z, FitsSigned}
use Rattle.std.specs.Int.{w64, w128}
use Rattle.std.proofs.lemmas.Int.{to_z-of_z}
use Rattle.mpc_exact.proofs.IntRing.{int_reads, by_ring_ℤ}
use Rattle.mpc_scaled.specs.Scaled.{whole_at, whole_cell}
use Rattle.mpc_runs.proofs.WholeLists.{set_above, set_below}
use Rattle.mpc_whole.proofs.WholeExchange.{row_inside}
use Rattle.mpc_whole.proofs.wide_values.add_column.Goals as goal

turned_round : (x y : ℤ) → x *ℤ y ≡ y *ℤ x
turned_round x y = by_ring_ℤ (x ∷ y ∷ []) (search int_reads depth 30) (search int_reads depth 30) tt

pub loop-unknown-preserved : goal.loop-unknown-preserved
loop-unknown-preserved c =
    let w = length c.args.list.now in
    let j = c.loop-unknown.unknown in
    let v = c.args.numbers.now in
    let b : j < length c.loop-unknown.list = (let q : length c.loop-unknown.list ≡ w = c.loop-unknown.auto.list in let t = c.loop-unknown-test.true in omega arith) in
    let fv : FitsSigned w128 (get_or v (j * w + c.args.column) (pos 0)) = search rules in
    let ft : FitsSigned w128 c.in_ok-term.term = search rules in
    let fl : FitsSigned w128 (get_or c.loop-unknown.list j (pos 0)) = search rules in
    let factor = to_z w64 (of_z w64 c.args.factor) in
    let term : to_z w128 (of_z w128 c.in_ok-term.term) ≡ whole_cell w v j c.args.column *ℤ factor =
    to_z-of_z w128 _ ft ∙ c.in_ok-term.ensures ∙ ap (λ u. factor *ℤ u) (to_z-of_z w128 _ fv) ∙ turned_round factor (whole_cell w v j c.args.column)
    in
    let old : to_z w128 (of_z w128 (get_or c.loop-unknown.list j (pos 0))) ≡ whole_at c.args.list.now j = to_z-of_z w128 _ fl ∙ c.loop-unknown.invariant.kept j (le_refl j) in
    let sum = to_z-of_z w128 c.in_ok-sum.sum (subst (FitsSigned w128) (sym c.in_ok-sum.ensures.1) c.in_ok-sum.ensures.0) ∙ c.in_ok-sum.ensures.1 ∙ (λ i. old i +ℤ term i) in
    record {
      done = set_below c.loop-unknown.list j (to_z w128 (of_z w128 c.in_ok-sum.sum)) b (λ k. whole_at c.args.list.now k +ℤ (whole_cell w v k c.args.column *ℤ factor)) c.loop-unknown.invariant.done sum;
      kept = set_above c.loop-unknown.list j (to_z w128 (of_z w128 c.in_ok-sum.sum)) b c.args.list.now c.loop-unknown.invariant.kept;
    }

pub returns : goal.returns
returns c = λ j h.
    let f : FitsSigned w64 c.args.factor = search rules in
    c.loop-unknown.invariant.done j (let t = c.loop-unknown-test.false in omega arith) ∙ ap (λ u. whole_at c.args.list.now j +ℤ (whole_cell (length c.args.list.now) c.args.numbers.now j c.args.column *ℤ u)) (to_z-of_z w64 _ f)

pub overflow_mul-unknown : goal.overflow_mul-unknown
overflow_mul-unknown c = let r = row_inside (length c.args.list.now) c.loop-unknown.unknown c.args.column (length c.args.numbers.now) c.requires.square c.loop-unknown-test.true c.requires.column in omega arith

pub overflow_add-unknown : goal.overflow_add-unknown
overflow_add-unknown c = let r = row_inside (length c.args.list.now) c.loop-unknown.unknown c.args.column (length c.args.numbers.now) c.requires.square c.loop-unknown-test.true c.requires.column in omega arith

pub offset_bounds-numbers-unknown : goal.offset_bounds-numbers-unknown
offset_bounds-numbers-unknown c = let r = row_inside (length c.args.list.now) c.loop-unknown.unknown c.args.column (length c.args.numbers.now) c.requires.square c.loop-unknown-test.true c.requires.column in omega arith

pub bounds-numbers-unknown : goal.bounds-numbers-unknown
bounds-numbers-unknown c = row_inside (length c.args.list.now) c.loop-unknown.unknown c.args.column (length c.args.numbers.now) c.requires.square c.loop-unknown-test.true c.requires.column
