use Rattle.std.proofs.Common.{rules, refl, ◌∙◌, ◌≡◌, ◌+◌, ◌*◌, ◌*ℤ◌, pos, get_or, ap, arith, FitsSigned}
use Rattle.std.specs.Int.{w64}
use Rattle.std.proofs.lemmas.Int.{to_z-of_z}
use Rattle.mpc_scaled.specs.Scaled.{whole_at, whole_cell}
use Rattle.mpc_runs.proofs.WholeWidths.{back64}
use Rattle.mpc_quotients.proofs.WholeWraps.{four_wrapped}
use Rattle.mpc_quotients.proofs.whole_numbers.four_row_times_column.Goals as goal

pub returns : goal.returns
returns c =
    let f0 : FitsSigned w64 (get_or c.args.matrix.now (c.args.row * 4) (pos 0)) = search rules in
    let g0 : FitsSigned w64 (get_or c.args.numbers.now c.args.column (pos 0)) = search rules in
    let f1 : FitsSigned w64 (get_or c.args.matrix.now (c.args.row * 4 + 1) (pos 0)) = search rules in
    let g1 : FitsSigned w64 (get_or c.args.numbers.now (c.args.column + 4) (pos 0)) = search rules in
    let f2 : FitsSigned w64 (get_or c.args.matrix.now (c.args.row * 4 + 2) (pos 0)) = search rules in
    let g2 : FitsSigned w64 (get_or c.args.numbers.now (c.args.column + 8) (pos 0)) = search rules in
    let f3 : FitsSigned w64 (get_or c.args.matrix.now (c.args.row * 4 + 3) (pos 0)) = search rules in
    let g3 : FitsSigned w64 (get_or c.args.numbers.now (c.args.column + 12) (pos 0)) = search rules in
    let p0 : c.args.row * 4 ≡ c.args.row * 4 + 0 = omega arith in
    let q1 : c.args.column + 4 ≡ 1 * 4 + c.args.column = omega arith in
    let q2 : c.args.column + 8 ≡ 2 * 4 + c.args.column = omega arith in
    let q3 : c.args.column + 12 ≡ 3 * 4 + c.args.column = omega arith in
    let q0 : c.args.column ≡ 0 * 4 + c.args.column = omega arith in
    four_wrapped 4 (λ j. whole_cell 4 c.args.matrix.now c.args.row j *ℤ whole_cell 4 c.args.numbers.now j c.args.column) _ _ _ _ _ _ _ _ refl c.requires.result_small
    (λ k. (to_z-of_z w64 _ f0 ∙ ap (whole_at c.args.matrix.now) p0) k *ℤ (to_z-of_z w64 _ g0 ∙ ap (whole_at c.args.numbers.now) q0) k)
    (λ k. to_z-of_z w64 _ f1 k *ℤ (to_z-of_z w64 _ g1 ∙ ap (whole_at c.args.numbers.now) q1) k)
    (λ k. to_z-of_z w64 _ f2 k *ℤ (to_z-of_z w64 _ g2 ∙ ap (whole_at c.args.numbers.now) q2) k)
    (λ k. to_z-of_z w64 _ f3 k *ℤ (to_z-of_z w64 _ g3 ∙ ap (whole_at c.args.numbers.now) q3) k)
    (back64 _ c.wrapped-one.type_inv ∙ c.wrapped-one.ensures) (back64 _ c.wrapped-two.type_inv ∙ c.wrapped-two.ensures) (back64 _ c.wrapped-three.type_inv ∙ c.wrapped-three.ensures) (back64 _ c.wrapped.type_inv ∙ c.wrapped.ensures)
