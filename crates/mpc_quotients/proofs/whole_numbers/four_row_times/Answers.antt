use Rattle.std.proofs.Common.{rules, sym, ◌∙◌, ◌≡◌, ◌+◌, ◌*◌, ◌*ℤ◌, pos, get_or, length, ap, arith, FitsSigned}
use Rattle.std.specs.Int.{w64}
use Rattle.std.proofs.lemmas.Int.{to_z-of_z}
use Rattle.mpc_scaled.specs.Scaled.{whole_at, whole_cell}
use Rattle.mpc_runs.proofs.WholeWidths.{back64}
use Rattle.mpc_quotients.proofs.WholeWraps.{four_wrapped}
use Rattle.mpc_quotients.proofs.whole_numbers.four_row_times.Goals as goal

pub returns : goal.returns
returns c =
    let f0 : FitsSigned w64 (get_or c.args.matrix.now (c.args.row * 4) (pos 0)) = search rules in
    let g0 : FitsSigned w64 (get_or c.args.vector.now 0 (pos 0)) = search rules in
    let p0 : c.args.row * 4 ≡ c.args.row * length c.args.vector.now + 0 = (let e : c.args.row * 4 ≡ c.args.row * length c.args.vector.now = ap (λ m. c.args.row * m) (sym c.requires.four) in omega arith) in
    let f1 : FitsSigned w64 (get_or c.args.matrix.now (c.args.row * 4 + 1) (pos 0)) = search rules in
    let g1 : FitsSigned w64 (get_or c.args.vector.now 1 (pos 0)) = search rules in
    let p1 : c.args.row * 4 + 1 ≡ c.args.row * length c.args.vector.now + 1 = (let e : c.args.row * 4 ≡ c.args.row * length c.args.vector.now = ap (λ m. c.args.row * m) (sym c.requires.four) in omega arith) in
    let f2 : FitsSigned w64 (get_or c.args.matrix.now (c.args.row * 4 + 2) (pos 0)) = search rules in
    let g2 : FitsSigned w64 (get_or c.args.vector.now 2 (pos 0)) = search rules in
    let p2 : c.args.row * 4 + 2 ≡ c.args.row * length c.args.vector.now + 2 = (let e : c.args.row * 4 ≡ c.args.row * length c.args.vector.now = ap (λ m. c.args.row * m) (sym c.requires.four) in omega arith) in
    let f3 : FitsSigned w64 (get_or c.args.matrix.now (c.args.row * 4 + 3) (pos 0)) = search rules in
    let g3 : FitsSigned w64 (get_or c.args.vector.now 3 (pos 0)) = search rules in
    let p3 : c.args.row * 4 + 3 ≡ c.args.row * length c.args.vector.now + 3 = (let e : c.args.row * 4 ≡ c.args.row * length c.args.vector.now = ap (λ m. c.args.row * m) (sym c.requires.four) in omega arith) in
    four_wrapped (length c.args.vector.now) (λ j. whole_cell (length c.args.vector.now) c.args.matrix.now c.args.row j *ℤ whole_at c.args.vector.now j) _ _ _ _ _ _ _ _ c.requires.four c.requires.result_small
    (λ k. (to_z-of_z w64 _ f0 ∙ ap (whole_at c.args.matrix.now) p0) k *ℤ to_z-of_z w64 _ g0 k)
    (λ k. (to_z-of_z w64 _ f1 ∙ ap (whole_at c.args.matrix.now) p1) k *ℤ to_z-of_z w64 _ g1 k)
    (λ k. (to_z-of_z w64 _ f2 ∙ ap (whole_at c.args.matrix.now) p2) k *ℤ to_z-of_z w64 _ g2 k)
    (λ k. (to_z-of_z w64 _ f3 ∙ ap (whole_at c.args.matrix.now) p3) k *ℤ to_z-of_z w64 _ g3 k)
    (back64 _ c.wrapped-one.type_inv ∙ c.wrapped-one.ensures) (back64 _ c.wrapped-two.type_inv ∙ c.wrapped-two.ensures) (back64 _ c.wrapped-three.type_inv ∙ c.wrapped-three.ensures) (back64 _ c.wrapped.type_inv ∙ c.wrapped.ensures)
