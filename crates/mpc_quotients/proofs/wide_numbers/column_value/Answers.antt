use Rattle.std.proofs.Common.{rules, sym, subst, ◌∙◌, ◌+◌, ◌*◌, ◌+ℤ◌, ◌*ℤ◌, pos, get_or, ◌≡◌, to_z, of_z, FitsSigned}
use Rattle.std.specs.Int.{w64, w128}
use Rattle.std.proofs.lemmas.Int.{to_z-of_z}
use Rattle.mpc_scaled.specs.Scaled.{whole_cell}
use Rattle.mpc_runs.proofs.WholeSums.{whole_total-zero, whole_total-next}
use Rattle.mpc_quotients.proofs.wide_numbers.column_value.Goals as goal

pub loop-place-init : goal.loop-place-init
loop-place-init c = sym (whole_total-zero _)

pub loop-place-preserved : goal.loop-place-preserved
loop-place-preserved c =
    let f : FitsSigned w64 (get_or c.args.matrix.now (c.args.row * c.args.width + c.loop-place.place) (pos 0)) = search rules in
    let g : FitsSigned w128 (get_or c.args.numbers.now (c.loop-place.place * c.args.width + c.args.column) (pos 0)) = search rules in
    let t : FitsSigned w128 c.in_ok-term.term = search rules in
    let term : to_z w128 (of_z w128 c.in_ok-term.term) ≡ whole_cell c.args.width c.args.matrix.now c.args.row c.loop-place.place *ℤ whole_cell c.args.width c.args.numbers.now c.loop-place.place c.args.column =
    to_z-of_z w128 _ t ∙ c.in_ok-term.ensures ∙ (λ k. to_z-of_z w64 _ f k *ℤ to_z-of_z w128 _ g k)
    in
    to_z-of_z w128 c.in_ok-total.total (subst (FitsSigned w128) (sym c.in_ok-total.ensures.1) c.in_ok-total.ensures.0) ∙ c.in_ok-total.ensures.1 ∙ (λ k. c.loop-place.invariant k +ℤ term k)
    ∙ sym (whole_total-next c.loop-place.place (λ j. whole_cell c.args.width c.args.matrix.now c.args.row j *ℤ whole_cell c.args.width c.args.numbers.now j c.args.column))
