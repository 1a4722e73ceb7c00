use Rattle.std.proofs.Common.{rules, sym, subst, ◌∙◌, ◌+◌, ◌*◌, ◌+ℤ◌, ◌*ℤ◌, pos, get_or, ◌≡◌, to_z, of_z, FitsSigned}
use Rattle.std.specs.Int.{w64, w128}
use Rattle.std.proofs.lemmas.Int.{to_z-of_z}
use Rattle.mpc_scaled.specs.Scaled.{whole_cell}
use Rattle.mpc_runs.proofs.WholeWidths.{back128, both_back}
use Rattle.mpc_runs.proofs.WholeSums.{whole_total-zero, whole_total-next}
use Rattle.mpc_whole.proofs.whole_ends.side_cell.Goals as goal

pub loop-unknown-init : goal.loop-unknown-init
loop-unknown-init c = sym (whole_total-zero _)

pub loop-unknown-preserved : goal.loop-unknown-preserved
loop-unknown-preserved c =
    let f : FitsSigned w64 (get_or c.args.entries.now (c.args.side * c.args.width + c.loop-unknown.unknown) (pos 0)) = search rules in
    let g : FitsSigned w64 (get_or c.args.numbers.now (c.loop-unknown.unknown * c.args.width + c.args.column) (pos 0)) = search rules in
    let term : to_z w128 (of_z w128 c.product.result) ≡ whole_cell c.args.width c.args.entries.now c.args.side c.loop-unknown.unknown *ℤ whole_cell c.args.width c.args.numbers.now c.loop-unknown.unknown c.args.column = back128 _ c.product.type_inv ∙ both_back _ _ _ f g c.product.ensures in
    to_z-of_z w128 c.in_ok-total.total (subst (FitsSigned w128) (sym c.in_ok-total.ensures.1) c.in_ok-total.ensures.0) ∙ c.in_ok-total.ensures.1 ∙ (λ k. c.loop-unknown.invariant k +ℤ term k)
    ∙ sym (whole_total-next c.loop-unknown.unknown (λ j. whole_cell c.args.width c.args.entries.now c.args.side j *ℤ whole_cell c.args.width c.args.numbers.now j c.args.column))
