use Rattle.std.proofs.Common.{rules, ◌∙◌, ◌≡◌, ◌+◌, ◌*◌, ◌*ℤ◌, pos, get_or, length, arith, FitsSigned}
use Rattle.std.specs.Int.{w64}
use Rattle.std.proofs.lemmas.Int.{to_z-of_z}
use Rattle.mpc_scaled.specs.Scaled.{whole_at, whole_cell}
use Rattle.mpc_runs.proofs.WholeWidths.{back64}
use Rattle.mpc_quotients.proofs.WholeWraps.{first_wrapped, next_wrapped, unwrapped}
use Rattle.mpc_quotients.proofs.whole_numbers.short_row_times.Goals as goal

pub loop-place-init : goal.loop-place-init
loop-place-init c = first_wrapped _

pub loop-place-preserved : goal.loop-place-preserved
loop-place-preserved c =
    let f : FitsSigned w64 (get_or c.args.matrix.now (c.args.row * length c.args.vector.now + c.loop-place.place) (pos 0)) = search rules in
    let g : FitsSigned w64 (get_or c.args.vector.now c.loop-place.place (pos 0)) = search rules in
    next_wrapped c.loop-place.place (λ j. whole_cell (length c.args.vector.now) c.args.matrix.now c.args.row j *ℤ whole_at c.args.vector.now j) _ _ _ c.loop-place.invariant (λ k. to_z-of_z w64 _ f k *ℤ to_z-of_z w64 _ g k) (back64 _ c.wrapped-total.type_inv ∙ c.wrapped-total.ensures)

pub returns : goal.returns
returns c =
    let e : c.loop-place.place ≡ length c.args.vector.now = (let a = c.loop-place.auto.place-end in let b = c.loop-place-test.false in omega arith) in
    unwrapped c.loop-place.place (length c.args.vector.now) (λ j. whole_cell (length c.args.vector.now) c.args.matrix.now c.args.row j *ℤ whole_at c.args.vector.now j) _ c.loop-place.invariant e c.requires.result_small
