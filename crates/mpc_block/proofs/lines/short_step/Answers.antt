use Rattle.std.proofs.Common.{rules, ◌+ℤ◌, ◌*ℤ◌, FitsSigned, to_z, ◌∙◌}
use Rattle.std.specs.Int.{int_wrap, w64}
use Rattle.mpc_block.proofs.WrapLemmas.{short_wrapped, by_count}
use Rattle.mpc_block.proofs.lines.short_step.Goals as goal

pub returns : goal.returns
returns c =
    let f : FitsSigned w64 c.cast_signed.result = search rules in
    let g : FitsSigned w64 c.cast_signed-2.result = search rules in
    short_wrapped c.args.sum c.cast_signed.result c.cast_signed-2.result c.ranges.sum f g
    ∙ (λ i. int_wrap w64 (c.args.sum +ℤ c.cast_signed.ensures i *ℤ c.cast_signed-2.ensures i)) ∙ by_count c.args.sum (to_z w64 c.args.entry) c.args.count c.ranges.count.fits
