use Rattle.std.proofs.Common.{rules, ◌<◌, pos, ◌+ℤ◌, ◌*ℤ◌, FitsSigned, to_z, get_or, refl, sym, ◌∙◌, ap, arith}
use Rattle.std.specs.Int.{int_wrap, w64}
use Rattle.mpc_table.specs.Forms.{weighed}
use Rattle.mpc_block.specs.declared.lines.Width.TheVariants.{Short}
use Rattle.mpc_block.specs.Words.{entries}
use Rattle.std.proofs.lemmas.Int.{to_z-of_z}
use Rattle.mpc_block.proofs.WrapLemmas.{wrap_step, wrap_end, entry_is}
use Rattle.mpc_block.proofs.lines.short_sum.Goals as goal

pub loop-i-init : goal.loop-i-init
loop-i-init c = refl

pub loop-i-preserved : goal.loop-i-preserved
loop-i-preserved c =
    let line = c.args.line.now in
    let counts = c.args.counts.now in
    let i = c.loop-i.i in
    let few : i < 4 = omega (arith, c.requires.few, c.loop-i-test.true) in
    let f : FitsSigned w64 c.short_step-sum.result = search rules in
    wrap_step w64 (entries Short line) counts i (to_z w64 c.loop-i.sum-bits) _ _ few c.loop-i-test.true c.loop-i.invariant
    (to_z-of_z w64 c.short_step-sum.result f ∙ c.short_step-sum.ensures ∙ ap (λ e. int_wrap w64 (to_z w64 c.loop-i.sum-bits +ℤ e *ℤ pos (get_or counts i 0))) (sym (entry_is Short line i few)))

pub returns : goal.returns
returns c =
    let f : FitsSigned w64 (to_z w64 c.loop-i.sum-bits) = search rules in
    wrap_end w64 (entries Short c.args.line.now) c.args.counts.now c.loop-i.i (to_z w64 c.loop-i.sum-bits) _ c.loop-i-test.false f c.loop-i.invariant
    ∙ ap (λ s. int_wrap w64 (s +ℤ weighed (entries Short c.args.line.now) c.args.counts.now)) (to_z-of_z w64 c.args.start c.ranges.start)
