use Rattle.std.proofs.Common.{rules, FitsSigned}
use Rattle.std.specs.Int.{w64, w128}
use Rattle.mpc_block.proofs.WrapLemmas.{short_holds, wide_holds}
use Rattle.mpc_block.proofs.lines.holds.Goals as goal

pub returns-in-Short : goal.returns-in-Short
returns-in-Short c =
    let f : FitsSigned w64 c.short_sum.result = search rules in
    let g : FitsSigned w64 c.cast_signed.result = search rules in
    short_holds c.args.width c.args.line.now c.args.counts.now c.short_sum.result c.cast_signed.result c.in-Short.is f g c.short_sum.ensures c.cast_signed.ensures

pub returns-in-Wide : goal.returns-in-Wide
returns-in-Wide c =
    let f : FitsSigned w128 c.wide_sum.result = search rules in
    let g : FitsSigned w128 c.number.result = search rules in
    wide_holds c.args.width c.args.line.now c.args.counts.now c.wide_sum.result c.number.result c.in-Wide.is f g c.wide_sum.ensures c.number.ensures
