use Rattle.std.proofs.Common.{rules, ◌+ℤ◌, ◌*ℤ◌, FitsSigned, ◌∙◌, ap}
use Rattle.std.specs.Int.{int_wrap, w128}
use Rattle.mpc_block.proofs.WrapLemmas.{wide_wrapped}
use Rattle.mpc_block.proofs.lines.wide_step.Goals as goal

pub returns : goal.returns
returns c =
    let f : FitsSigned w128 c.from.result = search rules in
    wide_wrapped c.args.sum c.args.entry c.from.result c.ranges.sum c.ranges.entry f ∙ ap (λ t. int_wrap w128 (c.args.sum +ℤ c.args.entry *ℤ t)) c.from.ensures
