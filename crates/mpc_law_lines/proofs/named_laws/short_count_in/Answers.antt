use Rattle.std.proofs.Common.{arith, sym, ◌∙◌}
use Rattle.mpc_law_lines.proofs.named_laws.short_count_in.Goals as goal

pub returns-in_default : goal.returns-in_default
returns-in_default c = λ count is.
    let same = c.one_number.ensures.count c.args.name.now count c.in-Small.count (omega (arith, is.allowed)) (omega (arith, c.in-Small.ensures.number.1)) (sym is.spelled ∙ c.in-Small.ensures.count) in
    omega (arith, same, is.allowed, c.if-count-lt-SHORT.false)
