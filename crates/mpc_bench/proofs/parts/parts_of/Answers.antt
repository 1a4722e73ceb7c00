use Rattle.std.proofs.Common.{◌∙◌, ap, unsigned_abs}
use Rattle.mpc_bench.proofs.Halves.{read_fitting, halves_back}
use Rattle.mpc_bench.proofs.parts.parts_of.Goals as goal

pub returns-clause-value : goal.returns-clause-value
returns-clause-value c = halves_back c.args.fraction.now _ _ _
    (read_fitting c.num-2.result c.num-2.type_inv ∙ c.num-2.ensures.value)
    (c.unsigned_abs-size.ensures.value ∙ ap unsigned_abs (read_fitting c.num.result c.num.type_inv ∙ c.num.ensures.value))
    (c.unsigned_abs-den.ensures.value ∙ ap unsigned_abs (read_fitting c.den.result c.den.type_inv ∙ c.den.ensures.value))
