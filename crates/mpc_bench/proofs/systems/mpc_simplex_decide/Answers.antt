use Rattle.std.proofs.Common.{◌≡◌, ◌∙◌, sym, length, arith}
use Rattle.mpc_bench.proofs.Passed.{refuted_long}
use Rattle.mpc_bench.proofs.systems.mpc_simplex_decide.Goals as goal

pub put_multipliers-requires : goal.put_multipliers-requires
put_multipliers-requires c =
    let k : length c.args.multipliers.now ≡ length c.args.sides.now = let h = c.if-multipliers-sides.false in omega arith in
    refuted_long c.args.width c.args.coefficients.now c.args.sides.now c.in-Ok.system c.in-Ok-Refuted.field-0 c.in-Ok-Refuted.found
    c.in-Ok.ensures.value c.in-Ok-Refuted.field-0-is c.in-Ok-Refuted.ensures.end ∙ sym k
