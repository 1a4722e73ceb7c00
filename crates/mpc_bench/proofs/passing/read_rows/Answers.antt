use Rattle.std.proofs.Common.{◌∙◌, ◌<◌, length, arith}
use Rattle.mpc_bench.proofs.Passed.{rows_more, more_readable}
use Rattle.mpc_bench.proofs.passing.read_rows.Goals as goal

pub loop-place-preserved : goal.loop-place-preserved
loop-place-preserved c =
    let within : c.loop-place.place < length c.args.sides.now = omega arith in
    record {
      width = c.in_ok-push.ensures.width ∙ c.loop-place.invariant.width;
      readable = more_readable c.args.width c.args.coefficients.now c.args.sides.now c.requires.shape c.loop-place.place within c.in_ok-row.ensures.readable c.loop-place.invariant.readable;
      rows = rows_more c.args.width c.args.coefficients.now c.args.sides.now c.loop-place.place c.in_ok-row.row c.in_ok-row.ensures.value
          c.loop-place.system.rows c.push.new.self.rows c.loop-place.invariant.rows c.in_ok-push.ensures.ok;
    }
