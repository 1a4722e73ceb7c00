use Rattle.std.proofs.Common.{◌+◌, ◌*◌, arith, ap}
use Rattle.mpc_condense.specs.Condensed.{stage_row}
use Rattle.mpc_condense.proofs.RowLemmas.{stage_step, stage_fits_step, rows_fit_to, stage_end, stage_place}
use Rattle.mpc_condense.proofs.WidePlaces.{wide_row_place}
use Rattle.mpc_condense.proofs.limits.write_stage.Goals as goal

pub loop-place-preserved : goal.loop-place-preserved
loop-place-preserved c =
    let plant = c.args.plant.now in
    let e = ap (λ m. c.args.step * m + c.loop-place.place) c.len-count.ensures in
    record {
      done = stage_step plant c.loop-place.limits.g c.loop-place.limits.w c.write_row.new.limits.g c.write_row.new.limits.w c.args.step c.loop-place.place (c.args.step * c.len-count.result + c.loop-place.place) c.at.result.now e c.requires.step c.at.ensures c.loop-place.invariant.done c.in-Ok.ensures.ok;
      fits = stage_fits_step plant c.args.step c.loop-place.place c.at.result.now c.requires.step c.at.ensures c.in-Ok.ensures.wide c.loop-place.invariant.fits;
    }

pub returns-in_default-clause-cause : goal.returns-in_default-clause-cause
returns-in_default-clause-cause c =
    let plant = c.args.plant.now in
    let e = ap (λ m. c.args.step * m + c.loop-place.place) c.len-count.ensures in
    wide_row_place plant (c.args.step * c.len-count.result + c.loop-place.place) (stage_row plant c.args.step c.loop-place.place) c.args.step c.at.result.now e (stage_place plant c.args.step c.loop-place.place c.at.result.now c.requires.step c.at.ensures) c.requires.states c.requires.costs c.loop-place.invariant.fits c.in_default.ensures.wide

pub returns-clause-fits : goal.returns-clause-fits
returns-clause-fits c =
    let plant = c.args.plant.now in
    rows_fit_to plant (stage_row plant c.args.step c.loop-place.place) (stage_row plant (c.args.step + 1) 0) (stage_end plant c.args.step c.loop-place.place (omega arith)) c.loop-place.invariant.fits
