use Rattle.std.proofs.Common.{◌+◌, ◌*◌, arith, ap}
use Rattle.mpc_condense.specs.Condensed.{terminal_row}
use Rattle.mpc_condense.specs.Causes.{row_count}
use Rattle.mpc_condense.proofs.RowLemmas.{end_step, end_fits_step, rows_fit_to, terminal_place}
use Rattle.mpc_condense.proofs.WidePlaces.{wide_row_place}
use Rattle.mpc_condense.proofs.limits.write_end.Goals as goal

pub loop-place-preserved : goal.loop-place-preserved
loop-place-preserved c =
    let plant = c.args.plant.now in
    let e = ap (λ m. plant.horizon * m + c.loop-place.place) c.len.ensures in
    record {
      done = end_step plant c.loop-place.limits.g c.loop-place.limits.w c.write_row.new.limits.g c.write_row.new.limits.w c.loop-place.place (plant.horizon * c.len.result + c.loop-place.place) c.at.result.now e c.at.ensures c.loop-place.invariant.done c.in-Ok.ensures.ok;
      fits = end_fits_step plant c.loop-place.place c.at.result.now c.at.ensures c.in-Ok.ensures.wide c.loop-place.invariant.fits;
    }

pub returns-in_default-clause-cause : goal.returns-in_default-clause-cause
returns-in_default-clause-cause c =
    let plant = c.args.plant.now in
    let e = ap (λ m. plant.horizon * m + c.loop-place.place) c.len.ensures in
    wide_row_place plant (plant.horizon * c.len.result + c.loop-place.place) (terminal_row plant c.loop-place.place) plant.horizon c.at.result.now e (terminal_place plant c.loop-place.place c.at.result.now c.at.ensures) c.requires.states c.requires.costs c.loop-place.invariant.fits c.in_default.ensures.wide

pub returns-clause-fits : goal.returns-clause-fits
returns-clause-fits c =
    let plant = c.args.plant.now in
    rows_fit_to plant (terminal_row plant c.loop-place.place) (row_count plant) (omega arith) c.loop-place.invariant.fits
