use Rattle.std.proofs.Common.{◌≡◌, ◌+◌, ◌*◌, arith, ap, subst, refl, ◌∙◌}
use Rattle.mpc_condense.specs.Condensed.{terminal_row}
use Rattle.mpc_condense.specs.Causes.{row_count}
use Rattle.mpc_exact.specs.Rational.{◌-ℚ◌}
use Rattle.mpc_linear.specs.Entries.{with_entry}
use Rattle.mpc_tight.specs.Tightening.{tightening, RowFits, RowsFit}
use Rattle.mpc_tight.specs.Tightened.{RowsTightened}
use Rattle.mpc_tight.proofs.RowPlaces.{row_within}
use Rattle.mpc_tight.proofs.TightenedRows.{terminal_place, tightened_more, fit_more, wide_row}
use Rattle.mpc_tight.proofs.tightening.tighten_end.Goals as goal

pub loop-place-preserved : goal.loop-place-preserved
loop-place-preserved c =
    let plant = c.args.plant.now in
    let r = c.loop-place.place in
    let i = terminal_row plant r in
    let is = terminal_place plant r c.at.result.now c.at.ensures in
    let at = ap (λ m. plant.horizon * m + r) c.len.ensures in
    let within = row_within plant i plant.horizon c.at.result.now is in
    let written = c.set.ensures ∙ ap (with_entry c.loop-place.sides (plant.horizon * c.len.result + r) 0) (c.in-Ok.ensures.value ∙ ap (λ x. x -ℚ tightening plant c.args.noise.now c.at.result.now.x plant.horizon) c.get-side.ensures) in
    record {
      done = tightened_more plant c.args.noise.now c.args.old.now i plant.horizon c.at.result.now is c.loop-place.sides c.set.new.self (plant.horizon * c.len.result + r) (terminal_row plant (r + 1)) at (omega arith)
          (omega (arith, within, c.requires.shape.rows_are)) (omega (arith, c.requires.shape.columns_are)) written c.loop-place.invariant.done;
      fits = fit_more plant c.args.noise.now c.args.old.now i plant.horizon c.at.result.now is (plant.horizon * c.len.result + r) (terminal_row plant (r + 1)) at (omega arith) (subst (λ x. RowFits plant c.args.noise.now x c.at.result.now.x plant.horizon) c.get-side.ensures c.in-Ok.ensures.wide) c.loop-place.invariant.fits;
    }

pub returns-in-Err-TooWide-clause-cause : goal.returns-in-Err-TooWide-clause-cause
returns-in-Err-TooWide-clause-cause c =
    let plant = c.args.plant.now in
    let r = c.loop-place.place in
    let i = terminal_row plant r in
    let is = terminal_place plant r c.at.result.now c.at.ensures in
    let at = ap (λ m. plant.horizon * m + r) c.len.ensures in
    wide_row plant c.args.noise.now c.args.old.now i plant.horizon c.at.result.now is (plant.horizon * c.len.result + r) (plant.horizon * c.len.result + r + 1) at refl c.loop-place.invariant.fits (subst (λ x. ¬ RowFits plant c.args.noise.now x c.at.result.now.x plant.horizon) c.get-side.ensures (rw c.in-Err-TooWide.field-0-is at c.in-Err-TooWide.ensures.wide))

pub returns-clause-done : goal.returns-clause-done
returns-clause-done c =
    let e : terminal_row c.args.plant.now c.loop-place.place ≡ row_count c.args.plant.now = omega arith in
    subst (RowsTightened c.args.plant.now c.args.noise.now c.args.old.now c.loop-place.sides) e c.loop-place.invariant.done

pub returns-clause-fits : goal.returns-clause-fits
returns-clause-fits c =
    let e : terminal_row c.args.plant.now c.loop-place.place ≡ row_count c.args.plant.now = omega arith in
    subst (RowsFit c.args.plant.now c.args.noise.now c.args.old.now) e c.loop-place.invariant.fits
