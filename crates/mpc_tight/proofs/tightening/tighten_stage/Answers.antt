use Rattle.std.proofs.Common.{◌+◌, ◌*◌, arith, ap, subst, refl, ◌∙◌}
use Rattle.mpc_condense.specs.Condensed.{stage_row}
use Rattle.mpc_exact.specs.Rational.{◌-ℚ◌}
use Rattle.mpc_linear.specs.Entries.{with_entry}
use Rattle.mpc_tight.specs.Tightening.{tightening, RowFits, RowsFit}
use Rattle.mpc_tight.specs.Tightened.{RowsTightened}
use Rattle.mpc_tight.proofs.RowPlaces.{row_within}
use Rattle.mpc_tight.proofs.TightenedRows.{stage_place, tightened_more, fit_more, wide_row}
use Rattle.mpc_tight.proofs.ProgramShapes.{stage_end}
use Rattle.mpc_tight.proofs.tightening.tighten_stage.Goals as goal

pub loop-place-preserved : goal.loop-place-preserved
loop-place-preserved c =
    let plant = c.args.plant.now in
    let r = c.loop-place.place in
    let k = c.args.step in
    let i = stage_row plant k r in
    let is = stage_place plant k r c.at.result.now c.requires.step c.at.ensures in
    let at = ap (λ m. k * m + r) c.len-count.ensures in
    let within = row_within plant i k c.at.result.now is in
    let written = c.set.ensures ∙ ap (with_entry c.loop-place.sides (k * c.len-count.result + r) 0) (c.in-Ok.ensures.value ∙ ap (λ x. x -ℚ tightening plant c.args.noise.now c.at.result.now.x k) c.get-side.ensures) in
    record {
      done = tightened_more plant c.args.noise.now c.args.old.now i k c.at.result.now is c.loop-place.sides c.set.new.self (k * c.len-count.result + r) (stage_row plant k (r + 1)) at (omega arith)
          (omega (arith, within, c.requires.shape.rows_are)) (omega (arith, c.requires.shape.columns_are)) written c.loop-place.invariant.done;
      fits = fit_more plant c.args.noise.now c.args.old.now i k c.at.result.now is (k * c.len-count.result + r) (stage_row plant k (r + 1)) at (omega arith) (subst (λ x. RowFits plant c.args.noise.now x c.at.result.now.x k) c.get-side.ensures c.in-Ok.ensures.wide) c.loop-place.invariant.fits;
    }

pub returns-in-Err-TooWide-clause-cause : goal.returns-in-Err-TooWide-clause-cause
returns-in-Err-TooWide-clause-cause c =
    let plant = c.args.plant.now in
    let r = c.loop-place.place in
    let k = c.args.step in
    let i = stage_row plant k r in
    let is = stage_place plant k r c.at.result.now c.requires.step c.at.ensures in
    let at = ap (λ m. k * m + r) c.len-count.ensures in
    wide_row plant c.args.noise.now c.args.old.now i k c.at.result.now is (k * c.len-count.result + r) (k * c.len-count.result + r + 1) at refl c.loop-place.invariant.fits (subst (λ x. ¬ RowFits plant c.args.noise.now x c.at.result.now.x k) c.get-side.ensures (rw c.in-Err-TooWide.field-0-is at c.in-Err-TooWide.ensures.wide))

pub returns-clause-done : goal.returns-clause-done
returns-clause-done c =
    subst (RowsTightened c.args.plant.now c.args.noise.now c.args.old.now c.loop-place.sides) (stage_end c.args.plant.now c.args.step c.loop-place.place (omega arith)) c.loop-place.invariant.done

pub returns-clause-fits : goal.returns-clause-fits
returns-clause-fits c =
    subst (RowsFit c.args.plant.now c.args.noise.now c.args.old.now) (stage_end c.args.plant.now c.args.step c.loop-place.place (omega arith)) c.loop-place.invariant.fits
