use Rattle.std.proofs.Common.{◌∷◌}
use Rattle.mpc_frac.specs.Text.{text_of as fraction_text}
use Rattle.mpc_frac.specs.Fits.{FitsFrac}
use Rattle.mpc_writing.proofs.GrownTexts.{mapped_next, all_next}
use Rattle.mpc_writing.proofs.KeptTexts.{kept_then}
use Rattle.mpc_writing.proofs.words.write_fractions.Goals as goal

pub loop-fraction-preserved : goal.loop-fraction-preserved
loop-fraction-preserved c =
    let xs = c.args.fractions.now in
    let x = c.fraction-item.result in
    record {
      text = mapped_next (λ word. 32 ∷ word) fraction_text xs c.loop-fraction.fraction-index x x c.args.out.now.items c.loop-fraction.out.items c.write_fraction.new.out.items c.loop-fraction-test.true c.fraction-item.is c.loop-fraction.invariant.text c.in_ok-write_fraction.ensures.text;
      fits = all_next FitsFrac xs c.loop-fraction.fraction-index x x c.loop-fraction-test.true c.fraction-item.is c.loop-fraction.invariant.fits c.write_fraction.ensures.fits;
      kept = kept_then _ _ _ c.loop-fraction.invariant.kept c.write_fraction.ensures.kept;
    }

pub returns-in_err-write_fraction-clause-kept : goal.returns-in_err-write_fraction-clause-kept
returns-in_err-write_fraction-clause-kept c = kept_then _ _ _ c.loop-fraction.invariant.kept c.write_fraction.ensures.kept
