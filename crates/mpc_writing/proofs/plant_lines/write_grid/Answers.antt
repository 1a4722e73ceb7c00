use Rattle.mpc_grammar.specs.Lines.{grid_line}
use Rattle.mpc_writing.specs.Writing.{ended, text_of_lines}
use Rattle.mpc_grammar.specs.WrittenFits.{AxisFits}
use Rattle.mpc_writing.proofs.GrownTexts.{mapped_at, all_at}
use Rattle.mpc_writing.proofs.KeptTexts.{kept_then}
use Rattle.std.proofs.Common.{map, arith}
use Rattle.mpc_writing.proofs.WholeTexts.{whole_text, whole_list}
use Rattle.mpc_writing.proofs.plant_lines.write_grid.Goals as goal

pub loop-i-preserved : goal.loop-i-preserved
loop-i-preserved c =
    record {
      text = mapped_at ended grid_line c.args.grid.now c.loop-i.i c.at.result.now c.args.out.now.items c.loop-i.out.items c.write_coordinate.new.out.items c.at.ensures c.loop-i.invariant.text c.in_ok-write_coordinate.ensures.text;
      fits = all_at AxisFits c.args.grid.now c.loop-i.i c.at.result.now c.at.ensures c.loop-i.invariant.fits c.in_ok-write_coordinate.ensures.fits;
      kept = kept_then _ _ _ c.loop-i.invariant.kept c.write_coordinate.ensures.kept;
    }

pub returns-in_err-write_coordinate-clause-kept : goal.returns-in_err-write_coordinate-clause-kept
returns-in_err-write_coordinate-clause-kept c = kept_then _ _ _ c.loop-i.invariant.kept c.write_coordinate.ensures.kept

pub returns-clause-text : goal.returns-clause-text
returns-clause-text c = whole_text (λ axes. text_of_lines (map grid_line axes)) c.args.grid.now c.loop-i.i c.args.out.now.items c.loop-i.out.items (omega (arith, c.len-i-end.ensures, c.loop-i-test.false)) c.loop-i.invariant.text

pub returns-clause-fits : goal.returns-clause-fits
returns-clause-fits c = whole_list AxisFits c.args.grid.now c.loop-i.i (omega (arith, c.len-i-end.ensures, c.loop-i-test.false)) c.loop-i.invariant.fits
