use Rattle.mpc_grammar.specs.Lines.{row_line}
use Rattle.mpc_writing.specs.Writing.{ended}
use Rattle.mpc_grammar.specs.WrittenFits.{RowFits}
use Rattle.mpc_writing.proofs.GrownTexts.{mapped_at, all_at}
use Rattle.mpc_writing.proofs.KeptTexts.{kept_then}
use Rattle.std.proofs.Common.{codes, arith}
use Rattle.mpc_writing.proofs.WholeTexts.{whole_list}
use Rattle.mpc_writing.proofs.plant_lines.write_rows.Goals as goal

pub loop-i-preserved : goal.loop-i-preserved
loop-i-preserved c =
    record {
      text = mapped_at ended (row_line (codes "row")) c.args.rows.now c.loop-i.i c.at.result.now c.write_count_line.new.out.items c.loop-i.out.items c.write_row.new.out.items c.at.ensures c.loop-i.invariant.text c.in_ok-write_row.ensures.text;
      fits = all_at RowFits c.args.rows.now c.loop-i.i c.at.result.now c.at.ensures c.loop-i.invariant.fits c.in_ok-write_row.ensures.fits;
      kept = kept_then _ _ _ c.loop-i.invariant.kept c.write_row.ensures.kept;
    }

pub returns-in_err-write_row-clause-kept : goal.returns-in_err-write_row-clause-kept
returns-in_err-write_row-clause-kept c = kept_then _ _ _ c.loop-i.invariant.kept c.write_row.ensures.kept

pub returns-clause-fits : goal.returns-clause-fits
returns-clause-fits c = whole_list RowFits c.args.rows.now c.loop-i.i (omega (arith, c.len-i-end.ensures, c.loop-i-test.false)) c.loop-i.invariant.fits
