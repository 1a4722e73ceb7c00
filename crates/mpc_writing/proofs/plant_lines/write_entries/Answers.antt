use Rattle.std.proofs.Common.{◌<◌, [], length, arith, map}
use Rattle.mpc_grammar.specs.PlantGrammar.{AllFit}
use Rattle.mpc_writing.proofs.GrownTexts.{entries_next, all_next}
use Rattle.mpc_writing.proofs.KeptTexts.{kept_then}
use Rattle.std.specs.List.{flat_map}
use Rattle.mpc_frac.specs.Text.{text_of as fraction_text}
use Rattle.mpc_words.specs.Words.{behind_blanks}
use Rattle.mpc_writing.proofs.WholeTexts.{whole_text, whole_list}
use Rattle.mpc_writing.proofs.plant_lines.write_entries.Goals as goal

pub loop-i-preserved : goal.loop-i-preserved
loop-i-preserved c =
    let rows = c.args.matrix.now.rows in
    let inside : c.loop-i.i < length rows = omega (arith, c.rows-i-end.ensures.value) in
    record {
      text = entries_next rows c.loop-i.i c.row.result.now [] c.args.out.now.items c.loop-i.out.items c.write_fractions.new.out.items inside c.row.ensures c.loop-i.invariant.text c.in_ok-write_fractions.ensures.text;
      fits = all_next AllFit rows c.loop-i.i c.row.result.now [] inside c.row.ensures c.loop-i.invariant.fits c.in_ok-write_fractions.ensures.fits;
      kept = kept_then _ _ _ c.loop-i.invariant.kept c.write_fractions.ensures.kept;
    }

pub returns-in_err-write_fractions-clause-kept : goal.returns-in_err-write_fractions-clause-kept
returns-in_err-write_fractions-clause-kept c = kept_then _ _ _ c.loop-i.invariant.kept c.write_fractions.ensures.kept

pub returns-clause-text : goal.returns-clause-text
returns-clause-text c = whole_text (λ rows. behind_blanks (map fraction_text (flat_map (λ row. row) rows))) c.args.matrix.now.rows c.loop-i.i c.args.out.now.items c.loop-i.out.items (omega (arith, c.rows-i-end.ensures.value, c.loop-i-test.false)) c.loop-i.invariant.text

pub returns-clause-fits : goal.returns-clause-fits
returns-clause-fits c = whole_list AllFit c.args.matrix.now.rows c.loop-i.i (omega (arith, c.rows-i-end.ensures.value, c.loop-i-test.false)) c.loop-i.invariant.fits
