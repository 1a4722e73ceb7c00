use Rattle.std.proofs.Common.{◌∷◌, arith}
use Rattle.mpc_grammar.specs.Lines.{pair_words}
use Rattle.mpc_writing.proofs.GrownTexts.{spread_at, all_at}
use Rattle.mpc_grammar.specs.WrittenFits.{IsPairFit}
use Rattle.mpc_writing.proofs.KeptTexts.{kept_then}
use Rattle.std.specs.List.{flat_map}
use Rattle.mpc_words.specs.Words.{behind_blanks}
use Rattle.mpc_writing.proofs.WholeTexts.{whole_text, whole_list}
use Rattle.mpc_writing.proofs.tree_lines.write_pairs.Goals as goal

pub loop-i-preserved : goal.loop-i-preserved
loop-i-preserved c = record {
  text = spread_at (λ word. 32 ∷ word) pair_words c.args.cert.now c.loop-i.i c.at.result.now c.args.out.now.items c.loop-i.out.items c.write_pair.new.out.items c.at.ensures c.loop-i.invariant.text c.in_ok-write_pair.ensures.text;
  fits = all_at IsPairFit c.args.cert.now c.loop-i.i c.at.result.now c.at.ensures c.loop-i.invariant.fits c.in_ok-write_pair.ensures.fits;
  kept = kept_then _ _ _ c.loop-i.invariant.kept c.write_pair.ensures.kept;
}

pub returns-in_err-write_pair-clause-kept : goal.returns-in_err-write_pair-clause-kept
returns-in_err-write_pair-clause-kept c = kept_then _ _ _ c.loop-i.invariant.kept c.write_pair.ensures.kept

pub returns-clause-text : goal.returns-clause-text
returns-clause-text c = whole_text (λ pairs. behind_blanks (flat_map pair_words pairs)) c.args.cert.now c.loop-i.i c.args.out.now.items c.loop-i.out.items (omega (arith, c.len-i-end.ensures, c.loop-i-test.false)) c.loop-i.invariant.text

pub returns-clause-fits : goal.returns-clause-fits
returns-clause-fits c = whole_list IsPairFit c.args.cert.now c.loop-i.i (omega (arith, c.len-i-end.ensures, c.loop-i-test.false)) c.loop-i.invariant.fits
