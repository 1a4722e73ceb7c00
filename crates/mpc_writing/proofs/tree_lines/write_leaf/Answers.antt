use Rattle.mpc_grammar.specs.Lines.{cert_line}
use Rattle.mpc_writing.specs.Writing.{ended}
use Rattle.mpc_writing.proofs.GrownTexts.{pieces_at, all_at}
use Rattle.mpc_grammar.specs.WrittenFits.{CertFits}
use Rattle.mpc_writing.proofs.KeptTexts.{kept_then}
use Rattle.std.proofs.Common.{arith}
use Rattle.mpc_writing.proofs.WholeTexts.{whole_list}
use Rattle.mpc_writing.proofs.tree_lines.write_leaf.Goals as goal

pub loop-i-preserved : goal.loop-i-preserved
loop-i-preserved c = record {
  text = pieces_at (λ cert. ended (cert_line cert)) c.args.certs.now c.loop-i.i c.at.result.now c.write_count_line.new.out.items c.loop-i.out.items c.write_cert.new.out.items c.at.ensures c.loop-i.invariant.text c.in_ok-write_cert.ensures.text;
  fits = all_at CertFits c.args.certs.now c.loop-i.i c.at.result.now c.at.ensures c.loop-i.invariant.fits c.in_ok-write_cert.ensures.fits;
  kept = kept_then _ _ _ c.loop-i.invariant.kept c.write_cert.ensures.kept;
}

pub returns-in_err-write_cert-clause-kept : goal.returns-in_err-write_cert-clause-kept
returns-in_err-write_cert-clause-kept c = kept_then _ _ _ c.loop-i.invariant.kept c.write_cert.ensures.kept

pub returns-clause-fits : goal.returns-clause-fits
returns-clause-fits c = whole_list CertFits c.args.certs.now c.loop-i.i (omega (arith, c.len-i-end.ensures, c.loop-i-test.false)) c.loop-i.invariant.fits
