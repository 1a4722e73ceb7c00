use Rattle.std.proofs.Common.{List, codes}
use Rattle.mpc_exact.specs.Rational.{ℚ}
use Rattle.mpc_grammar.specs.Spelling.{AreFractions}
use Rattle.mpc_grammar.specs.Outcomes.{at_some}
use Rattle.mpc_law_lines.proofs.CertReading.{no_fractions, cert_found}
use Rattle.mpc_law_lines.proofs.tree_lines.cert_in.Goals as goal

pub returns-in-Some : goal.returns-in-Some
returns-in-Some c =
    cert_found c.one_fractions.ensures c.args.rows c.ranges.rows.fits c.args.text.now c.in-Some.parts c.as_slice.result.now c.as_slice.ensures
    (at_some ((xs : List ℚ) → ¬ AreFractions (codes "cert") c.args.text.now xs) (λ xs. AreFractions (codes "cert") c.args.text.now xs) c.in_ok-parts.field-0 c.in-Some.parts c.in-Some.is c.in_ok-parts.ensures)
    c.cert_of.result c.cert_of.ensures.is_cert c.cert_of.ensures.parts

pub returns-in-None : goal.returns-in-None
returns-in-None c =
    no_fractions c.args.rows c.ranges.rows.fits c.args.text.now (rw c.in-None.is at c.in_ok-parts.ensures)
