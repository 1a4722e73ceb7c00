use Rattle.mpc_grammar.specs.TreeGrammar.{IsCertLine}
use Rattle.mpc_grammar.specs.Outcomes.{line_stated}
use Rattle.mpc_law_lines.proofs.tree_lines.read_cert.Goals as goal

pub returns : goal.returns
returns c = line_stated (IsCertLine c.args.rows) c.cert_in.result c.stated.result c.number-number.result c.in_ok-line.ensures.taken c.number-number.ensures c.cert_in.ensures c.stated.ensures
