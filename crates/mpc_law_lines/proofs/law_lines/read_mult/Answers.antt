use Rattle.std.proofs.Common.{◌+◌, codes}
use Rattle.mpc_grammar.specs.PlantGrammar.{AreNumbers}
use Rattle.mpc_grammar.specs.Outcomes.{line_stated}
use Rattle.mpc_law_lines.proofs.law_lines.read_mult.Goals as goal

pub returns : goal.returns
returns c = line_stated (AreNumbers (codes "mult") (c.args.plant.now.n + 1)) c.form_in.result c.stated.result c.number-number.result c.in_ok-text.ensures.taken c.number-number.ensures c.form_in.ensures c.stated.ensures
