use Rattle.mpc_grammar.specs.LawGrammar.{IsLawLine}
use Rattle.mpc_grammar.specs.Outcomes.{line_stated}
use Rattle.mpc_law_lines.proofs.law_lines.read_set.Goals as goal

pub returns : goal.returns
returns c = line_stated (IsLawLine c.args.plant.now) c.set_in.result c.stated.result c.number-number.result c.in_ok-text.ensures.taken c.number-number.ensures c.set_in.ensures c.stated.ensures
