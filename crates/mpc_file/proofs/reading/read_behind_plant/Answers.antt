use Rattle.std.proofs.Common.{sym, subst}
use Rattle.mpc_file.specs.Unsealed.{unsealed}
use Rattle.mpc_grammar.specs.FileGrammar.{behind_plant}
use Rattle.mpc_file.proofs.WholeReading.{passed_on}
use Rattle.mpc_file.proofs.reading.read_behind_plant.Goals as goal

pub returns-in_err-laws : goal.returns-in_err-laws
returns-in_err-laws c =
    passed_on (unsealed c.args.plant (behind_plant c.args.version c.args.plant)) (behind_plant c.args.version c.args.plant) c.args.lines.now c.read_parts.new.lines c.args.lines.now c.read_parts.new.lines c.from_residual.result c.in_err-laws.field-0.0 (λ kind number fails. fails) c.in_err-laws.ensures c.from_residual.ensures.1

pub returns : goal.returns
returns c = subst (λ whole. (behind_plant c.args.version c.args.plant).Reads c.args.lines.now whole c.read_parts.new.lines) (sym c.in_ok-controller.ensures) c.in_ok-laws.ensures.0
