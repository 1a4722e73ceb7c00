use Rattle.std.proofs.Common.{◌∙◌}
use Rattle.mpc_space.proofs.Words.{read_back}
use Rattle.mpc_systems.proofs.Wholes.{made_is, made_always}
use Rattle.mpc_systems.proofs.numbers.whole.Goals as goal

pub unreachable-requires : goal.unreachable-requires
unreachable-requires c = made_always c.args.number _ (read_back c.args.number c.requires) c.requires c.new.result c.new.ensures.zero c.new.ensures.wide c.in-Err.field-0 c.in-Err.is

pub returns : goal.returns
returns c = c.in-Ok.ensures.value ∙ made_is c.args.number _ (read_back c.args.number c.requires) c.requires
