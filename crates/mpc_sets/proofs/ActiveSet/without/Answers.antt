use Rattle.std.proofs.Common.{◌∙◌, ap}
use Rattle.mpc_sets.specs.RowSet.{without_row}
use Rattle.mpc_sets.proofs.Masks.{members_of-is_set, IsMask-cleared, members_of-cleared}
use Rattle.mpc_sets.proofs.ActiveSet.without.Goals as goal

pub invariant_of-result : goal.invariant_of-result
invariant_of-result c = IsMask-cleared c.self.inside.mask c.args.row c.self.invariant c.requires.from_one c.requires.to_last

pub returns-clause-value : goal.returns-clause-value
returns-clause-value c = members_of-cleared c.self.inside.mask c.args.row c.self.invariant c.requires.from_one c.requires.to_last ∙ ap (without_row c.args.row) c.self.view_is

pub returns-clause-is_set : goal.returns-clause-is_set
returns-clause-is_set c = members_of-is_set _ (IsMask-cleared c.self.inside.mask c.args.row c.self.invariant c.requires.from_one c.requires.to_last)
